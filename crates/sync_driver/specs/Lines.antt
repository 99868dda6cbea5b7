-- The lines that commands print.
use Rattle.std.specs.Prelude.{ℕ, Bool, ◌==◌, length, map, List, [], ◌++◌, codes, Option, Some, None, if◌then◌else◌}
use Rattle.std.specs.Fmt.{decimal}
use Rattle.std.specs.List.{concat}
use Rattle.delta_compact.specs.declared.compacting.Compacted.{Compacted}
use Rattle.table_history.specs.declared.kind.Kind.{Kind}
use Rattle.table_history.specs.Words.{kind_word, feature_word, limit_word}
use Rattle.table_lines.specs.Lines.{line}
use Rattle.target_sync.specs.declared.apply.Report.{Report}
use Rattle.sync_driver.specs.declared.checking.Same.{Same}
use Rattle.target_sync.specs.declared.status.Side.{Side}
use Rattle.target_sync.specs.declared.status.Side.TheVariants.{Source, Target}
use Rattle.target_sync.specs.declared.status.Status.{Status}
use Rattle.target_sync.specs.declared.status.Status.TheVariants.{Done, Memory, Usage, Absent, Malformed, Unsupported, Limit, Foreign, Contested, StoreFault, SinkFault, Behind, Differs, Stale}

abbrev pub side_word : Side → List ℕ
side_word Source = codes "source"
side_word (Target kind) = kind_word kind

abbrev pub position_word : Option (List ℕ) → List ℕ
position_word None = codes "none"
position_word (Some at) = at

-- what a path adds to its line, where there is one
abbrev pub path_part : List ℕ → List ℕ
path_part path = if length path == 0 then [] else codes " " ++ path

-- the line of a command that ends so, where it isn't done; want of memory and a fault of the output have none
abbrev pub refusal_line : Status → List ℕ
refusal_line Done = []
refusal_line Memory = []
refusal_line Usage = line (codes "status 2: Usage")
refusal_line Absent = line (codes "source: status 3: Absent")
refusal_line (Malformed path) = line (codes "source: status 4: Malformed " ++ path)
refusal_line (Unsupported side feature path) = line (side_word side ++ (codes ": status 5: Unsupported " ++ (feature_word feature ++ path_part path)))
refusal_line (Limit side which number) = line (side_word side ++ (codes ": status 6: Limit " ++ (limit_word which ++ (codes " " ++ decimal number))))
refusal_line (Foreign target path) = line (kind_word target ++ (codes ": status 7: Foreign " ++ path))
refusal_line (Contested target) = line (kind_word target ++ codes ": status 8: Contested")
refusal_line StoreFault = line (codes "status 9: StoreFault")
refusal_line SinkFault = []
refusal_line (Behind target at head) = line (kind_word target ++ (codes ": status 11: Behind " ++ (position_word at ++ (codes " of " ++ head))))
refusal_line (Differs target path) = line (kind_word target ++ (codes ": status 12: Differs " ++ path))
refusal_line (Stale path) = line (codes "delta: status 14: Stale " ++ path)

-- the line of a commit that is pending behind the source's head, where there is one
abbrev pub pending_line : Option (List ℕ) → List ℕ
pending_line None = []
pending_line (Some instant) = line (codes "source pending " ++ instant)

-- how a target was brought to the head: in one commit with the whole table, or from commit to commit
abbrev pub way_word : Bool → List ℕ
way_word full = if full then codes "full" else codes "incremental"

-- the line of a target that is done
abbrev pub report_line : Kind → Report → List ℕ
report_line target report = line (kind_word target ++ (codes ": " ++ (way_word report.full ++ (codes ", published " ++ (decimal report.published ++ (codes ", files " ++ (decimal report.files ++ (codes ", at " ++ report.at))))))))

-- the line of a target that has the source's rows
abbrev pub same_line : Kind → Same → List ℕ
same_line target same = line (kind_word target ++ (codes ": same, files " ++ (decimal same.files ++ (codes ", at " ++ same.at))))

-- the line of a leftover that is removed
abbrev pub removed_line : Kind → List ℕ → List ℕ
removed_line target path = line (kind_word target ++ (codes ": removed " ++ path))

-- the line of a target that is swept, of which so many leftovers are removed
abbrev pub swept_line : Kind → ℕ → List ℕ
swept_line target count = line (kind_word target ++ (codes ": swept " ++ decimal count))

-- a line of each leftover that is removed, in this order, and then one of their number
abbrev pub swept_lines : Kind → List (List ℕ) → List ℕ
swept_lines target paths = concat (map (λ path. removed_line target path) paths) ++ swept_line target (length paths)

-- the line of a Delta log that is compacted
abbrev pub compacted_line : Compacted → List ℕ
compacted_line compacted = line (codes "delta: compacted " ++ (decimal compacted.written ++ (codes ", kept " ++ (decimal compacted.kept ++ (codes ", files " ++ (decimal compacted.files ++ (codes ", at " ++ decimal compacted.head)))))))
