-- The lines of a drill.
use Rattle.std.specs.Prelude.{ℕ, List, ◌++◌, codes}
use Rattle.std.specs.Fmt.{decimal}
use Rattle.conformance.specs.Drill.{commit_count}
use Rattle.conformance.specs.Events.{sync_points}
use Rattle.table_history.specs.Row.{Row}
use Rattle.table_history.specs.Words.{kind_word}
use Rattle.table_history.specs.declared.kind.Kind.{Kind}
use Rattle.table_lines.specs.TableLines.{totals}

-- the source's, with how often the targets are synced
abbrev pub counted_line : ℕ → ℕ → List Row → List ℕ
counted_line number syncs rows = codes "drill " ++ (decimal number ++ (codes ": commits " ++ (decimal commit_count ++ (totals rows ++ (codes ", syncs " ++ (decimal syncs ++ codes "\n"))))))

abbrev pub source_line : ℕ → List Row → List ℕ
source_line number rows = counted_line number (sync_points number commit_count) rows

abbrev pub target_line : Kind → ℕ → List Row → List ℕ
target_line target commits rows = kind_word target ++ (codes ": commits " ++ (decimal commits ++ (totals rows ++ codes "\n")))
