-- The instant that a commit is published as, and what is kept behind it.
use Rattle.std.specs.Prelude.{◌≡◌, ◌⊎◌, ◌↔◌, ◌≢◌, ◌<◌, ◌+◌, ℕ, ℤ, List, Contains, IfSome, None, Ok, Option, Some, length}
use Rattle.std.specs.Cmp.Lexicographic.{slice_cmp}
use Rattle.std.specs.Ordering.{nat_cmp}
use Rattle.std.specs.declared.cmp.Ordering.TheVariants.{Less}
use Rattle.serde_json.specs.Written.{compact_text}
use Rattle.lake_basics.specs.declared.limits.TheConstants.{MAX_FILE_BYTES}
use Rattle.lake_store.specs.Disk.{Files}
use Rattle.hudi_commit.specs.Names.{IsThere, completed_path, properties_path}
use Rattle.table_history.specs.Row.{Row}
use Rattle.table_history.specs.Rows.{HasDistinctPaths}
use Rattle.table_history.specs.Tables.{IsAfter, IsRowAfter}
use Rattle.table_history.specs.Words.{limit_number}
use Rattle.table_history.specs.declared.kind.Kind.TheVariants.{Hudi}
use Rattle.table_history.specs.declared.limit.LimitKind.{LimitKind}
use Rattle.table_history.specs.declared.limit.LimitKind.TheVariants.{File, Versions}
use Rattle.table_history.specs.declared.table.Commit.{Commit}
use Rattle.table_history.specs.declared.table.Table.{Table}
use Rattle.hudi_names.specs.Time.{IsPast9999, IsSomeTime}
use Rattle.hudi_instant.specs.InstantText.{IsSound, IsWritable, instant_text}
use Rattle.hudi_instant.specs.Instants.{json_instant}
use Rattle.hudi_names.specs.Next.{IsNext}
use Rattle.hudi_properties.specs.Written.{properties_text}
use Rattle.hudi_instant.specs.declared.instant.Instant.{Instant}
use Rattle.target_core.specs.Mark.{IsMarkText, mark_data}
use Rattle.target_core.specs.Views.{Origin}
use Rattle.target_core.specs.declared.target.TargetError.{TargetError}
use Rattle.target_core.specs.declared.target.TargetError.TheVariants.{Memory, StoreFault, Contested, Limit, Unsupported}
use Rattle.target_hudi.specs.Kept.{end_of}
use Rattle.target_hudi.specs.TableName.{IsNewTable, new_pairs}
use Rattle.target_hudi.specs.Writing.{IsNextInstant, IsReadBack, IsWritten, IsWrittenOver, TimelineEnd, end_behind, held_behind, mark_of, stated_behind}
use Rattle.target_hudi.specs.declared.kept.HudiKept.{HudiKept}

-- The text of the table's properties is given before its first commit, and none later.
abbrev pub AreGiven : TimelineEnd → Option (List ℕ) → Type 0
AreGiven end None = end.newest ≢ None
AreGiven end (Some bytes) = (end.newest ≡ None) × (bytes ≡ properties_text (new_pairs end.name end.partition)) × IsNewTable end.name end.partition bytes

-- This is the text of what is written for the commit at this time, where `mid` is the table behind the change. It is read as that, and `next` is what is
-- kept behind it.
pub record IsTextAt (origin : Origin) (kept : HudiKept) (commit : Commit) (time text : List ℕ) (next : HudiKept) : Type 0 where
  pub mid : Table
  pub after : IsAfter kept.table commit.change mid
  pub written : Instant
  pub over : IsWrittenOver mid.schema origin time commit written
  pub writable : IsWritable written
  pub read_back : IsReadBack mid.schema written.schema
  pub text_is : text ≡ instant_text written
  pub read : json_instant text ≡ Ok written
  pub marked : IsMarkText (compact_text (mark_data (mark_of time origin commit.position))) (mark_of time origin commit.position)
  pub rows : next.table.rows ≡ mid.rows
  pub partition : next.table.partition ≡ mid.partition
  pub schema : next.table.schema ≡ held_behind commit.change.schema mid.schema
  pub mark : next.mark ≡ Some (mark_of time origin commit.position)
  pub newest : next.newest ≡ Some time
  pub commits : next.commits ≡ kept.commits + 1

-- That text is too long for a file.
pub record IsTooLongAt (origin : Origin) (kept : HudiKept) (commit : Commit) (time : List ℕ) : Type 0 where
  pub mid : Table
  pub after : IsAfter kept.table commit.change mid
  pub written : Instant
  pub over : IsWrittenOver mid.schema origin time commit written
  pub long : MAX_FILE_BYTES < length (instant_text written)

-- The commit is published under this time with this text, which is read as what is written for it, and `next` is what is kept behind it.
pub record IsNewInstant (end : TimelineEnd) (origin : Origin) (now : ℕ) (kept : HudiKept) (commit : Commit) (time : List ℕ) (properties : Option (List ℕ)) (text : List ℕ) (next : HudiKept) : Type 0 where
  pub next_time : IsNextInstant end now time
  pub real : IsSomeTime time
  pub later : IfSome end.newest (λ last. slice_cmp nat_cmp last time ≡ Less)
  pub given : AreGiven end properties
  pub written : Instant
  pub is : IsWritten end origin time commit written
  pub sound : IsSound written
  pub read_back : IsReadBack (stated_behind end commit.change) written.schema
  pub text_is : text ≡ instant_text written
  pub read : json_instant text ≡ Ok written
  pub marked : IsMarkText (compact_text (mark_data (mark_of time origin commit.position))) (mark_of time origin commit.position)
  pub rows : (row : Row) → Contains next.table.rows row ↔ IsRowAfter kept.table.rows commit.change.removed commit.change.added row
  pub distinct : HasDistinctPaths next.table.rows
  pub end_is : end_of end.name next ≡ end_behind end time commit
  pub commits : next.commits ≡ kept.commits + 1
  pub mark : next.mark ≡ Some (mark_of time origin commit.position)

-- Another writer was first: the instant that comes next is completed, or before the first one the table has properties.
abbrev pub IsTaken : Files → TimelineEnd → ℕ → Type 0
IsTaken files end now =
    ((time : List ℕ) × IsNextInstant end now time × IsThere files (completed_path time))
    ⊎ ((end.newest ≡ None) × IsThere files properties_path)

-- A number is passed, or memory runs out. Nothing of the store is looked at.
abbrev pub IsInstantRefusal : (LimitKind → ℕ → Type 0) → TargetError → Type 0
IsInstantRefusal passes Memory = Unit {0}
IsInstantRefusal passes StoreFault = ⊥
IsInstantRefusal passes Contested = ⊥
IsInstantRefusal passes (Limit which number) = passes which number
IsInstantRefusal passes (Unsupported feature path) = ⊥

-- The time lies past the year 9999, or memory runs out.
abbrev pub IsTimeRefusal : Option (List ℕ) → ℕ → TargetError → Type 0
IsTimeRefusal newest now e = IsInstantRefusal (λ which number. (which ≡ Versions) × (number ≡ limit_number Hudi Versions) × ((ms : ℤ) → IsNext newest now ms → IsPast9999 ms)) e

-- A text is too long for a file, which says this of it, or memory runs out.
abbrev pub IsFileRefusal : Type 0 → TargetError → Type 0
IsFileRefusal large e = IsInstantRefusal (λ which number. (which ≡ File) × (number ≡ MAX_FILE_BYTES) × large) e
