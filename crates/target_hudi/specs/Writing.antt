-- The instant that is written for a change, and which numbers it passes.
use Rattle.std.specs.Prelude.{◌≡◌, ◌≢◌, ◌↔◌, ◌⊎◌, ℕ, ◌<◌, ℤ, List, [], ◌∷◌, ◌++◌, length, codes, Contains, Option, None, Err, Ok, Some, unwrap_or}
use Rattle.std.specs.List.Sorted.{IsStrictlySortedBy}
use Rattle.serde_json.specs.Written.{compact_text}
use Rattle.lake_basics.specs.declared.limits.TheConstants.{MAX_FILE_BYTES, MAX_NAMES}
use Rattle.lake_store.specs.Disk.{Files, names_in}
use Rattle.table_history.specs.Row.{Row}
use Rattle.table_history.specs.Rows.{HasPath}
use Rattle.table_history.specs.SchemaSize.{IsWithinLimits}
use Rattle.table_history.specs.Sound.{IsSound}
use Rattle.table_history.specs.TypeTree.{ColumnTrees}
use Rattle.table_history.specs.Words.{limit_number}
use Rattle.table_history.specs.declared.kind.Kind.TheVariants.{Hudi}
use Rattle.table_history.specs.declared.limit.LimitKind.{LimitKind}
use Rattle.table_history.specs.declared.limit.LimitKind.TheVariants.{File, Names, Versions}
use Rattle.table_history.specs.declared.table.Change.{Change}
use Rattle.table_history.specs.declared.table.Commit.{Commit}
use Rattle.schema_avro.specs.Avro.{limited_avro_schema_of}
use Rattle.schema_avro.specs.AvroWriting.{avro_schema_text}
use Rattle.schema_map.specs.Image.{wide_columns}
use Rattle.schema_map.specs.declared.fault.MapError.{MapError}
use Rattle.hudi_names.specs.Time.{IsPast9999, IsTime}
use Rattle.hudi_groups.specs.Group.{file_name_of, folder_of}
use Rattle.hudi_instant.specs.InstantText.{instant_text, replaced_cmp, stat_cmp}
use Rattle.hudi_names.specs.Next.{IsNext}
use Rattle.hudi_properties.specs.Written.{properties_text}
use Rattle.hudi_instant.specs.declared.instant.Instant.{Instant}
use Rattle.hudi_instant.specs.declared.instant.Stat.{Stat}
use Rattle.hudi_commit.specs.Names.{claims_folder}
use Rattle.target_core.specs.Changes.{IsGone}
use Rattle.target_core.specs.Mark.{mark_data}
use Rattle.target_core.specs.Views.{Origin}
use Rattle.target_core.specs.declared.mark.Mark.{Mark}
use Rattle.target_hudi.specs.TableName.{new_pairs}

-- what a timeline says that the next commit rests on
pub record TimelineEnd : Type 0 where
  pub name : List ℕ
  pub newest : Option (List ℕ)
  pub schema : ColumnTrees
  pub partition : List (List ℕ)

-- the schema that the commit states, or else the one before
abbrev pub stated_behind : TimelineEnd → Change → ColumnTrees
stated_behind end change = unwrap_or change.schema end.schema

-- the schema behind the commit: the one that it states, in Hudi's types, or else the one before
abbrev pub held_behind : Option ColumnTrees → ColumnTrees → ColumnTrees
held_behind None before = before
held_behind (Some stated) before = wide_columns stated

abbrev pub schema_behind : TimelineEnd → Change → ColumnTrees
schema_behind end change = held_behind change.schema end.schema

-- the timeline's end behind a commit at this instant
abbrev pub end_behind : TimelineEnd → List ℕ → Commit → TimelineEnd
end_behind end instant commit = record { name = end.name; newest = Some instant; schema = schema_behind end commit.change; partition = end.partition }

-- the digits of the instant that comes next, by a clock of milliseconds
abbrev pub IsNextInstant : TimelineEnd → ℕ → List ℕ → Type 0
IsNextInstant end now instant = (ms : ℤ) × IsNext end.newest now ms × IsTime instant ms

-- the write stat of a row: the file isn't Hudi's, so its name has the instant behind it
abbrev pub stat_of : List ℕ → Row → Stat
stat_of instant row = record {
  file_id = file_name_of row.path;
  partition_path = folder_of row.path;
  path = row.path ++ (codes "_" ++ (instant ++ codes "_hudiext"));
  writes = row.count;
  size = row.size;
}

-- the folder and the file id that replace a path
abbrev pub replaced_of : List ℕ → List ℕ × List ℕ
replaced_of path = (folder_of path, file_name_of path)

abbrev pub mark_of : List ℕ → Origin → List ℕ → Mark
mark_of instant origin position = record { at = instant; source = origin.source; to = position; table = origin.table }

-- the text of the schema in Avro, and none where it has no such text
abbrev pub IsStatedText : ColumnTrees → Option (List ℕ) → Type 0
IsStatedText schema None = (e : MapError) × (avro_schema_text schema ≡ Err e)
IsStatedText schema (Some text) = avro_schema_text schema ≡ Ok text

-- The text, where there is one, is read as the schema in Hudi's types.
abbrev pub IsReadBack : ColumnTrees → Option (List ℕ) → Type 0
IsReadBack schema None = Unit {0}
IsReadBack schema (Some text) = IsSound schema → IsWithinLimits schema → limited_avro_schema_of text ≡ Ok (wide_columns schema)

-- The text is there, and is read as this schema.
abbrev pub IsReadAs : Option (List ℕ) → ColumnTrees → Type 0
IsReadAs None schema = ⊥
IsReadAs (Some text) schema = limited_avro_schema_of text ≡ Ok schema

-- This is written for the commit at this instant, where the schema is the one behind it: a write stat of each added row, the paths that are removed and
-- not added again, the schema and the mark.
pub record IsWrittenOver (schema : ColumnTrees) (origin : Origin) (instant : List ℕ) (commit : Commit) (written : Instant) : Type 0 where
  pub stats : (s : Stat) → Contains written.stats s ↔ ((row : Row) × Contains commit.change.added row × (s ≡ stat_of instant row))
  pub stats_order : IsStrictlySortedBy stat_cmp written.stats
  pub replaced : (p : List ℕ × List ℕ) → Contains written.replaced p ↔ ((path : List ℕ) × IsGone commit.change path × (p ≡ replaced_of path))
  pub replaced_order : IsStrictlySortedBy replaced_cmp written.replaced
  pub stated : IsStatedText schema written.schema
  pub mark : written.mark ≡ Some (compact_text (mark_data (mark_of instant origin commit.position)))

-- the same behind a timeline's end
abbrev pub IsWritten : TimelineEnd → Origin → List ℕ → Commit → Instant → Type 0
IsWritten end origin instant commit written = IsWrittenOver (stated_behind end commit.change) origin instant commit written

-- Behind a change the added rows are there.
abbrev pub LeavesAdded : List Row → List Row → Type 0
LeavesAdded added rows = (row : Row) → Contains added row → Contains rows row

-- Behind the change a removed path has a row only where one is added.
abbrev pub LosesRemoved : Change → List Row → Type 0
LosesRemoved change rows = (path : List ℕ) → Contains change.removed path → HasPath rows path → HasPath change.added path

-- ---- numbers that are passed

-- the properties' text of a first commit has too many bytes
abbrev pub HasLargeProperties : TimelineEnd → Type 0
HasLargeProperties end = (end.newest ≡ None) × (MAX_FILE_BYTES < length (properties_text (new_pairs end.name end.partition)))

-- A text that the commit would write has too many bytes, or its instant lies past the year 9999.
abbrev pub PassesAt : TimelineEnd → Origin → ℕ → Commit → LimitKind → ℕ → Type 0
PassesAt end origin now commit File number =
    (number ≡ MAX_FILE_BYTES)
    × (((instant : List ℕ) × (written : Instant) × IsNextInstant end now instant × IsWritten end origin instant commit written × (MAX_FILE_BYTES < length (instant_text written)))
    ⊎ HasLargeProperties end)
PassesAt end origin now commit Versions number = (number ≡ limit_number Hudi Versions) × ((ms : ℤ) → IsNext end.newest now ms → IsPast9999 ms)
PassesAt end origin now commit _ number = ⊥

-- So it is at the last of these commits, published one behind the other.
abbrev pub PassesLast : TimelineEnd → Origin → ℕ → List Commit → LimitKind → ℕ → Type 0
PassesLast end origin now [] which number = ⊥
PassesLast end origin now (commit ∷ []) which number = PassesAt end origin now commit which number
PassesLast end origin now (commit ∷ (next ∷ commits)) which number = (instant : List ℕ) × IsNextInstant end now instant × PassesLast (end_behind end instant commit) origin now (next ∷ commits) which number

-- The same, or the folder of claims, which recovery lists before a commit, has too many names.
abbrev pub Passes : Files → TimelineEnd → Origin → ℕ → List Commit → LimitKind → ℕ → Type 0
Passes files end origin now commits which number =
    ((commits ≢ []) × (which ≡ Names) × (number ≡ MAX_NAMES) × (MAX_NAMES < length (names_in files claims_folder)))
    ⊎ PassesLast end origin now commits which number
