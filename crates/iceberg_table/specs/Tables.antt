-- The table of a snapshot's live rows.
use Rattle.std.specs.Prelude.{◌≡◌, ◌≢◌, ◌<◌, ◌≤◌, ℕ, pos, List, [], map, flat_map, length, Contains, None}
use Rattle.std.specs.List.{IsDistinct}
use Rattle.std.specs.Str.{bytes_eq}
use Rattle.lake_basics.specs.declared.limits.TheConstants.{MAX_LIVE_FILES, MAX_PARTITION_COLUMNS}
use Rattle.partition_map.specs.Columns.{column_kind}
use Rattle.table_history.specs.History.{IsSoundTable}
use Rattle.table_history.specs.Path.{IsPath}
use Rattle.table_history.specs.Row.{Row}
use Rattle.table_history.specs.Rows.{HasDistinctPaths, SameRows}
use Rattle.table_history.specs.SchemaSize.{IsWithinLimits}
use Rattle.table_history.specs.Sound.{IsSound}
use Rattle.table_history.specs.TypeTree.{ColumnTrees}
use Rattle.table_history.specs.declared.feature.Feature.TheVariants as feature
use Rattle.table_history.specs.declared.limit.LimitKind.TheVariants.{LiveFiles}
use Rattle.table_history.specs.declared.table.Table.{Table}
use Rattle.iceberg_manifest.specs.ListWriting.{HasContent}
use Rattle.iceberg_live.specs.declared.live.LiveRow.{LiveRow}
use Rattle.iceberg_table.specs.declared.error.Fault.{Fault}
use Rattle.iceberg_table.specs.declared.error.Fault.TheVariants as fault
use Rattle.iceberg_table.specs.declared.manifest.Manifest.{Manifest}

abbrev pub rows_in : List LiveRow → List Row
rows_in rows = map (λ live. live.row) rows

-- the rows of the live entries of manifests
abbrev pub rows_of : List Manifest → List Row
rows_of manifests = flat_map (λ r. rows_in r.rows) manifests

-- No row is taken from a manifest of deletes.
abbrev pub TakesNoDeletes : Manifest → Type 0
TakesNoDeletes r = r.file.info.content ≢ pos 0 → r.rows ≡ []

abbrev pub TakeNoDeletes : List Manifest → Type 0
TakeNoDeletes manifests = (r : Manifest) → Contains manifests r → TakesNoDeletes r

-- Each manifest that was read is one of data or of deletes.
abbrev pub AreOfContents : List Manifest → Type 0
AreOfContents manifests = (r : Manifest) → Contains manifests r → HasContent r.file.info

-- The table has this schema, these partition columns and just these rows, of which no two have one path.
pub record IsTableOfRows (columns : ColumnTrees) (names : List (List ℕ)) (rows : List Row) (t : Table) : Type 0 where
  pub schema : t.schema ≡ columns
  pub partition : t.partition ≡ names
  pub distinct : HasDistinctPaths rows
  pub same : SameRows t.rows rows
  pub own : HasDistinctPaths t.rows

abbrev pub IsShared : Fault → Type 0
IsShared f = f ≡ fault.Unsupported feature.SharedFile

-- Two live entries have one path.
abbrev pub AreShared : List Row → Fault → Type 0
AreShared rows f = IsShared f × ¬ HasDistinctPaths rows

-- Each has a path of its own, and there are too many.
abbrev pub AreManyRows : List Row → Fault → Type 0
AreManyRows rows f = HasDistinctPaths rows × (MAX_LIVE_FILES < length rows) × (f ≡ fault.Limit LiveFiles)

-- A table that may be published: its rows have distinct paths, each of them a path, and values of the kinds of the partition columns, and it passes no number.
pub record IsTableOfSnapshots (t : Table) : Type 0 where
  pub partition_distinct : IsDistinct bytes_eq t.partition
  pub partition_kinds : (name : List ℕ) → Contains t.partition name → column_kind t.schema name ≢ None
  pub sound : IsSoundTable t
  pub paths : (row : Row) → Contains t.rows row → IsPath row.path
  pub partition_columns : length t.partition ≤ MAX_PARTITION_COLUMNS
  pub live_files : length t.rows ≤ MAX_LIVE_FILES
  pub schema : IsSound t.schema
  pub size : IsWithinLimits t.schema
