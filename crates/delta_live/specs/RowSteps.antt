-- The steps of the work on rows: what each part gives, and what its refusal says.
use Rattle.std.specs.Prelude.{◌≡◌, ℕ, ◌<◌, ◌≤◌, not, List, [], ◌∷◌, ◌++◌, filter, flat_map, Bool, Option, Some, None, is_some, All, Contains, length, if◌then◌else◌}
use Rattle.std.specs.Borrow.{Bor}
use Rattle.std.specs.Option.{option_or}
use Rattle.std.specs.Str.{bytes_eq}
use Rattle.indexmap.specs.IndexMap.{IndexMap, get_by}
use Rattle.lake_basics.specs.declared.limits.TheConstants.{MAX_LIVE_FILES, MAX_PARTITION_COLUMNS}
use Rattle.table_history.specs.Row.{Row}
use Rattle.table_history.specs.Rows.{row_at, paths_of, HasDistinctPaths}
use Rattle.table_history.specs.TypeTree.{ColumnTrees}
use Rattle.table_history.specs.declared.feature.Feature.{Feature}
use Rattle.table_history.specs.declared.feature.Feature.TheVariants.{PartitionValue}
use Rattle.table_history.specs.declared.limit.LimitKind.{LimitKind}
use Rattle.table_history.specs.declared.limit.LimitKind.TheVariants.{LiveFiles, PartitionColumns}
use Rattle.table_history.specs.declared.row.PartValue.{PartValue}
use Rattle.table_history.specs.declared.table.Change.{Change}
use Rattle.partition_map.specs.Stands.{DeltaStands}
use Rattle.partition_map.specs.declared.kind.PartKind.{PartKind}
use Rattle.delta_log.specs.declared.commit.FileAction.{FileAction}
use Rattle.delta_log.specs.declared.commit.FileAction.TheVariants as file
use Rattle.delta_log.specs.declared.error.DeltaError.{DeltaError}
use Rattle.delta_log.specs.declared.error.DeltaError.TheVariants as errors
use Rattle.delta_log.specs.Judging.{acts_on}
use Rattle.delta_live.specs.Differences.{IsUnorderedDiff}
use Rattle.delta_live.specs.Live.{PartColumns, AddsRow, SpellsNoValue}

-- A refusal that names the feature, and tells of the fact.
abbrev pub Tells : Feature → Type 0 → DeltaError → Type 0
Tells feature fact errors.Memory = Unit {0}
Tells feature fact (errors.Unsupported f line) = (f ≡ feature) × (line ≡ 0) × fact
Tells feature fact _ = ⊥

-- ---- rows

-- The action adds this row, if it adds one.
abbrev pub IsRowOf : PartColumns → FileAction → Option Row → Type 0
IsRowOf columns (file.Add path values size count) None = ⊥
IsRowOf columns (file.Add path values size count) (Some row) = AddsRow columns (file.Add path values size count) row
IsRowOf columns (file.Remove path) row = row ≡ None

-- the rows that the actions add, in their order
abbrev pub AreRowsOf : PartColumns → List FileAction → List Row → Type 0
AreRowsOf columns [] rows = rows ≡ []
AreRowsOf columns (file.Add path values size count ∷ files) rows =
    (row : Row) × (rest : List Row) × AddsRow columns (file.Add path values size count) row × AreRowsOf columns files rest × (rows ≡ row ∷ rest)
AreRowsOf columns (file.Remove path ∷ files) rows = AreRowsOf columns files rows

-- a row has the path
abbrev pub has_path : List Row → List ℕ → Bool
has_path rows path = is_some (row_at rows path)

abbrev pub removed_path : FileAction → List (List ℕ)
removed_path (file.Add path values size count) = []
removed_path (file.Remove path) = path ∷ []

-- the paths of the removes
abbrev pub removed_paths : List FileAction → List (List ℕ)
removed_paths files = flat_map removed_path files

-- the paths that have a row before and none, or another, behind
abbrev pub lost_paths : List Row → List FileAction → List Row → List (List ℕ)
lost_paths before files added = filter (has_path before) (removed_paths files ++ paths_of added)

abbrev pub added_path : FileAction → List (List ℕ)
added_path (file.Add path values size count) = path ∷ []
added_path (file.Remove path) = []

-- the paths of the adds
abbrev pub added_paths : List FileAction → List (List ℕ)
added_paths files = flat_map added_path files

-- the row is on a path that has no action
abbrev pub is_kept : List FileAction → Row → Bool
is_kept files row = not (acts_on row.path files)

-- the rows before that stay, and the rows that the commit adds
abbrev pub rows_behind : List Row → List FileAction → List Row → List Row
rows_behind before files rows = filter (is_kept files) before ++ rows

-- ---- texts by the names of columns

-- the kind that a map has at this name
abbrev pub kind_in : {S : Type 0} → IndexMap (Bor (List ℕ)) PartKind S → List ℕ → Option PartKind
kind_in kinds name = get_by (λ key. bytes_eq name key.now) kinds

-- the kind of the column of this name; of several the last counts
abbrev pub kind_of : PartColumns → List ℕ → Option PartKind
kind_of [] name = None
kind_of (c ∷ cs) name = option_or (kind_of cs name) (if bytes_eq c.0 name then Some c.1 else None)

abbrev pub StandsForSome : PartKind → Option (List ℕ) → Type 0
StandsForSome kind text = (v : PartValue) × DeltaStands kind text v

abbrev pub StandsForNone : PartKind → Option (List ℕ) → Type 0
StandsForNone kind text = (v : PartValue) → ¬ DeltaStands kind text v

-- Where there is a kind, the text stands for a value of it.
abbrev pub StandsOf : Option PartKind → Option (List ℕ) → Type 0
StandsOf None text = Unit {0}
StandsOf (Some kind) text = StandsForSome kind text

-- There is a kind, and the text stands for no value of it.
abbrev pub FailsOf : Option PartKind → Option (List ℕ) → Type 0
FailsOf None text = ⊥
FailsOf (Some kind) text = StandsForNone kind text

-- the same of a pair, by the kind of its name
abbrev pub PairStands : (List ℕ → Option PartKind) → List ℕ × Option (List ℕ) → Type 0
PairStands kind pair = StandsOf (kind pair.0) pair.1

abbrev pub PairFails : (List ℕ → Option PartKind) → List ℕ × Option (List ℕ) → Type 0
PairFails kind pair = FailsOf (kind pair.0) pair.1

abbrev pub FileStands : (List ℕ → Option PartKind) → FileAction → Type 0
FileStands kind (file.Add path values size count) = All (PairStands kind) values
FileStands kind (file.Remove path) = Unit {0}

abbrev pub FileFails : (List ℕ → Option PartKind) → FileAction → Type 0
FileFails kind (file.Add path values size count) = (pair : List ℕ × Option (List ℕ)) × Contains values pair × PairFails kind pair
FileFails kind (file.Remove path) = ⊥

-- No action's text stands for no value of a column.
abbrev pub HaveValues : PartColumns → List FileAction → Type 0
HaveValues columns files = (f : FileAction) (column : List ℕ × PartKind) → Contains files f → Contains columns column → ¬ SpellsNoValue column f

-- ---- the change

-- the change that the actions make of these rows, in whatever order
pub record IsChangeOver (columns : PartColumns) (before : List Row) (files : List FileAction) (schema : Option ColumnTrees) (change : Change) : Type 0 where
  pub stated : change.schema ≡ schema
  pub rows : List Row
  pub added : AreRowsOf columns files rows
  pub distinct : HasDistinctPaths before
  pub diff : IsUnorderedDiff before (rows_behind before files rows) change.removed change.added
  pub few_columns : length columns ≤ MAX_PARTITION_COLUMNS
  pub few_rows : length (rows_behind before files rows) ≤ MAX_LIVE_FILES

-- The actions pass this number, and none that is told before it.
abbrev pub PassesOver : PartColumns → List Row → List FileAction → LimitKind → Type 0
PassesOver columns before files PartitionColumns = (MAX_PARTITION_COLUMNS < length columns) × HaveValues columns files
PassesOver columns before files LiveFiles =
    (rows : List Row) × AreRowsOf columns files rows × HasDistinctPaths before × (length columns ≤ MAX_PARTITION_COLUMNS) × (MAX_LIVE_FILES < length (rows_behind before files rows))
PassesOver columns before files _ = ⊥

-- why the actions make none
abbrev pub IsRefusalOver : PartColumns → List Row → List FileAction → DeltaError → Type 0
IsRefusalOver columns before files errors.Memory = Unit {0}
IsRefusalOver columns before files (errors.Unsupported feature line) =
    (feature ≡ PartitionValue) × (line ≡ 0) × (f : FileAction) × (column : List ℕ × PartKind) × Contains files f × Contains columns column × SpellsNoValue column f
IsRefusalOver columns before files (errors.Limit which) = PassesOver columns before files which
IsRefusalOver columns before files _ = ⊥
