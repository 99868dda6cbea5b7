-- Which files are live after commits (Delta protocol, "Action Reconciliation"), and the rows that one commit makes of those before it.
use Rattle.std.specs.Prelude.{◌≡◌, ◌⊎◌, ℕ, ◌<◌, ◌^◌, List, [], ◌∷◌, ◌++◌, All, Contains, Option, Some, None, if◌then◌else◌}
use Rattle.std.specs.Str.{bytes_eq}
use Rattle.table_history.specs.History.{FitColumns}
use Rattle.table_history.specs.Path.{IsPath}
use Rattle.table_history.specs.Row.{Row}
use Rattle.table_history.specs.Rows.{HasDistinctPaths}
use Rattle.table_history.specs.TypeTree.{ColumnTrees}
use Rattle.table_history.specs.declared.row.PartValue.{PartValue}
use Rattle.partition_map.specs.declared.kind.PartKind.{PartKind}
use Rattle.partition_map.specs.Columns.{column_kind}
use Rattle.partition_map.specs.Stands.{DeltaStands}
use Rattle.delta_log.specs.declared.commit.DeltaCommit.{DeltaCommit}
use Rattle.delta_log.specs.declared.commit.FileAction.{FileAction}
use Rattle.delta_log.specs.declared.commit.FileAction.TheVariants as file
use Rattle.delta_log.specs.Commit.{file_paths}

-- the partition columns in their order, each with the kind of its values
abbrev pub PartColumns : Type 0
PartColumns = List (List ℕ × PartKind)

-- the partition columns of these names, each with its kind in the schema
abbrev pub ArePartColumns : ColumnTrees → List (List ℕ) → PartColumns → Type 0
ArePartColumns schema [] [] = Unit {0}
ArePartColumns schema (name ∷ names) (c ∷ columns) = (c.0 ≡ name) × (column_kind schema name ≡ Some c.1) × ArePartColumns schema names columns
ArePartColumns schema _ _ = ⊥

-- the text of a column among those of an add, null where it has no member
abbrev pub text_of : List ℕ → List (List ℕ × Option (List ℕ)) → Option (List ℕ)
text_of name [] = None
text_of name (p ∷ ps) = if bytes_eq name p.0 then p.1 else text_of name ps

-- one value for each partition column, for which its text stands; texts of other names say nothing
abbrev pub AreValues : PartColumns → List (List ℕ × Option (List ℕ)) → List PartValue → Type 0
AreValues [] texts [] = Unit {0}
AreValues (c ∷ columns) texts (v ∷ values) = DeltaStands c.1 (text_of c.0 texts) v × AreValues columns texts values
AreValues _ texts _ = ⊥

-- The action adds this row.
abbrev pub AddsRow : PartColumns → FileAction → Row → Type 0
AddsRow columns (file.Add path values size count) row = (row.path ≡ path) × AreValues columns values row.values × (row.size ≡ size) × (row.count ≡ count)
AddsRow columns (file.Remove path) row = ⊥

-- The commit has a file action on the path.
abbrev pub ActsOn : List ℕ → DeltaCommit → Type 0
ActsOn path c = Contains (file_paths c.files) path

-- Some commit has an add that is this row, and no commit behind it has a file action on its path.
pub record IsLive (columns : PartColumns) (commits : List DeltaCommit) (row : Row) : Type 0 where
  pub front : List DeltaCommit
  pub commit : DeltaCommit
  pub behind : List DeltaCommit
  pub action : FileAction
  pub split : commits ≡ front ++ commit ∷ behind
  pub acts : Contains commit.files action
  pub adds : AddsRow columns action row
  pub newest : All (λ c. ¬ ActsOn row.path c) behind

-- The commit adds this row, or it is one of these and the commit has no file action on its path.
abbrev pub IsRowBehind : PartColumns → List Row → DeltaCommit → Row → Type 0
IsRowBehind columns rows c row = ((f : FileAction) × Contains c.files f × AddsRow columns f row) ⊎ (Contains rows row × ¬ ActsOn row.path c)

-- The rows behind commits over a table: those that are live by the commits, and those of the table on whose paths none of them has a file action.
abbrev pub IsLiveOver : PartColumns → List Row → List DeltaCommit → Row → Type 0
IsLiveOver columns origin commits row = IsLive columns commits row ⊎ (Contains origin row × All (λ c. ¬ ActsOn row.path c) commits)

-- the rows behind the commit, each once: those that it adds, and those before on whose paths it has no action
pub record AreRowsBehind (columns : PartColumns) (before : List Row) (c : DeltaCommit) (behind : List Row) : Type 0 where
  pub distinct : HasDistinctPaths behind
  pub rows : (row : Row) → (Contains behind row → IsRowBehind columns before c row) × (IsRowBehind columns before c row → Contains behind row)

-- a row of a table with this schema and these partition columns
pub record IsSoundRow (schema : ColumnTrees) (partition : List (List ℕ)) (row : Row) : Type 0 where
  pub path : IsPath row.path
  pub values : FitColumns schema partition row.values
  pub count : row.count < 2 ^ 63
  pub size : row.size < 2 ^ 63

-- The action adds a file whose text for the column stands for no value.
abbrev pub SpellsNoValue : List ℕ × PartKind → FileAction → Type 0
SpellsNoValue column (file.Add path values size count) = (v : PartValue) → ¬ DeltaStands column.1 (text_of column.0 values) v
SpellsNoValue column (file.Remove path) = ⊥
