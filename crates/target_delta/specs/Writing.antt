-- The commit that is written for a change, and which numbers its text passes.
use Rattle.std.specs.Prelude.{◌≡◌, ◌↔◌, ℕ, ◌+◌, ◌==◌, ◌<◌, ◌||◌, pos, Bool, true, false, List, [], ◌∷◌, ◌++◌, length, codes, Contains, Option, None, Some, unwrap_or, if◌then◌else◌}
use Rattle.std.specs.Fmt.{decimal}
use Rattle.std.specs.List.{list_any}
use Rattle.std.specs.Str.{bytes_eq}
use Rattle.serde_json.specs.Written.{compact_text}
use Rattle.lake_basics.specs.declared.limits.TheConstants.{MAX_DELTA_VERSION, MAX_FILE_BYTES}
use Rattle.table_history.specs.Row.{Row}
use Rattle.table_history.specs.Rows.{HasPath, IsInByteOrder}
use Rattle.table_history.specs.TypeTree as tree
use Rattle.table_history.specs.TypeTree.{TypeTree, ColumnTrees, no_columns, column}
use Rattle.table_history.specs.declared.limit.LimitKind.{LimitKind}
use Rattle.table_history.specs.declared.limit.LimitKind.TheVariants.{File, Versions}
use Rattle.table_history.specs.declared.row.PartValue.{PartValue}
use Rattle.table_history.specs.declared.table.Change.{Change}
use Rattle.table_history.specs.declared.table.Commit.{Commit}
use Rattle.partition_map.specs.DeltaText.{HasNoDeltaText, IsDeltaText}
use Rattle.schema_delta.specs.DeltaWriting.{delta_text}
use Rattle.delta_log.specs.Commit.{file_paths}
use Rattle.delta_text.specs.Writing.{commit_text}
use Rattle.delta_log.specs.declared.commit.DeltaCommit.{DeltaCommit}
use Rattle.delta_log.specs.declared.commit.FileAction.{FileAction}
use Rattle.delta_log.specs.declared.commit.FileAction.TheVariants as file
use Rattle.delta_log.specs.declared.commit.MetaData.{MetaData}
use Rattle.delta_log.specs.declared.commit.Protocol.{Protocol}
use Rattle.target_core.specs.Changes.{IsGone}
use Rattle.target_core.specs.Mark.{mark_data}
use Rattle.target_core.specs.Views.{Origin}
use Rattle.target_core.specs.declared.mark.Mark.{Mark}
use Rattle.target_delta.specs.Reading.{mark_setting}

-- ---- the protocol

-- the feature that a table with a column of timestamps without a time zone lists (Delta protocol, "Timestamp without timezone")
abbrev pub ntz_feature : List ℕ
ntz_feature = codes "timestampNtz"

abbrev mutual
  pub has_ntz : TypeTree → Bool
  has_ntz tree.timestamp_ntz = true
  has_ntz (tree.struct_of cs) = have_ntz cs
  has_ntz (tree.list_of t b) = has_ntz t
  has_ntz (tree.map_of k v b) = has_ntz k || has_ntz v
  has_ntz _ = false

  -- whether some column, at any level, is of that type
  pub have_ntz : ColumnTrees → Bool
  have_ntz no_columns = false
  have_ntz (column n t b cs) = has_ntz t || have_ntz cs

abbrev pub lists_ntz : Option (List (List ℕ)) → Bool
lists_ntz None = false
lists_ntz (Some names) = list_any (bytes_eq ntz_feature) names

-- whether the protocol lists that feature for readers
abbrev pub names_ntz : Protocol → Bool
names_ntz p = lists_ntz p.reader_features

abbrev pub plain_protocol : Protocol
plain_protocol = record { reader = pos 1; writer = pos 2; reader_features = None; writer_features = None }

abbrev pub ntz_protocol : Protocol
ntz_protocol = record {
  reader = pos 3;
  writer = pos 7;
  reader_features = Some (ntz_feature ∷ []);
  writer_features = Some (codes "appendOnly" ∷ codes "invariants" ∷ ntz_feature ∷ []);
}

-- The protocol stands in version 0, and in the first later version with such a column where the newest one doesn't list the feature.
abbrev pub protocol_due : ℕ → Bool → Bool → Option Protocol
protocol_due version named true = if named then None else Some ntz_protocol
protocol_due version named false = if version == 0 then Some plain_protocol else None

-- ---- the actions

-- the texts of the values, each under its column's name
abbrev pub AreTexts : List (List ℕ) → List PartValue → List (List ℕ × Option (List ℕ)) → Type 0
AreTexts [] [] [] = Unit {0}
AreTexts (name ∷ names) (v ∷ vs) (p ∷ ps) = (p.0 ≡ name) × IsDeltaText v p.1 × AreTexts names vs ps
AreTexts _ _ _ = ⊥

-- the action that adds the row
pub record IsAddOf (partition : List (List ℕ)) (row : Row) (action : FileAction) : Type 0 where
  pub values : List (List ℕ × Option (List ℕ))
  pub texts : AreTexts partition row.values values
  pub is : action ≡ file.Add row.path values row.size row.count

-- The row has a value for each partition column, and each value has a text.
pub record CanAdd (partition : List (List ℕ)) (row : Row) : Type 0 where
  pub len : length row.values ≡ length partition
  pub texts : (value : PartValue) → Contains row.values value → HasNoDeltaText value → ⊥

-- the actions that add the rows, in their order
abbrev pub AreAdds : List (List ℕ) → List Row → List FileAction → Type 0
AreAdds partition [] [] = Unit {0}
AreAdds partition (row ∷ rows) (f ∷ fs) = IsAddOf partition row f × AreAdds partition rows fs
AreAdds partition _ _ = ⊥

-- Behind a change the added rows are there.
abbrev pub LeavesAdded : List Row → List Row → Type 0
LeavesAdded added rows = (row : Row) → Contains added row → Contains rows row

-- Behind the change a removed path has a row only where one is added.
abbrev pub LosesRemoved : Change → List Row → Type 0
LosesRemoved change rows = (path : List ℕ) → Contains change.removed path → HasPath rows path → HasPath change.added path

-- The removes of the paths that are removed and not added again, and then the adds of the added rows, each in byte order of paths.
pub record AreActions (partition : List (List ℕ)) (change : Change) (files : List FileAction) : Type 0 where
  pub removes : List FileAction
  pub adds : List FileAction
  pub split : files ≡ removes ++ adds
  pub gone : (f : FileAction) → Contains removes f ↔ ((path : List ℕ) × IsGone change path × (f ≡ file.Remove path))
  pub from_row : (f : FileAction) → Contains adds f → (row : Row) × Contains change.added row × IsAddOf partition row f
  pub of_row : (row : Row) → Contains change.added row → (f : FileAction) × Contains adds f × IsAddOf partition row f
  pub removes_order : IsInByteOrder (file_paths removes)
  pub adds_order : IsInByteOrder (file_paths adds)

-- ---- the commit

-- what a log says that the next version rests on
pub record LogEnd : Type 0 where
  pub version : ℕ
  pub id : List ℕ
  pub schema : ColumnTrees
  pub partition : List (List ℕ)
  pub ntz : Bool

abbrev pub schema_behind : LogEnd → Change → ColumnTrees
schema_behind end change = unwrap_or change.schema end.schema

abbrev pub mark_of : LogEnd → Origin → List ℕ → Mark
mark_of end origin position = record { at = decimal end.version; source = origin.source; to = position; table = origin.table }

abbrev pub meta_of : LogEnd → Origin → Commit → MetaData
meta_of end origin commit = record {
  id = end.id;
  schema = delta_text (schema_behind end commit.change);
  partition = end.partition;
  configuration = (mark_setting, compact_text (mark_data (mark_of end origin commit.position))) ∷ [];
}

-- This is written for the commit behind a log's end.
pub record IsWritten (end : LogEnd) (origin : Origin) (commit : Commit) (written : DeltaCommit) : Type 0 where
  pub protocol : written.protocol ≡ protocol_due end.version end.ntz (have_ntz (schema_behind end commit.change))
  pub meta : written.meta ≡ Some (meta_of end origin commit)
  pub files : AreActions end.partition commit.change written.files

-- the log's end behind the commit
abbrev pub end_behind : LogEnd → Commit → LogEnd
end_behind end commit = record {
  version = end.version + 1;
  id = end.id;
  schema = schema_behind end commit.change;
  partition = end.partition;
  ntz = end.ntz || have_ntz (schema_behind end commit.change);
}

-- ---- numbers that are passed

-- The commit's text passes this number of bytes, or its version that of versions.
abbrev pub PassesAt : LogEnd → Origin → ℕ → Commit → LimitKind → ℕ → Type 0
PassesAt end origin now commit File number = (number ≡ MAX_FILE_BYTES) × (written : DeltaCommit) × IsWritten end origin commit written × (MAX_FILE_BYTES < length (commit_text now written))
PassesAt end origin now commit Versions number = (number ≡ MAX_DELTA_VERSION) × (MAX_DELTA_VERSION < end.version)
PassesAt end origin now commit _ number = ⊥

-- So it is at the last of these commits, published one behind the other.
abbrev pub Passes : LogEnd → Origin → ℕ → List Commit → LimitKind → ℕ → Type 0
Passes end origin now [] which number = ⊥
Passes end origin now (commit ∷ []) which number = PassesAt end origin now commit which number
Passes end origin now (commit ∷ (next ∷ commits)) which number = Passes (end_behind end commit) origin now (next ∷ commits) which number
