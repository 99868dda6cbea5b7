-- The field ids of column paths in the schemas that a table holds, and its partition columns.
use Rattle.std.specs.Prelude.{◌≡◌, ◌≢◌, ◌⊎◌, ◌<◌, ℤ, List, [], ◌∷◌, ◌++◌, map, flat_map, length, codes, Contains, Option, Some, None, option_and_then, if◌then◌else◌}
use Rattle.std.specs.List.{IsDistinct, zip}
use Rattle.std.specs.Ordering.{int_eq}
use Rattle.lake_basics.specs.declared.limits.TheConstants.{MAX_PARTITION_COLUMNS}
use Rattle.partition_map.specs.Columns.{column_kind}
use Rattle.partition_map.specs.declared.kind.PartKind.{PartKind}
use Rattle.schema_map.specs.Paths.{Path, column_paths}
use Rattle.table_history.specs.TypeTree.{ColumnTrees}
use Rattle.iceberg_metadata.specs.Schemas.{HeldSchema, HeldUnread}
use Rattle.iceberg_metadata.specs.declared.unread.Unread.{Unread}
use Rattle.iceberg_metadata.specs.declared.metadata.Metadata.{Metadata}
use Rattle.iceberg_metadata.specs.declared.metadata.Spec.{Spec}
use Rattle.iceberg_metadata.specs.declared.metadata.SpecField.{SpecField}

-- ---- field ids

-- a column path and its field id
abbrev pub PathId : Type 0
PathId = Path × ℤ

abbrev pub path_ids_of : ColumnTrees → List ℤ → List PathId
path_ids_of schema ids = zip (column_paths schema) ids

abbrev pub path_ids : HeldSchema → List PathId
path_ids s = path_ids_of s.1 s.2

abbrev pub unread_paths : List HeldUnread → List PathId
unread_paths unread = flat_map (λ u. u.1.paths) unread

-- those of all held schemas, whether they can be taken over or not
abbrev pub all_path_ids : List HeldUnread → List HeldSchema → List PathId
all_path_ids unread schemas = unread_paths unread ++ flat_map path_ids schemas

-- the path of a field id: of several the first
abbrev pub path_of : List PathId → ℤ → Option Path
path_of [] id = None
path_of (p ∷ ps) id = if int_eq p.1 id then Some p.0 else path_of ps id

-- Schemas with these column paths and ids, one alone or two, give one id two column paths, or one column path two ids.
pub record IsRenamed (pairs : List PathId) : Type 0 where
  pub one : PathId
  pub other : PathId
  pub has_one : Contains pairs one
  pub has_other : Contains pairs other
  pub differ : ((one.1 ≡ other.1) × (one.0 ≢ other.0)) ⊎ ((one.0 ≡ other.0) × (one.1 ≢ other.1))

-- ---- the default spec

-- The spec of this id. A table holds one of each id; of several the first counts.
abbrev pub held_spec : List Spec → ℤ → Option Spec
held_spec [] id = None
held_spec (s ∷ ss) id = if int_eq s.id id then Some s else held_spec ss id

abbrev pub fields_of : Option Spec → List SpecField
fields_of None = []
fields_of (Some s) = s.fields

-- the fields of the default spec
abbrev pub default_fields : Metadata → List SpecField
default_fields m = fields_of (held_spec m.specs m.default_spec)

pub record HasOtherTransform (m : Metadata) : Type 0 where
  pub field : SpecField
  pub is : Contains (default_fields m) field
  pub other : field.transform ≢ codes "identity"

-- ---- partition columns

-- The schema of this id, where it can be taken over.
abbrev pub held_schema : List HeldSchema → ℤ → Option HeldSchema
held_schema [] id = None
held_schema (s ∷ ss) id = if int_eq s.0 id then Some s else held_schema ss id

abbrev pub current_schema : Metadata → Option HeldSchema
current_schema m = held_schema m.schemas m.current_schema

-- the kind of the column at this path, if it is a top-level one
abbrev pub top_kind : ColumnTrees → Path → Option PartKind
top_kind schema [] = None
top_kind schema (name ∷ []) = column_kind schema name
top_kind schema (name ∷ (part ∷ path)) = None

-- the kind of the column of this field id: none where it isn't a top-level one, or its type has no kind
abbrev pub source_kind : HeldSchema → ℤ → Option PartKind
source_kind s id = option_and_then (top_kind s.1) (path_of (path_ids s) id)

-- the kind that stands at a field id: of several the first
abbrev pub kind_at : List (ℤ × PartKind) → ℤ → Option PartKind
kind_at [] id = None
kind_at (k ∷ ks) id = if int_eq k.0 id then Some k.1 else kind_at ks id

-- The schema of this id, where it can't be taken over.
abbrev pub held_unread : List HeldUnread → ℤ → Option Unread
held_unread [] id = None
held_unread (u ∷ us) id = if int_eq u.0 id then Some u.1 else held_unread us id

abbrev pub kinds_of : Option HeldSchema → Option Unread → Option (ℤ → Option PartKind)
kinds_of (Some s) u = Some (source_kind s)
kinds_of None (Some u) = Some (kind_at u.kinds)
kinds_of None None = None

-- the kinds of the top-level columns of the current schema, by their field ids
abbrev pub current_kinds : Metadata → List HeldUnread → Option (ℤ → Option PartKind)
current_kinds m unread = kinds_of (current_schema m) (held_unread unread m.current_schema)

abbrev pub sources : List SpecField → List ℤ
sources fields = map (λ f. f.source_id) fields

-- A field of the default spec is made of a column that isn't a top-level one of the current schema, that another field is made of too, or whose type has no kind.
pub record HasOtherPartition (m : Metadata) (unread : List HeldUnread) : Type 0 where
  pub kinds : ℤ → Option PartKind
  pub are : current_kinds m unread ≡ Some kinds
  pub cause : (¬ IsDistinct int_eq (sources (default_fields m))) ⊎ ((field : SpecField) × Contains (default_fields m) field × (kinds field.source_id ≡ None))

abbrev pub HasManyPartitionColumns : Metadata → Type 0
HasManyPartitionColumns m = MAX_PARTITION_COLUMNS < length (default_fields m)
