-- A schema in Iceberg's types: its partition columns have the same kinds, and it may be published as well.
use Rattle.std.proofs.Common.{◌≡◌, ℕ, List, Option, Some, None, refl, sym, ap, subst, ◌∙◌}
use Rattle.std.specs.Prelude.{◌↔◌, option_map}
use Rattle.table_history.specs.History.{FitsColumn, IsOfType, column_type}
use Rattle.table_history.specs.Sound.{AreSound, IsSoundType}
use Rattle.table_history.specs.TypeTree as tree
use Rattle.table_history.specs.TypeTree.{ColumnTrees, TypeTree, column, no_columns}
use Rattle.table_history.specs.declared.row.PartValue.{PartValue}
use Rattle.table_history.specs.declared.table.Table.{Table}
use Rattle.partition_map.specs.Kind.{part_kind_of}
use Rattle.partition_map.proofs.KindLemmas.{of_same}
use Rattle.schema_map.specs.Image.{wide_columns, wide_type}
use Rattle.schema_map.proofs.Wide.{own_wide, wide_column, wide_limits}
use Rattle.iceberg_commit.specs.NextVersion.{image}
use Rattle.iceberg_commit.proofs.WideLemmas.{values_fit}
use Rattle.target_core.specs.Conditions.{HasKind, IsPublishable}
use Rattle.iceberg_version.proofs.BehindLemmas.{wide_part}

-- ---- types

mutual
  sound_wide : (t : TypeTree) → IsSoundType t → IsSoundType (wide_type t)
  sound_wide tree.boolean is = is
  sound_wide tree.byte is = is
  sound_wide tree.short is = is
  sound_wide tree.int is = is
  sound_wide tree.long is = is
  sound_wide tree.float is = is
  sound_wide tree.double is = is
  sound_wide tree.text is = is
  sound_wide tree.binary is = is
  sound_wide tree.date is = is
  sound_wide tree.timestamp is = is
  sound_wide tree.timestamp_ntz is = is
  sound_wide (tree.decimal p s) is = is
  sound_wide (tree.struct_of cs) is = (own_wide cs ∙ is.0, columns_sound cs is.1)
  sound_wide (tree.list_of t b) is = sound_wide t is
  sound_wide (tree.map_of k v b) is = (sound_wide k is.0, sound_wide v is.1)

  columns_sound : (cs : ColumnTrees) → AreSound cs → AreSound (wide_columns cs)
  columns_sound no_columns is = is
  columns_sound (column n t b cs) is = (sound_wide t is.0, columns_sound cs is.1)

-- ---- kinds

of_wide : (t : TypeTree) (v : PartValue) → IsOfType t v ↔ IsOfType (wide_type t) v
of_wide t v = (of_same t (wide_type t) (part_kind_of t) refl (wide_part t) v, of_same (wide_type t) t (part_kind_of t) (wide_part t) refl v)

fits_by : (o : Option TypeTree) (v : PartValue) → FitsColumn o v ↔ FitsColumn (option_map wide_type o) v
fits_by None v = (λ fits. fits, λ fits. fits)
fits_by (Some t) v = of_wide t v

fits_wide : (schema : ColumnTrees) (name : List ℕ) (v : PartValue) → FitsColumn (column_type schema name) v ↔ FitsColumn (column_type (wide_columns schema) name) v
fits_wide schema name v = subst (λ (o : Option TypeTree). FitsColumn (column_type schema name) v ↔ FitsColumn o v) (sym (wide_column schema name)) (fits_by (column_type schema name) v)

-- ---- what may be published

kind_wide : (schema : ColumnTrees) (name : List ℕ) → HasKind schema name → HasKind (wide_columns schema) name
kind_wide schema name (t, v, is, some, of) = (wide_type t, v, wide_column schema name ∙ ap (option_map wide_type) is, some, (of_wide t v).0 of)

pub wide_publishable : (table : Table) → IsPublishable table → IsPublishable (record { schema = wide_columns table.schema; partition = table.partition; rows = table.rows })
wide_publishable table may = record {
  sound = record { distinct = may.sound.distinct; values = λ row there. values_fit table.schema table.partition row.values (may.sound.values row there) };
  paths = may.paths;
  live_files = may.live_files;
  partition_columns = may.partition_columns;
  partition_distinct = may.partition_distinct;
  partition_kinds = λ name there. kind_wide table.schema name (may.partition_kinds name there);
  schema = sound_wide (tree.struct_of table.schema) may.schema;
  size = wide_limits table.schema may.size;
}

image_wide : (schema held : ColumnTrees) → image schema ≡ Some held → wide_columns schema ≡ held
image_wide schema held is = cc is

pub image_publishable : (table : Table) (held : ColumnTrees) → image table.schema ≡ Some held → IsPublishable table → IsPublishable (record { schema = held; partition = table.partition; rows = table.rows })
image_publishable table held is may =
    let P : ColumnTrees → Type 0 = λ schema. IsPublishable (record { schema = schema; partition = table.partition; rows = table.rows }) in
    subst P (image_wide table.schema held is) (wide_publishable table may)

pub image_kinds : (schema held : ColumnTrees) → image schema ≡ Some held → (name : List ℕ) (value : PartValue) → FitsColumn (column_type schema name) value ↔ FitsColumn (column_type held name) value
image_kinds schema held is name value =
    let P : ColumnTrees → Type 0 = λ other. FitsColumn (column_type schema name) value ↔ FitsColumn (column_type other name) value in
    subst P (image_wide schema held is) (fits_wide schema name value)
