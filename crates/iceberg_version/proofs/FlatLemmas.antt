-- The JSON of an Iceberg schema has no number with a fraction or an exponent.
use Rattle.std.proofs.Common.{◌≡◌, ℕ, List, [], ◌∷◌, map, Result, Ok, Err, false, refl, ◌∙◌}
use Rattle.std.specs.Prelude.{ℤ, IfOk}
use Rattle.std.proofs.lemmas.Bool.{or_from}
use Rattle.serde_json.specs.View.{items_of}
use Rattle.serde_json.specs.Written.{has_float, items_have_float}
use Rattle.table_history.specs.TypeTree as tree
use Rattle.table_history.specs.TypeTree.{TypeTree, ColumnTrees, no_columns, column}
use Rattle.schema_iceberg.specs.IcebergWriting.{first_id, iceberg_data, iceberg_fields, iceberg_value, ids_behind}
use Rattle.schema_iceberg.proofs.FlatMapping.{flat_id}
use Rattle.iceberg_metadata.specs.Writing.{spec_field_data}
use Rattle.iceberg_metadata.specs.declared.metadata.SpecField.{SpecField}

mutual
  flat_type : (t : TypeTree) (ids : List ℤ) → has_float (iceberg_data t ids).0 ≡ false
  flat_type tree.boolean ids = refl
  flat_type tree.byte ids = refl
  flat_type tree.short ids = refl
  flat_type tree.int ids = refl
  flat_type tree.long ids = refl
  flat_type tree.float ids = refl
  flat_type tree.double ids = refl
  flat_type tree.text ids = refl
  flat_type tree.binary ids = refl
  flat_type tree.date ids = refl
  flat_type tree.timestamp ids = refl
  flat_type tree.timestamp_ntz ids = refl
  flat_type (tree.decimal p s) ids = refl
  flat_type (tree.struct_of cs) ids = or_from _ _ (flat_fields cs ids) refl
  flat_type (tree.list_of t b) ids = or_from _ _ (flat_type t (ids_behind ids)) (or_from _ _ (flat_id (first_id ids)) refl)
  flat_type (tree.map_of k v b) ids =
      let behind : List ℤ = (iceberg_data k (ids_behind ids)).1 in
      or_from _ _ (flat_type k (ids_behind ids)) (or_from _ _ (flat_id (first_id ids)) (or_from _ _ (flat_type v (ids_behind behind)) (or_from _ _ (flat_id (first_id behind)) refl)))

  flat_fields : (cs : ColumnTrees) (ids : List ℤ) → items_have_float (items_of (iceberg_fields cs ids).0) ≡ false
  flat_fields no_columns ids = refl
  flat_fields (column n t b cs) ids =
      or_from _ _ (or_from _ _ (flat_id (first_id ids)) (or_from _ _ (flat_type t (ids_behind ids)) refl)) (flat_fields cs (iceberg_data t (ids_behind ids)).1)

pub flat_schema : (cs : ColumnTrees) (ids : List ℤ) (id : ℤ) → has_float (iceberg_value cs ids id) ≡ false
flat_schema cs ids id = or_from _ _ (flat_fields cs ids) (or_from _ _ (flat_id id) refl)

-- a text that is told where there is no such number
pub text_is : {E : Type 0} (r : Result (List ℕ) E) (x y : List ℕ) (Flat : Type 0) → IfOk r (λ t. Flat → t ≡ x) → Flat → x ≡ y → IfOk r (λ t. t ≡ y)
text_is (Ok t) x y Flat told flat same = told flat ∙ same
text_is (Err e) x y Flat told flat same = tt

-- ---- partition specs

flat_field : (f : SpecField) → has_float (spec_field_data f) ≡ false
flat_field f = or_from _ _ (flat_id f.field_id) (or_from _ _ (flat_id f.source_id) refl)

pub flat_spec_fields : (fs : List SpecField) → items_have_float (items_of (map spec_field_data fs)) ≡ false
flat_spec_fields [] = refl
flat_spec_fields (f ∷ fs) = or_from _ _ (flat_field f) (flat_spec_fields fs)
