-- What is written has no number with a fraction or an exponent.
use Rattle.std.proofs.Common.{◌≡◌, ℕ, List, Bool, false, Option, Some, None, refl}
use Rattle.std.specs.Prelude.{ℤ, pos, negsuc, codes}
use Rattle.std.proofs.lemmas.Bool.{or_from}
use Rattle.serde_json.specs.Data.{Data}
use Rattle.serde_json.specs.Find.{of_integer, is_float}
use Rattle.serde_json.specs.View.{items_of}
use Rattle.serde_json.specs.Written.{has_float, items_have_float}
use Rattle.table_history.specs.TypeTree as tree
use Rattle.table_history.specs.TypeTree.{TypeTree, ColumnTrees, no_columns, column}
use Rattle.schema_iceberg.specs.IcebergWriting.{first_id, ids_behind}
use Rattle.schema_iceberg.specs.NameMapping.{entry_data, part_entries, column_entries, name_mapping_data}

pub flat_id : (id : ℤ) → is_float (of_integer id) ≡ false
flat_id (pos n) = refl
flat_id (negsuc n) = refl

-- none of the parts' entries has a float
abbrev pub parts_have_float : Option (List Data) → Bool
parts_have_float None = false
parts_have_float (Some ds) = items_have_float (items_of ds)

flat_entry : (id : ℤ) (name : List ℕ) (parts : Option (List Data)) → parts_have_float parts ≡ false → has_float (entry_data id name parts) ≡ false
flat_entry id name None e = or_from _ _ (flat_id id) refl
flat_entry id name (Some ds) e = or_from _ _ (flat_id id) (or_from _ _ e refl)

mutual
  flat_parts : (t : TypeTree) (ids : List ℤ) → parts_have_float (part_entries t ids).0 ≡ false
  flat_parts tree.boolean ids = refl
  flat_parts tree.byte ids = refl
  flat_parts tree.short ids = refl
  flat_parts tree.int ids = refl
  flat_parts tree.long ids = refl
  flat_parts tree.float ids = refl
  flat_parts tree.double ids = refl
  flat_parts tree.text ids = refl
  flat_parts tree.binary ids = refl
  flat_parts tree.date ids = refl
  flat_parts tree.timestamp ids = refl
  flat_parts tree.timestamp_ntz ids = refl
  flat_parts (tree.decimal p s) ids = refl
  flat_parts (tree.struct_of cs) ids = flat_columns cs ids
  flat_parts (tree.list_of t b) ids = or_from _ _ (flat_entry (first_id ids) (codes "element") (part_entries t (ids_behind ids)).0 (flat_parts t (ids_behind ids))) refl
  flat_parts (tree.map_of k v b) ids =
      let kl : List ℤ = (part_entries k (ids_behind ids)).1 in
      or_from _ _ (flat_entry (first_id ids) (codes "key") (part_entries k (ids_behind ids)).0 (flat_parts k (ids_behind ids)))
      (or_from _ _ (flat_entry (first_id kl) (codes "value") (part_entries v (ids_behind kl)).0 (flat_parts v (ids_behind kl))) refl)

  flat_columns : (cs : ColumnTrees) (ids : List ℤ) → items_have_float (items_of (column_entries cs ids).0) ≡ false
  flat_columns no_columns ids = refl
  flat_columns (column n t b cs) ids =
      or_from _ _ (flat_entry (first_id ids) n (part_entries t (ids_behind ids)).0 (flat_parts t (ids_behind ids))) (flat_columns cs (part_entries t (ids_behind ids)).1)

pub flat_mapping : (cs : ColumnTrees) (ids : List ℤ) → has_float (name_mapping_data cs ids) ≡ false
flat_mapping cs ids = flat_columns cs ids
