-- A word has a column exactly where it spells a type.
use Rattle.std.proofs.Common.{◌≡◌, ℕ, List, [], ◌∷◌, ◌++◌, true, false, Some, None, Result, Ok, Err, codes, refl, sym, ap, subst, ◌∙◌, arith}
use Rattle.std.specs.Prelude.{ℤ, pos}
use Rattle.serde_json.specs.Find.{get_member}
use Rattle.serde_json.specs.Data.{Data, boolean, string, array, object, Items, no_items, item, Members, no_members, member}
use Rattle.json_reading.proofs.Laws.{one_not_none}
use Rattle.table_history.specs.SchemaSize.{IsWithinLimits}
use Rattle.table_history.specs.TypeTree as tree
use Rattle.table_history.specs.TypeTree.{TypeTree, ColumnTrees, no_columns, column}
use Rattle.schema_iceberg.specs.Iceberg.{iceberg_schema}
use Rattle.schema_iceberg.specs.IcebergSpelling.{IsIcebergType, IsIcebergSchema}
use Rattle.schema_iceberg.specs.IcebergWriting.{id_data}
use Rattle.schema_iceberg.proofs.IcebergSchema.{SchemaFound, schema_found, schema_only}
use Rattle.schema_map.specs.declared.fault.MapError.{MapError}
use Rattle.iceberg_metadata.specs.Outlines.{one_column, columns_if_read, column_of_word}

-- ---- what is read is a type

abbrev field_of : List ℕ → Members
field_of w = member (codes "id") (id_data (pos 0)) (member (codes "name") (string (codes "a")) (member (codes "required") (boolean true) (member (codes "type") (string w) no_members)))

abbrev fields_of : List ℕ → Items
fields_of w = item (object (field_of w)) no_items

abbrev members_of : List ℕ → Members
members_of w = member (codes "fields") (array (fields_of w)) (member (codes "schema-id") (id_data (pos 0)) (member (codes "type") (string (codes "struct")) no_members))

fields_are : (w : List ℕ) (ms : Members) (ds : Items) → object (members_of w) ≡ object ms → get_member (codes "fields") ms ≡ Some (array ds) → fields_of w ≡ ds
fields_are w ms ds whole fields =
    let same : members_of w ≡ ms = cc in
    let found : Some (array (fields_of w)) ≡ Some (array ds) = ap (get_member (codes "fields")) same ∙ fields in
    cc

field_is : (w : List ℕ) (ms : Members) (rest : Items) → fields_of w ≡ item (object ms) rest → field_of w ≡ ms
field_is w ms rest e = cc

type_is : (w : List ℕ) (ms : Members) (d : Data) → field_of w ≡ ms → get_member (codes "type") ms ≡ Some d → string w ≡ d
type_is w ms d same type = let found : Some (string w) ≡ Some d = ap (get_member (codes "type")) same ∙ type in cc

type_in : (w : List ℕ) (cs : ColumnTrees) (ids : List ℤ) → IsIcebergSchema cs ids (one_column w) → (t : TypeTree) × (inner : List ℤ) × IsIcebergType t inner (string w)
type_in w no_columns ids is = absurd (one_not_none (object (field_of w)) (fields_are w is.0 is.1 is.2 is.4 ∙ is.6.1))
type_in w (column n t b cs) ids is =
    let c = is.6 in
    let field : field_of w ≡ c.0 = field_is w c.0 c.2 (fields_are w is.0 is.1 is.2 is.4 ∙ c.7) in
    (t, c.4, subst (IsIcebergType t c.4) (sym (type_is w c.0 c.1 field c.11)) c.12)

pub known_type : (w : List ℕ) (s : ColumnTrees) → column_of_word w ≡ Some s → (t : TypeTree) × (ids : List ℤ) × IsIcebergType t ids (string w)
unfolding SchemaFound
known_type w s h = by (iceberg_schema (one_column w)) refl h
  where
    by : (r : Result (ColumnTrees × List ℤ) MapError) → iceberg_schema (one_column w) ≡ r → columns_if_read r ≡ Some s → (t : TypeTree) × (ids : List ℤ) × IsIcebergType t ids (string w)
    by (Ok p) is read = type_in w p.0 p.1 (schema_found (one_column w) p is).0
    by (Err e) is read = absurd cc

-- ---- what is a type is read

abbrev column_of : TypeTree → ColumnTrees
column_of t = column (codes "a") t false no_columns

small : (t : TypeTree) (ids : List ℤ) (w : List ℕ) → IsIcebergType t ids (string w) → IsWithinLimits (column_of t)
small tree.boolean ids w is = record { levels = omega arith; columns = omega arith }
small tree.byte ids w is = record { levels = omega arith; columns = omega arith }
small tree.short ids w is = record { levels = omega arith; columns = omega arith }
small tree.int ids w is = record { levels = omega arith; columns = omega arith }
small tree.long ids w is = record { levels = omega arith; columns = omega arith }
small tree.float ids w is = record { levels = omega arith; columns = omega arith }
small tree.double ids w is = record { levels = omega arith; columns = omega arith }
small tree.text ids w is = record { levels = omega arith; columns = omega arith }
small tree.binary ids w is = record { levels = omega arith; columns = omega arith }
small tree.date ids w is = record { levels = omega arith; columns = omega arith }
small tree.timestamp ids w is = record { levels = omega arith; columns = omega arith }
small tree.timestamp_ntz ids w is = record { levels = omega arith; columns = omega arith }
small (tree.decimal p s) ids w is = record { levels = omega arith; columns = omega arith }
small (tree.struct_of cs) ids w is = absurd (let e : string w ≡ object is.0 = is.2 in cc)
small (tree.list_of t b) ids w is = absurd (let e : string w ≡ object is.0 = is.5 in cc)
small (tree.map_of k v b) ids w is = absurd (let e : string w ≡ object is.0 = is.8 in cc)

spells : (w : List ℕ) (t : TypeTree) (ids : List ℤ) → IsIcebergType t ids (string w) → IsIcebergSchema (column_of t) (pos 0 ∷ (ids ++ [])) (one_column w)
spells w t ids is = (members_of w, fields_of w, refl, refl, refl, refl, (field_of w, string w, no_items, pos 0, ids, [], refl, refl, refl, refl, refl, refl, is, (refl, refl)))

pub type_known : (w : List ℕ) (t : TypeTree) (ids : List ℤ) → IsIcebergType t ids (string w) → column_of_word w ≡ Some (column_of t)
type_known w t ids is = ap columns_if_read (schema_only (one_column w) (column_of t) (pos 0 ∷ (ids ++ [])) (spells w t ids is) (small t ids w is))

pub type_not_unknown : (w : List ℕ) (t : TypeTree) (ids : List ℤ) → column_of_word w ≡ None → IsIcebergType t ids (string w) → ⊥
type_not_unknown w t ids none is = let e : None ≡ Some (column_of t) = sym none ∙ type_known w t ids is in absurd cc
