-- A word is known exactly where it spells a type.
use Rattle.std.proofs.Common.{◌≡◌, ℕ, List, true, Some, Result, Ok, Err, codes, refl, sym, ap, subst, ◌∙◌, arith}
use Rattle.serde_json.specs.Find.{get_member}
use Rattle.serde_json.specs.Data.{Data, boolean, string, array, object, Items, no_items, item, Members, no_members, member}
use Rattle.json_reading.proofs.Laws.{one_not_none}
use Rattle.table_history.specs.SchemaSize.{IsWithinLimits}
use Rattle.table_history.specs.TypeTree as tree
use Rattle.table_history.specs.TypeTree.{TypeTree, ColumnTrees, no_columns, column}
use Rattle.schema_delta.specs.Delta.{delta_schema}
use Rattle.schema_delta.specs.DeltaSpelling.{IsDeltaType}
use Rattle.schema_map.specs.declared.fault.MapError.{MapError}
use Rattle.schema_delta.proofs.DeltaSchema.{SchemaFound, schema_found, schema_only}
use Rattle.delta_outline.specs.Forms.{one_column, is_read, is_known_word}

-- ---- what is read is a type

abbrev field_of : List ℕ → Members
field_of w = member (codes "name") (string (codes "a")) (member (codes "nullable") (boolean true) (member (codes "type") (string w) no_members))

abbrev fields_of : List ℕ → Items
fields_of w = item (object (field_of w)) no_items

abbrev members_of : List ℕ → Members
members_of w = member (codes "fields") (array (fields_of w)) (member (codes "type") (string (codes "struct")) no_members)

fields_are : (w : List ℕ) (ms : Members) (ds : Items) → object (members_of w) ≡ object ms → get_member (codes "fields") ms ≡ Some (array ds) → fields_of w ≡ ds
fields_are w ms ds whole fields =
    let same : members_of w ≡ ms = cc in
    let found : Some (array (fields_of w)) ≡ Some (array ds) = ap (get_member (codes "fields")) same ∙ fields in
    cc

field_is : (w : List ℕ) (ms : Members) (rest : Items) → fields_of w ≡ item (object ms) rest → field_of w ≡ ms
field_is w ms rest e = cc

type_is : (w : List ℕ) (ms : Members) (d : Data) → field_of w ≡ ms → get_member (codes "type") ms ≡ Some d → string w ≡ d
type_is w ms d same type = let found : Some (string w) ≡ Some d = ap (get_member (codes "type")) same ∙ type in cc

type_in : (w : List ℕ) (s : ColumnTrees) → IsDeltaType (tree.struct_of s) (one_column w) → (t : TypeTree) × IsDeltaType t (string w)
type_in w no_columns is = absurd (one_not_none (object (field_of w)) (fields_are w is.0 is.1 is.2 is.4 ∙ is.6))
type_in w (column n t b cs) is =
    let c = is.6 in
    let field : field_of w ≡ c.0 = field_is w c.0 c.2 (fields_are w is.0 is.1 is.2 is.4 ∙ c.3) in
    (t, subst (IsDeltaType t) (sym (type_is w c.0 c.1 field c.6)) c.7)

pub known_type : (w : List ℕ) → is_known_word w ≡ true → (t : TypeTree) × IsDeltaType t (string w)
unfolding SchemaFound
known_type w h = by (delta_schema (one_column w)) refl h
  where
    by : (r : Result ColumnTrees MapError) → delta_schema (one_column w) ≡ r → is_read r ≡ true → (t : TypeTree) × IsDeltaType t (string w)
    by (Ok s) is read = type_in w s (schema_found (one_column w) s is).0
    by (Err e) is read = absurd cc

-- ---- what is a type is read

abbrev column_of : TypeTree → ColumnTrees
column_of t = column (codes "a") t true no_columns

small : (t : TypeTree) (w : List ℕ) → IsDeltaType t (string w) → IsWithinLimits (column_of t)
small tree.boolean w is = record { levels = omega arith; columns = omega arith }
small tree.byte w is = record { levels = omega arith; columns = omega arith }
small tree.short w is = record { levels = omega arith; columns = omega arith }
small tree.int w is = record { levels = omega arith; columns = omega arith }
small tree.long w is = record { levels = omega arith; columns = omega arith }
small tree.float w is = record { levels = omega arith; columns = omega arith }
small tree.double w is = record { levels = omega arith; columns = omega arith }
small tree.text w is = record { levels = omega arith; columns = omega arith }
small tree.binary w is = record { levels = omega arith; columns = omega arith }
small tree.date w is = record { levels = omega arith; columns = omega arith }
small tree.timestamp w is = record { levels = omega arith; columns = omega arith }
small tree.timestamp_ntz w is = record { levels = omega arith; columns = omega arith }
small (tree.decimal p s) w is = record { levels = omega arith; columns = omega arith }
small (tree.struct_of cs) w is = absurd (let e : string w ≡ object is.0 = is.2 in cc)
small (tree.list_of t b) w is = absurd (let e : string w ≡ object is.0 = is.2 in cc)
small (tree.map_of k v b) w is = absurd (let e : string w ≡ object is.0 = is.3 in cc)

pub type_known : (w : List ℕ) (t : TypeTree) → IsDeltaType t (string w) → is_known_word w ≡ true
type_known w t is =
    let spells : IsDeltaType (tree.struct_of (column_of t)) (one_column w) = (members_of w, fields_of w, refl, refl, refl, refl, (field_of w, string w, no_items, refl, refl, refl, refl, is, refl)) in
    let read : delta_schema (one_column w) ≡ Ok (column_of t) = schema_only (one_column w) (column_of t) spells (small t w is) in
    rw read refl
