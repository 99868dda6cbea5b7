-- What Delta's spelling is of a schema is read as the schema.
use Rattle.std.proofs.Common.{◌≡◌, ℕ, zero, suc, ◌+◌, ◌≤◌, List, ◌∷◌, Bool, Result, Ok, ap, arith, max}
use Rattle.serde_json.specs.Data.{Data, boolean, string, object, Items, Members}
use Rattle.serde_json.specs.Find.{get_member}
use Rattle.std.specs.Prelude.{Some, codes}
use Rattle.table_history.specs.TypeTree as tree
use Rattle.table_history.specs.TypeTree.{TypeTree, ColumnTrees, no_columns, column}
use Rattle.schema_map.specs.declared.fault.Fault.{Fault}
use Rattle.lake_basics.specs.Outcome.{each}
use Rattle.json_reading.specs.Json.{items}
use Rattle.table_history.specs.SchemaSize.{levels, column_levels}
use Rattle.schema_delta.specs.Delta.{delta_type, delta_shape, delta_nested, delta_struct, delta_list, delta_map, delta_columns, delta_column, delta_word}
use Rattle.schema_delta.specs.DeltaSpelling.{IsDeltaType, AreDeltaColumns}
use Rattle.schema_map.specs.Decimal.{decimal_of, number_at}
use Rattle.schema_map.proofs.DecimalLaw.{text_read}
use Rattle.schema_map.proofs.Columns.{column_list, columns_of-column_list, one_level}

pub column_first : (part : Data → Result TypeTree Fault) (n : List ℕ) (t : TypeTree) (b : Bool) (ms : Members) (d : Data)
    → get_member (codes "name") ms ≡ Some (string n) → get_member (codes "nullable") ms ≡ Some (boolean b) → get_member (codes "type") ms ≡ Some d → part d ≡ Ok t
    → delta_column part (object ms) ≡ Ok (record { name = n; kind = t; nullable = b })
unfolding delta_column
column_first part n t b ms d name nullable kind is = rw (name, nullable, kind, is)

each_first : {A B E : Type 0} (f : A → Result B E) (x : A) (xs : List A) (y : B) (ys : List B) → f x ≡ Ok y → each f xs ≡ Ok ys → each f (x ∷ xs) ≡ Ok (y ∷ ys)
each_first f x xs y ys first others = rw (first, others)

mutual
  unfolding delta_type delta_word delta_nested delta_struct delta_columns delta_list delta_map decimal_of number_at

  pub delta_only : (n : ℕ) (t : TypeTree) (d : Data) → IsDeltaType t d → levels t ≤ n → delta_type n d ≡ Ok t
  delta_only zero t d is small = let one = one_level t in absurd (omega (arith, one, small))
  delta_only (suc n) tree.boolean d is small = ap (delta_shape (delta_type n)) is
  delta_only (suc n) tree.byte d is small = ap (delta_shape (delta_type n)) is
  delta_only (suc n) tree.short d is small = ap (delta_shape (delta_type n)) is
  delta_only (suc n) tree.int d is small = ap (delta_shape (delta_type n)) is
  delta_only (suc n) tree.long d is small = ap (delta_shape (delta_type n)) is
  delta_only (suc n) tree.float d is small = ap (delta_shape (delta_type n)) is
  delta_only (suc n) tree.double d is small = ap (delta_shape (delta_type n)) is
  delta_only (suc n) tree.text d is small = ap (delta_shape (delta_type n)) is
  delta_only (suc n) tree.binary d is small = ap (delta_shape (delta_type n)) is
  delta_only (suc n) tree.date d is small = ap (delta_shape (delta_type n)) is
  delta_only (suc n) tree.timestamp d is small = ap (delta_shape (delta_type n)) is
  delta_only (suc n) tree.timestamp_ntz d is small = ap (delta_shape (delta_type n)) is
  delta_only (suc n) (tree.decimal p s) d is small = rw (is.1, text_read p s is.0 is.2)
  delta_only (suc n) (tree.struct_of cs) d is small =
      let columns = delta_only_columns n cs is.1 is.6 (let h : 1 + column_levels cs ≤ suc n = small in omega (arith, h)) in
      rw (is.2, is.3, is.4, columns, columns_of-column_list cs, is.5)
  delta_only (suc n) (tree.list_of t b) d is small =
      let part = delta_only n t is.1 is.6 (let h : 1 + levels t ≤ suc n = small in omega (arith, h)) in
      rw (is.2, is.3, is.4, is.5, part)
  delta_only (suc n) (tree.map_of k v b) d is small =
      let h : 1 + max (levels k) (levels v) ≤ suc n = small in
      let key = delta_only n k is.1 is.8 (omega (arith, h)) in
      let value = delta_only n v is.2 is.9 (omega (arith, h)) in
      rw (is.3, is.4, is.5, is.6, key, is.7, value)

  pub delta_only_columns : (n : ℕ) (cs : ColumnTrees) (ds : Items) → AreDeltaColumns cs ds → column_levels cs ≤ n → each (delta_column (delta_type n)) (items ds) ≡ Ok (column_list cs)
  delta_only_columns n no_columns ds are small = rw are
  delta_only_columns n (column name t b cs) ds are small =
      let h : max (levels t) (column_levels cs) ≤ n = small in
      let kind = delta_only n t are.1 are.7 (omega (arith, h)) in
      let first = column_first (delta_type n) name t b are.0 are.1 are.4 are.5 are.6 kind in
      let others = delta_only_columns n cs are.2 are.8 (omega (arith, h)) in
      rw are.3 (each_first (delta_column (delta_type n)) _ _ _ _ first others)
