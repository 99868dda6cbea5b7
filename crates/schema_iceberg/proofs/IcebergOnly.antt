-- What Iceberg's spelling is of a schema is read as the schema, with its ids.
use Rattle.std.proofs.Common.{◌≡◌, ℕ, zero, suc, ◌+◌, ◌≤◌, List, [], ◌∷◌, ◌++◌, Bool, true, false, not, Result, Ok, refl, sym, ap, ◌∙◌, arith, max}
use Rattle.std.specs.Prelude.{ℤ, Some, codes}
use Rattle.serde_json.specs.Data.{Data, boolean, string, object, Items, Members}
use Rattle.serde_json.specs.Find.{get_member}
use Rattle.table_history.specs.TypeTree as tree
use Rattle.table_history.specs.TypeTree.{TypeTree, ColumnTree, ColumnTrees, no_columns, column}
use Rattle.schema_map.specs.declared.fault.Fault.{Fault}
use Rattle.json_reading.specs.Json.{items, int_member}
use Rattle.table_history.specs.SchemaSize.{levels, column_levels}
use Rattle.schema_iceberg.specs.Iceberg.{iceberg_type, iceberg_shape, iceberg_nested, iceberg_struct, iceberg_list, iceberg_map, iceberg_columns, iceberg_column, iceberg_word, each_with_ids}
use Rattle.schema_iceberg.specs.IcebergSpelling.{IsIcebergType, AreIcebergColumns}
use Rattle.schema_map.specs.Decimal.{decimal_of, number_at}
use Rattle.schema_map.proofs.DecimalLaw.{text_read}
use Rattle.schema_map.proofs.Columns.{column_list, columns_of-column_list, one_level}

pub not_not : (b : Bool) → not (not b) ≡ b
not_not true = refl
not_not false = refl

column_first : (part : Data → Result (TypeTree × List ℤ) Fault) (n : List ℕ) (t : TypeTree) (b : Bool) (id : ℤ) (inner : List ℤ) (ms : Members) (d : Data)
    → int_member (codes "id") (object ms) ≡ Some id → get_member (codes "name") ms ≡ Some (string n) → get_member (codes "required") ms ≡ Some (boolean (not b)) → get_member (codes "type") ms ≡ Some d → part d ≡ Ok (t, inner)
    → iceberg_column part (object ms) ≡ Ok (record { name = n; kind = t; nullable = b }, id ∷ inner)
unfolding iceberg_column
column_first part n t b id inner ms d id_is name required_is kind is = rw (id_is, name, required_is, kind, is, not_not b)

each_first : (f : Data → Result (ColumnTree × List ℤ) Fault) (x : Data) (xs : List Data) (c : ColumnTree) (ids : List ℤ) (cs : List ColumnTree) (others : List ℤ) → f x ≡ Ok (c, ids) → each_with_ids f xs ≡ Ok (cs, others) → each_with_ids f (x ∷ xs) ≡ Ok (c ∷ cs, ids ++ others)
each_first f x xs c ids cs others first rest = rw (first, rest)

word_only : (n : ℕ) (t : TypeTree) (ids : List ℤ) (w : List ℕ) (d : Data) → iceberg_shape (iceberg_type n) (string w) ≡ Ok (t, []) → (ids ≡ []) × (d ≡ string w) → iceberg_shape (iceberg_type n) d ≡ Ok (t, ids)
word_only n t ids w d read is = ap (iceberg_shape (iceberg_type n)) is.1 ∙ read ∙ ap (λ none. Ok (t, none)) (sym is.0)

mutual
  unfolding iceberg_type iceberg_word iceberg_nested iceberg_struct iceberg_columns iceberg_list iceberg_map decimal_of number_at

  pub iceberg_only : (n : ℕ) (t : TypeTree) (ids : List ℤ) (d : Data) → IsIcebergType t ids d → levels t ≤ n → iceberg_type n d ≡ Ok (t, ids)
  iceberg_only zero t ids d is small = let one = one_level t in absurd (omega (arith, one, small))
  iceberg_only (suc n) tree.boolean ids d is small = word_only n tree.boolean ids (codes "boolean") d refl is
  iceberg_only (suc n) tree.byte ids d is small = absurd is
  iceberg_only (suc n) tree.short ids d is small = absurd is
  iceberg_only (suc n) tree.int ids d is small = word_only n tree.int ids (codes "int") d refl is
  iceberg_only (suc n) tree.long ids d is small = word_only n tree.long ids (codes "long") d refl is
  iceberg_only (suc n) tree.float ids d is small = word_only n tree.float ids (codes "float") d refl is
  iceberg_only (suc n) tree.double ids d is small = word_only n tree.double ids (codes "double") d refl is
  iceberg_only (suc n) tree.text ids d is small = word_only n tree.text ids (codes "string") d refl is
  iceberg_only (suc n) tree.binary ids d is small = word_only n tree.binary ids (codes "binary") d refl is
  iceberg_only (suc n) tree.date ids d is small = word_only n tree.date ids (codes "date") d refl is
  iceberg_only (suc n) tree.timestamp ids d is small = word_only n tree.timestamp ids (codes "timestamptz") d refl is
  iceberg_only (suc n) tree.timestamp_ntz ids d is small = word_only n tree.timestamp_ntz ids (codes "timestamp") d refl is
  iceberg_only (suc n) (tree.decimal p s) ids d is small = rw (is.2, text_read p s is.0 is.3, is.1)
  iceberg_only (suc n) (tree.struct_of cs) ids d is small =
      let columns = iceberg_only_columns n cs ids is.1 is.6 (let h : 1 + column_levels cs ≤ suc n = small in omega (arith, h)) in
      rw (is.2, is.3, is.4, columns, columns_of-column_list cs, is.5)
  iceberg_only (suc n) (tree.list_of t b) ids d is small =
      let part = iceberg_only n t is.3 is.1 is.10 (let h : 1 + levels t ≤ suc n = small in omega (arith, h)) in
      rw (is.5, is.6, is.7, is.8, is.9, part, not_not b, is.4)
  iceberg_only (suc n) (tree.map_of k v b) ids d is small =
      let h : 1 + max (levels k) (levels v) ≤ suc n = small in
      let key = iceberg_only n k is.4 is.1 is.15 (omega (arith, h)) in
      let value = iceberg_only n v is.6 is.2 is.16 (omega (arith, h)) in
      rw (is.8, is.9, is.10, is.11, is.12, is.13, key, is.14, value, not_not b, is.7)

  pub iceberg_only_columns : (n : ℕ) (cs : ColumnTrees) (ids : List ℤ) (ds : Items) → AreIcebergColumns cs ids ds → column_levels cs ≤ n → each_with_ids (iceberg_column (iceberg_type n)) (items ds) ≡ Ok (column_list cs, ids)
  iceberg_only_columns n no_columns ids ds are small = rw (are.1, are.0)
  iceberg_only_columns n (column name t b cs) ids ds are small =
      let h : max (levels t) (column_levels cs) ≤ n = small in
      let kind = iceberg_only n t are.4 are.1 are.12 (omega (arith, h)) in
      let first = column_first (iceberg_type n) name t b are.3 are.4 are.0 are.1 are.8 are.9 are.10 are.11 kind in
      let others = iceberg_only_columns n cs are.5 are.2 are.13 (omega (arith, h)) in
      rw (are.7, are.6) (each_first (iceberg_column (iceberg_type n)) _ _ _ _ _ _ first others)
