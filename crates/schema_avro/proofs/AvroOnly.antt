-- An Avro type that is a column type is read as it.
use Rattle.std.proofs.Common.{◌≡◌, inl, inr, ℕ, ◌+◌, ◌<◌, ◌≤◌, List, ◌∷◌, Bool, true, false, Option, Some, None, Result, Ok, refl, ap, ◌∙◌, arith}
use Rattle.std.specs.Prelude.{unwrap_or}
use Rattle.std.specs.Str.{bytes_eq}
use Rattle.std.proofs.lemmas.Slice.Eq.{bytes_eq-Decides}
use Rattle.std.proofs.lemmas.Bool.{lt-ltb}
use Rattle.avro_schema.specs.Tree as avro
use Rattle.avro_schema.specs.Tree.{SchemaTree, schema_tree, BranchTrees, FieldTrees}
use Rattle.table_history.specs.TypeTree as tree
use Rattle.table_history.specs.TypeTree.{TypeTree, ColumnTree, ColumnTrees, no_columns, column}
use Rattle.schema_avro.specs.declared.fault.TypeFault.{TypeFault}
use Rattle.schema_map.specs.Decimal.{decimal_in_range}
use Rattle.schema_avro.specs.Avro.{is_logical, avro_decimal, avro_int, avro_long, Part, is_null, nullable_if, avro_column, avro_front, avro_type, avro_part, avro_union, avro_columns}
use Rattle.schema_avro.specs.AvroSpelling.{shape_of, IsUnion, IsPart, IsAvroType, AreAvroColumns}
use Rattle.schema_map.proofs.Columns.{column_list, columns_of-column_list}

no_logical : (word : List ℕ) (logical : Option (List ℕ)) → (logical ≡ Some word → ⊥) → is_logical word logical ≡ false
no_logical word None other = refl
no_logical word (Some w) other = by _ refl
  where
    by : (b : Bool) → bytes_eq w word ≡ b → bytes_eq w word ≡ false
    by true is = absurd (other (ap Some ((bytes_eq-Decides w word).0 is)))
    by false is = is

range_by : (p s : ℕ) → 0 < p → p < 39 → s < p + 1 → decimal_in_range p s ≡ Some (p, s)
range_by p s some below within = rw (lt-ltb 0 p some, lt-ltb p 39 below, lt-ltb s (p + 1) within)

decimal_only : (p s : ℕ) (precision scale : Option ℕ) → precision ≡ Some p → unwrap_or scale 0 ≡ s → 0 < p → p ≤ 38 → s ≤ p → avro_decimal precision scale ≡ Ok (tree.decimal p s)
decimal_only p s precision scale is scale_is some most within =
    let below : p < 39 = omega (arith, most) in
    let scale_below : s < p + 1 = omega (arith, within) in
    rw (is, scale_is, range_by p s some below scale_below)

-- A part that is no union is read as its type.
plain_part : (s : SchemaTree) (t : TypeTree) → avro_type s ≡ Ok t → avro_part s ≡ Ok (t, false)
plain_part (schema_tree avro.null l p s) t e = absurd cc
plain_part (schema_tree avro.boolean l p s) t e = ap (nullable_if false) e
plain_part (schema_tree avro.int l p s) t e = ap (nullable_if false) e
plain_part (schema_tree avro.long l p s) t e = ap (nullable_if false) e
plain_part (schema_tree avro.float l p s) t e = ap (nullable_if false) e
plain_part (schema_tree avro.double l p s) t e = ap (nullable_if false) e
plain_part (schema_tree avro.bytes l p s) t e = ap (nullable_if false) e
plain_part (schema_tree avro.text l p s) t e = ap (nullable_if false) e
plain_part (schema_tree (avro.fixed_of name size) l p s) t e = ap (nullable_if false) e
plain_part (schema_tree (avro.enum_of name symbols) l p s) t e = absurd cc
plain_part (schema_tree (avro.array_of items id) l p s) t e = ap (nullable_if false) e
plain_part (schema_tree (avro.map_of values key_id value_id) l p s) t e = ap (nullable_if false) e
plain_part (schema_tree (avro.union_of branches) l p s) t e = absurd cc
plain_part (schema_tree (avro.record_of name fields) l p s) t e = ap (nullable_if false) e

nothing_is : (s : SchemaTree) → shape_of s ≡ avro.null → is_null s ≡ true
nothing_is (schema_tree shape l p s) e = rw e

-- what is read isn't null
something_is : (s : SchemaTree) (t : TypeTree) → avro_type s ≡ Ok t → is_null s ≡ false
something_is (schema_tree avro.null l p s) t e = absurd cc
something_is (schema_tree avro.boolean l p s) t e = refl
something_is (schema_tree avro.int l p s) t e = refl
something_is (schema_tree avro.long l p s) t e = refl
something_is (schema_tree avro.float l p s) t e = refl
something_is (schema_tree avro.double l p s) t e = refl
something_is (schema_tree avro.bytes l p s) t e = refl
something_is (schema_tree avro.text l p s) t e = refl
something_is (schema_tree (avro.fixed_of name size) l p s) t e = refl
something_is (schema_tree (avro.enum_of name symbols) l p s) t e = refl
something_is (schema_tree (avro.array_of items id) l p s) t e = refl
something_is (schema_tree (avro.map_of values key_id value_id) l p s) t e = refl
something_is (schema_tree (avro.union_of branches) l p s) t e = refl
something_is (schema_tree (avro.record_of name fields) l p s) t e = refl

union_part : (whole : SchemaTree) (branches : BranchTrees) → IsUnion whole branches → avro_part whole ≡ avro_union branches
union_part (schema_tree shape l p s) branches is = rw is

pub part_only : (whole kind : SchemaTree) (t : TypeTree) (b : Bool) → IsPart whole kind b → avro_type kind ≡ Ok t → avro_part whole ≡ Ok (t, b)
part_only whole kind t false (inl same) e = ap avro_part same ∙ plain_part kind t e
part_only whole kind t false (inr is) e = union_part whole _ is ∙ rw e
part_only whole kind t true (nothing, null, inl is) e = union_part whole _ is ∙ rw (nothing_is nothing null, e)
part_only whole kind t true (nothing, null, inr is) e = union_part whole _ is ∙ rw (something_is kind t e, nothing_is nothing null, e)

front_only : (name : List ℕ) (part : Part) (others : Result (List ColumnTree) TypeFault) (t : TypeTree) (b : Bool) (cs : List ColumnTree) → part ≡ Ok (t, b) → others ≡ Ok cs → avro_front (avro_column name part) others ≡ Ok (record { name = name; kind = t; nullable = b } ∷ cs)
front_only name part others t b cs first rest = rw (first, rest)

mutual
  unfolding avro_int avro_long

  pub type_only : (t : TypeTree) (s : SchemaTree) → IsAvroType t s → avro_type s ≡ Ok t
  type_only tree.boolean (schema_tree shape l p s) is = rw is
  type_only tree.byte s is = absurd is
  type_only tree.short s is = absurd is
  type_only tree.int (schema_tree shape l p s) is = rw (is.0, no_logical _ l is.1.0, no_logical _ l is.1.1.0)
  type_only tree.long (schema_tree shape l p s) is = rw (is.0, no_logical _ l is.1.0, no_logical _ l is.1.1.0, no_logical _ l is.1.1.1.0, no_logical _ l is.1.1.1.1.0, no_logical _ l is.1.1.1.1.1.0)
  type_only tree.float (schema_tree shape l p s) is = rw is
  type_only tree.double (schema_tree shape l p s) is = rw is
  type_only tree.text (schema_tree shape l p s) is = rw is
  type_only tree.binary (schema_tree shape l p s) is = rw (is.0, no_logical _ l is.1.0)
  type_only tree.date (schema_tree shape l p s) is = rw (is.0, is.1)
  type_only tree.timestamp (schema_tree shape l p s) (shaped, inl is) = rw (shaped, is)
  type_only tree.timestamp (schema_tree shape l p s) (shaped, inr is) = rw (shaped, is)
  type_only tree.timestamp_ntz (schema_tree shape l p s) (shaped, inl is) = rw (shaped, is)
  type_only tree.timestamp_ntz (schema_tree shape l p s) (shaped, inr is) = rw (shaped, is)
  type_only (tree.decimal dp ds) (schema_tree shape l p s) (inl shaped, is, precision, scale, some, most, within) = rw (shaped, is) (decimal_only dp ds p s precision scale some most within)
  type_only (tree.decimal dp ds) (schema_tree shape l p s) (inr (name, size, shaped), is, precision, scale, some, most, within) = rw (shaped, is) (decimal_only dp ds p s precision scale some most within)
  type_only (tree.struct_of cs) (schema_tree shape l p s) (name, fields, shaped, are) = rw (shaped, columns_only cs fields are, columns_of-column_list cs)
  type_only (tree.list_of t b) (schema_tree shape l p s) (items, id, kind, shaped, part, is) = rw (shaped, part_only items kind t b part (type_only t kind is))
  type_only (tree.map_of k v b) (schema_tree shape l p s) (values, key_id, value_id, kind, key, shaped, part, is) = rw (key, shaped, part_only values kind v b part (type_only v kind is))

  pub columns_only : (cs : ColumnTrees) (fields : FieldTrees) → AreAvroColumns cs fields → avro_columns fields ≡ Ok (column_list cs)
  columns_only no_columns fields are = rw are
  columns_only (column n t b cs) fields (part, id, kind, others, is, at, typed, rest) =
      ap avro_columns is ∙ front_only n (avro_part part) (avro_columns others) t b (column_list cs) (part_only part kind t b at (type_only t kind typed)) (columns_only cs others rest)
