-- What is written for a sound schema and its ids is the spelling of its Image in Iceberg.
use Rattle.std.proofs.Common.{◌≡◌, ℕ, ◌+◌, ◌<◌, ◌≤◌, List, [], ◌∷◌, ◌++◌, length, Ok, refl, sym, ap, subst, ◌∙◌, arith, append_assoc, append-nil, length-append}
use Rattle.std.proofs.lemmas.List.{length-map}
use Rattle.std.specs.Prelude.{ℤ, Some, codes, decimal}
use Rattle.std.proofs.lemmas.Bool.{lt-ltb}
use Rattle.serde_json.specs.View.{items_of}
use Rattle.json_reading.specs.Json.{int}
use Rattle.table_history.specs.TypeTree as tree
use Rattle.table_history.specs.TypeTree.{TypeTree, ColumnTrees, no_columns, column}
use Rattle.schema_map.specs.Decimal.{number_at, decimal_of}
use Rattle.schema_iceberg.specs.Iceberg.{iceberg_schema}
use Rattle.schema_iceberg.specs.IcebergSpelling.{IsIcebergType, AreIcebergColumns, IsIcebergSchema}
use Rattle.schema_iceberg.specs.IcebergWriting.{id_data, first_id, ids_behind, iceberg_decimal_text, iceberg_data, iceberg_fields, iceberg_value}
use Rattle.schema_map.specs.Paths.{Path, below, inner_paths, column_paths}
use Rattle.schema_map.specs.Image.{wide_type, wide_columns}
use Rattle.table_history.specs.SchemaSize.{IsWithinLimits}
use Rattle.table_history.specs.Sound.{IsSoundType, AreSound, IsSound}
use Rattle.schema_map.specs.IcebergFits.{AreIds}
use Rattle.schema_iceberg.proofs.IcebergSchema.{schema_only}
use Rattle.schema_map.proofs.DecimalLaw.{text_found}
use Rattle.schema_map.proofs.Numbers.{number_by}
use Rattle.schema_map.proofs.Wide.{column_levels_wide, column_count_wide, own_wide}

-- ---- decimals, with a space before the scale

space_read : (bytes : List ℕ) → number_at (32 ∷ bytes) ≡ number_at bytes
unfolding number_at
space_read bytes = refl

iceberg_decimal_read : (p s : ℕ) → 0 < p → p < 39 → s ≤ p → decimal_of (iceberg_decimal_text p s) ≡ Some (p, s)
unfolding decimal_of
iceberg_decimal_read p s some small scale =
    rw (
      number_by _ p 44 (32 ∷ (decimal s ++ 41 ∷ [])) refl (omega (arith, small)) refl refl,
      space_read (decimal s ++ 41 ∷ []),
      number_by _ s 41 [] refl (omega (arith, small, scale)) refl refl,
      lt-ltb 0 p some,
      lt-ltb p 39 small,
      lt-ltb s (p + 1) (omega (arith, scale)),
    )

-- ---- ids

-- how many ids a type has
abbrev mutual
  pub id_count : TypeTree → ℕ
  id_count (tree.struct_of cs) = column_id_count cs
  id_count (tree.list_of t b) = 1 + id_count t
  id_count (tree.map_of k v b) = 2 + id_count k + id_count v
  id_count _ = 0

  pub column_id_count : ColumnTrees → ℕ
  column_id_count no_columns = 0
  column_id_count (column n t b cs) = 1 + id_count t + column_id_count cs

below_length : (name : List ℕ) (paths : List Path) → length (below name paths) ≡ 1 + length paths
below_length name paths = let h = length-map paths (λ (p : Path). name ∷ p) in omega (arith, h)

mutual
  ids_counted : (t : TypeTree) → length (inner_paths t) ≡ id_count t
  ids_counted tree.boolean = refl
  ids_counted tree.byte = refl
  ids_counted tree.short = refl
  ids_counted tree.int = refl
  ids_counted tree.long = refl
  ids_counted tree.float = refl
  ids_counted tree.double = refl
  ids_counted tree.text = refl
  ids_counted tree.binary = refl
  ids_counted tree.date = refl
  ids_counted tree.timestamp = refl
  ids_counted tree.timestamp_ntz = refl
  ids_counted (tree.decimal p s) = refl
  ids_counted (tree.struct_of cs) = column_ids_counted cs
  ids_counted (tree.list_of t b) = below_length (codes "element") (inner_paths t) ∙ ap (λ n. 1 + n) (ids_counted t)
  ids_counted (tree.map_of k v b) =
      let h = length-append (below (codes "key") (inner_paths k)) (below (codes "value") (inner_paths v)) in
      let i = below_length (codes "key") (inner_paths k) in
      let j = below_length (codes "value") (inner_paths v) in
      let in_key = ids_counted k in
      let in_value = ids_counted v in
      omega (arith, h, i, j, in_key, in_value)

  pub column_ids_counted : (cs : ColumnTrees) → length (column_paths cs) ≡ column_id_count cs
  column_ids_counted no_columns = refl
  column_ids_counted (column n t b cs) =
      let h = length-append (below n (inner_paths t)) (column_paths cs) in
      let i = below_length n (inner_paths t) in
      let inner = ids_counted t in
      let others = column_ids_counted cs in
      omega (arith, h, i, inner, others)

some_first : (ids : List ℤ) → 1 ≤ length ids → ids ≡ first_id ids ∷ ids_behind ids
some_first [] some = absurd (omega (arith, some))
some_first (id ∷ ids) some = refl

length_behind : (ids : List ℤ) → 1 ≤ length ids → length ids ≡ 1 + length (ids_behind ids)
length_behind [] some = absurd (omega (arith, some))
length_behind (id ∷ ids) some = omega arith

first_is : (ids : List ℤ) → AreIds ids → int (id_data (first_id ids)) ≡ Some (first_id ids)
first_is [] are = refl
first_is (id ∷ ids) are = are.0

are_behind : (ids : List ℤ) → AreIds ids → AreIds (ids_behind ids)
are_behind [] are = tt
are_behind (id ∷ ids) are = are.1

are_last : (xs ys : List ℤ) → AreIds (xs ++ ys) → AreIds ys
are_last [] ys are = are
are_last (x ∷ xs) ys are = are_last xs ys are.1

-- ---- types

-- the ids of a type, at the front of a list
record Written (t : TypeTree) (ids : List ℤ) : Type 0 where
  inner : List ℤ
  size : length inner ≡ id_count t
  ids_are : ids ≡ inner ++ (iceberg_data t ids).1
  is : IsIcebergType (wide_type t) inner (iceberg_data t ids).0

record FieldsWritten (cs : ColumnTrees) (ids : List ℤ) : Type 0 where
  inner : List ℤ
  size : length inner ≡ column_id_count cs
  ids_are : ids ≡ inner ++ (iceberg_fields cs ids).1
  are : AreIcebergColumns (wide_columns cs) inner (items_of (iceberg_fields cs ids).0)

left_length : (ids inner left : List ℤ) → ids ≡ inner ++ left → length ids ≡ length inner + length left
left_length ids inner left are = ap length are ∙ length-append inner left

map_ids : (ids key kl value vl : List ℤ) → 1 ≤ length ids → 1 ≤ length kl → ids_behind ids ≡ key ++ kl → ids_behind kl ≡ value ++ vl → ids ≡ (first_id ids ∷ (key ++ first_id kl ∷ value)) ++ vl
map_ids ids key kl value vl some more in_key in_value =
    some_first ids some ∙ ap (λ xs. first_id ids ∷ xs) (in_key ∙ ap (λ xs. key ++ xs) (some_first kl more ∙ ap (λ xs. first_id kl ∷ xs) in_value) ∙ sym (append_assoc key (first_id kl ∷ value) vl))

field_ids : (ids inner left others last : List ℤ) → 1 ≤ length ids → ids_behind ids ≡ inner ++ left → left ≡ others ++ last → ids ≡ ((first_id ids ∷ inner) ++ others) ++ last
field_ids ids inner left others last some in_kind rest =
    some_first ids some ∙ ap (λ xs. first_id ids ∷ xs) (in_kind ∙ ap (λ xs. inner ++ xs) rest ∙ sym (append_assoc inner others last))

mutual
  written : (t : TypeTree) (ids : List ℤ) → IsSoundType t → AreIds ids → id_count t ≤ length ids → Written t ids
  written tree.boolean ids sound are enough = record { inner = []; size = refl; ids_are = refl; is = (refl, refl) }
  written tree.byte ids sound are enough = record { inner = []; size = refl; ids_are = refl; is = (refl, refl) }
  written tree.short ids sound are enough = record { inner = []; size = refl; ids_are = refl; is = (refl, refl) }
  written tree.int ids sound are enough = record { inner = []; size = refl; ids_are = refl; is = (refl, refl) }
  written tree.long ids sound are enough = record { inner = []; size = refl; ids_are = refl; is = (refl, refl) }
  written tree.float ids sound are enough = record { inner = []; size = refl; ids_are = refl; is = (refl, refl) }
  written tree.double ids sound are enough = record { inner = []; size = refl; ids_are = refl; is = (refl, refl) }
  written tree.text ids sound are enough = record { inner = []; size = refl; ids_are = refl; is = (refl, refl) }
  written tree.binary ids sound are enough = record { inner = []; size = refl; ids_are = refl; is = (refl, refl) }
  written tree.date ids sound are enough = record { inner = []; size = refl; ids_are = refl; is = (refl, refl) }
  written tree.timestamp ids sound are enough = record { inner = []; size = refl; ids_are = refl; is = (refl, refl) }
  written tree.timestamp_ntz ids sound are enough = record { inner = []; size = refl; ids_are = refl; is = (refl, refl) }
  written (tree.decimal p s) ids sound are enough =
      record { inner = []; size = refl; ids_are = refl; is = (iceberg_decimal_text p s, refl, refl, text_found (iceberg_decimal_text p s) (p, s) (iceberg_decimal_read p s sound.0 sound.1 sound.2)) }
  written (tree.struct_of cs) ids sound are enough =
      let fields = fields_written cs ids sound.1 are enough in
      record { inner = fields.inner; size = fields.size; ids_are = fields.ids_are; is = (_, items_of (iceberg_fields cs ids).0, refl, refl, refl, own_wide cs ∙ sound.0, fields.are) }
  written (tree.list_of t b) ids sound are enough =
      let some : 1 ≤ length ids = let h : 1 + id_count t ≤ length ids = enough in omega (arith, h) in
      let behind = length_behind ids some in
      let part = written t (ids_behind ids) sound (are_behind ids are) (let h : 1 + id_count t ≤ length ids = enough in omega (arith, h, behind)) in
      record {
        inner = first_id ids ∷ part.inner;
        size = let h = part.size in omega (arith, h);
        ids_are = some_first ids some ∙ ap (λ xs. first_id ids ∷ xs) part.ids_are;
        is = (_, (iceberg_data t (ids_behind ids)).0, first_id ids, part.inner, refl, refl, refl, first_is ids are, refl, refl, part.is);
      }
  written (tree.map_of k v b) ids sound are enough =
      let all : 2 + id_count k + id_count v ≤ length ids = enough in
      let some : 1 ≤ length ids = omega (arith, all) in
      let behind = length_behind ids some in
      let key = written k (ids_behind ids) sound.0 (are_behind ids are) (omega (arith, all, behind)) in
      let kl : List ℤ = (iceberg_data k (ids_behind ids)).1 in
      let size = key.size in
      let left = left_length (ids_behind ids) key.inner kl key.ids_are in
      let more : 1 ≤ length kl = omega (arith, all, behind, size, left) in
      let kl_behind = length_behind kl more in
      let kl_are : AreIds kl = are_last key.inner kl (subst AreIds key.ids_are (are_behind ids are)) in
      let value = written v (ids_behind kl) sound.1 (are_behind kl kl_are) (omega (arith, all, behind, size, left, kl_behind)) in
      record {
        inner = first_id ids ∷ (key.inner ++ first_id kl ∷ value.inner);
        size = let h = length-append key.inner (first_id kl ∷ value.inner) in let i = value.size in omega (arith, h, i, size);
        ids_are = map_ids ids key.inner kl value.inner (iceberg_data v (ids_behind kl)).1 some more key.ids_are value.ids_are;
        is = (_, (iceberg_data k (ids_behind ids)).0, (iceberg_data v (ids_behind kl)).0, first_id ids, key.inner, first_id kl, value.inner, refl, refl, refl, first_is ids are, first_is kl kl_are, refl, refl, refl, key.is, value.is);
      }

  fields_written : (cs : ColumnTrees) (ids : List ℤ) → AreSound cs → AreIds ids → column_id_count cs ≤ length ids → FieldsWritten cs ids
  fields_written no_columns ids sound are enough = record { inner = []; size = refl; ids_are = refl; are = (refl, refl) }
  fields_written (column n t b cs) ids sound are enough =
      let all : 1 + id_count t + column_id_count cs ≤ length ids = enough in
      let some : 1 ≤ length ids = omega (arith, all) in
      let behind = length_behind ids some in
      let kind = written t (ids_behind ids) sound.0 (are_behind ids are) (omega (arith, all, behind)) in
      let left : List ℤ = (iceberg_data t (ids_behind ids)).1 in
      let size = kind.size in
      let left_size = left_length (ids_behind ids) kind.inner left kind.ids_are in
      let left_are : AreIds left = are_last kind.inner left (subst AreIds kind.ids_are (are_behind ids are)) in
      let others = fields_written cs left sound.1 left_are (omega (arith, all, behind, size, left_size)) in
      record {
        inner = (first_id ids ∷ kind.inner) ++ others.inner;
        size = let h = length-append kind.inner others.inner in let i = others.size in omega (arith, h, i, size);
        ids_are = field_ids ids kind.inner left others.inner (iceberg_fields cs left).1 some kind.ids_are others.ids_are;
        are = (_, (iceberg_data t (ids_behind ids)).0, items_of (iceberg_fields cs left).0, first_id ids, kind.inner, others.inner, refl, refl, first_is ids are, refl, refl, refl, kind.is, others.are);
      }

nothing_left : (ids inner left : List ℤ) → ids ≡ inner ++ left → length ids ≡ length inner → inner ≡ ids
nothing_left ids inner [] are same = sym (are ∙ append-nil inner)
nothing_left ids inner (id ∷ left) are same = let h = left_length ids inner (id ∷ left) are in absurd (omega (arith, h, same))

-- The value is the spelling of the Image, with all these ids.
pub iceberg_spelled : (cs : ColumnTrees) (ids : List ℤ) (schema_id : ℤ) → IsSound cs → AreIds ids → length ids ≡ length (column_paths cs) → IsIcebergSchema (wide_columns cs) ids (iceberg_value cs ids schema_id)
iceberg_spelled cs ids schema_id sound are same =
    let count : length ids ≡ column_id_count cs = same ∙ column_ids_counted cs in
    let fields = fields_written cs ids sound.1 are (omega (arith, count)) in
    let all : fields.inner ≡ ids = nothing_left ids fields.inner (iceberg_fields cs ids).1 fields.ids_are (count ∙ sym fields.size) in
    let P : List ℤ → Type 0 = λ xs. AreIcebergColumns (wide_columns cs) xs (items_of (iceberg_fields cs ids).0) in
    (_, items_of (iceberg_fields cs ids).0, refl, refl, refl, own_wide cs ∙ sound.0, subst P all fields.are)

pub iceberg_reads_back : (cs : ColumnTrees) (ids : List ℤ) (schema_id : ℤ) → IsSound cs → IsWithinLimits cs → AreIds ids → length ids ≡ length (column_paths cs) → iceberg_schema (iceberg_value cs ids schema_id) ≡ Ok (wide_columns cs, ids)
iceberg_reads_back cs ids schema_id sound limits are same =
    schema_only (iceberg_value cs ids schema_id) (wide_columns cs) ids (iceberg_spelled cs ids schema_id sound are same)
    (record { levels = rw (column_levels_wide cs) limits.levels; columns = rw (column_count_wide cs) limits.columns })
