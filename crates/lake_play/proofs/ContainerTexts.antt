-- How many bytes a container of Avro has at most.
use Rattle.std.proofs.Common.{◌≡◌, ℕ, zero, suc, ◌+◌, ◌*◌, ◌≤◌, ◌/◌, ◌%◌, Bool, true, false, List, [], ◌∷◌, ◌++◌, length, map, nat_lt, Contains, ap, arith, if◌then◌else◌}
use Rattle.std.specs.Prelude.{◌==◌, sum_by}
use Rattle.std.proofs.lemmas.List.{length-append}
use Rattle.std.proofs.lemmas.List.Sorted.{sum_by-IsPermutation}
use Rattle.std.proofs.lemmas.List.Sums.{sum_by-cons}
use Rattle.serde_json.specs.Written.{compact_text}
use Rattle.avro_container.specs.Format.{Pairs, codec_name, magic, null_codec, schema_name}
use Rattle.avro_container.specs.Writing.{IsWritten, block_text, container_text, meta_text, pairs_text}
use Rattle.avro_schema.specs.Tree.{SchemaTree}
use Rattle.avro_schema.specs.Writing.{json_of}
use Rattle.avro_value.specs.ValueTree.{EntryTrees, ValueTree, ValueTrees, entries_len, entry_and, no_entries, no_values, value_and, values_len, values_of}
use Rattle.avro_value.specs.Writing.{block_encoding, encoding, entries_encoding, length_prefixed, values_encoding, varint_in_groups, varint_of}
use Rattle.table_history.proofs.RowListLemmas.{Contains-head, Contains-tail}

-- ---- numbers and texts

groups_most : (k z : ℕ) → length (varint_in_groups k z) ≤ k + 1
unfolding varint_in_groups
groups_most zero z = omega arith
groups_most (suc k) z = let rest = groups_most k (z / 128) in by rest (nat_lt z 128)
  where
    by : length (varint_in_groups k (z / 128)) ≤ k + 1 → (b : Bool) → length (if b then z ∷ [] else (z % 128 + 128) ∷ varint_in_groups k (z / 128)) ≤ suc k + 1
    by rest true = omega arith
    by rest false = omega (arith, rest)

pub varint_most : (z : ℕ) → length (varint_of z) ≤ 10
unfolding varint_of
varint_most z = let most = groups_most 9 z in omega (arith, most)

pub prefixed_most : (bytes : List ℕ) → length (length_prefixed bytes) ≤ 10 + length bytes
prefixed_most bytes =
    let both = length-append (varint_of (2 * length bytes)) bytes in
    let number = varint_most (2 * length bytes) in
    omega (arith, both, number)

block_most : (n : ℕ) (items : List ℕ) → length (block_encoding n items) ≤ 11 + length items
block_most n items = by (n == 0)
  where
    by : (b : Bool) → length (if b then 0 ∷ [] else varint_of (2 * n) ++ (items ++ 0 ∷ [])) ≤ 11 + length items
    by true = omega arith
    by false =
        let outer = length-append (varint_of (2 * n)) (items ++ 0 ∷ []) in
        let inner = length-append items (0 ∷ []) in
        let number = varint_most (2 * n) in
        omega (arith, outer, inner, number)

-- ---- values

-- as many bytes as spell the value at most, at ten for each number
abbrev mutual
  pub most_value : ValueTree → ℕ
  most_value ValueTree.null = 0
  most_value (ValueTree.boolean b) = 1
  most_value (ValueTree.int n) = 10
  most_value (ValueTree.long n) = 10
  most_value (ValueTree.float bs) = length bs
  most_value (ValueTree.double bs) = length bs
  most_value (ValueTree.bytes bs) = 10 + length bs
  most_value (ValueTree.text bs) = 10 + length bs
  most_value (ValueTree.fixed bs) = length bs
  most_value (ValueTree.enum_of i) = 10
  most_value (ValueTree.array_of vs) = 11 + most_values vs
  most_value (ValueTree.map_of es) = 11 + most_entries es
  most_value (ValueTree.union_of i v) = 10 + most_value v
  most_value (ValueTree.record_of vs) = most_values vs

  pub most_values : ValueTrees → ℕ
  most_values no_values = 0
  most_values (value_and v vs) = most_value v + most_values vs

  pub most_entries : EntryTrees → ℕ
  most_entries no_entries = 0
  most_entries (entry_and k v es) = (10 + length k) + (most_value v + most_entries es)

mutual
  pub value_most : (v : ValueTree) → length (encoding v) ≤ most_value v
  value_most ValueTree.null = omega arith
  value_most (ValueTree.boolean b) = omega arith
  value_most (ValueTree.int n) = varint_most _
  value_most (ValueTree.long n) = varint_most _
  value_most (ValueTree.float bs) = omega arith
  value_most (ValueTree.double bs) = omega arith
  value_most (ValueTree.bytes bs) = prefixed_most bs
  value_most (ValueTree.text bs) = prefixed_most bs
  value_most (ValueTree.fixed bs) = omega arith
  value_most (ValueTree.enum_of i) = varint_most (2 * i)
  value_most (ValueTree.array_of vs) = let block = block_most (values_len vs) (values_encoding vs) in let rest = values_most vs in omega (arith, block, rest)
  value_most (ValueTree.map_of es) = let block = block_most (entries_len es) (entries_encoding es) in let rest = entries_most es in omega (arith, block, rest)
  value_most (ValueTree.union_of i v) =
      let both = length-append (varint_of (2 * i)) (encoding v) in
      let number = varint_most (2 * i) in
      let rest = value_most v in
      omega (arith, both, number, rest)
  value_most (ValueTree.record_of vs) = values_most vs

  pub values_most : (vs : ValueTrees) → length (values_encoding vs) ≤ most_values vs
  values_most no_values = omega arith
  values_most (value_and v vs) =
      let both = length-append (encoding v) (values_encoding vs) in
      let one = value_most v in
      let rest = values_most vs in
      omega (arith, both, one, rest)

  pub entries_most : (es : EntryTrees) → length (entries_encoding es) ≤ most_entries es
  entries_most no_entries = omega arith
  entries_most (entry_and k v es) =
      let outer = length-append (length_prefixed k ++ encoding v) (entries_encoding es) in
      let inner = length-append (length_prefixed k) (encoding v) in
      let key = prefixed_most k in
      let one = value_most v in
      let rest = entries_most es in
      omega (arith, outer, inner, key, one, rest)

-- ---- metadata

-- a pair takes no more bytes
abbrev pub pair_most : List ℕ × List ℕ → ℕ
pair_most p = 20 + (length p.0 + length p.1)

pairs_most : (ps : Pairs) → length (pairs_text ps) ≤ sum_by pair_most ps
pairs_most [] = omega arith
pairs_most (p ∷ ps) =
    let outer = length-append (length_prefixed p.0 ++ length_prefixed p.1) (pairs_text ps) in
    let inner = length-append (length_prefixed p.0) (length_prefixed p.1) in
    let name = prefixed_most p.0 in
    let bytes = prefixed_most p.1 in
    let rest = pairs_most ps in
    let sum = sum_by-cons pair_most p ps in
    omega (arith, outer, inner, name, bytes, rest, sum)

-- ---- the whole

block_text_most : (count : ℕ) (objects marker : List ℕ) → length (block_text count objects marker) ≤ 20 + (length objects + length marker)
block_text_most count objects marker = by (count == 0)
  where
    by : (b : Bool) → length (if b then [] else varint_of (2 * count) ++ (varint_of (2 * length objects) ++ (objects ++ marker))) ≤ 20 + (length objects + length marker)
    by true = omega arith
    by false =
        let outer = length-append (varint_of (2 * count)) (varint_of (2 * length objects) ++ (objects ++ marker)) in
        let middle = length-append (varint_of (2 * length objects)) (objects ++ marker) in
        let inner = length-append objects marker in
        let first = varint_most (2 * count) in
        let second = varint_most (2 * length objects) in
        omega (arith, outer, middle, inner, first, second)

text_most : (pairs : Pairs) (marker : List ℕ) (vs : List ValueTree) → length marker ≡ 16 → length (container_text pairs marker vs) ≤ 100 + (sum_by pair_most pairs + most_values (values_of vs))
text_most pairs marker vs long =
    let objects = values_encoding (values_of vs) in
    let block = block_text (length vs) objects marker in
    let whole = length-append magic (meta_text pairs ++ (marker ++ block)) in
    let meta = length-append (meta_text pairs) (marker ++ block) in
    let last = length-append marker block in
    let named = block_most (length pairs) (pairs_text pairs) in
    let all = pairs_most pairs in
    let objects_most = values_most (values_of vs) in
    let block_is = block_text_most (length vs) objects marker in
    omega (arith, whole, meta, last, named, all, objects_most, block_is, long)

-- A container that is written has no more bytes than its schema's text, its metadata and its values.
pub container_most : (limit : ℕ) (bytes : List ℕ) (meta : Pairs) (t : SchemaTree) (marker : List ℕ) (vs : List ValueTree) → length marker ≡ 16 → IsWritten limit bytes meta t marker vs
    → length bytes ≤ 200 + (length (compact_text (json_of t)) + (sum_by pair_most meta + most_values (values_of vs)))
container_most limit bytes meta t marker vs long is =
    let text = compact_text (json_of t) in
    let exact : length bytes ≡ length (container_text is.pairs marker vs) = ap (λ (bs : List ℕ). length bs) is.exact in
    let most = text_most is.pairs marker vs long in
    let same = sum_by-IsPermutation pair_most ((codec_name, null_codec) ∷ (schema_name, text) ∷ meta) is.pairs is.metadata.same in
    let codec = sum_by-cons pair_most (codec_name, null_codec) ((schema_name, text) ∷ meta) in
    let schema = sum_by-cons pair_most (schema_name, text) meta in
    omega (arith, exact, most, same, codec, schema)

-- ---- many values

-- so many values of so many bytes each
pub all_most : {X : Type 0} (tree : X → ValueTree) (each : ℕ) (xs : List X) → ((x : X) → Contains xs x → most_value (tree x) ≤ each) → most_values (values_of (map tree xs)) ≤ each * length xs
all_most tree each [] few = omega arith
all_most tree each (x ∷ xs) few =
    let one = few x (Contains-head x xs) in
    let rest = all_most tree each xs (λ y there. few y (Contains-tail x xs y there)) in
    let times : each * length (x ∷ xs) ≡ each + each * length xs = omega arith in
    omega (arith, one, rest, times)
