-- The bytes that are written: varint_in_groups numbers, and one block where there are items.
use Rattle.std.specs.Prelude.{ℕ, zero, suc, ◌+◌, ◌*◌, ◌/◌, ◌%◌, ℤ, pos, negsuc, List, [], ◌∷◌, ◌++◌, length, nat_lt, ◌==◌, if◌then◌else◌}
use Rattle.avro_value.specs.ValueTree.{ValueTree, ValueTrees, no_values, value_and, EntryTrees, no_entries, entry_and, values_len, entries_len}

-- the number in as few groups of seven bits as it needs, of which there are at most k behind the first
unfoldable pub varint_in_groups : ℕ → ℕ → List ℕ
varint_in_groups zero z = z ∷ []
varint_in_groups (suc k) z = if nat_lt z 128 then z ∷ [] else (z % 128 + 128) ∷ varint_in_groups k (z / 128)

unfoldable pub varint_of : ℕ → List ℕ
varint_of z = varint_in_groups 9 z

abbrev pub zigzag_of : ℤ → ℕ
zigzag_of (pos n) = 2 * n
zigzag_of (negsuc n) = 2 * n + 1

abbrev pub length_prefixed : List ℕ → List ℕ
length_prefixed bytes = varint_of (2 * length bytes) ++ bytes

abbrev pub block_encoding : ℕ → List ℕ → List ℕ
block_encoding n items = if n == 0 then 0 ∷ [] else varint_of (2 * n) ++ (items ++ 0 ∷ [])

abbrev mutual
  pub encoding : ValueTree → List ℕ
  encoding ValueTree.null = []
  encoding (ValueTree.boolean b) = (if b then 1 else 0) ∷ []
  encoding (ValueTree.int n) = varint_of (zigzag_of n)
  encoding (ValueTree.long n) = varint_of (zigzag_of n)
  encoding (ValueTree.float bs) = bs
  encoding (ValueTree.double bs) = bs
  encoding (ValueTree.bytes bs) = length_prefixed bs
  encoding (ValueTree.text bs) = length_prefixed bs
  encoding (ValueTree.fixed bs) = bs
  encoding (ValueTree.enum_of i) = varint_of (2 * i)
  encoding (ValueTree.array_of vs) = block_encoding (values_len vs) (values_encoding vs)
  encoding (ValueTree.map_of es) = block_encoding (entries_len es) (entries_encoding es)
  encoding (ValueTree.union_of i v) = varint_of (2 * i) ++ encoding v
  encoding (ValueTree.record_of vs) = values_encoding vs

  pub values_encoding : ValueTrees → List ℕ
  values_encoding no_values = []
  values_encoding (value_and v vs) = encoding v ++ values_encoding vs

  pub entries_encoding : EntryTrees → List ℕ
  entries_encoding no_entries = []
  entries_encoding (entry_and k v es) = (length_prefixed k ++ encoding v) ++ entries_encoding es
