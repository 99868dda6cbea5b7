-- Values of the fields of an Avro record (Avro specification, "Complex Types"; Iceberg specification, "Avro").
use Rattle.std.specs.Prelude.{ℕ, zero, suc, ℤ, pos, negsuc, Bool, List, Option, Some, None, Ok, Err, nat_le, unwrap_or, if◌then◌else◌}
use Rattle.lake_basics.specs.Outcome.{◌>>=◌, required}
use Rattle.avro_value.specs.ValueTree.{ValueTree, ValueTrees, no_values, value_and}
use Rattle.partition_map.specs.Avro.{branch_of}
use Rattle.iceberg_manifest.specs.Fields.{Reading}
use Rattle.iceberg_manifest.specs.declared.error.Flaw.TheVariants.{Malformed}

-- the value at that place of a record, from 0
abbrev pub value_at : ValueTrees → ℕ → Option ValueTree
value_at no_values k = None
value_at (value_and v vs) zero = Some v
value_at (value_and v vs) (suc k) = value_at vs k

-- ---- whole numbers

abbrev pub whole_value : ValueTree → Reading (Option ℤ)
whole_value ValueTree.null = Ok None
whole_value (ValueTree.int n) = Ok (Some n)
whole_value (ValueTree.long n) = Ok (Some n)
whole_value _ = Err Malformed

abbrev pub whole_in : Option ValueTree → Reading (Option ℤ)
whole_in None = Ok None
whole_in (Some v) = whole_value (branch_of v)

-- the whole number at that place, or null
unfoldable pub whole_at : ValueTrees → ℕ → Reading (Option ℤ)
whole_at vs place = whole_in (value_at vs place)

-- The same of a field that may be absent, which is as null.
abbrev pub whole_if_any : ValueTrees → Option ℕ → Reading (Option ℤ)
whole_if_any vs None = Ok None
whole_if_any vs (Some place) = whole_at vs place

-- The same, where null is as absent: what must be there.
unfoldable pub required_whole : ValueTrees → ℕ → Reading ℤ
required_whole vs place = whole_at vs place >>= required Malformed

-- The same of a field that may be absent or null, and then is 0.
unfoldable pub whole_or_zero : ValueTrees → Option ℕ → Reading ℤ
whole_or_zero vs place = whole_if_any vs place >>= λ n. Ok (unwrap_or n (pos 0))

-- A number that a table of format version 1 hadn't: absent it is 0, and null stays null.
abbrev pub sequence_at : ValueTrees → Option ℕ → Reading (Option ℤ)
sequence_at vs None = Ok (Some (pos 0))
sequence_at vs (Some place) = whole_at vs place

-- The number is one of 32 bits.
abbrev pub is_int : ℤ → Bool
is_int (pos n) = nat_le n 2147483647
is_int (negsuc n) = nat_le n 2147483647

abbrev pub int_of : ℤ → Reading ℤ
int_of n = if is_int n then Ok n else Err Malformed

-- a number from 0
abbrev pub natural_of : ℤ → Reading ℕ
natural_of (pos n) = Ok n
natural_of (negsuc n) = Err Malformed

unfoldable pub required_int : ValueTrees → ℕ → Reading ℤ
required_int vs place = required_whole vs place >>= int_of

unfoldable pub required_natural : ValueTrees → ℕ → Reading ℕ
required_natural vs place = required_whole vs place >>= natural_of

-- ---- texts and records

abbrev pub text_value : ValueTree → Reading (List ℕ)
text_value (ValueTree.text t) = Ok t
text_value _ = Err Malformed

abbrev pub text_in : Option ValueTree → Reading (List ℕ)
text_in None = Err Malformed
text_in (Some v) = text_value (branch_of v)

-- the text at that place, which must be there
unfoldable pub required_text : ValueTrees → ℕ → Reading (List ℕ)
required_text vs place = text_in (value_at vs place)

abbrev pub record_value : ValueTree → Reading ValueTrees
record_value (ValueTree.record_of vs) = Ok vs
record_value _ = Err Malformed

abbrev pub record_within : Option ValueTree → Reading ValueTrees
record_within None = Err Malformed
record_within (Some v) = record_value (branch_of v)

-- the record at that place, which must be there
unfoldable pub required_record : ValueTrees → ℕ → Reading ValueTrees
required_record vs place = record_within (value_at vs place)
