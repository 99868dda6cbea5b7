-- What decoding promises, in the words of the spellings.
use Rattle.std.specs.Prelude.{◌≡◌, ℕ, ℤ, ◌+◌, ◌-◌, ◌≤◌, List, ◌++◌, length, drop, slice_range}
use Rattle.avro_value.specs.declared.error.AvroError.{AvroError}
use Rattle.avro_value.specs.declared.error.AvroError.TheVariants as error
use Rattle.avro_value.specs.declared.fault.Fault.{Fault}
use Rattle.avro_value.specs.declared.fault.FaultAt.{FaultAt}
use Rattle.avro_value.specs.Answers.{error_of}
use Rattle.avro_value.specs.Faults.{FaultsInValue, LacksVarint}
use Rattle.avro_value.specs.Varint.{Long}
use Rattle.avro_value.specs.Layout.{Layout}
use Rattle.avro_value.specs.ValueTree.{ValueTree, value_count}
use Rattle.avro_value.specs.Spelling.{Spells}

-- The bytes from at to end spell the value, and no more than limit values are in it, itself among them.
pub record IsSpelled (limit : ℕ) (l : Layout) (bytes : List ℕ) (at : ℕ) (v : ValueTree) (end : ℕ) : Type 0 where
  pub after : at ≤ end
  pub within : end ≤ length bytes
  pub spelled : Spells l v (slice_range bytes at end)
  pub few : value_count v ≤ limit

-- No spelling begins another one, whatever follows each.
abbrev pub IsPrefixFree : Layout → Type 0
IsPrefixFree l = (v w : ValueTree) (a b x y : List ℕ) → Spells l v a → Spells l w b → a ++ x ≡ b ++ y → (a ≡ b) × (v ≡ w)

-- The error is that of the first item at fault from at on, at its place.
pub record IsRefused (limit : ℕ) (l : Layout) (bytes : List ℕ) (at : ℕ) (e : AvroError) : Type 0 where
  pub fault : FaultAt
  pub first : FaultsInValue l (drop at bytes) limit fault
  pub within : fault.left + at ≤ length bytes
  pub is : e ≡ error_of fault.fault (length bytes - fault.left)

-- The refusal is that of too many values.
abbrev pub IsLimit : AvroError → Type 0
IsLimit e = (at : ℕ) × (e ≡ error.Limit at)

-- No value is spelled from at on, however many values may be made.
abbrev pub IsUnspelled : Layout → List ℕ → ℕ → Type 0
IsUnspelled l bytes at = (limit : ℕ) (v : ValueTree) (end : ℕ) → IsSpelled limit l bytes at v end → ⊥

-- The bytes from at to end spell the number.
pub record IsLongAt (bytes : List ℕ) (at : ℕ) (n : ℤ) (end : ℕ) : Type 0 where
  pub after : at ≤ end
  pub within : end ≤ length bytes
  pub spelled : Long n (slice_range bytes at end)

-- No number is spelled from at on, and the error says why.
abbrev pub IsNoLongAt : List ℕ → ℕ → AvroError → Type 0
IsNoLongAt bytes at e = (fault : Fault) × LacksVarint fault (drop at bytes) × (e ≡ error_of fault at)
