-- What the calls over a whole input answer, by what reading gives.
use Rattle.std.specs.Prelude.{◌≡◌, ℕ, ℤ, ◌-◌, ◌⊎◌, List, length, Result, Ok, Err}
use Rattle.avro_value.specs.declared.value.Value.{Value}
use Rattle.avro_value.specs.declared.error.AvroError.{AvroError}
use Rattle.avro_value.specs.declared.error.AvroError.TheVariants as error
use Rattle.avro_value.specs.declared.fault.Fault.{Fault}
use Rattle.avro_value.specs.declared.fault.Fault.TheVariants.{Short, BadLong, BadLength, BadIndex, BadText, BadBool, Limit}
use Rattle.avro_value.specs.declared.fault.FaultAt.{FaultAt}
use Rattle.avro_value.specs.ValueTree.{ValueTree, value_tree}
use Rattle.avro_value.specs.Reading.{Item, Read}
use Rattle.avro_value.specs.Writing.{encoding}
use Rattle.avro_value.specs.Fitting.{IsSound}

abbrev pub error_of : Fault → ℕ → AvroError
error_of Short at = error.Short at
error_of BadLong at = error.BadLong at
error_of BadLength at = error.BadLength at
error_of BadIndex at = error.BadIndex at
error_of BadText at = error.BadText at
error_of BadBool at = error.BadBool at
error_of Limit at = error.Limit at

-- The end and the place at fault are counted from the front of an input of that length.
abbrev pub Answers : ℕ → Result (Value × ℕ × ℕ) AvroError → Read ValueTree → Type 0
Answers len (Ok x) read = (rest : List ℕ) × (read ≡ Ok (value_tree x.0, rest, x.2)) × (x.1 ≡ len - length rest)
Answers len (Err e) read = (e ≡ error.Memory) ⊎ ((f : FaultAt) × (read ≡ Err f) × (e ≡ error_of f.fault (len - f.left)))

-- the same of a number at a place
abbrev pub LongAnswers : ℕ → ℕ → Result (ℤ × ℕ) AvroError → Item ℤ → Type 0
LongAnswers len at (Ok x) read = (rest : List ℕ) × (read ≡ Ok (x.0, rest)) × (x.1 ≡ len - length rest)
LongAnswers len at (Err e) read = (f : Fault) × (read ≡ Err f) × (e ≡ error_of f at)

-- what is written of a value, of which its types make more true
abbrev pub Encodes : ValueTree → Result (List ℕ) AvroError → Type 0
Encodes v (Ok bytes) = (bytes ≡ encoding v) × IsSound v
Encodes v (Err e) = e ≡ error.Memory
