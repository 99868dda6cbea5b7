-- How a reading is refused: for want of memory, which nothing says when, or for a cause that the contracts name.
use Rattle.std.specs.Prelude.{Bool, true, false, Result}
use Rattle.lake_basics.specs.Outcome.{GivesUnlessMemory}
use Rattle.hudi_names.specs.declared.error.HudiError.{HudiError}
use Rattle.hudi_names.specs.declared.error.HudiError.TheVariants.{Memory, Malformed, Unsupported, Limit}

abbrev pub is_memory : HudiError → Bool
is_memory Memory = true
is_memory (Malformed line) = false
is_memory (Unsupported feature) = false
is_memory (Limit which) = false

-- The file as a whole isn't in its grammar.
abbrev pub malformed : HudiError
malformed = Malformed 0

-- What a function returned is what the reading gives, unless memory ran out.
abbrev pub Gives : {A : Type 0} → Result A HudiError → Result A HudiError → Type 0
Gives result reading = GivesUnlessMemory is_memory (λ a. a) result reading

-- The same, seen by view.
abbrev pub GivesBy : {A B : Type 0} → (A → B) → Result A HudiError → Result B HudiError → Type 0
GivesBy view result reading = GivesUnlessMemory is_memory view result reading
