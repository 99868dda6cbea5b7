-- What a reading gives: a value, or the fault that it meets first. Memory may run out instead.
use Rattle.std.specs.Prelude.{◌≡◌, List, [], ◌∷◌, ◌++◌, Bool, true, false, Option, Some, None, Result, Ok, Err}
use Rattle.lake_basics.specs.declared.outcome.ReadError.{ReadError}
use Rattle.lake_basics.specs.declared.outcome.ReadError.TheVariants as errors

-- One reading, and then the next one over what it gave.
infixl 10 ◌>>=◌
abbrev pub ◌>>=◌ : {A B E : Type 0} → Result A E → (A → Result B E) → Result B E
(Ok x) >>= f = f x
(Err e) >>= f = Err e

-- What must be there, or that fault.
abbrev pub required : {A E : Type 0} → E → Option A → Result A E
required fault None = Err fault
required fault (Some a) = Ok a

-- What each gives, in order, or the first fault.
abbrev pub each : {A B E : Type 0} → (A → Result B E) → List A → Result (List B) E
each f [] = Ok []
each f (x ∷ xs) = do
  first ← f x
  others ← each f xs
  Ok (first ∷ others)

-- These, and behind them what a reading gives.
abbrev pub with_front : {B E : Type 0} → List B → Result (List B) E → Result (List B) E
with_front front reading = do
  rest ← reading
  Ok (front ++ rest)

-- The same reading under another name of its fault.
abbrev pub with_fault : {A E F : Type 0} → (E → F) → Result A E → Result A F
with_fault name (Ok x) = Ok x
with_fault name (Err e) = Err (name e)

-- What a function refused is the fault that the reading meets, unless memory ran out.
abbrev pub Fails : {B F : Type 0} → ReadError F → Result B F → Type 0
Fails errors.Memory reading = Unit {0}
Fails (errors.Fault fault) reading = reading ≡ Err fault

-- What a function returned, seen by view, is what the reading gives, unless memory ran out.
abbrev pub Gives : {A B F : Type 0} → (A → B) → Result A (ReadError F) → Result B F → Type 0
Gives view (Ok x) reading = reading ≡ Ok (view x)
Gives view (Err e) reading = Fails e reading

-- The same of an error type of its own, in which is_memory tells that memory ran out.
abbrev pub FailsUnlessMemory : {B E : Type 0} → Bool → E → Result B E → Type 0
FailsUnlessMemory true e reading = Unit {0}
FailsUnlessMemory false e reading = reading ≡ Err e

abbrev pub GivesUnlessMemory : {A B E : Type 0} → (E → Bool) → (A → B) → Result A E → Result B E → Type 0
GivesUnlessMemory is_memory view (Ok x) reading = reading ≡ Ok (view x)
GivesUnlessMemory is_memory view (Err e) reading = FailsUnlessMemory (is_memory e) e reading
