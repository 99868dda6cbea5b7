-- Answers, one behind the other.
use Rattle.std.proofs.Common.{◌≡◌, ℕ, List, Bool, true, false, Result, Err, refl, sym, subst}
use Rattle.lake_basics.specs.declared.outcome.ReadError.{ReadError}
use Rattle.lake_basics.specs.declared.outcome.ReadError.TheVariants as read_errors
use Rattle.lake_basics.specs.Outcome.{◌>>=◌, Fails, FailsUnlessMemory}
use Rattle.delta_log.specs.declared.error.DeltaError.{DeltaError}
use Rattle.delta_log.specs.declared.error.Fault.{Fault}
use Rattle.delta_log.specs.declared.error.Fault.TheVariants.{Malformed, Unsupported, Limit, DoublePath}
use Rattle.delta_log.specs.Judging.{Answers, IsErrorAt, error_at, is_memory, with_line}
use Rattle.delta_feeding.specs.Feeding.{LinesRead, one_more, with_next_line}

fails_on_by : {A B : Type 0} (v : Bool) (e : DeltaError) (r : Result A DeltaError) (f : A → Result B DeltaError) → FailsUnlessMemory v e r → FailsUnlessMemory v e (r >>= f)
fails_on_by true e r f h = tt
fails_on_by false e r f h = rw h refl

-- a failure ends what comes behind it
pub fails_on : {A B : Type 0} (e : DeltaError) (r : Result A DeltaError) (f : A → Result B DeltaError) → FailsUnlessMemory (is_memory e) e r → FailsUnlessMemory (is_memory e) e (r >>= f)
fails_on e r f h = fails_on_by (is_memory e) e r f h

-- the same answer to a reading that is equal
pub answers_same : {A : Type 0} (result r s : Result A DeltaError) → r ≡ s → Answers result r → Answers result s
answers_same {A} result r s is h = subst (λ (q : Result A DeltaError). Answers result q) is h

-- ---- one line more

abbrev Tells : LinesRead → List ℕ → DeltaError → Type 0
Tells s line e = FailsUnlessMemory (is_memory e) e (with_next_line s line)

fault_told : (s : LinesRead) (line : List ℕ) (n : ℕ) (fault : Fault) → with_next_line s line ≡ Err (error_at n fault) → Tells s line (error_at n fault)
fault_told s line n Malformed is = is
fault_told s line n (Unsupported feature) is = is
fault_told s line n (Limit which) is = is
fault_told s line n DoublePath is = is

-- a line at fault is told with its number
pub line_fails : (s : LinesRead) (line : List ℕ) (error : ReadError Fault) (e : DeltaError) → IsErrorAt (one_more s).lines error e → Fails error (with_line s.commit line) → Tells s line e
unfolding with_next_line
line_fails s line read_errors.Memory e at reading = subst (Tells s line) (sym at) tt
line_fails s line (read_errors.Fault fault) e at reading = subst (Tells s line) (sym at) (fault_told s line (one_more s).lines fault (rw reading refl))
