use Rattle.std.proofs.Common.{ℕ, ℤ, List, MatchOption, subst}
use Rattle.hudi_names.specs.Time.{IsTime}
use Rattle.std.proofs.lemmas.Fmt.{IsAscii-from_digits}
use Rattle.std.proofs.lemmas.Str.{IsUtf8-from_ascii}
use Rattle.hudi_names.proofs.time.read_time.Goals as goal

pub returns-in-Err : goal.returns-in-Err
returns-in-Err c = λ ms t. c.in-Err.ensures.cases.0 (IsUtf8-from_ascii c.args.digits.now (IsAscii-from_digits c.args.digits.now t.digits.numeral.1))

pub returns-in-Ok : goal.returns-in-Ok
returns-in-Ok c = subst (λ (t : List ℕ). MatchOption c.time_of_text.result ((ms : ℤ) → IsTime t ms → ⊥) (λ ms. IsTime t ms)) c.in-Ok.ensures.cases.0 c.time_of_text.ensures
