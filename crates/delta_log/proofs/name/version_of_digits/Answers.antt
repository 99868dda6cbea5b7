use Rattle.std.proofs.Common.{ℕ, List, ◌≤◌, MatchOption, subst}
use Rattle.std.proofs.lemmas.Fmt.{IsAscii-from_digits}
use Rattle.std.proofs.lemmas.Str.{IsUtf8-from_ascii}
use Rattle.lake_basics.specs.declared.limits.TheConstants.{MAX_DELTA_VERSION}
use Rattle.delta_log.specs.VersionName.{IsVersionDigits}
use Rattle.delta_log.proofs.name.version_of_digits.Goals as goal

pub returns-in-Err : goal.returns-in-Err
returns-in-Err c = λ v within d. c.in-Err.ensures.cases.0 (IsUtf8-from_ascii c.args.digits.now (IsAscii-from_digits c.args.digits.now d.numeral.1))

pub returns-in-Ok : goal.returns-in-Ok
returns-in-Ok c =
    subst (λ (t : List ℕ). MatchOption c.version_of_text.result ((v : ℕ) → v ≤ MAX_DELTA_VERSION → IsVersionDigits t v → ⊥) (λ v. IsVersionDigits t v × (v ≤ MAX_DELTA_VERSION))) c.in-Ok.ensures.cases.0 c.version_of_text.ensures
