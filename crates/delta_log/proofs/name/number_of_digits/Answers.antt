use Rattle.std.proofs.Common.{◌^◌, ◌<◌, ℕ, Option, MatchOption, subst, sym, ap, get_or, ◌∙◌}
use Rattle.delta_log.specs.VersionName.{IsVersionDigits}
use Rattle.delta_log.proofs.VersionLemmas.{parsed}
use Rattle.delta_log.proofs.name.number_of_digits.Goals as goal

pub returns : goal.returns
returns c =
    let P : Option ℕ → Type 0 = λ o. MatchOption o ((n : ℕ) → n < 2 ^ 64 → IsVersionDigits c.args.text.now n → ⊥) (IsVersionDigits c.args.text.now) in
    subst P (sym c.ok.ensures.value) (parsed c.args.text.now c.parse.result c.if-text-ne20.false (λ e. c.if-as_bytes-eq43.false (ap (λ bs. get_or bs 0 0) c.as_bytes.ensures.value ∙ e)) c.parse.ensures.value.0)
