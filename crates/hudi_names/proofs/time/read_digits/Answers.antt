use Rattle.std.proofs.Common.{◌≡◌, ◌^◌, ◌<◌, ℕ, Option, MatchOption, IfSome, subst, sym, ap, get_or, ◌∙◌}
use Rattle.std.specs.Str.Parse.{digits_value}
use Rattle.hudi_names.specs.Time.{IsDigits}
use Rattle.hudi_names.proofs.TimeLemmas.{parsed}
use Rattle.hudi_names.proofs.time.read_digits.Goals as goal

pub returns-clause-digits : goal.returns-clause-digits
returns-clause-digits c =
    let P : Option ℕ → Type 0 = λ o. MatchOption o (IsDigits c.args.text.now → ⊥) (λ n. IsDigits c.args.text.now × (n ≡ digits_value 10 c.args.text.now)) in
    subst P (sym c.ok.ensures.value) (parsed c.args.text.now c.parse.result c.if-text-ne17.false (λ e. c.if-as_bytes-eq43.false (ap (λ bs. get_or bs 0 0) c.as_bytes.ensures.value ∙ e)) c.parse.ensures.value.0).0

pub returns-clause-small : goal.returns-clause-small
returns-clause-small c =
    let P : Option ℕ → Type 0 = λ o. IfSome o (λ n. n < 10 ^ 17) in
    subst P (sym c.ok.ensures.value) (parsed c.args.text.now c.parse.result c.if-text-ne17.false (λ e. c.if-as_bytes-eq43.false (ap (λ bs. get_or bs 0 0) c.as_bytes.ensures.value ∙ e)) c.parse.ensures.value.0).1
