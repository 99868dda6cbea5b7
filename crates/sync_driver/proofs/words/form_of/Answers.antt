use Rattle.std.proofs.Common.{◌≡◌, ◌≢◌, length, Option, sym, subst, arith, rules}
use Rattle.std.specs.Prelude.{MatchOption}
use Rattle.sync_driver.specs.declared.words.Form.{Form}
use Rattle.sync_driver.specs.Forms.{Spells}
use Rattle.sync_driver.proofs.Spellings.{no_verb, exit, triple_spells}
use Rattle.sync_driver.proofs.words.form_of.Goals as goal

pub returns-in_err-verb : goal.returns-in_err-verb
returns-in_err-verb c = exit c.args.words.now c.from_residual.result c.from_residual.ensures (no_verb c.args.words.now (c.in_err-verb.ensures))

pub returns-else-eq-4 : goal.returns-else-eq-4
returns-else-eq-4 c =
    let five : length c.args.words.now ≡ 5 = omega arith in
    let ft : c.in_ok-source-in-5.source ≢ c.in_ok-first-in-5.first = search rules in
    let fu : c.in_ok-source-in-5.source ≢ c.in_ok-second-in-5.second = search rules in
    let tu : c.in_ok-first-in-5.first ≢ c.in_ok-second-in-5.second = search rules in
    subst (λ (r : Option Form). MatchOption r ((form : Form) → Spells c.args.words.now form → ⊥) (λ form. Spells c.args.words.now form)) (sym c.triple_form.ensures)
    (triple_spells c.args.words.now _ _ _ _ five (c.in_ok-verb.ensures) (sym c.in_ok-source-in-5.ensures) (sym c.in_ok-first-in-5.ensures) (sym c.in_ok-second-in-5.ensures) ft fu tu)
