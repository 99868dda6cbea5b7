use Rattle.std.proofs.Common.{refl}
use Rattle.std.specs.Option.{option_copied}
use Rattle.std.proofs.lemmas.Result.{err_from_is_err_and}
use Rattle.delta_change.proofs.ChangeLemmas.{added_sound, no_refusal, ordered_goes_on, ordered_is}
use Rattle.delta_change.proofs.LawLemmas.{leads_live}
use Rattle.delta_change.proofs.TableLemmas.{stated_sound, stated_spells}
use Rattle.delta_change.proofs.change.change_of.Goals as goal

pub returns : goal.returns
returns c =
    let commit = c.args.commit.now in
    let base = option_copied c.args.base in
    let change = c.in_ok-change.change in
    let found = ordered_is commit base change _ c.in_ok-in_order.ensures c.in_ok-change.ensures.found in
    let goes_on = ordered_goes_on commit base change _ c.in_ok-in_order.ensures c.in_ok-change.ensures.goes_on in
    record {
      found = found;
      live = leads_live commit base _ found;
      grammar = c.in_ok-change.ensures.follows.grammar;
      supported = c.in_ok-change.ensures.follows.supported;
      follows = c.in_ok-change.ensures.follows;
      fits = goes_on.fits;
      rows = added_sound commit base _ c.requires found found.diff.added_rows;
      spells = stated_spells commit commit.meta _ refl found.stated;
      schema = stated_sound commit.meta _ found.stated;
      goes_on = goes_on;
      refused = tt;
      complete = λ can. tt;
    }

pub returns-in_err-change-clause-complete : goal.returns-in_err-change-clause-complete
returns-in_err-change-clause-complete c =
    let p = err_from_is_err_and c.from_residual.result c.from_residual.ensures.1 in
    λ can. rw (p.1, p.2) (no_refusal c.args.commit.now (option_copied c.args.base) c.in_err-change.field-0.0 can c.in_err-change.ensures.refused)
