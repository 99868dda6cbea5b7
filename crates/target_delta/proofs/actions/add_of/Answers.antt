use Rattle.std.proofs.Common.{◌≡◌, sym, ap, ◌∙◌, subst}
use Rattle.table_history.specs.Row.{Row}
use Rattle.table_history.specs.Path.{IsPath}
use Rattle.delta_log.specs.Sound.{HaveDistinctNames}
use Rattle.target_delta.proofs.TextLemmas.{distinct_texts}
use Rattle.target_delta.proofs.actions.add_of.Goals as goal

pub returns-clause-sound : goal.returns-clause-sound
returns-clause-sound c path distinct =
    let same : c.args.row.now.path ≡ c.in_ok-path.path = sym (ap (λ (r : Row). r.path) c.row.view_is) ∙ sym c.in_ok-path.ensures in (
      subst IsPath same path,
      subst HaveDistinctNames (sym c.from_vec.ensures) (distinct_texts c.args.partition.now c.as_slice.result.now c.in_ok-values.values.items c.in_ok-values.ensures distinct),
      c.row.invariant.1,
      c.row.invariant.0,
    )
