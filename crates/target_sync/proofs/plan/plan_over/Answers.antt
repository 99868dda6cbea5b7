use Rattle.std.proofs.Common.{refl, subst, ◌∙◌}
use Rattle.table_history.specs.Tables.{CanApply, LeadsTo}
use Rattle.table_history.specs.declared.table.Commit.{Commit}
use Rattle.table_history.specs.declared.table.Table.{Table}
use Rattle.target_sync.specs.Dues.{IsChangeTo}
use Rattle.target_core.proofs.Publishable.{publishable_after}
use Rattle.target_sync.proofs.plan.plan_over.Goals as goal

pub returns : goal.returns
returns g c =
    let commit : Commit = c.in_ok-commit.commit in
    let change = commit.change in
    let before : Table = (g.T.Target.view c.args.target.now c.args.kept).table in
    let is_change = subst (λ (t : Table). IsChangeTo t c.args.table.now change) c.table.ensures c.in_ok-commit.ensures.change in
    let leads = subst (λ (t : Table). LeadsTo t.rows change.removed change.added c.args.table.now.rows) c.table.ensures c.in_ok-commit.ensures.leads in
    record {
      is_kept = refl;
      commit = commit;
      commits = c.from_vec.ensures ∙ c.in_ok-vec.ensures.items;
      position = c.in_ok-commit.ensures.position;
      change = is_change;
      leads = leads;
      partition = c.in_ok-partition.ensures ∙ c.as_slice.ensures;
      full = refl;
      id = refl;
      can = λ columns. record {
        change = subst (λ (t : Table). CanApply t change) c.table.ensures c.in_ok-commit.ensures.fits;
        after = λ t is. publishable_after before c.args.table.now t change c.requires leads is_change.schema columns is;
      };
    }
