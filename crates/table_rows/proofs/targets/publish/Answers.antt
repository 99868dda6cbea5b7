use Rattle.std.proofs.Common.{◌≡◌, ◌⊎◌, ◌<◌, ◌∷◌, [], Option, subst, ◌∙◌}
use Rattle.std.specs.Prelude.{IfSome}
use Rattle.table_history.specs.Tables.{CanApply, LeadsTo}
use Rattle.table_history.specs.declared.table.Commit.{Commit}
use Rattle.table_history.specs.declared.table.Table.{Table}
use Rattle.table_rows.proofs.Publishable.{can_publish, known_columns, not_none}
use Rattle.table_rows.proofs.targets.publish.Goals as goal

pub commit-requires-clause-can : goal.commit-requires-clause-can
commit-requires-clause-can g c =
    let target = g.T.Target in
    let t = c.args.target.now in
    let kept = c.in-Some.kept in
    let view = target.view t kept in
    let names = c.as_slice-partition.result.now in
    let made = c.in_ok-change_to in
    let commit : Commit = record { position = c.in_ok-from_str.field-0; change = made.field-0 } in
    let known : (view.table.partition ≡ names) ⊎ (0 < view.commits) = subst (λ (o : Option _). IfSome o (λ k. ((target.view t k).table.partition ≡ names) ⊎ (0 < (target.view t k).commits))) c.in-Some.is c.in_ok-kept.ensures.columns in
    let columns : view.table.partition ≡ c.args.table.now.partition = known_columns view.table.partition names view.commits known (λ published. g.met.T.Target.fits_partition t kept names (commit ∷ []) (not_none commit) c.in_ok-fits.ensures.fits published) ∙ c.as_slice-partition.ensures in
    can_publish view c.args.table.now commit c.requires
    (subst (λ (before : Table). CanApply before commit.change) c.table.ensures made.ensures.fits)
    (subst (λ (before : Table). LeadsTo before.rows commit.change.removed commit.change.added c.args.table.now.rows) c.table.ensures made.ensures.leads)
    made.ensures.schema columns
