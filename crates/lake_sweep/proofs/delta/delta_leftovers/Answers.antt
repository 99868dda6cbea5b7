use Rattle.std.proofs.Common.{codes, List, ℕ, subst, ◌∙◌}
use Rattle.lake_sweep.specs.Picking.{ArePicked}
use Rattle.target_leftovers.specs.Names.{IsDeltaName}
use Rattle.lake_sweep.proofs.PickLaws.{delta_plan}
use Rattle.lake_sweep.proofs.delta.delta_leftovers.Goals as goal

pub returns-clause-planned : goal.returns-clause-planned
returns-clause-planned g c told =
    delta_plan (g.S.Store.disk c.args.store.now).files c.in_ok-paths.paths
    (subst (λ (l : List (List ℕ)). ArePicked IsDeltaName (codes "_delta_log/") l c.in_ok-paths.paths) (c.as_slice.ensures.value ∙ c.in_ok-names.ensures.names told) c.in_ok-paths.ensures)
