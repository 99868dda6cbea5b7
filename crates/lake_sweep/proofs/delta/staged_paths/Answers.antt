use Rattle.std.proofs.Common.{[], List, ℕ, codes, sym, subst}
use Rattle.target_leftovers.specs.Names.{IsDeltaName}
use Rattle.lake_sweep.specs.Picking.{ArePicked}
use Rattle.lake_sweep.proofs.PickLaws.{pick_all, pick_step, picked_none}
use Rattle.lake_sweep.proofs.delta.staged_paths.Goals as goal

pub loop-name-init : goal.loop-name-init
loop-name-init c = subst (λ (l : List (List ℕ)). ArePicked IsDeltaName (codes "_delta_log/") [] l) (sym c.new-paths.ensures) (picked_none IsDeltaName (codes "_delta_log/"))

pub loop-name-preserved : goal.loop-name-preserved
loop-name-preserved c =
    pick_step IsDeltaName (codes "_delta_log/") c.args.names.now c.loop-name.name-index c.loop-name.paths c.loop-name.invariant c.name-item.result c.requires c.loop-name-test.true c.name-item.is c.in_ok-paths.paths c.in_ok-paths.ensures

pub returns : goal.returns
returns c = pick_all IsDeltaName (codes "_delta_log/") c.args.names.now c.loop-name.name-index c.loop-name.paths c.loop-name.invariant c.loop-name-test.false
