use Rattle.std.proofs.Common.{[], List, ℕ, codes, sym, subst}
use Rattle.lake_sweep.specs.Reading.{IsFree}
use Rattle.lake_sweep.specs.Picking.{ArePicked}
use Rattle.lake_sweep.proofs.PickLaws.{pick_all, pick_step, picked_none}
use Rattle.lake_sweep.proofs.iceberg.unreached_paths.Goals as goal

pub loop-name-init : goal.loop-name-init
loop-name-init c = subst (λ (l : List (List ℕ)). ArePicked (IsFree c.args.reached.now) (codes "metadata/") [] l) (sym c.new-paths.ensures) (picked_none (IsFree c.args.reached.now) (codes "metadata/"))

pub loop-name-preserved : goal.loop-name-preserved
loop-name-preserved c =
    pick_step (IsFree c.args.reached.now) (codes "metadata/") c.args.names.now c.loop-name.name-index c.loop-name.paths c.loop-name.invariant c.name-item.result c.requires.sorted c.loop-name-test.true c.name-item.is c.in_ok-paths.paths c.in_ok-paths.ensures

pub returns : goal.returns
returns c = pick_all (IsFree c.args.reached.now) (codes "metadata/") c.args.names.now c.loop-name.name-index c.loop-name.paths c.loop-name.invariant c.loop-name-test.false
