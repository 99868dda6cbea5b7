use Rattle.std.proofs.Common.{◌≡◌, ◌+◌, ◌++◌, drop, subst, sym}
use Rattle.std.specs.List.{filter_map}
use Rattle.hudi_table.specs.Instants.{instant_named}
use Rattle.hudi_table.proofs.Gathered.{gathers}
use Rattle.hudi_table.proofs.instants.instants_in.Goals as goal

pub loop-name-preserved : goal.loop-name-preserved
loop-name-preserved c =
    let names = c.args.names.now in
    let i = c.loop-name.name-index in
    subst (λ l. l ++ filter_map (instant_named names) (drop (i + 1) names) ≡ filter_map (instant_named names) names) (sym c.in_ok-found.ensures)
    (gathers (instant_named names) names c.loop-name.found i c.name-item.result c.loop-name-test.true (sym c.name-item.is) c.loop-name.invariant)
