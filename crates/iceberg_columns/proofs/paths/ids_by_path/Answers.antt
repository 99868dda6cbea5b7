use Rattle.std.proofs.Common.{◌≤◌, ◌-◌, length, sym, arith, rules, w32}
use Rattle.std.proofs.lemmas.Int.{to_z-of_z}
use Rattle.iceberg_columns.proofs.PathMapLemmas.{ids_here}
use Rattle.iceberg_columns.proofs.paths.ids_by_path.Goals as goal

pub loop-place-preserved : goal.loop-place-preserved
loop-place-preserved c =
    let within : c.loop-place.place - 1 ≤ length c.args.pairs.now = let h = c.loop-place.invariant.within in omega (arith, h) in
    let same = sym (to_z-of_z w32 c.index-pairs-place.result.1 (search rules)) in
    record {
      within = within;
      holds = ids_here c.args.pairs.now c.loop-place.place c.index-pairs-place.result c.loop-place.found c.insert.new.self c.as_slice.result _ same c.loop-place-test.true c.loop-place.invariant.within c.index-pairs-place.is c.as_slice.ensures c.loop-place.invariant.holds c.in_ok-insert.ensures.updates;
    }
