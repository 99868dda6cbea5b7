use Rattle.std.proofs.Common.{◌≤◌, ◌-◌, length, refl, arith}
use Rattle.iceberg_field_ids.proofs.IdMap.{held_before}
use Rattle.iceberg_field_ids.proofs.ids.ids_by_path.Goals as goal

pub loop-place-preserved : goal.loop-place-preserved
loop-place-preserved c =
    let within : c.loop-place.place - 1 ≤ length c.args.known.now = let h = c.loop-place.invariant.within in omega (arith, h) in
    record {
      within = within;
      holds = held_before c.args.known.now c.loop-place.place c.index-known-place.result c.loop-place.found c.insert.new.self c.as_slice.result _
          c.loop-place-test.true c.loop-place.invariant.within c.index-known-place.is c.as_slice.ensures refl c.in_ok-insert.ensures.updates c.loop-place.invariant.holds;
    }
