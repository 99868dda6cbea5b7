use Rattle.std.proofs.Common.{◌≤◌, ◌-◌, length, sym, arith, rules, w64, get_or, pos}
use Rattle.std.proofs.lemmas.Int.{to_z-of_z}
use Rattle.iceberg_metadata.proofs.IdSetLemmas.{held_here, own_here, twice_here}
use Rattle.iceberg_metadata.proofs.ids.id_set.Goals as goal

pub returns-then-not-branch : goal.returns-then-not-branch
returns-then-not-branch c =
    let same = sym (to_z-of_z w64 (get_or c.args.ids.now (c.loop-place.place - 1) (pos 0)) (search rules)) in
    twice_here c.args.ids.now c.loop-place.place _ c.loop-place.set c.in_ok-insert.field-0 c.loop-place-test.true c.loop-place.invariant.within same c.loop-place.invariant.held c.in_ok-insert.ensures.added c.if-not-branch.true

pub loop-place-preserved : goal.loop-place-preserved
loop-place-preserved c =
    let within : c.loop-place.place - 1 ≤ length c.args.ids.now = let h = c.loop-place.invariant.within in omega (arith, h) in
    let same = sym (to_z-of_z w64 (get_or c.args.ids.now (c.loop-place.place - 1) (pos 0)) (search rules)) in
    record {
      within = within;
      held = held_here c.args.ids.now c.loop-place.place _ c.loop-place.set c.in_ok-insert.field-0 c.loop-place-test.true c.loop-place.invariant.within same c.loop-place.invariant.held c.in_ok-insert.ensures.added c.insert.new.self c.in_ok-insert.ensures.updates;
      own = own_here c.args.ids.now c.loop-place.place _ c.loop-place.set c.in_ok-insert.field-0 c.loop-place-test.true c.loop-place.invariant.within same c.loop-place.invariant.held c.in_ok-insert.ensures.added c.if-not-branch.false c.loop-place.invariant.own;
    }
