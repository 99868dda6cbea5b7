use Rattle.std.proofs.Common.{◌≡◌, ◌≤◌, ◌-◌, length, true, false, rules, arith}
use Rattle.schema_map.proofs.OwnNames.{held_here, own_here, twice_here}
use Rattle.schema_map.proofs.names.have_own_names.Goals as goal

pub returns-then-not-branch : goal.returns-then-not-branch
returns-then-not-branch c =
    let old : c.in_ok-insert.field-0 ≡ false = search rules in
    twice_here c.args.columns.now c.loop-place.place c.index-columns-place.result c.loop-place.seen c.as_str.result c.in_ok-insert.field-0
    c.loop-place-test.true c.loop-place.invariant.within c.index-columns-place.is c.as_str.ensures.value c.loop-place.invariant.held c.in_ok-insert.ensures.added old

pub loop-place-preserved : goal.loop-place-preserved
loop-place-preserved c =
    let fresh : c.in_ok-insert.field-0 ≡ true = search rules in
    let within : c.loop-place.place - 1 ≤ length c.args.columns.now = let h = c.loop-place.invariant.within in omega (arith, h) in
    record {
      within = within;
      held = held_here c.args.columns.now c.loop-place.place c.index-columns-place.result c.loop-place.seen c.as_str.result c.in_ok-insert.field-0
          c.loop-place-test.true c.loop-place.invariant.within c.index-columns-place.is c.as_str.ensures.value c.loop-place.invariant.held c.in_ok-insert.ensures.added c.insert.new.self c.in_ok-insert.ensures.updates;
      own = own_here c.args.columns.now c.loop-place.place c.index-columns-place.result c.loop-place.seen c.as_str.result c.in_ok-insert.field-0
          c.loop-place-test.true c.loop-place.invariant.within c.index-columns-place.is c.as_str.ensures.value c.loop-place.invariant.held c.in_ok-insert.ensures.added fresh c.loop-place.invariant.own;
    }
