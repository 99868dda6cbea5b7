use Rattle.std.proofs.Common.{◌≡◌, ◌≤◌, ℕ, true, false, length, refl, sym, ◌∙◌, subst, arith}
use Rattle.std.proofs.lemmas.Option.{slice_get_read}
use Rattle.lake_batch.specs.Tables.{HasRun, done_count}
use Rattle.lake_batch.proofs.Runs.{done_few, has_run_more, have_been_cut, have_ended, none_run, table_gives}
use Rattle.lake_batch.proofs.tables.run_tables.Goals as goal

pub loop-item-init : goal.loop-item-init
loop-item-init g c = record {
  ran = none_run g.S.Store g.O.Sink g.R.Commands.formats c.args.place.now (g.C.Clock.gives c.args.clock.now) c.args.tables.now c.args.store c.args.out.now _ refl refl;
  still = λ time is. is;
}

pub with-tally-requires : goal.with-tally-requires
with-tally-requires g c =
    let so_far = c.loop-item.invariant.ran in
    let few : done_count so_far.statuses ≤ length so_far.statuses = done_few so_far.statuses in
    omega (arith, so_far.done, so_far.count_is, few, c.loop-item-test.true)

pub loop-item-preserved : goal.loop-item-preserved
loop-item-preserved g c = record {
  ran = has_run_more g.S.Store g.O.Sink g.R.Commands.formats c.args.place.now (g.C.Clock.gives c.args.clock.now) c.args.tables.now c.loop-item.item-index c.item-item.result c.args.store c.loop-item.store c.run_table-next.result.0
      c.args.out.now c.loop-item.out c.run_table-next.new.out c.loop-item.tally (slice_get_read c.args.tables.now (length c.args.tables.now) c.loop-item.item-index c.item-item.result refl c.loop-item-test.true c.item-item.is) c.loop-item.invariant.ran c.in-Ok.status _
      (table_gives g.S.Store g.O.Sink g.R.Commands.formats c.args.place.now c.item-item.result (g.C.Clock.gives c.loop-item.clock) (g.C.Clock.gives c.args.clock.now) c.loop-item.invariant.still c.loop-item.store c.run_table-next.result.0 c.loop-item.out c.run_table-next.new.out c.in-Ok.status
      (rw c.in-Ok.is at c.run_table-next.ensures.ran)) (λ ends. let both : true ≡ false = sym (c.is_end.ensures.1 ends) ∙ c.if-not-is_end.true in absurd (cc both)) c.with-tally.ensures.done c.with-tally.ensures.status;
  still = λ time is. c.loop-item.invariant.still time (c.run_table-next.ensures.still time is);
}

pub returns-in-Ok-2 : goal.returns-in-Ok-2
returns-in-Ok-2 g c = have_ended g.S.Store g.O.Sink g.R.Commands.formats c.args.place.now (g.C.Clock.gives c.args.clock.now) c.args.tables.now c.loop-item.item-index c.item-item.result c.args.store c.loop-item.store c.run_table-next.result.0
    c.args.out.now c.loop-item.out c.run_table-next.new.out c.loop-item.tally (slice_get_read c.args.tables.now (length c.args.tables.now) c.loop-item.item-index c.item-item.result refl c.loop-item-test.true c.item-item.is) c.loop-item.invariant.ran c.in-Ok.status
    (table_gives g.S.Store g.O.Sink g.R.Commands.formats c.args.place.now c.item-item.result (g.C.Clock.gives c.loop-item.clock) (g.C.Clock.gives c.args.clock.now) c.loop-item.invariant.still c.loop-item.store c.run_table-next.result.0 c.loop-item.out c.run_table-next.new.out c.in-Ok.status
    (rw c.in-Ok.is at c.run_table-next.ensures.ran)) (c.is_end.ensures.0 c.if-not-is_end.false)

pub returns-in-Err : goal.returns-in-Err
returns-in-Err g c = have_been_cut g.S.Store g.O.Sink g.R.Commands.formats c.args.place.now (g.C.Clock.gives c.args.clock.now) c.args.tables.now c.loop-item.item-index c.item-item.result c.args.store c.loop-item.store c.run_table-next.result.0
    c.args.out.now c.loop-item.out c.run_table-next.new.out c.loop-item.tally (slice_get_read c.args.tables.now (length c.args.tables.now) c.loop-item.item-index c.item-item.result refl c.loop-item-test.true c.item-item.is) c.loop-item.invariant.ran c.in-Err.cut
    (rw c.in-Err.is at c.run_table-next.ensures.ran)

pub returns : goal.returns
returns g c =
    let whole : c.loop-item.item-index ≡ length c.args.tables.now = omega (arith, c.loop-item-test.false, c.loop-item.auto.item-index-end) in
    subst (λ (n : ℕ). HasRun g.S.Store g.O.Sink g.R.Commands.formats (g.C.Clock.gives c.args.clock.now) c.args.place.now c.args.tables.now n c.args.store c.loop-item.store c.args.out.now c.loop-item.out c.loop-item.tally) whole c.loop-item.invariant.ran
