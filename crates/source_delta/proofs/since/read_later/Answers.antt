use Rattle.std.proofs.Common.{◌<◌, ◌+◌, List, length, Result, refl, sym, ap, subst, arith}
use Rattle.std.proofs.lemmas.Result.{err_from_is_err_and}
use Rattle.std.specs.Prelude.{IfErr}
use Rattle.lake_store.specs.Disk.{Disk}
use Rattle.lake_store.proofs.RunLaws.{reading_begins, reading_further}
use Rattle.table_history.specs.declared.table.Commit.{Commit}
use Rattle.delta_table.proofs.Runs.{fails_never, uncontested_further}
use Rattle.source_core.specs.Answers.{IsReadRefusal}
use Rattle.source_core.specs.declared.error.SourceError.{SourceError}
use Rattle.source_delta.specs.Later.{IsOneMore}
use Rattle.source_delta.specs.Since.{IsRefusedBehind, ShowsFromPosition}
use Rattle.source_delta.proofs.SinceLaws.{can_apply_all, fit_all, lead_begins, lead_on, later_begins, later_longer, later_on, stops_behind}
use Rattle.source_delta.proofs.since.read_later.Goals as goal

pub loop-next-init : goal.loop-next-init
loop-next-init g c =
    let store = g.S.Store in
    let new = c.in_ok-later.ensures in
    let order = c.requires.order in
    let none = ap (λ (cs : List Commit). length cs) new.0 in
    let actions = new.2 in
    record {
      within = omega (arith, order);
      count = omega (arith, none);
      few = omega (arith, actions);
      are = λ told. later_begins (store.disk c.args.store.now).files c.args.version c.args.base.now c.in_ok-later.later new.0 new.1 new.2;
      fit = lead_begins c.args.base.now c.in_ok-later.later new.0 new.1;
      reads = reading_begins store g.met.S.Store.only_now c.args.store.now;
      cause = record { later = omega arith; still = λ may. may; rose = λ never. absurd never; allowed = λ never. absurd never };
      contest = record { same = refl; still = λ may. may; never = λ never. never };
    }

pub returns-in_err-take_version-clause-refused : goal.returns-in_err-take_version-clause-refused
returns-in_err-take_version-clause-refused g c told = λ position reached.
    let store = g.S.Store in
    let exit = err_from_is_err_and c.from_residual-in_err-take_version.result c.from_residual-in_err-take_version.ensures.1 in
    let so_far = c.loop-next.invariant in
    let files = (store.disk c.args.store.now).files in
    let later = c.loop-next.later in
    let count = so_far.count in
    let before : c.args.version + length later.commits < c.args.newest = omega (arith, count, c.loop-next-test.true) in
    let here = subst (λ (d : Disk). IsReadRefusal (IsRefusedBehind d.files c.loop-next.next later.table later.actions) c.in_err-take_version.field-0.0) (so_far.reads told).disk (c.in_err-take_version.ensures.refused told) in
    let step = subst (λ n. IsReadRefusal (IsRefusedBehind files n later.table later.actions) c.in_err-take_version.field-0.0) (sym count) here in
    subst (λ (r : Result (List Commit) SourceError). IfErr r (IsReadRefusal (ShowsFromPosition files position c.args.base.now))) (sym exit.1)
    (subst (IsReadRefusal (ShowsFromPosition files position c.args.base.now)) (sym exit.2)
    (stops_behind files position c.args.version c.args.newest c.args.base.now later reached c.requires.few before so_far.few (so_far.are told) c.in_err-take_version.field-0.0 step))

pub returns-in_err-take_version-clause-only_reads : goal.returns-in_err-take_version-clause-only_reads
returns-in_err-take_version-clause-only_reads g c = reading_further g.S.Store c.args.store.now c.loop-next.store c.take_version.new.store c.loop-next.invariant.reads c.in_err-take_version.ensures.only_reads

pub loop-next-preserved : goal.loop-next-preserved
loop-next-preserved g c =
    let store = g.S.Store in
    let so_far = c.loop-next.invariant in
    let before = c.loop-next.later in
    let after = c.take_version.new.self in
    let files = (store.disk c.args.store.now).files in
    let count = so_far.count in
    let longer = later_longer before after c.in_ok-take_version.ensures.sound in
    record {
      within = omega (arith, c.loop-next-test.true);
      count = omega (arith, count, longer);
      few = c.in_ok-take_version.ensures.few;
      are = λ told.
          let more = subst (λ (d : Disk). IsOneMore d.files c.loop-next.next before after) (so_far.reads told).disk (c.in_ok-take_version.ensures.next told) in
          later_on files c.args.version c.args.base.now before after (so_far.are told) (subst (λ n. IsOneMore files n before after) (sym count) more);
      fit = lead_on c.args.base.now before after so_far.fit c.in_ok-take_version.ensures.sound;
      reads = reading_further store c.args.store.now c.loop-next.store c.take_version.new.store so_far.reads c.in_ok-take_version.ensures.only_reads;
      cause = fails_never store.faults store.may_fail c.args.store.now c.loop-next.store c.take_version.new.store _ so_far.cause c.in_ok-take_version.ensures.cause;
      contest = uncontested_further store.contests store.may_contest c.args.store.now c.loop-next.store c.take_version.new.store so_far.contest c.in_ok-take_version.ensures.contest;
    }

pub returns-clause-sound : goal.returns-clause-sound
returns-clause-sound g c is = can_apply_all c.args.base.now c.loop-next.later.commits c.loop-next.later.table is c.loop-next.invariant.fit

pub returns-clause-fits : goal.returns-clause-fits
returns-clause-fits g c = fit_all c.args.base.now c.loop-next.later.commits c.loop-next.later.table c.loop-next.invariant.fit
