use Rattle.std.proofs.Common.{◌≡◌, ◌≤◌, ◌∙◌, ◌+◌, ◌++◌, ◌∷◌, [], List, Option, Some, Result, ap, arith, drop, length, subst, sym, take}
use Rattle.std.specs.Prelude.{IfErr}
use Rattle.std.proofs.lemmas.List.{drop_more, take-append-drop, take_all, take_more}
use Rattle.std.proofs.lemmas.Result.{err_from_is_err_and}
use Rattle.lake_basics.specs.declared.limits.TheConstants.{MAX_COMMITS}
use Rattle.lake_store.specs.Disk.{Disk}
use Rattle.lake_store.proofs.RunLaws as runs
use Rattle.hudi_table.specs.Reading.{IsNextHere, IsReadingOf, table_in}
use Rattle.hudi_table.specs.Refusals.{IsReadingRefusal, IsStepRefusal}
use Rattle.hudi_table.specs.declared.error.TimelineError.{TimelineError}
use Rattle.hudi_table.specs.declared.instants.CompletedInstant.{CompletedInstant}
use Rattle.hudi_table.specs.declared.reading.Latest.{Latest}
use Rattle.hudi_table.proofs.ReadingLaws.{live_if_any, reading_further, stops_at, some_none}
use Rattle.hudi_table.proofs.Runs.{fails_never, uncontested_further}
use Rattle.hudi_table.proofs.reading.read_timeline.Goals as goal

pub returns-in_err-read_next-clause-refused : goal.returns-in_err-read_next-clause-refused
returns-in_err-read_next-clause-refused g c told =
    let store = g.S.Store in
    let exit = err_from_is_err_and c.from_residual.result c.from_residual.ensures.1 in
    let so_far = c.loop-instant.invariant in
    let files = (store.disk c.args.store.now).files in
    let naming = c.args.naming in
    let table = c.args.table.now in
    let instants = c.args.instants.now in
    let i = c.loop-instant.instant-index in
    let x = c.instant-item.result in
    let e = c.in_err-read_next.field-0.0 in
    let few : length instants ≤ MAX_COMMITS = omega arith in
    let split : instants ≡ take i instants ++ x ∷ drop (i + 1) instants =
    sym (take-append-drop i instants) ∙ ap (λ l. take i instants ++ l) (drop_more instants i x c.loop-instant-test.true ∙ ap (λ y. y ∷ drop (i + 1) instants) (sym c.instant-item.is)) in
    let step = subst (λ (d : Disk). IsStepRefusal d.files naming table x (table_in c.loop-instant.latest) e) (so_far.reads told).disk (c.in_err-read_next.ensures.refused told) in
    subst (λ (r : Result (Option Latest) TimelineError). IfErr r (IsReadingRefusal files naming table instants)) (sym exit.1)
    (subst (IsReadingRefusal files naming table instants) (sym exit.2)
    (stops_at files naming table instants (take i instants) (drop (i + 1) instants) x c.loop-instant.latest e few split (so_far.read told) step))

pub returns-in_err-read_next-clause-only_reads : goal.returns-in_err-read_next-clause-only_reads
returns-in_err-read_next-clause-only_reads g c = runs.reading_further g.S.Store c.args.store.now c.loop-instant.store c.read_next.new.store c.loop-instant.invariant.reads c.in_err-read_next.ensures.only_reads

pub loop-instant-preserved : goal.loop-instant-preserved
loop-instant-preserved g c =
    let store = g.S.Store in
    let so_far = c.loop-instant.invariant in
    let old = c.args.store.now in
    let mid = c.loop-instant.store in
    let new = c.read_next.new.store in
    let files = (store.disk old).files in
    let naming = c.args.naming in
    let table = c.args.table.now in
    let instants = c.args.instants.now in
    let i = c.loop-instant.instant-index in
    let x = c.instant-item.result in
    let next = c.in_ok-read_next.field-0 in
    record {
      sound = c.in_ok-read_next.ensures.sound so_far.sound;
      some = λ e. absurd (some_none next e);
      read = λ told.
          let step = subst (λ (d : Disk). IsNextHere d.files naming table x (table_in c.loop-instant.latest) next) (so_far.reads told).disk (c.in_ok-read_next.ensures.found told) in
          let longer : take i instants ++ x ∷ [] ≡ take (i + 1) instants = ap (λ y. take i instants ++ y ∷ []) c.instant-item.is ∙ sym (take_more instants i x c.loop-instant-test.true) in
          subst (λ (l : List CompletedInstant). IsReadingOf files naming table l (Some next)) longer (reading_further files naming table (take i instants) c.loop-instant.latest x next (so_far.read told) step);
      reads = runs.reading_further store old mid new so_far.reads c.in_ok-read_next.ensures.only_reads;
      cause = fails_never store.faults store.may_fail old mid new _ so_far.cause c.in_ok-read_next.ensures.cause;
      contest = uncontested_further store.contests store.may_contest old mid new so_far.contest c.in_ok-read_next.ensures.contest;
    }

pub returns-clause-live : goal.returns-clause-live
returns-clause-live g c told =
    let files = (g.S.Store.disk c.args.store.now).files in
    let instants = c.args.instants.now in
    live_if_any files c.args.naming c.args.table.now instants c.loop-instant.latest
    (subst (λ (l : List CompletedInstant). IsReadingOf files c.args.naming c.args.table.now l c.loop-instant.latest) (take_all c.loop-instant.instant-index instants c.loop-instant-test.false) (c.loop-instant.invariant.read told))
