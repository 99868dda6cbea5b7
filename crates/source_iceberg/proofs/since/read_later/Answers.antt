use Rattle.std.proofs.Common.{◌≡◌, ◌++◌, ◌+◌, ◌∷◌, [], List, Option, Result, drop, take, refl, sym, ap, subst, ◌∙◌, arith}
use Rattle.std.specs.Prelude.{IfErr}
use Rattle.std.proofs.lemmas.List.{drop_more, take-append-drop, take_all, take_more}
use Rattle.std.proofs.lemmas.Result.{err_from_is_err_and}
use Rattle.lake_store.specs.Disk.{Disk}
use Rattle.lake_store.proofs.RunLaws.{reading_begins, reading_further}
use Rattle.table_history.specs.declared.table.Commit.{Commit}
use Rattle.iceberg_metadata.specs.declared.metadata.Snapshot.{Snapshot}
use Rattle.iceberg_table.proofs.Runs.{fails_never, uncontested_further}
use Rattle.source_core.specs.Answers.{IsReadRefusal}
use Rattle.source_core.specs.declared.error.SourceError.{SourceError}
use Rattle.iceberg_manifest.specs.declared.partition.PartColumn.{PartColumn}
use Rattle.iceberg_change.specs.Behind.{AreReadFor, GoesOnFrom, IsListed}
use Rattle.source_iceberg.specs.Later.{IsOneMore}
use Rattle.source_iceberg.specs.Since.{IsRefusedBehind, StopsBehind}
use Rattle.source_iceberg.proofs.SinceLaws.{Made, all_made, can_apply_all, commits_begin, commits_on, fit_all, lead_begins, lead_on, stops_at}
use Rattle.source_iceberg.proofs.since.read_later.Goals as goal

pub loop-snapshot-init : goal.loop-snapshot-init
loop-snapshot-init g c =
    let store = g.S.Store in
    let later = c.in_ok-later.later in
    let new = c.in_ok-later.ensures in
    record {
      few = new.few;
      made = λ told. commits_begin (store.disk c.args.store.now).files c.args.metadata.now c.args.base.now later new.made.0 new.made.1 new.counts;
      fit = lead_begins c.args.base.now later new.made.0 new.made.1;
      goes_on = subst (λ (o : Option (List PartColumn)). GoesOnFrom later.table later.listed.manifests o) (sym new.on) tt;
      listed = λ told. subst (λ (o : Option (List PartColumn)). AreReadFor (store.disk c.args.store.now).files c.args.metadata.now.location later.listed.manifests o) (sym new.on) tt;
      reads = reading_begins store g.met.S.Store.only_now c.args.store.now;
      cause = record { later = omega arith; still = λ m. m; rose = λ never. absurd never; allowed = λ never. absurd never };
      contest = record { same = refl; still = λ m. m; never = λ never. never };
    }

pub returns-in_err-later-2-clause-refused : goal.returns-in_err-later-2-clause-refused
returns-in_err-later-2-clause-refused g c told =
    let exit = err_from_is_err_and c.from_residual-in_err-later-2.result c.from_residual-in_err-later-2.ensures.1 in
    let store = g.S.Store in
    let files = (store.disk c.args.store.now).files in
    let m = c.args.metadata.now in
    let xs = c.args.snapshots.now in
    let i = c.loop-snapshot.snapshot-index in
    let x = c.snapshot-item.result in
    let later = c.loop-snapshot.later in
    let so_far = c.loop-snapshot.invariant in
    let e = c.in_err-later-2.field-0.0 in
    let at : drop i xs ≡ x ∷ drop (i + 1) xs = drop_more xs i x c.loop-snapshot-test.true ∙ ap (λ (y : Snapshot). y ∷ drop (i + 1) xs) (sym c.snapshot-item.is) in
    let split : xs ≡ take i xs ++ x ∷ drop (i + 1) xs = sym (take-append-drop i xs) ∙ ap (λ (l : List Snapshot). take i xs ++ l) at in
    let P : SourceError → Type 0 = StopsBehind files c.args.version m c.args.base.now xs in
    let made = so_far.made told in
    let step = subst (λ (d : Disk). IsReadRefusal (IsRefusedBehind d.files c.args.version m later.table made.0 x) e) (so_far.reads told).disk (c.in_err-later-2.ensures.refused told (subst (λ (d : Disk). IsListed d.files m.location later.listed) (sym (so_far.reads told).disk) (so_far.listed told)) made.0 made.1) in
    subst (λ (r : Result (List Commit) SourceError). IfErr r (IsReadRefusal P)) (sym exit.1)
    (subst (IsReadRefusal P) (sym exit.2)
    (stops_at files c.args.version m c.args.base.now xs (take i xs) (drop (i + 1) xs) x later split made so_far.few e step))

pub returns-in_err-later-2-clause-only_reads : goal.returns-in_err-later-2-clause-only_reads
returns-in_err-later-2-clause-only_reads g c = reading_further g.S.Store c.args.store.now c.loop-snapshot.store c.with_snapshot.new.store c.loop-snapshot.invariant.reads c.in_err-later-2.ensures.only_reads

pub loop-snapshot-preserved : goal.loop-snapshot-preserved
loop-snapshot-preserved g c =
    let store = g.S.Store in
    let files = (store.disk c.args.store.now).files in
    let m = c.args.metadata.now in
    let base = c.args.base.now in
    let xs = c.args.snapshots.now in
    let i = c.loop-snapshot.snapshot-index in
    let x = c.snapshot-item.result in
    let before = c.loop-snapshot.later in
    let after = c.in_ok-later-2.later in
    let so_far = c.loop-snapshot.invariant in
    let longer : take (i + 1) xs ≡ take i xs ++ x ∷ [] = take_more xs i x c.loop-snapshot-test.true ∙ ap (λ (y : Snapshot). take i xs ++ y ∷ []) (sym c.snapshot-item.is) in
    let here : store.tells → IsListed (store.disk c.loop-snapshot.store).files m.location before.listed = λ told. subst (λ (d : Disk). IsListed d.files m.location before.listed) (sym (so_far.reads told).disk) (so_far.listed told) in
    record {
      few = c.in_ok-later-2.ensures.few;
      made = λ told.
          let more = subst (λ (d : Disk). IsOneMore d.files m x before after) (so_far.reads told).disk (c.in_ok-later-2.ensures.next told (here told)) in
          subst (λ (ss : List Snapshot). Made files m base ss after) (sym longer) (commits_on files m (take i xs) x base before after (so_far.made told) more);
      fit = lead_on base before after so_far.fit (c.in_ok-later-2.ensures.sound c.requires);
      goes_on = c.in_ok-later-2.ensures.on;
      listed = λ told. subst (λ (d : Disk). IsListed d.files m.location after.listed) (so_far.reads told).disk (c.in_ok-later-2.ensures.listed told (here told));
      reads = reading_further store c.args.store.now c.loop-snapshot.store c.with_snapshot.new.store so_far.reads c.in_ok-later-2.ensures.only_reads;
      cause = fails_never store.faults store.may_fail c.args.store.now c.loop-snapshot.store c.with_snapshot.new.store _ so_far.cause c.in_ok-later-2.ensures.cause;
      contest = uncontested_further store.contests store.may_contest c.args.store.now c.loop-snapshot.store c.with_snapshot.new.store so_far.contest c.in_ok-later-2.ensures.contest;
    }

pub returns-clause-commits : goal.returns-clause-commits
returns-clause-commits g c told =
    let store = g.S.Store in
    let later = c.loop-snapshot.later in
    let so_far = c.loop-snapshot.invariant in
    let files = (store.disk c.args.store.now).files in
    let all = subst (λ (ss : List Snapshot). Made files c.args.metadata.now c.args.base.now ss later) (take_all c.loop-snapshot.snapshot-index c.args.snapshots.now c.loop-snapshot-test.false) (so_far.made told) in
    all_made files c.args.metadata.now c.args.base.now c.args.snapshots.now later all so_far.few

pub returns-clause-fits : goal.returns-clause-fits
returns-clause-fits g c = fit_all c.args.base.now c.loop-snapshot.later.commits c.loop-snapshot.later.table c.loop-snapshot.invariant.fit

pub returns-clause-sound : goal.returns-clause-sound
returns-clause-sound g c is = can_apply_all c.args.base.now c.loop-snapshot.later.commits c.loop-snapshot.later.table c.loop-snapshot.invariant.fit
