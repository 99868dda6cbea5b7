use Rattle.std.proofs.Common.{◌≡◌, ◌∙◌, Some, Result, Err, sym, ap, subst}
use Rattle.std.proofs.lemmas.Result.{err_from_is_err_and}
use Rattle.source_core.specs.declared.error.SourceError.{SourceError}
use Rattle.source_core.specs.declared.error.SourceError.TheVariants.{StoreFault}
use Rattle.table_history.specs.declared.kind.Kind.{Kind}
use Rattle.target_core.specs.SeenView.{IsSeen, IsSeenSound}
use Rattle.target_core.specs.declared.target.Seen.{Seen}
use Rattle.sync_driver.specs.Checked.{IsCheck}
use Rattle.target_sync.specs.Sources.{source_meaning}
use Rattle.target_sync.specs.Targets.{target_facts}
use Rattle.sync_driver.specs.declared.checking.Same.{Same}
use Rattle.target_sync.specs.declared.status.Status.{Status}
use Rattle.target_sync.proofs.Counting.{fails_as}
use Rattle.sync_driver.proofs.Checks.{kept_refused, rows_compared, whole_refused}
use Rattle.target_sync.proofs.Syncing.{Laws}
use Rattle.sync_driver.proofs.checking.check_from.Goals as goal

pub returns-in_err-kept : goal.returns-in_err-kept
returns-in_err-kept g c =
    let store = g.S.Store in
    let t = c.args.target.now in
    let f = c.args.source.now in
    let old = c.args.store.now in
    let laws : Laws g.F.Source f g.T.Target t = record {
      source_own = record {
        head_own = g.met.F.Source.head_own f;
        table_own = g.met.F.Source.table_own f;
        since_own = g.met.F.Source.since_own f;
        holds_own = g.met.F.Source.holds_own f;
        absent_own = g.met.F.Source.absent_own f;
        reaches_own = g.met.F.Source.reaches_own f;
        one_head = g.met.F.Source.one_head f;
        ends = g.met.F.Source.ends f;
        none_at_head = g.met.F.Source.none_at_head f;
      };
      views = record { one_view = g.met.T.Target.one_view t; absent_any = g.met.T.Target.absent_any t; published = g.met.T.Target.published t };
      crash = record { reads = g.met.T.Target.crash_reads t; carries = g.met.T.Target.crash_carries t; settled = g.met.T.Target.crash_settled t; within = g.met.T.Target.carries_within t };
      kept_view = g.met.T.Target.kept_view t;
      not_foreign = g.met.T.Target.not_foreign t;
    } in
    let files = (store.disk old).files in
    let exit = err_from_is_err_and c.from_residual-in_err-kept.result c.from_residual-in_err-kept.ensures.1 in
    let e : Status = c.in_err-kept.field-0.0 in
    subst (λ (r : Result Same Status). IsCheck store (source_meaning g.F.Source f) (target_facts g.T.Target t) old c.inspected.new.store (Some r)) (sym (exit.1 ∙ ap (λ (s : Status). Err s) exit.2))
    (kept_refused store g.F.Source f g.T.Target t laws (g.met.T.Target.one_path t) old c.inspected.new.store c.in_ok-seen.ensures.only_reads _ _ c.in_ok-seen.ensures.cause c.in_ok-seen.ensures.contest c.args.head.now c.requires.head c.requires.there c.in_ok-seen.seen
    (λ told. subst (λ (k : Kind). IsSeen (g.T.Target.reads t files) (g.T.Target.is_foreign t k files) (g.T.Target.view t) (λ kept. g.T.Target.stands_for t kept files) k c.in_ok-seen.seen) c.kind.ensures (c.in_ok-seen.ensures.seen told))
    e c.in_err-kept.ensures.refused)

pub returns-in-Ok : goal.returns-in-Ok
returns-in-Ok g c =
    let store = g.S.Store in
    let t = c.args.target.now in
    let f = c.args.source.now in
    let old = c.args.store.now in
    let laws : Laws g.F.Source f g.T.Target t = record {
      source_own = record {
        head_own = g.met.F.Source.head_own f;
        table_own = g.met.F.Source.table_own f;
        since_own = g.met.F.Source.since_own f;
        holds_own = g.met.F.Source.holds_own f;
        absent_own = g.met.F.Source.absent_own f;
        reaches_own = g.met.F.Source.reaches_own f;
        one_head = g.met.F.Source.one_head f;
        ends = g.met.F.Source.ends f;
        none_at_head = g.met.F.Source.none_at_head f;
      };
      views = record { one_view = g.met.T.Target.one_view t; absent_any = g.met.T.Target.absent_any t; published = g.met.T.Target.published t };
      crash = record { reads = g.met.T.Target.crash_reads t; carries = g.met.T.Target.crash_carries t; settled = g.met.T.Target.crash_settled t; within = g.met.T.Target.carries_within t };
      kept_view = g.met.T.Target.kept_view t;
      not_foreign = g.met.T.Target.not_foreign t;
    } in
    let files = (store.disk old).files in
    let kept = c.in_ok-kept.kept in
    let at = c.in_ok-kept.ensures.kept in
    let Seeing : Kind → Seen _ → Type 0 = λ k s. IsSeen (g.T.Target.reads t files) (g.T.Target.is_foreign t k files) (g.T.Target.view t) (λ kept. g.T.Target.stands_for t kept files) k s in
    let sound = subst (λ (s : Seen _). IsSeenSound (g.T.Target.view t) (g.F.Source.kind f) s) at.ours (subst (λ (k : Kind). IsSeenSound (g.T.Target.view t) k c.in_ok-seen.seen) c.kind.ensures c.in_ok-seen.ensures.sound) in
    let stands : store.tells → g.T.Target.stands_for t kept files = λ told. (subst (Seeing c.kind.result) at.ours (c.in_ok-seen.ensures.seen told)).0 in
    rows_compared store g.F.Source f g.T.Target t laws (g.met.T.Target.one_path t) old c.inspected.new.store c.whole.new.store c.in_ok-seen.ensures.only_reads _ _ c.in_ok-seen.ensures.cause c.in_ok-seen.ensures.contest c.in-Ok.ensures.only_reads
    c.args.head.now c.requires.head c.requires.there kept stands sound.2 at.marked _ c.in-Ok.ensures.cause c.in-Ok.ensures.contest c.in-Ok.table c.in-Ok.ensures.table c.compared.result c.compared.ensures

pub returns : goal.returns
returns g c =
    let store = g.S.Store in
    let t = c.args.target.now in
    let f = c.args.source.now in
    let old = c.args.store.now in
    let laws : Laws g.F.Source f g.T.Target t = record {
      source_own = record {
        head_own = g.met.F.Source.head_own f;
        table_own = g.met.F.Source.table_own f;
        since_own = g.met.F.Source.since_own f;
        holds_own = g.met.F.Source.holds_own f;
        absent_own = g.met.F.Source.absent_own f;
        reaches_own = g.met.F.Source.reaches_own f;
        one_head = g.met.F.Source.one_head f;
        ends = g.met.F.Source.ends f;
        none_at_head = g.met.F.Source.none_at_head f;
      };
      views = record { one_view = g.met.T.Target.one_view t; absent_any = g.met.T.Target.absent_any t; published = g.met.T.Target.published t };
      crash = record { reads = g.met.T.Target.crash_reads t; carries = g.met.T.Target.crash_carries t; settled = g.met.T.Target.crash_settled t; within = g.met.T.Target.carries_within t };
      kept_view = g.met.T.Target.kept_view t;
      not_foreign = g.met.T.Target.not_foreign t;
    } in
    let files = (store.disk old).files in
    let kept = c.in_ok-kept.kept in
    let at = c.in_ok-kept.ensures.kept in
    let Seeing : Kind → Seen _ → Type 0 = λ k s. IsSeen (g.T.Target.reads t files) (g.T.Target.is_foreign t k files) (g.T.Target.view t) (λ kept. g.T.Target.stands_for t kept files) k s in
    let sound = subst (λ (s : Seen _). IsSeenSound (g.T.Target.view t) (g.F.Source.kind f) s) at.ours (subst (λ (k : Kind). IsSeenSound (g.T.Target.view t) k c.in_ok-seen.seen) c.kind.ensures c.in_ok-seen.ensures.sound) in
    let stands : store.tells → g.T.Target.stands_for t kept files = λ told. (subst (Seeing c.kind.result) at.ours (c.in_ok-seen.ensures.seen told)).0 in
    subst (λ (s : Status). IsCheck store (source_meaning g.F.Source f) (target_facts g.T.Target t) old c.whole.new.store (Some (Err s))) (sym c.status_of_source.ensures)
    (whole_refused store g.F.Source f g.T.Target t laws (g.met.T.Target.one_path t) old c.inspected.new.store c.whole.new.store c.in_ok-seen.ensures.only_reads _ _ c.in_ok-seen.ensures.cause c.in_ok-seen.ensures.contest c.in-Err.ensures.only_reads
    c.args.head.now c.requires.head c.requires.there kept stands sound.2 at.marked c.in-Err.error
    (fails_as store.faults store.may_fail c.inspected.new.store c.whole.new.store _ (c.in-Err.error ≡ StoreFault) (λ is. ap (λ (x : SourceError). Err x) is) c.in-Err.ensures.cause) c.in-Err.ensures.contest c.in-Err.ensures.refused)
