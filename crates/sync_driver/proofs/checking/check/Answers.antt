use Rattle.std.proofs.Common.{◌≡◌, None, Some, Err, inl, inr, refl, ap, subst}
use Rattle.source_core.specs.declared.error.SourceError.{SourceError}
use Rattle.source_core.specs.declared.error.SourceError.TheVariants.{StoreFault}
use Rattle.table_history.specs.declared.kind.Kind.{Kind}
use Rattle.target_sync.specs.Applied.{status_of_source}
use Rattle.sync_driver.specs.Checked.{check_line, check_status}
use Rattle.sync_driver.specs.Lines.{pending_line, refusal_line}
use Rattle.target_sync.specs.Sources.{source_meaning}
use Rattle.target_sync.specs.Targets.{target_facts}
use Rattle.sync_driver.specs.Tellings.{Tells}
use Rattle.target_sync.specs.declared.status.Status.{Status}
use Rattle.target_sync.specs.declared.status.Status.TheVariants.{Done}
use Rattle.sync_driver.proofs.CheckEnds.{check_behind, check_headless, check_none, checks}
use Rattle.sync_driver.proofs.Checks.{not_foreign}
use Rattle.target_sync.proofs.Counting.{fails_as}
use Rattle.sync_driver.proofs.Saying.{first_alone, first_behind, told_alone, told_behind}
use Rattle.target_sync.proofs.Syncing.{Laws}
use Rattle.sync_driver.proofs.checking.check.Goals as goal

pub returns-in-Err : goal.returns-in-Err
returns-in-Err g c =
    let store = g.S.Store in
    let t = c.args.target.now in
    let f = c.args.source.now in
    let old = c.args.store.now in
    let source = source_meaning g.F.Source f in
    let target = target_facts g.T.Target t in
    let laws : Laws g.F.Source f g.T.Target t = record {
      source_own = record {
        head_own = g.met.F.Source.head_own f;
        table_own = g.met.F.Source.table_own f;
        since_own = g.met.F.Source.since_own f;
        holds_own = g.met.F.Source.holds_own f;
        absent_own = g.met.F.Source.absent_own f;
        reaches_own = g.met.F.Source.reaches_own f;
        one_head = g.met.F.Source.one_head f;
        ends = g.met.F.Source.ends f;
        none_at_head = g.met.F.Source.none_at_head f;
      };
      views = record { one_view = g.met.T.Target.one_view t; absent_any = g.met.T.Target.absent_any t; published = g.met.T.Target.published t };
      crash = record { reads = g.met.T.Target.crash_reads t; carries = g.met.T.Target.crash_carries t; settled = g.met.T.Target.crash_settled t; within = g.met.T.Target.carries_within t };
      kept_view = g.met.T.Target.kept_view t;
      not_foreign = g.met.T.Target.not_foreign t;
    } in
    let apart = not_foreign store g.F.Source f g.T.Target t laws (g.met.T.Target.one_path t) in
    let e = c.in-Err.error in
    checks store source target g.O.Sink old c.head.new.store c.args.out.now c.refuse.new.out c.refuse.result apart None (Some (Err (status_of_source e)))
    (check_headless store source target old c.head.new.store e c.in-Err.ensures.only_reads
    (fails_as store.faults store.may_fail old c.head.new.store _ (e ≡ StoreFault) (λ is. ap (λ (x : SourceError). Err x) is) c.in-Err.ensures.cause) c.in-Err.ensures.contest c.in-Err.ensures.head)
    (λ told. inr (refl, (e, c.in-Err.ensures.head told, refl)))
    (λ tells some. first_alone g.O.Sink c.args.out.now c.refuse.new.out (refusal_line c.status_of_source.result) c.status_of_source.result c.refuse.result c.refuse.ensures tells)
    (subst (λ (s : Status). Tells g.O.Sink c.args.out.now c.refuse.new.out (refusal_line s) s c.refuse.result) c.status_of_source.ensures c.refuse.ensures)
    (λ none. absurd (cc none))

pub returns-in-Ok-put_pending : goal.returns-in-Ok-put_pending
returns-in-Ok-put_pending g c =
    let store = g.S.Store in
    let t = c.args.target.now in
    let f = c.args.source.now in
    let old = c.args.store.now in
    let source = source_meaning g.F.Source f in
    let target = target_facts g.T.Target t in
    let laws : Laws g.F.Source f g.T.Target t = record {
      source_own = record {
        head_own = g.met.F.Source.head_own f;
        table_own = g.met.F.Source.table_own f;
        since_own = g.met.F.Source.since_own f;
        holds_own = g.met.F.Source.holds_own f;
        absent_own = g.met.F.Source.absent_own f;
        reaches_own = g.met.F.Source.reaches_own f;
        one_head = g.met.F.Source.one_head f;
        ends = g.met.F.Source.ends f;
        none_at_head = g.met.F.Source.none_at_head f;
      };
      views = record { one_view = g.met.T.Target.one_view t; absent_any = g.met.T.Target.absent_any t; published = g.met.T.Target.published t };
      crash = record { reads = g.met.T.Target.crash_reads t; carries = g.met.T.Target.crash_carries t; settled = g.met.T.Target.crash_settled t; within = g.met.T.Target.carries_within t };
      kept_view = g.met.T.Target.kept_view t;
      not_foreign = g.met.T.Target.not_foreign t;
    } in
    let apart = not_foreign store g.F.Source f g.T.Target t laws (g.met.T.Target.one_path t) in
    let head = c.in-Ok.head in
    let answer = c.check_from-answer.result in
    checks store source target g.O.Sink old c.check_from-answer.new.store c.args.out.now c.put_check.new.out c.put_check.result apart head.pending (Some answer)
    (check_behind store source target old c.head.new.store c.check_from-answer.new.store c.in-Ok.ensures.only_reads _ _ c.in-Ok.ensures.cause c.in-Ok.ensures.contest (Some answer) c.check_from-answer.ensures)
    (λ told. inl (head, (c.in-Ok.ensures.head told).1, refl))
    (λ tells some. first_behind g.O.Sink c.args.out.now c.put_pending.new.out c.put_check.new.out (pending_line head.pending) (check_line c.kind.result (Some answer)) (check_status (Some answer)) c.put_check.result
    c.in-Ok-put_pending.ensures c.put_check.ensures tells)
    (told_behind g.O.Sink c.args.out.now c.put_pending.new.out c.put_check.new.out (pending_line head.pending) (check_line (g.T.Target.kind t) (Some answer)) (check_status (Some answer)) c.put_check.result
    c.in-Ok-put_pending.ensures
    (subst (λ (k : Kind). Tells g.O.Sink c.put_pending.new.out c.put_check.new.out (check_line k (Some answer)) (check_status (Some answer)) c.put_check.result) c.kind.ensures c.put_check.ensures))
    (λ none. absurd (cc none))

pub returns : goal.returns
returns g c =
    let store = g.S.Store in
    let t = c.args.target.now in
    let f = c.args.source.now in
    let old = c.args.store.now in
    let source = source_meaning g.F.Source f in
    let target = target_facts g.T.Target t in
    let laws : Laws g.F.Source f g.T.Target t = record {
      source_own = record {
        head_own = g.met.F.Source.head_own f;
        table_own = g.met.F.Source.table_own f;
        since_own = g.met.F.Source.since_own f;
        holds_own = g.met.F.Source.holds_own f;
        absent_own = g.met.F.Source.absent_own f;
        reaches_own = g.met.F.Source.reaches_own f;
        one_head = g.met.F.Source.one_head f;
        ends = g.met.F.Source.ends f;
        none_at_head = g.met.F.Source.none_at_head f;
      };
      views = record { one_view = g.met.T.Target.one_view t; absent_any = g.met.T.Target.absent_any t; published = g.met.T.Target.published t };
      crash = record { reads = g.met.T.Target.crash_reads t; carries = g.met.T.Target.crash_carries t; settled = g.met.T.Target.crash_settled t; within = g.met.T.Target.carries_within t };
      kept_view = g.met.T.Target.kept_view t;
      not_foreign = g.met.T.Target.not_foreign t;
    } in
    let apart = not_foreign store g.F.Source f g.T.Target t laws (g.met.T.Target.one_path t) in
    let head = c.in-Ok.head in
    checks store source target g.O.Sink old c.head.new.store c.args.out.now c.put_pending.new.out c.in-Err-put_pending.cut apart head.pending None
    (check_none store source target old c.head.new.store c.in-Ok.ensures.only_reads _ _ c.in-Ok.ensures.cause c.in-Ok.ensures.contest (λ told. (c.in-Ok.ensures.head told).0))
    (λ told. inl (head, (c.in-Ok.ensures.head told).1, refl))
    (λ tells some. absurd (some refl))
    (told_alone g.O.Sink c.args.out.now c.put_pending.new.out (pending_line head.pending) Done c.in-Err-put_pending.cut c.in-Err-put_pending.ensures.0)
    (λ none. c.in-Err-put_pending.ensures.1)
