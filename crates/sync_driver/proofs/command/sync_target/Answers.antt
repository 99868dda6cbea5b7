use Rattle.std.proofs.Common.{◌≡◌, None, Some, Err, inl, inr, refl, sym, ap, subst}
use Rattle.lake_store.specs.Disk.{Disk}
use Rattle.source_core.specs.declared.error.SourceError.{SourceError}
use Rattle.source_core.specs.declared.error.SourceError.TheVariants.{StoreFault}
use Rattle.table_history.specs.declared.kind.Kind.{Kind}
use Rattle.target_sync.specs.Applied.{status_of_source}
use Rattle.sync_driver.specs.Commands.{answer_line, answer_status}
use Rattle.sync_driver.specs.Lines.{pending_line, refusal_line}
use Rattle.target_sync.specs.Sources.{source_meaning}
use Rattle.target_sync.specs.Targets.{target_facts}
use Rattle.sync_driver.specs.Tellings.{Tells}
use Rattle.target_sync.specs.declared.status.Status.{Status}
use Rattle.target_sync.specs.declared.status.Status.TheVariants.{Done}
use Rattle.target_sync.proofs.Along.{AlongLaws}
use Rattle.sync_driver.proofs.Commanding.{syncs}
use Rattle.target_sync.proofs.Counting.{fails_as}
use Rattle.target_sync.proofs.Finding.{head_refused}
use Rattle.target_sync.proofs.Following.{sync_behind}
use Rattle.target_sync.proofs.Pairing.{sync_none}
use Rattle.sync_driver.proofs.Saying.{first_alone, first_behind, told_alone, told_behind}
use Rattle.target_sync.proofs.Syncing.{Laws}
use Rattle.sync_driver.proofs.command.sync_target.Goals as goal

pub sync_from-answer-requires-clause-head : goal.sync_from-answer-requires-clause-head
sync_from-answer-requires-clause-head g c told = subst (λ (d : Disk). g.F.Source.is_head c.args.source.now d.files c.in-Ok.head) (sym (c.in-Ok.ensures.only_reads told).disk) (c.in-Ok.ensures.head told).1

pub sync_from-answer-requires-clause-there : goal.sync_from-answer-requires-clause-there
sync_from-answer-requires-clause-there g c told = subst (λ (d : Disk). ¬ g.F.Source.is_absent c.args.source.now d.files) (sym (c.in-Ok.ensures.only_reads told).disk) (c.in-Ok.ensures.head told).0

pub returns-in-Err : goal.returns-in-Err
returns-in-Err g c =
    let store = g.S.Store in
    let t = c.args.target.now in
    let f = c.args.source.now in
    let old = c.args.store.now in
    let source = source_meaning g.F.Source f in
    let target = target_facts g.T.Target t in
    let laws : Laws g.F.Source f g.T.Target t = record {
      source_own = record {
        head_own = g.met.F.Source.head_own f;
        table_own = g.met.F.Source.table_own f;
        since_own = g.met.F.Source.since_own f;
        holds_own = g.met.F.Source.holds_own f;
        absent_own = g.met.F.Source.absent_own f;
        reaches_own = g.met.F.Source.reaches_own f;
        one_head = g.met.F.Source.one_head f;
        ends = g.met.F.Source.ends f;
        none_at_head = g.met.F.Source.none_at_head f;
      };
      views = record { one_view = g.met.T.Target.one_view t; absent_any = g.met.T.Target.absent_any t; published = g.met.T.Target.published t };
      crash = record { reads = g.met.T.Target.crash_reads t; carries = g.met.T.Target.crash_carries t; settled = g.met.T.Target.crash_settled t; within = g.met.T.Target.carries_within t };
      kept_view = g.met.T.Target.kept_view t;
      not_foreign = g.met.T.Target.not_foreign t;
    } in
    let e = c.in-Err.error in
    let along : AlongLaws source target.files = record {
      histories = record { last = g.met.F.Source.last f; along = g.met.F.Source.along f; one_head = g.met.F.Source.one_head f; reached_held = g.met.F.Source.reached_held f };
      kinds = g.met.T.Target.image_kinds t;
      published = g.met.T.Target.published t;
      absent_any = g.met.T.Target.absent_any t;
    } in
    syncs store source target c.args.mode c.args.now_ms g.O.Sink old c.head.new.store c.args.out.now c.refuse.new.out c.refuse.result None (Some (Err (status_of_source e))) along
    (head_refused store g.met.S.Store.only_now g.F.Source f g.T.Target t laws (g.met.T.Target.one_path t) c.args.mode c.args.now_ms old c.head.new.store e c.in-Err.ensures.only_reads
    (fails_as store.faults store.may_fail old c.head.new.store _ (e ≡ StoreFault) (λ is. ap (λ (x : SourceError). Err x) is) c.in-Err.ensures.cause) c.in-Err.ensures.contest c.in-Err.ensures.head)
    (λ told. inr (refl, (e, c.in-Err.ensures.head told, (refl, c.in-Err.ensures.only_reads told))))
    (λ tells some. first_alone g.O.Sink c.args.out.now c.refuse.new.out (refusal_line c.status_of_source.result) c.status_of_source.result c.refuse.result c.refuse.ensures tells)
    (subst (λ (s : Status). Tells g.O.Sink c.args.out.now c.refuse.new.out (refusal_line s) s c.refuse.result) c.status_of_source.ensures c.refuse.ensures)
    (λ none. absurd (cc none))

pub returns-in-Ok-put_pending : goal.returns-in-Ok-put_pending
returns-in-Ok-put_pending g c =
    let store = g.S.Store in
    let t = c.args.target.now in
    let f = c.args.source.now in
    let old = c.args.store.now in
    let source = source_meaning g.F.Source f in
    let target = target_facts g.T.Target t in
    let laws : Laws g.F.Source f g.T.Target t = record {
      source_own = record {
        head_own = g.met.F.Source.head_own f;
        table_own = g.met.F.Source.table_own f;
        since_own = g.met.F.Source.since_own f;
        holds_own = g.met.F.Source.holds_own f;
        absent_own = g.met.F.Source.absent_own f;
        reaches_own = g.met.F.Source.reaches_own f;
        one_head = g.met.F.Source.one_head f;
        ends = g.met.F.Source.ends f;
        none_at_head = g.met.F.Source.none_at_head f;
      };
      views = record { one_view = g.met.T.Target.one_view t; absent_any = g.met.T.Target.absent_any t; published = g.met.T.Target.published t };
      crash = record { reads = g.met.T.Target.crash_reads t; carries = g.met.T.Target.crash_carries t; settled = g.met.T.Target.crash_settled t; within = g.met.T.Target.carries_within t };
      kept_view = g.met.T.Target.kept_view t;
      not_foreign = g.met.T.Target.not_foreign t;
    } in
    let head = c.in-Ok.head in
    let answer = c.sync_from-answer.result in
    let along : AlongLaws source target.files = record {
      histories = record { last = g.met.F.Source.last f; along = g.met.F.Source.along f; one_head = g.met.F.Source.one_head f; reached_held = g.met.F.Source.reached_held f };
      kinds = g.met.T.Target.image_kinds t;
      published = g.met.T.Target.published t;
      absent_any = g.met.T.Target.absent_any t;
    } in
    syncs store source target c.args.mode c.args.now_ms g.O.Sink old c.sync_from-answer.new.store c.args.out.now c.put_answer.new.out c.put_answer.result head.pending (Some answer) along
    (sync_behind store source target laws.source_own laws.crash None c.args.mode c.args.now_ms old c.head.new.store c.sync_from-answer.new.store
    c.in-Ok.ensures.only_reads _ _ c.in-Ok.ensures.cause c.in-Ok.ensures.contest (Some answer) c.sync_from-answer.ensures)
    (λ told. inl (head, (c.in-Ok.ensures.head told).1, refl))
    (λ tells some. first_behind g.O.Sink c.args.out.now c.put_pending.new.out c.put_answer.new.out (pending_line head.pending) (answer_line c.kind.result (Some answer)) (answer_status (Some answer)) c.put_answer.result
    c.in-Ok-put_pending.ensures c.put_answer.ensures tells)
    (told_behind g.O.Sink c.args.out.now c.put_pending.new.out c.put_answer.new.out (pending_line head.pending) (answer_line (g.T.Target.kind t) (Some answer)) (answer_status (Some answer)) c.put_answer.result
    c.in-Ok-put_pending.ensures
    (subst (λ (k : Kind). Tells g.O.Sink c.put_pending.new.out c.put_answer.new.out (answer_line k (Some answer)) (answer_status (Some answer)) c.put_answer.result) c.kind.ensures c.put_answer.ensures))
    (λ none. absurd (cc none))

pub returns : goal.returns
returns g c =
    let store = g.S.Store in
    let t = c.args.target.now in
    let f = c.args.source.now in
    let old = c.args.store.now in
    let source = source_meaning g.F.Source f in
    let target = target_facts g.T.Target t in
    let laws : Laws g.F.Source f g.T.Target t = record {
      source_own = record {
        head_own = g.met.F.Source.head_own f;
        table_own = g.met.F.Source.table_own f;
        since_own = g.met.F.Source.since_own f;
        holds_own = g.met.F.Source.holds_own f;
        absent_own = g.met.F.Source.absent_own f;
        reaches_own = g.met.F.Source.reaches_own f;
        one_head = g.met.F.Source.one_head f;
        ends = g.met.F.Source.ends f;
        none_at_head = g.met.F.Source.none_at_head f;
      };
      views = record { one_view = g.met.T.Target.one_view t; absent_any = g.met.T.Target.absent_any t; published = g.met.T.Target.published t };
      crash = record { reads = g.met.T.Target.crash_reads t; carries = g.met.T.Target.crash_carries t; settled = g.met.T.Target.crash_settled t; within = g.met.T.Target.carries_within t };
      kept_view = g.met.T.Target.kept_view t;
      not_foreign = g.met.T.Target.not_foreign t;
    } in
    let head = c.in-Ok.head in
    let along : AlongLaws source target.files = record {
      histories = record { last = g.met.F.Source.last f; along = g.met.F.Source.along f; one_head = g.met.F.Source.one_head f; reached_held = g.met.F.Source.reached_held f };
      kinds = g.met.T.Target.image_kinds t;
      published = g.met.T.Target.published t;
      absent_any = g.met.T.Target.absent_any t;
    } in
    syncs store source target c.args.mode c.args.now_ms g.O.Sink old c.head.new.store c.args.out.now c.put_pending.new.out c.in-Err-put_pending.cut head.pending None along
    (sync_none store source target c.args.mode c.args.now_ms laws.source_own laws.crash old c.head.new.store c.in-Ok.ensures.only_reads _ _ c.in-Ok.ensures.cause c.in-Ok.ensures.contest (λ told. (c.in-Ok.ensures.head told).0))
    (λ told. inl (head, (c.in-Ok.ensures.head told).1, refl))
    (λ tells some. absurd (some refl))
    (told_alone g.O.Sink c.args.out.now c.put_pending.new.out (pending_line head.pending) Done c.in-Err-put_pending.cut c.in-Err-put_pending.ensures.0)
    (λ none. c.in-Err-put_pending.ensures.1)
