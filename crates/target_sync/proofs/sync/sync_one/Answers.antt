use Rattle.std.proofs.Common.{◌≡◌, Some, None, Err, sym, ap, subst}
use Rattle.lake_store.specs.Disk.{Disk}
use Rattle.source_core.specs.declared.error.SourceError.{SourceError}
use Rattle.source_core.specs.declared.error.SourceError.TheVariants.{StoreFault}
use Rattle.target_sync.specs.Answered.{IsSync}
use Rattle.target_sync.specs.Sources.{source_meaning}
use Rattle.target_sync.specs.Targets.{target_facts}
use Rattle.target_sync.specs.declared.status.Status.{Status}
use Rattle.target_core.specs.TargetMeanings.{meaning}
use Rattle.target_sync.proofs.Along.{AlongLaws, with_histories}
use Rattle.target_sync.proofs.Counting.{fails_as}
use Rattle.target_sync.proofs.Finding.{head_refused}
use Rattle.target_sync.proofs.Following.{sync_behind}
use Rattle.target_sync.proofs.Syncing.{Laws}
use Rattle.target_sync.proofs.sync.sync_one.Goals as goal

pub sync_from-requires-clause-head : goal.sync_from-requires-clause-head
sync_from-requires-clause-head g c told = subst (λ (d : Disk). g.F.Source.is_head c.args.source.now d.files c.in-Ok.head) (sym (c.in-Ok.ensures.only_reads told).disk) (c.in-Ok.ensures.head told).1

pub sync_from-requires-clause-there : goal.sync_from-requires-clause-there
sync_from-requires-clause-there g c told = subst (λ (d : Disk). ¬ g.F.Source.is_absent c.args.source.now d.files) (sym (c.in-Ok.ensures.only_reads told).disk) (c.in-Ok.ensures.head told).0

pub returns-in-Ok : goal.returns-in-Ok
returns-in-Ok g c =
    let store = g.S.Store in
    let t = c.args.target.now in
    let f = c.args.source.now in
    let old = c.args.store.now in
    let laws : Laws g.F.Source f g.T.Target t = record {
      source_own = record {
        head_own = g.met.F.Source.head_own f;
        table_own = g.met.F.Source.table_own f;
        since_own = g.met.F.Source.since_own f;
        holds_own = g.met.F.Source.holds_own f;
        absent_own = g.met.F.Source.absent_own f;
        reaches_own = g.met.F.Source.reaches_own f;
        one_head = g.met.F.Source.one_head f;
        ends = g.met.F.Source.ends f;
        none_at_head = g.met.F.Source.none_at_head f;
      };
      views = record { one_view = g.met.T.Target.one_view t; absent_any = g.met.T.Target.absent_any t; published = g.met.T.Target.published t };
      crash = record { reads = g.met.T.Target.crash_reads t; carries = g.met.T.Target.crash_carries t; settled = g.met.T.Target.crash_settled t; within = g.met.T.Target.carries_within t };
      kept_view = g.met.T.Target.kept_view t;
      not_foreign = g.met.T.Target.not_foreign t;
    } in
    let along : AlongLaws (source_meaning g.F.Source f) (meaning g.T.Target t) = record {
      histories = record { last = g.met.F.Source.last f; along = g.met.F.Source.along f; one_head = g.met.F.Source.one_head f; reached_held = g.met.F.Source.reached_held f };
      kinds = g.met.T.Target.image_kinds t;
      published = g.met.T.Target.published t;
      absent_any = g.met.T.Target.absent_any t;
    } in
    with_histories store (source_meaning g.F.Source f) (target_facts g.T.Target t) along None c.args.mode c.args.now_ms old c.sync_from.new.store (Some c.sync_from.result)
    (sync_behind store (source_meaning g.F.Source f) (target_facts g.T.Target t) laws.source_own laws.crash None c.args.mode c.args.now_ms old c.head.new.store c.sync_from.new.store
    c.in-Ok.ensures.only_reads _ _ c.in-Ok.ensures.cause c.in-Ok.ensures.contest (Some c.sync_from.result) c.sync_from.ensures)

pub returns-in-Err : goal.returns-in-Err
returns-in-Err g c =
    let store = g.S.Store in
    let t = c.args.target.now in
    let f = c.args.source.now in
    let old = c.args.store.now in
    let laws : Laws g.F.Source f g.T.Target t = record {
      source_own = record {
        head_own = g.met.F.Source.head_own f;
        table_own = g.met.F.Source.table_own f;
        since_own = g.met.F.Source.since_own f;
        holds_own = g.met.F.Source.holds_own f;
        absent_own = g.met.F.Source.absent_own f;
        reaches_own = g.met.F.Source.reaches_own f;
        one_head = g.met.F.Source.one_head f;
        ends = g.met.F.Source.ends f;
        none_at_head = g.met.F.Source.none_at_head f;
      };
      views = record { one_view = g.met.T.Target.one_view t; absent_any = g.met.T.Target.absent_any t; published = g.met.T.Target.published t };
      crash = record { reads = g.met.T.Target.crash_reads t; carries = g.met.T.Target.crash_carries t; settled = g.met.T.Target.crash_settled t; within = g.met.T.Target.carries_within t };
      kept_view = g.met.T.Target.kept_view t;
      not_foreign = g.met.T.Target.not_foreign t;
    } in
    let along : AlongLaws (source_meaning g.F.Source f) (meaning g.T.Target t) = record {
      histories = record { last = g.met.F.Source.last f; along = g.met.F.Source.along f; one_head = g.met.F.Source.one_head f; reached_held = g.met.F.Source.reached_held f };
      kinds = g.met.T.Target.image_kinds t;
      published = g.met.T.Target.published t;
      absent_any = g.met.T.Target.absent_any t;
    } in
    with_histories store (source_meaning g.F.Source f) (target_facts g.T.Target t) along None c.args.mode c.args.now_ms old c.head.new.store (Some (Err c.status_of_source.result))
    (subst (λ (s : Status). IsSync store (source_meaning g.F.Source f) (target_facts g.T.Target t) None c.args.mode c.args.now_ms old c.head.new.store (Some (Err s))) (sym c.status_of_source.ensures)
    (head_refused store g.met.S.Store.only_now g.F.Source f g.T.Target t laws (g.met.T.Target.one_path t) c.args.mode c.args.now_ms old c.head.new.store c.in-Err.error c.in-Err.ensures.only_reads
    (fails_as store.faults store.may_fail old c.head.new.store _ (c.in-Err.error ≡ StoreFault) (λ is. ap (λ (x : SourceError). Err x) is) c.in-Err.ensures.cause) c.in-Err.ensures.contest c.in-Err.ensures.head))
