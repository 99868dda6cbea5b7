use Rattle.std.proofs.Common.{None, Some, sym, subst}
use Rattle.lake_store.specs.Disk.{Disk}
use Rattle.target_sync.specs.Plans.{IsFound}
use Rattle.target_sync.specs.Sources.{source_meaning}
use Rattle.target_sync.specs.Targets.{target_facts}
use Rattle.target_sync.proofs.Finding.{early_refused}
use Rattle.target_sync.proofs.Following.{sync_behind}
use Rattle.target_sync.proofs.Syncing.{Laws}
use Rattle.target_sync.proofs.sync.sync_from.Goals as goal

pub sync_found-requires-clause-head : goal.sync_found-requires-clause-head
sync_found-requires-clause-head g c told = subst (λ (d : Disk). g.F.Source.is_head c.args.source.now d.files c.args.head.now) (sym (c.in-Ok.ensures.only_reads told).disk) (c.requires.head told)

pub sync_found-requires-clause-there : goal.sync_found-requires-clause-there
sync_found-requires-clause-there g c told = subst (λ (d : Disk). ¬ g.F.Source.is_absent c.args.source.now d.files) (sym (c.in-Ok.ensures.only_reads told).disk) (c.requires.there told)

pub sync_found-requires-clause-found : goal.sync_found-requires-clause-found
sync_found-requires-clause-found g c told =
    let target = g.T.Target in
    let t = c.args.target.now in
    subst (λ (d : Disk). IsFound (target.reads t) (target.stands_for t) d.files c.in-Ok.kept) (sym (c.in-Ok.ensures.only_reads told).disk) (c.in-Ok.ensures.found told)

pub returns-in-Ok : goal.returns-in-Ok
returns-in-Ok g c =
    let store = g.S.Store in
    let t = c.args.target.now in
    let f = c.args.source.now in
    let laws : Laws g.F.Source f g.T.Target t = record {
      source_own = record {
        head_own = g.met.F.Source.head_own f;
        table_own = g.met.F.Source.table_own f;
        since_own = g.met.F.Source.since_own f;
        holds_own = g.met.F.Source.holds_own f;
        absent_own = g.met.F.Source.absent_own f;
        reaches_own = g.met.F.Source.reaches_own f;
        one_head = g.met.F.Source.one_head f;
        ends = g.met.F.Source.ends f;
        none_at_head = g.met.F.Source.none_at_head f;
      };
      views = record { one_view = g.met.T.Target.one_view t; absent_any = g.met.T.Target.absent_any t; published = g.met.T.Target.published t };
      crash = record { reads = g.met.T.Target.crash_reads t; carries = g.met.T.Target.crash_carries t; settled = g.met.T.Target.crash_settled t; within = g.met.T.Target.carries_within t };
      kept_view = g.met.T.Target.kept_view t;
      not_foreign = g.met.T.Target.not_foreign t;
    } in
    sync_behind store (source_meaning g.F.Source f) (target_facts g.T.Target t) laws.source_own laws.crash None c.args.mode c.args.now_ms c.args.store.now c.found.new.store c.sync_found.new.store
    c.in-Ok.ensures.only_reads _ _ c.in-Ok.ensures.cause c.in-Ok.ensures.contest (Some c.sync_found.result) c.sync_found.ensures.sync

pub returns-in-Err : goal.returns-in-Err
returns-in-Err g c =
    let store = g.S.Store in
    let t = c.args.target.now in
    let f = c.args.source.now in
    let laws : Laws g.F.Source f g.T.Target t = record {
      source_own = record {
        head_own = g.met.F.Source.head_own f;
        table_own = g.met.F.Source.table_own f;
        since_own = g.met.F.Source.since_own f;
        holds_own = g.met.F.Source.holds_own f;
        absent_own = g.met.F.Source.absent_own f;
        reaches_own = g.met.F.Source.reaches_own f;
        one_head = g.met.F.Source.one_head f;
        ends = g.met.F.Source.ends f;
        none_at_head = g.met.F.Source.none_at_head f;
      };
      views = record { one_view = g.met.T.Target.one_view t; absent_any = g.met.T.Target.absent_any t; published = g.met.T.Target.published t };
      crash = record { reads = g.met.T.Target.crash_reads t; carries = g.met.T.Target.crash_carries t; settled = g.met.T.Target.crash_settled t; within = g.met.T.Target.carries_within t };
      kept_view = g.met.T.Target.kept_view t;
      not_foreign = g.met.T.Target.not_foreign t;
    } in
    early_refused store g.met.S.Store.only_now g.F.Source f g.T.Target t laws (g.met.T.Target.one_path t) c.args.mode c.args.now_ms c.args.store.now c.found.new.store c.in-Err.refused c.in-Err.ensures.few
    c.in-Err.ensures.only_reads c.in-Err.ensures.cause c.in-Err.ensures.contest c.requires.there (λ told. (c.args.head.now, c.requires.head told)) c.in-Err.ensures.refused
