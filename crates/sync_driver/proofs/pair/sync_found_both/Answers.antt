use Rattle.std.proofs.Common.{◌≡◌, sym, subst}
use Rattle.std.specs.Prelude.{IfSome}
use Rattle.lake_store.specs.Disk.{Disk}
use Rattle.target_sync.specs.Sources.{source_meaning}
use Rattle.target_sync.specs.Targets.{target_facts}
use Rattle.target_sync.proofs.Owning.{own_laws}
use Rattle.target_sync.proofs.Standing.{SourceLaws}
use Rattle.target_sync.proofs.Syncing.{Laws}
use Rattle.sync_driver.proofs.Pairs.{PairLaws, goes_both_behind}
use Rattle.target_sync.specs.Plans.{IsDuePlan, IsFound}
use Rattle.target_sync.proofs.Finding.{found_of_source, read_refused}
use Rattle.lake_store.proofs.RunLaws.{reading_begins}
use Rattle.target_sync.proofs.Counting.{fails_never, uncontested_never}
use Rattle.target_sync.specs.declared.status.Status.{Status}
use Rattle.sync_driver.specs.Lines.{refusal_line}
use Rattle.sync_driver.specs.Tellings.{Tells}
use Rattle.sync_driver.proofs.PairExits.{first_unread, stands_found}
use Rattle.sync_driver.proofs.pair.sync_found_both.Given.{Over}
use Rattle.sync_driver.proofs.pair.sync_found_both.Goals as goal

-- ---- what the source and the targets keep to

source_laws : (g : Over) (f : g.row.F.Denot) → SourceLaws (source_meaning g.F.Source f)
source_laws g f = record {
  head_own = g.met.F.Source.head_own f;
  table_own = g.met.F.Source.table_own f;
  since_own = g.met.F.Source.since_own f;
  holds_own = g.met.F.Source.holds_own f;
  absent_own = g.met.F.Source.absent_own f;
  reaches_own = g.met.F.Source.reaches_own f;
  one_head = g.met.F.Source.one_head f;
  ends = g.met.F.Source.ends f;
  none_at_head = g.met.F.Source.none_at_head f;
}

first_laws : (g : Over) (f : g.row.F.Denot) (t : g.row.T.Denot) → Laws g.F.Source f g.T.Target t
first_laws g f t = record {
  source_own = source_laws g f;
  views = record { one_view = g.met.T.Target.one_view t; absent_any = g.met.T.Target.absent_any t; published = g.met.T.Target.published t };
  crash = record { reads = g.met.T.Target.crash_reads t; carries = g.met.T.Target.crash_carries t; settled = g.met.T.Target.crash_settled t; within = g.met.T.Target.carries_within t };
  kept_view = g.met.T.Target.kept_view t;
  not_foreign = g.met.T.Target.not_foreign t;
}

second_laws : (g : Over) (f : g.row.F.Denot) (u : g.row.U.Denot) → Laws g.F.Source f g.U.Target u
second_laws g f u = record {
  source_own = source_laws g f;
  views = record { one_view = g.met.U.Target.one_view u; absent_any = g.met.U.Target.absent_any u; published = g.met.U.Target.published u };
  crash = record { reads = g.met.U.Target.crash_reads u; carries = g.met.U.Target.crash_carries u; settled = g.met.U.Target.crash_settled u; within = g.met.U.Target.carries_within u };
  kept_view = g.met.U.Target.kept_view u;
  not_foreign = g.met.U.Target.not_foreign u;
}

pair_laws : (g : Over) (f : g.row.F.Denot) (t : g.row.T.Denot) (u : g.row.U.Denot) → (g.F.Source.kind f ≡ g.T.Target.kind t → ⊥) → (g.F.Source.kind f ≡ g.U.Target.kind u → ⊥) → (g.T.Target.kind t ≡ g.U.Target.kind u → ⊥)
    → PairLaws g.S.Store (source_meaning g.F.Source f) (target_facts g.T.Target t) (target_facts g.U.Target u)
pair_laws g f t u far far_second apart = record {
  only_now = g.met.S.Store.only_now;
  now_counts = g.met.S.Store.counts_now;
  source_laws = source_laws g f;
  fault_laws = record { at_head = g.met.F.Source.at_head_own f; from_scratch = g.met.F.Source.from_scratch_own f; from_position = g.met.F.Source.from_position_own f };
  first_crash = (first_laws g f t).crash;
  first_own = own_laws g.T.Target t (g.met.T.Target.reads_own t) (g.met.T.Target.commits_own t) (g.met.T.Target.carries_own t) (g.met.T.Target.settled_own t) (g.met.T.Target.reached_in t) (g.met.T.Target.reached_stays t) (g.met.T.Target.foreign_own t)
      (g.met.T.Target.crowded_own t) (g.met.T.Target.passes_own t) (g.met.T.Target.kept_own t);
  second_crash = (second_laws g f u).crash;
  second_own = own_laws g.U.Target u (g.met.U.Target.reads_own u) (g.met.U.Target.commits_own u) (g.met.U.Target.carries_own u) (g.met.U.Target.settled_own u) (g.met.U.Target.reached_in u) (g.met.U.Target.reached_stays u) (g.met.U.Target.foreign_own u)
      (g.met.U.Target.crowded_own u) (g.met.U.Target.passes_own u) (g.met.U.Target.kept_own u);
  far = far;
  far_second = far_second;
  apart = apart;
}

-- ---- the answers

pub plan_with-requires-clause-ours : goal.plan_with-requires-clause-ours
plan_with-requires-clause-ours g c told = found_of_source (g.T.Target.view c.args.first.now) (g.F.Source.kind c.args.source.now) c.args.first_found c.requires.first_ours

pub sync_planned-requires-clause-head : goal.sync_planned-requires-clause-head
sync_planned-requires-clause-head g c told = subst (λ (d : Disk). g.F.Source.is_head c.args.source.now d.files c.args.head.now) (sym (c.in-Ok.ensures.only_reads told).disk) (c.requires.head told)

pub sync_planned-requires-clause-there : goal.sync_planned-requires-clause-there
sync_planned-requires-clause-there g c told = subst (λ (d : Disk). ¬ g.F.Source.is_absent c.args.source.now d.files) (sym (c.in-Ok.ensures.only_reads told).disk) (c.requires.there told)

pub sync_planned-requires-clause-first_sound : goal.sync_planned-requires-clause-first_sound
sync_planned-requires-clause-first_sound g c = c.in-Ok.ensures.sound c.requires.first_ours

pub sync_planned-requires-clause-first_due : goal.sync_planned-requires-clause-first_due
sync_planned-requires-clause-first_due g c told =
    let target = g.T.Target in
    let t = c.args.first.now in
    subst (λ (d : Disk). IsDuePlan (target.view t) (target.stands_for t) (source_meaning g.F.Source c.args.source.now) c.args.mode d.files c.args.head.now c.in-Ok.first_plan) (sym (c.in-Ok.ensures.only_reads told).disk) (c.in-Ok.ensures.due told)

pub sync_planned-requires-clause-whole : goal.sync_planned-requires-clause-whole
sync_planned-requires-clause-whole g c told = subst (λ (d : Disk). IfSome c.plan_with.new.whole (g.F.Source.is_table c.args.source.now d.files)) (sym (c.in-Ok.ensures.only_reads told).disk) (c.in-Ok.ensures.whole told)

pub sync_planned-requires-clause-second_found : goal.sync_planned-requires-clause-second_found
sync_planned-requires-clause-second_found g c told =
    let target = g.U.Target in
    let u = c.args.second.now in
    subst (λ (d : Disk). IsFound (target.reads u) (target.stands_for u) d.files c.args.second_found) (sym (c.in-Ok.ensures.only_reads told).disk) (c.requires.second_found told)

pub returns-in-Ok : goal.returns-in-Ok
returns-in-Ok g c =
    let store = g.S.Store in
    let sink = g.O.Sink in
    let f = c.args.source.now in
    let t = c.args.first.now in
    let u = c.args.second.now in
    let source = source_meaning g.F.Source f in
    let first = target_facts g.T.Target t in
    let second = target_facts g.U.Target u in
    let laws = pair_laws g f t u c.requires.far c.requires.far_second c.requires.apart in
    let old = c.args.store.now in
    goes_both_behind store sink source laws.source_laws first laws.first_crash second laws.second_crash c.args.mode c.args.now_ms old c.plan_with.new.store c.sync_planned.new.store
    c.in-Ok.ensures.only_reads _ _ c.in-Ok.ensures.cause c.in-Ok.ensures.contest c.args.out.now c.sync_planned.new.out c.sync_planned.result c.sync_planned.ensures

pub returns-in-Err : goal.returns-in-Err
returns-in-Err g c =
    let store = g.S.Store in
    let sink = g.O.Sink in
    let f = c.args.source.now in
    let t = c.args.first.now in
    let u = c.args.second.now in
    let source = source_meaning g.F.Source f in
    let first = target_facts g.T.Target t in
    let second = target_facts g.U.Target u in
    let laws = pair_laws g f t u c.requires.far c.requires.far_second c.requires.apart in
    let old = c.args.store.now in
    let e = c.in-Err.error in
    let is = c.in-Err.ensures in
    first_unread store sink source first second laws c.args.mode c.args.now_ms old c.plan_with.new.store c.args.out.now c.refuse.new.out e c.refuse.result is.only_reads c.requires.there
    (read_refused store g.met.S.Store.only_now g.F.Source f g.T.Target t (first_laws g f t) (g.met.T.Target.one_path t) c.args.mode c.args.now_ms old old (reading_begins store g.met.S.Store.only_now old)
    ⊥ ⊥ (fails_never store.faults store.may_fail old ⊥ (λ never. never)) (uncontested_never store.contests store.may_contest old) c.requires.there (λ told. (c.args.head.now, c.requires.head told)) c.plan_with.new.store e is.only_reads is.cause is.contest is.refused)
    (λ told. stands_found g.U.Target u (g.F.Source.kind f) (store.disk old).files c.args.second_found (g.met.U.Target.kept_view u) c.requires.second_ours (c.requires.second_found told))
    (subst (λ (s : Status). Tells sink c.args.out.now c.refuse.new.out (refusal_line s) s c.refuse.result) c.status_of_source.ensures c.refuse.ensures)
