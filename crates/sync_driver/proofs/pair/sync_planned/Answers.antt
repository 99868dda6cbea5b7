use Rattle.std.proofs.Common.{◌≡◌, sym, subst}
use Rattle.lake_store.specs.Disk.{Disk}
use Rattle.target_sync.specs.Sources.{source_meaning}
use Rattle.target_sync.specs.Targets.{target_facts}
use Rattle.target_sync.proofs.Owning.{own_laws}
use Rattle.target_sync.proofs.Standing.{SourceLaws}
use Rattle.target_sync.proofs.Syncing.{Laws}
use Rattle.sync_driver.proofs.Pairs.{PairLaws}
use Rattle.table_history.specs.declared.kind.Kind.{Kind}
use Rattle.target_sync.specs.Applied.{CanApplyPlan}
use Rattle.target_sync.proofs.Finding.{found_of_source, plan_applied, read_refused}
use Rattle.lake_store.proofs.RunLaws.{reading_begins}
use Rattle.target_sync.proofs.Counting.{fails_never, uncontested_never}
use Rattle.target_sync.specs.declared.status.Status.{Status}
use Rattle.sync_driver.specs.Lines.{refusal_line}
use Rattle.sync_driver.specs.Tellings.{Tells}
use Rattle.sync_driver.proofs.PairExits.{behind_as, both_applied, due_beside, first_last, head_beside, one_answer, second_unread, stands_found, stands_planned, there_beside, told_as}
use Rattle.sync_driver.proofs.pair.sync_planned.Given.{Over}
use Rattle.sync_driver.proofs.pair.sync_planned.Goals as goal

-- ---- what the source and the targets keep to

source_laws : (g : Over) (f : g.row.F.Denot) → SourceLaws (source_meaning g.F.Source f)
source_laws g f = record {
  head_own = g.met.F.Source.head_own f;
  table_own = g.met.F.Source.table_own f;
  since_own = g.met.F.Source.since_own f;
  holds_own = g.met.F.Source.holds_own f;
  absent_own = g.met.F.Source.absent_own f;
  reaches_own = g.met.F.Source.reaches_own f;
  one_head = g.met.F.Source.one_head f;
  ends = g.met.F.Source.ends f;
  none_at_head = g.met.F.Source.none_at_head f;
}

first_laws : (g : Over) (f : g.row.F.Denot) (t : g.row.T.Denot) → Laws g.F.Source f g.T.Target t
first_laws g f t = record {
  source_own = source_laws g f;
  views = record { one_view = g.met.T.Target.one_view t; absent_any = g.met.T.Target.absent_any t; published = g.met.T.Target.published t };
  crash = record { reads = g.met.T.Target.crash_reads t; carries = g.met.T.Target.crash_carries t; settled = g.met.T.Target.crash_settled t; within = g.met.T.Target.carries_within t };
  kept_view = g.met.T.Target.kept_view t;
  not_foreign = g.met.T.Target.not_foreign t;
}

second_laws : (g : Over) (f : g.row.F.Denot) (u : g.row.U.Denot) → Laws g.F.Source f g.U.Target u
second_laws g f u = record {
  source_own = source_laws g f;
  views = record { one_view = g.met.U.Target.one_view u; absent_any = g.met.U.Target.absent_any u; published = g.met.U.Target.published u };
  crash = record { reads = g.met.U.Target.crash_reads u; carries = g.met.U.Target.crash_carries u; settled = g.met.U.Target.crash_settled u; within = g.met.U.Target.carries_within u };
  kept_view = g.met.U.Target.kept_view u;
  not_foreign = g.met.U.Target.not_foreign u;
}

pair_laws : (g : Over) (f : g.row.F.Denot) (t : g.row.T.Denot) (u : g.row.U.Denot) → (g.F.Source.kind f ≡ g.T.Target.kind t → ⊥) → (g.F.Source.kind f ≡ g.U.Target.kind u → ⊥) → (g.T.Target.kind t ≡ g.U.Target.kind u → ⊥)
    → PairLaws g.S.Store (source_meaning g.F.Source f) (target_facts g.T.Target t) (target_facts g.U.Target u)
pair_laws g f t u far far_second apart = record {
  only_now = g.met.S.Store.only_now;
  now_counts = g.met.S.Store.counts_now;
  source_laws = source_laws g f;
  fault_laws = record { at_head = g.met.F.Source.at_head_own f; from_scratch = g.met.F.Source.from_scratch_own f; from_position = g.met.F.Source.from_position_own f };
  first_crash = (first_laws g f t).crash;
  first_own = own_laws g.T.Target t (g.met.T.Target.reads_own t) (g.met.T.Target.commits_own t) (g.met.T.Target.carries_own t) (g.met.T.Target.settled_own t) (g.met.T.Target.reached_in t) (g.met.T.Target.reached_stays t) (g.met.T.Target.foreign_own t)
      (g.met.T.Target.crowded_own t) (g.met.T.Target.passes_own t) (g.met.T.Target.kept_own t);
  second_crash = (second_laws g f u).crash;
  second_own = own_laws g.U.Target u (g.met.U.Target.reads_own u) (g.met.U.Target.commits_own u) (g.met.U.Target.carries_own u) (g.met.U.Target.settled_own u) (g.met.U.Target.reached_in u) (g.met.U.Target.reached_stays u) (g.met.U.Target.foreign_own u)
      (g.met.U.Target.crowded_own u) (g.met.U.Target.passes_own u) (g.met.U.Target.kept_own u);
  far = far;
  far_second = far_second;
  apart = apart;
}

-- ---- the answers

pub plan_beside-requires-clause-ours : goal.plan_beside-requires-clause-ours
plan_beside-requires-clause-ours g c told = found_of_source (g.U.Target.view c.args.second.now) (g.F.Source.kind c.args.source.now) c.args.second_found c.requires.second_ours

pub returns-in-Err : goal.returns-in-Err
returns-in-Err g c =
    let store = g.S.Store in
    let sink = g.O.Sink in
    let f = c.args.source.now in
    let t = c.args.first.now in
    let u = c.args.second.now in
    let source = source_meaning g.F.Source f in
    let first = target_facts g.T.Target t in
    let second = target_facts g.U.Target u in
    let laws = pair_laws g f t u c.requires.far c.requires.far_second c.requires.apart in
    let old = c.args.store.now in
    let e = c.in-Err.error in
    let is = c.in-Err.ensures in
    second_unread store sink source first second laws c.args.mode c.args.now_ms old c.plan_beside.new.store c.args.out.now c.refuse.new.out e c.refuse.result is.only_reads c.requires.there
    (read_refused store g.met.S.Store.only_now g.F.Source f g.U.Target u (second_laws g f u) (g.met.U.Target.one_path u) c.args.mode c.args.now_ms old old (reading_begins store g.met.S.Store.only_now old)
    ⊥ ⊥ (fails_never store.faults store.may_fail old ⊥ (λ never. never)) (uncontested_never store.contests store.may_contest old) c.requires.there (λ told. (c.args.head.now, c.requires.head told)) c.plan_beside.new.store e is.only_reads is.cause is.contest is.refused)
    (λ told. stands_planned g.T.Target t (g.F.Source.kind f) (store.disk old).files c.args.mode c.args.first_plan (g.met.T.Target.kept_view t) c.requires.first_sound (c.requires.first_due told).stands)
    (subst (λ (s : Status). Tells sink c.args.out.now c.refuse.new.out (refusal_line s) s c.refuse.result) c.status_of_source.ensures c.refuse.ensures)

pub apply_one-answer-requires-clause-counted : goal.apply_one-answer-requires-clause-counted
apply_one-answer-requires-clause-counted g c told =
    let target = g.T.Target in
    let t = c.args.first.now in
    let kept = c.args.first_plan.kept in
    g.met.T.Target.kept_counted t kept (g.S.Store.disk c.plan_beside.new.store).files (subst (λ (d : Disk). target.stands_for t kept d.files) (sym (c.in-Ok.ensures.only_reads told).disk) (c.requires.first_due told).stands)

pub apply_one-answer-requires-clause-can : goal.apply_one-answer-requires-clause-can
apply_one-answer-requires-clause-can g c =
    let target = g.T.Target in
    let t = c.args.first.now in
    let plan = c.args.first_plan in
    subst (λ (k : Kind). CanApplyPlan (target.image t) k (record { source = k; table = plan.table }) plan.partition plan.commits (target.view t plan.kept)) (sym c.kind.ensures) c.requires.first_sound.can

pub returns-then-ends : goal.returns-then-ends
returns-then-ends g c =
    let store = g.S.Store in
    let sink = g.O.Sink in
    let f = c.args.source.now in
    let t = c.args.first.now in
    let u = c.args.second.now in
    let source = source_meaning g.F.Source f in
    let first = target_facts g.T.Target t in
    let second = target_facts g.U.Target u in
    let laws = pair_laws g f t u c.requires.far c.requires.far_second c.requires.apart in
    let old = c.args.store.now in
    let mid = c.apply_one-answer.new.store in
    let plan = c.in-Ok.ensures in
    let done = c.apply_one-answer.ensures in
    first_last store sink source first second laws c.args.mode c.args.now_ms old mid c.args.out.now c.put_answer-so_far.new.out done.0 c.put_answer-so_far.result c.requires.there
    (plan_applied store g.met.S.Store.only_now g.F.Source f g.T.Target t (first_laws g f t) (g.met.T.Target.one_path t) c.args.mode c.args.now_ms old old (reading_begins store g.met.S.Store.only_now old) ⊥ ⊥ (fails_never store.faults store.may_fail old ⊥ (λ never. never)) (uncontested_never store.contests store.may_contest old) c.requires.there
    c.plan_beside.new.store mid plan.only_reads _ _ plan.cause plan.contest c.args.head.now c.requires.head c.args.first_plan c.requires.first_sound c.requires.first_due c.kind.result c.kind.ensures done.0 done.2).0
    (told_as sink c.args.out.now c.put_answer-so_far.new.out c.kind-2.result first.files.kind c.apply_one-answer.result _ c.put_answer-so_far.result c.kind-2.ensures done.1 c.put_answer-so_far.ensures)
    (c.ends.ensures.0 c.if-ends.true)
    (λ told. stands_found g.U.Target u (g.F.Source.kind f) (store.disk old).files c.args.second_found (g.met.U.Target.kept_view u) c.requires.second_ours (c.requires.second_found told))

pub apply_one-answer-requires-2-clause-counted : goal.apply_one-answer-requires-2-clause-counted
apply_one-answer-requires-2-clause-counted g c told =
    let store = g.S.Store in
    let f = c.args.source.now in
    let t = c.args.first.now in
    let u = c.args.second.now in
    let mid = c.apply_one-answer.new.store in
    let plan = c.in-Ok.plan in
    let due = due_beside store (source_meaning g.F.Source f) (source_laws g f) (g.T.Target.kind t) c.requires.far c.args.store.now c.plan_beside.new.store mid c.in-Ok.ensures.only_reads c.apply_one-answer.ensures.2.alone
    (g.U.Target.view u) (g.U.Target.stands_for u) (g.U.Target.kind u) (λ is. c.requires.apart (sym is)) (g.met.U.Target.kept_own u) c.args.mode c.args.head.now plan c.in-Ok.ensures.due in
    g.met.U.Target.kept_counted u plan.kept (store.disk mid).files (due told).stands

pub apply_one-answer-requires-2-clause-can : goal.apply_one-answer-requires-2-clause-can
apply_one-answer-requires-2-clause-can g c =
    let target = g.U.Target in
    let u = c.args.second.now in
    let plan = c.in-Ok.plan in
    subst (λ (k : Kind). CanApplyPlan (target.image u) k (record { source = k; table = plan.table }) plan.partition plan.commits (target.view u plan.kept)) (sym c.kind-3.ensures) (c.in-Ok.ensures.sound c.requires.second_ours).can

pub returns : goal.returns
returns g c =
    let store = g.S.Store in
    let sink = g.O.Sink in
    let f = c.args.source.now in
    let t = c.args.first.now in
    let u = c.args.second.now in
    let source = source_meaning g.F.Source f in
    let first = target_facts g.T.Target t in
    let second = target_facts g.U.Target u in
    let laws = pair_laws g f t u c.requires.far c.requires.far_second c.requires.apart in
    let old = c.args.store.now in
    let mid = c.apply_one-answer.new.store in
    let new = c.apply_one-answer-2.new.store in
    let plan = c.in-Ok.ensures in
    let done = c.apply_one-answer.ensures in
    let more = c.apply_one-answer-2.ensures in
    let head = c.args.head.now in
    let read = c.plan_beside.new.store in
    let second_plan = c.in-Ok.plan in
    let own = source_laws g f in
    let both = plan_applied store g.met.S.Store.only_now g.F.Source f g.U.Target u (second_laws g f u) (g.met.U.Target.one_path u) c.args.mode c.args.now_ms mid mid (reading_begins store g.met.S.Store.only_now mid) ⊥ ⊥ (fails_never store.faults store.may_fail mid ⊥ (λ never. never)) (uncontested_never store.contests store.may_contest mid)
    (there_beside store source own first.files.kind c.requires.far old read mid plan.only_reads done.2.alone c.requires.there)
    mid new (reading_begins store g.met.S.Store.only_now mid) ⊥ ⊥ (fails_never store.faults store.may_fail mid ⊥ (λ never. never)) (uncontested_never store.contests store.may_contest mid) head
    (head_beside store source own first.files.kind c.requires.far old read mid plan.only_reads done.2.alone head c.requires.head) second_plan (plan.sound c.requires.second_ours)
    (due_beside store source own first.files.kind c.requires.far old read mid plan.only_reads done.2.alone (g.U.Target.view u) (g.U.Target.stands_for u) (g.U.Target.kind u) (λ is. c.requires.apart (sym is)) (g.met.U.Target.kept_own u) c.args.mode head second_plan plan.due)
    c.kind-3.result c.kind-3.ensures more.0 more.2 in
    both_applied store sink source first second laws c.args.mode c.args.now_ms old mid new c.args.out.now c.put_answer-so_far.new.out c.put_behind.new.out done.0 more.0 c.put_answer-so_far.result c.put_behind.result
    (plan_applied store g.met.S.Store.only_now g.F.Source f g.T.Target t (first_laws g f t) (g.met.T.Target.one_path t) c.args.mode c.args.now_ms old old (reading_begins store g.met.S.Store.only_now old) ⊥ ⊥ (fails_never store.faults store.may_fail old ⊥ (λ never. never)) (uncontested_never store.contests store.may_contest old) c.requires.there
    c.plan_beside.new.store mid plan.only_reads _ _ plan.cause plan.contest c.args.head.now c.requires.head c.args.first_plan c.requires.first_sound c.requires.first_due c.kind.result c.kind.ensures done.0 done.2).0
    (told_as sink c.args.out.now c.put_answer-so_far.new.out c.kind-2.result first.files.kind c.apply_one-answer.result _ c.put_answer-so_far.result c.kind-2.ensures done.1 c.put_answer-so_far.ensures)
    (λ once. one_answer c.ends.result c.if-ends.false (c.ends.ensures.1 once))
    both.0 both.1
    (behind_as sink c.put_answer-so_far.new.out c.put_behind.new.out c.put_answer-so_far.result c.kind-4.result second.files.kind c.apply_one-answer-2.result _ c.put_behind.result c.kind-4.ensures more.1 c.put_behind.ensures)
