use Rattle.std.proofs.Common.{◌≡◌, sym, ap, subst}
use Rattle.std.specs.Prelude.{Err}
use Rattle.lake_store.specs.Disk.{Disk}
use Rattle.target_sync.specs.Sources.{source_meaning}
use Rattle.target_sync.specs.Targets.{target_facts}
use Rattle.target_sync.proofs.Owning.{own_laws}
use Rattle.target_sync.proofs.Standing.{SourceLaws}
use Rattle.target_sync.proofs.Syncing.{Laws}
use Rattle.sync_driver.proofs.Pairs.{PairLaws}
use Rattle.source_core.specs.declared.error.SourceError.{SourceError}
use Rattle.source_core.specs.declared.error.SourceError.TheVariants.{StoreFault}
use Rattle.target_core.specs.TargetMeanings.{meaning}
use Rattle.target_sync.specs.declared.status.Status.{Status}
use Rattle.sync_driver.specs.Lines.{refusal_line}
use Rattle.sync_driver.specs.Tellings.{Tells}
use Rattle.target_sync.proofs.Along.{AlongLaws}
use Rattle.target_sync.proofs.Counting.{fails_as}
use Rattle.target_sync.proofs.Finding.{head_refused}
use Rattle.sync_driver.proofs.PairEnds.{head_ended, pending_cut, went_both}
use Rattle.sync_driver.proofs.pair.sync_both.Given.{Over}
use Rattle.sync_driver.proofs.pair.sync_both.Goals as goal

-- ---- what the source and the targets keep to

source_laws : (g : Over) (f : g.row.F.Denot) → SourceLaws (source_meaning g.F.Source f)
source_laws g f = record {
  head_own = g.met.F.Source.head_own f;
  table_own = g.met.F.Source.table_own f;
  since_own = g.met.F.Source.since_own f;
  holds_own = g.met.F.Source.holds_own f;
  absent_own = g.met.F.Source.absent_own f;
  reaches_own = g.met.F.Source.reaches_own f;
  one_head = g.met.F.Source.one_head f;
  ends = g.met.F.Source.ends f;
  none_at_head = g.met.F.Source.none_at_head f;
}

first_laws : (g : Over) (f : g.row.F.Denot) (t : g.row.T.Denot) → Laws g.F.Source f g.T.Target t
first_laws g f t = record {
  source_own = source_laws g f;
  views = record { one_view = g.met.T.Target.one_view t; absent_any = g.met.T.Target.absent_any t; published = g.met.T.Target.published t };
  crash = record { reads = g.met.T.Target.crash_reads t; carries = g.met.T.Target.crash_carries t; settled = g.met.T.Target.crash_settled t; within = g.met.T.Target.carries_within t };
  kept_view = g.met.T.Target.kept_view t;
  not_foreign = g.met.T.Target.not_foreign t;
}

second_laws : (g : Over) (f : g.row.F.Denot) (u : g.row.U.Denot) → Laws g.F.Source f g.U.Target u
second_laws g f u = record {
  source_own = source_laws g f;
  views = record { one_view = g.met.U.Target.one_view u; absent_any = g.met.U.Target.absent_any u; published = g.met.U.Target.published u };
  crash = record { reads = g.met.U.Target.crash_reads u; carries = g.met.U.Target.crash_carries u; settled = g.met.U.Target.crash_settled u; within = g.met.U.Target.carries_within u };
  kept_view = g.met.U.Target.kept_view u;
  not_foreign = g.met.U.Target.not_foreign u;
}

pair_laws : (g : Over) (f : g.row.F.Denot) (t : g.row.T.Denot) (u : g.row.U.Denot) → (g.F.Source.kind f ≡ g.T.Target.kind t → ⊥) → (g.F.Source.kind f ≡ g.U.Target.kind u → ⊥) → (g.T.Target.kind t ≡ g.U.Target.kind u → ⊥)
    → PairLaws g.S.Store (source_meaning g.F.Source f) (target_facts g.T.Target t) (target_facts g.U.Target u)
pair_laws g f t u far far_second apart = record {
  only_now = g.met.S.Store.only_now;
  now_counts = g.met.S.Store.counts_now;
  source_laws = source_laws g f;
  fault_laws = record { at_head = g.met.F.Source.at_head_own f; from_scratch = g.met.F.Source.from_scratch_own f; from_position = g.met.F.Source.from_position_own f };
  first_crash = (first_laws g f t).crash;
  first_own = own_laws g.T.Target t (g.met.T.Target.reads_own t) (g.met.T.Target.commits_own t) (g.met.T.Target.carries_own t) (g.met.T.Target.settled_own t) (g.met.T.Target.reached_in t) (g.met.T.Target.reached_stays t) (g.met.T.Target.foreign_own t)
      (g.met.T.Target.crowded_own t) (g.met.T.Target.passes_own t) (g.met.T.Target.kept_own t);
  second_crash = (second_laws g f u).crash;
  second_own = own_laws g.U.Target u (g.met.U.Target.reads_own u) (g.met.U.Target.commits_own u) (g.met.U.Target.carries_own u) (g.met.U.Target.settled_own u) (g.met.U.Target.reached_in u) (g.met.U.Target.reached_stays u) (g.met.U.Target.foreign_own u)
      (g.met.U.Target.crowded_own u) (g.met.U.Target.passes_own u) (g.met.U.Target.kept_own u);
  far = far;
  far_second = far_second;
  apart = apart;
}

-- ---- the answers

first_along : (g : Over) (f : g.row.F.Denot) (t : g.row.T.Denot) → AlongLaws (source_meaning g.F.Source f) (meaning g.T.Target t)
first_along g f t = record { histories = record { last = g.met.F.Source.last f; along = g.met.F.Source.along f; one_head = g.met.F.Source.one_head f; reached_held = g.met.F.Source.reached_held f }; kinds = g.met.T.Target.image_kinds t; published = g.met.T.Target.published t; absent_any = g.met.T.Target.absent_any t }

second_along : (g : Over) (f : g.row.F.Denot) (u : g.row.U.Denot) → AlongLaws (source_meaning g.F.Source f) (meaning g.U.Target u)
second_along g f u = record { histories = record { last = g.met.F.Source.last f; along = g.met.F.Source.along f; one_head = g.met.F.Source.one_head f; reached_held = g.met.F.Source.reached_held f }; kinds = g.met.U.Target.image_kinds u; published = g.met.U.Target.published u; absent_any = g.met.U.Target.absent_any u }

pub sync_both_from-requires-clause-head : goal.sync_both_from-requires-clause-head
sync_both_from-requires-clause-head g c told = subst (λ (d : Disk). g.F.Source.is_head c.args.source.now d.files c.in-Ok.head) (sym (c.in-Ok.ensures.only_reads told).disk) (c.in-Ok.ensures.head told).1

pub sync_both_from-requires-clause-there : goal.sync_both_from-requires-clause-there
sync_both_from-requires-clause-there g c told = subst (λ (d : Disk). ¬ g.F.Source.is_absent c.args.source.now d.files) (sym (c.in-Ok.ensures.only_reads told).disk) (c.in-Ok.ensures.head told).0

pub returns-in-Err : goal.returns-in-Err
returns-in-Err g c =
    let store = g.S.Store in
    let sink = g.O.Sink in
    let f = c.args.source.now in
    let t = c.args.first.now in
    let u = c.args.second.now in
    let source = source_meaning g.F.Source f in
    let first = target_facts g.T.Target t in
    let second = target_facts g.U.Target u in
    let laws = pair_laws g f t u c.requires.far c.requires.far_second c.requires.apart in
    let old = c.args.store.now in
    let e = c.in-Err.error in
    let is = c.in-Err.ensures in
    head_ended store sink source first second laws (first_along g f t) (second_along g f u) c.args.mode c.args.now_ms old c.head.new.store c.args.out.now c.refuse.new.out e c.refuse.result is.only_reads
    (head_refused store g.met.S.Store.only_now g.F.Source f g.T.Target t (first_laws g f t) (g.met.T.Target.one_path t) c.args.mode c.args.now_ms old c.head.new.store e is.only_reads
    (fails_as store.faults store.may_fail old c.head.new.store _ (e ≡ StoreFault) (λ is. ap (λ (x : SourceError). Err x) is) is.cause) is.contest is.head)
    _ is.contest is.head (subst (λ (s : Status). Tells sink c.args.out.now c.refuse.new.out (refusal_line s) s c.refuse.result) c.status_of_source.ensures c.refuse.ensures)

pub returns-in-Ok-put_pending : goal.returns-in-Ok-put_pending
returns-in-Ok-put_pending g c =
    let store = g.S.Store in
    let sink = g.O.Sink in
    let f = c.args.source.now in
    let t = c.args.first.now in
    let u = c.args.second.now in
    let source = source_meaning g.F.Source f in
    let first = target_facts g.T.Target t in
    let second = target_facts g.U.Target u in
    let laws = pair_laws g f t u c.requires.far c.requires.far_second c.requires.apart in
    let old = c.args.store.now in
    let is = c.in-Ok.ensures in
    went_both store sink source first second laws (first_along g f t) (second_along g f u) c.args.mode c.args.now_ms old c.head.new.store is.only_reads _ _ is.cause is.contest c.in-Ok.head (λ told. (is.head told).1) (λ told. (is.head told).0)
    c.args.out.now c.put_pending.new.out c.sync_both_from.new.store c.sync_both_from.new.out c.sync_both_from.result c.in-Ok-put_pending.ensures c.sync_both_from.ensures

pub returns : goal.returns
returns g c =
    let store = g.S.Store in
    let sink = g.O.Sink in
    let f = c.args.source.now in
    let t = c.args.first.now in
    let u = c.args.second.now in
    let source = source_meaning g.F.Source f in
    let first = target_facts g.T.Target t in
    let second = target_facts g.U.Target u in
    let laws = pair_laws g f t u c.requires.far c.requires.far_second c.requires.apart in
    let old = c.args.store.now in
    let is = c.in-Ok.ensures in
    pending_cut store sink source first second laws (first_along g f t) (second_along g f u) c.args.mode c.args.now_ms old c.head.new.store is.only_reads _ _ is.cause is.contest c.in-Ok.head (λ told. (is.head told).1) (λ told. (is.head told).0)
    c.args.out.now c.put_pending.new.out c.in-Err-put_pending.cut c.in-Err-put_pending.ensures
