use Rattle.std.proofs.Common.{None, Some, Result, Err, sym, subst}
use Rattle.std.specs.Prelude.{IfErr}
use Rattle.lake_store.specs.Disk.{Disk}
use Rattle.lake_store.proofs.RunLaws.{reading_begins}
use Rattle.table_history.specs.declared.kind.Kind.{Kind}
use Rattle.target_sync.specs.Answered.{IsLate, IsNotForeign, IsSync}
use Rattle.target_sync.specs.Applied.{CanApplyPlan}
use Rattle.target_sync.specs.Sources.{source_meaning}
use Rattle.target_sync.specs.Targets.{target_facts}
use Rattle.target_sync.specs.declared.apply.Report.{Report}
use Rattle.target_sync.specs.declared.status.Status.{Status}
use Rattle.target_sync.proofs.Counting.{fails_never, uncontested_never}
use Rattle.target_sync.proofs.Finding.{found_of_source, plan_applied, read_refused}
use Rattle.target_sync.proofs.Refusing.{known_of_apply, known_of_source, late_of_source}
use Rattle.target_sync.proofs.Syncing.{Laws}
use Rattle.target_sync.proofs.sync.sync_found.Goals as goal

pub plan_found-requires-clause-ours : goal.plan_found-requires-clause-ours
plan_found-requires-clause-ours g c told = found_of_source (g.T.Target.view c.args.target.now) (g.F.Source.kind c.args.source.now) c.args.found c.requires.ours

pub apply_one-requires-clause-counted : goal.apply_one-requires-clause-counted
apply_one-requires-clause-counted g c told =
    let target = g.T.Target in
    let t = c.args.target.now in
    let kept = c.in-Ok.plan.kept in
    g.met.T.Target.kept_counted t kept (g.S.Store.disk c.plan_found.new.store).files
    (subst (λ (d : Disk). target.stands_for t kept d.files) (sym (c.in-Ok.ensures.only_reads told).disk) (c.in-Ok.ensures.due told).stands)

pub apply_one-requires-clause-can : goal.apply_one-requires-clause-can
apply_one-requires-clause-can g c =
    let target = g.T.Target in
    let t = c.args.target.now in
    let plan = c.in-Ok.plan in
    subst (λ (k : Kind). CanApplyPlan (target.image t) k (record { source = k; table = plan.table }) plan.partition plan.commits (target.view t plan.kept)) (sym c.kind.ensures) (c.in-Ok.ensures.sound c.requires.ours).can

pub returns-in-Ok-clause-sync : goal.returns-in-Ok-clause-sync
returns-in-Ok-clause-sync g c =
    let store = g.S.Store in
    let t = c.args.target.now in
    let f = c.args.source.now in
    let old = c.args.store.now in
    let laws : Laws g.F.Source f g.T.Target t = record {
      source_own = record {
        head_own = g.met.F.Source.head_own f;
        table_own = g.met.F.Source.table_own f;
        since_own = g.met.F.Source.since_own f;
        holds_own = g.met.F.Source.holds_own f;
        absent_own = g.met.F.Source.absent_own f;
        reaches_own = g.met.F.Source.reaches_own f;
        one_head = g.met.F.Source.one_head f;
        ends = g.met.F.Source.ends f;
        none_at_head = g.met.F.Source.none_at_head f;
      };
      views = record { one_view = g.met.T.Target.one_view t; absent_any = g.met.T.Target.absent_any t; published = g.met.T.Target.published t };
      crash = record { reads = g.met.T.Target.crash_reads t; carries = g.met.T.Target.crash_carries t; settled = g.met.T.Target.crash_settled t; within = g.met.T.Target.carries_within t };
      kept_view = g.met.T.Target.kept_view t;
      not_foreign = g.met.T.Target.not_foreign t;
    } in
    let done = c.apply_one.ensures in
    let plan = c.in-Ok.ensures in
    subst (λ (r : Result Report Status). IsSync store (source_meaning g.F.Source f) (target_facts g.T.Target t) None c.args.mode c.args.now_ms old c.apply_one.new.store (Some r)) (sym done.1)
    (plan_applied store g.met.S.Store.only_now g.F.Source f g.T.Target t laws (g.met.T.Target.one_path t) c.args.mode c.args.now_ms
    old old (reading_begins store g.met.S.Store.only_now old) ⊥ ⊥ (fails_never store.faults store.may_fail old ⊥ (λ never. never)) (uncontested_never store.contests store.may_contest old) c.requires.there
    c.plan_found.new.store c.apply_one.new.store plan.only_reads _ _ plan.cause plan.contest c.args.head.now c.requires.head c.in-Ok.plan (plan.sound c.requires.ours) plan.due c.kind.result c.kind.ensures done.0 done.2).0

pub returns-in-Ok-clause-late : goal.returns-in-Ok-clause-late
returns-in-Ok-clause-late g c told =
    let store = g.S.Store in
    let t = c.args.target.now in
    let f = c.args.source.now in
    let old = c.args.store.now in
    let laws : Laws g.F.Source f g.T.Target t = record {
      source_own = record {
        head_own = g.met.F.Source.head_own f;
        table_own = g.met.F.Source.table_own f;
        since_own = g.met.F.Source.since_own f;
        holds_own = g.met.F.Source.holds_own f;
        absent_own = g.met.F.Source.absent_own f;
        reaches_own = g.met.F.Source.reaches_own f;
        one_head = g.met.F.Source.one_head f;
        ends = g.met.F.Source.ends f;
        none_at_head = g.met.F.Source.none_at_head f;
      };
      views = record { one_view = g.met.T.Target.one_view t; absent_any = g.met.T.Target.absent_any t; published = g.met.T.Target.published t };
      crash = record { reads = g.met.T.Target.crash_reads t; carries = g.met.T.Target.crash_carries t; settled = g.met.T.Target.crash_settled t; within = g.met.T.Target.carries_within t };
      kept_view = g.met.T.Target.kept_view t;
      not_foreign = g.met.T.Target.not_foreign t;
    } in
    let done = c.apply_one.ensures in
    let plan = c.in-Ok.ensures in
    subst (λ (r : Result Report Status). IfErr r (IsLate (source_meaning g.F.Source f) (target_facts g.T.Target t) c.args.mode c.args.now_ms (store.disk old).files)) (sym done.1)
    ((plan_applied store g.met.S.Store.only_now g.F.Source f g.T.Target t laws (g.met.T.Target.one_path t) c.args.mode c.args.now_ms
    old old (reading_begins store g.met.S.Store.only_now old) ⊥ ⊥ (fails_never store.faults store.may_fail old ⊥ (λ never. never)) (uncontested_never store.contests store.may_contest old) c.requires.there
    c.plan_found.new.store c.apply_one.new.store plan.only_reads _ _ plan.cause plan.contest c.args.head.now c.requires.head c.in-Ok.plan (plan.sound c.requires.ours) plan.due c.kind.result c.kind.ensures done.0 done.2).1 told)

pub returns-in-Err-clause-sync : goal.returns-in-Err-clause-sync
returns-in-Err-clause-sync g c =
    let store = g.S.Store in
    let t = c.args.target.now in
    let f = c.args.source.now in
    let old = c.args.store.now in
    let new = c.plan_found.new.store in
    let e = c.in-Err.error in
    let laws : Laws g.F.Source f g.T.Target t = record {
      source_own = record {
        head_own = g.met.F.Source.head_own f;
        table_own = g.met.F.Source.table_own f;
        since_own = g.met.F.Source.since_own f;
        holds_own = g.met.F.Source.holds_own f;
        absent_own = g.met.F.Source.absent_own f;
        reaches_own = g.met.F.Source.reaches_own f;
        one_head = g.met.F.Source.one_head f;
        ends = g.met.F.Source.ends f;
        none_at_head = g.met.F.Source.none_at_head f;
      };
      views = record { one_view = g.met.T.Target.one_view t; absent_any = g.met.T.Target.absent_any t; published = g.met.T.Target.published t };
      crash = record { reads = g.met.T.Target.crash_reads t; carries = g.met.T.Target.crash_carries t; settled = g.met.T.Target.crash_settled t; within = g.met.T.Target.carries_within t };
      kept_view = g.met.T.Target.kept_view t;
      not_foreign = g.met.T.Target.not_foreign t;
    } in
    subst (λ (s : Status). IsSync store (source_meaning g.F.Source f) (target_facts g.T.Target t) None c.args.mode c.args.now_ms old new (Some (Err s))) (sym c.status_of_source.ensures)
    (read_refused store g.met.S.Store.only_now g.F.Source f g.T.Target t laws (g.met.T.Target.one_path t) c.args.mode c.args.now_ms old old (reading_begins store g.met.S.Store.only_now old)
    ⊥ ⊥ (fails_never store.faults store.may_fail old ⊥ (λ never. never)) (uncontested_never store.contests store.may_contest old) c.requires.there (λ told. (c.args.head.now, c.requires.head told)) new e
    c.in-Err.ensures.only_reads c.in-Err.ensures.cause c.in-Err.ensures.contest c.in-Err.ensures.refused)

pub returns-in-Err-clause-late : goal.returns-in-Err-clause-late
returns-in-Err-clause-late g c told =
    let source = source_meaning g.F.Source c.args.source.now in
    let target = target_facts g.T.Target c.args.target.now in
    let files = (g.S.Store.disk c.args.store.now).files in
    subst (λ (s : Status). IsLate source target c.args.mode c.args.now_ms files s) (sym c.status_of_source.ensures) (late_of_source source target c.args.mode c.args.now_ms files (Unit {0}) c.in-Err.error)

pub returns-in-Ok-clause-known : goal.returns-in-Ok-clause-known
returns-in-Ok-clause-known g c = subst (λ (r : Result Report Status). IfErr r IsNotForeign) (sym c.apply_one.ensures.1) (known_of_apply (g.T.Target.kind c.args.target.now) c.apply_one.ensures.0)

pub returns-in-Err-clause-known : goal.returns-in-Err-clause-known
returns-in-Err-clause-known g c = subst IsNotForeign (sym c.status_of_source.ensures) (known_of_source c.in-Err.error)
