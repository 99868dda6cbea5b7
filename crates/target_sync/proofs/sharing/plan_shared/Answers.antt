use Rattle.std.proofs.Common.{inr, List, Option, subst}
use Rattle.lake_store.proofs.RunLaws.{reading_begins}
use Rattle.source_core.specs.Answers.{IsReadRefusal}
use Rattle.source_core.specs.declared.error.SourceError.{SourceError}
use Rattle.source_core.proofs.Answers.{weaker}
use Rattle.target_sync.specs.Answered.{IsReadFault}
use Rattle.target_sync.specs.Dues.{TakesCommits}
use Rattle.target_sync.specs.Plans.{IsFound, IsFoundOfSource, IsFoundOurs, IsSincePlan}
use Rattle.target_sync.specs.Shared.{IsAlike}
use Rattle.target_sync.specs.Sources.{source_meaning}
use Rattle.target_sync.specs.Targets.{target_facts}
use Rattle.target_sync.specs.declared.sharing.Alike.{Alike}
use Rattle.table_history.specs.declared.table.Commit.{Commit}
use Rattle.target_sync.proofs.DueToo.{not_taken_too, shared_due, shared_sound}
use Rattle.target_sync.proofs.Planning.{full_fault, if_err_as}
use Rattle.target_sync.proofs.sharing.plan_shared.Goals as goal

pub returns-in_ok-plan_since-in-Commits-clause-sound : goal.returns-in_ok-plan_since-in-Commits-clause-sound
returns-in_ok-plan_since-in-Commits-clause-sound g c ours =
    let first = g.T.Target in
    let t = c.args.first.now in
    let second = g.U.Target in
    let u = c.args.second.now in
    let head = c.args.head.now in
    let planned = c.args.planned.now in
    let kept = c.in-Some.kept in
    let plan = c.in_ok-plan_since-in-Commits.field-0 in
    let kind = g.F.Source.kind c.args.source.now in
    let too = subst (λ (a : Alike). IsAlike (first.view t) (second.view u) head c.args.mode planned kept a) c.in-Commits.is c.in_ok-commits.ensures in
    shared_sound (first.view t) (second.view u) (source_meaning g.F.Source c.args.source.now) c.args.mode head planned kept too.1 plan
    (subst (λ (cs : List Commit). IsSincePlan (second.view u) head kept cs plan) too.0 c.in_ok-plan_since-in-Commits.ensures)
    (first.image t) (second.image u) kind c.requires.first_sound (g.met.U.Target.image_publishable u)
    (subst (λ (f : Option _). IsFoundOurs (second.view u) kind f) c.in-Some.is ours)

pub returns-in_ok-plan_since-in-Commits-clause-due : goal.returns-in_ok-plan_since-in-Commits-clause-due
returns-in_ok-plan_since-in-Commits-clause-due g c told =
    let first = g.T.Target in
    let t = c.args.first.now in
    let second = g.U.Target in
    let u = c.args.second.now in
    let head = c.args.head.now in
    let planned = c.args.planned.now in
    let kept = c.in-Some.kept in
    let plan = c.in_ok-plan_since-in-Commits.field-0 in
    let source = source_meaning g.F.Source c.args.source.now in
    let files = (g.S.Store.disk c.args.store.now).files in
    let too = subst (λ (a : Alike). IsAlike (first.view t) (second.view u) head c.args.mode planned kept a) c.in-Commits.is c.in_ok-commits.ensures in
    shared_due (first.view t) (second.view u) source c.args.mode head planned kept too.1 plan
    (subst (λ (cs : List Commit). IsSincePlan (second.view u) head kept cs plan) too.0 c.in_ok-plan_since-in-Commits.ensures)
    files (first.stands_for t) (second.stands_for u) (c.requires.head told) (c.requires.first_due told)
    (subst (λ (f : Option _). IsFound (second.reads u) (second.stands_for u) files f) c.in-Some.is (c.requires.found told))
    (subst (λ (f : Option _). IsFoundOfSource (second.view u) source.kind f) c.in-Some.is (c.requires.ours told))

pub plan_full-requires-clause-in_full : goal.plan_full-requires-clause-in_full
plan_full-requires-clause-in_full g c told =
    let first = g.T.Target in
    let t = c.args.first.now in
    let second = g.U.Target in
    let u = c.args.second.now in
    let source = source_meaning g.F.Source c.args.source.now in
    let files = (g.S.Store.disk c.args.store.now).files in
    let too = subst (λ (a : Alike). IsAlike (first.view t) (second.view u) c.args.head.now c.args.mode c.args.planned.now c.in-Some.kept a) c.in-Whole.is c.in_ok-commits.ensures in
    not_taken_too (first.view t) (second.view u) source c.args.mode c.args.head.now c.args.planned.now c.in-Some.kept too files (first.stands_for t) (c.requires.head told) (first.image t) c.requires.first_sound (c.requires.first_due told)

pub returns-in-Whole-clause-refused : goal.returns-in-Whole-clause-refused
returns-in-Whole-clause-refused g c told =
    let first = g.T.Target in
    let t = c.args.first.now in
    let second = g.U.Target in
    let u = c.args.second.now in
    let source = source_meaning g.F.Source c.args.source.now in
    let target = target_facts g.U.Target u in
    let files = (g.S.Store.disk c.args.store.now).files in
    let kept = c.in-Some.kept in
    let view = second.view u kept in
    let too = subst (λ (a : Alike). IsAlike (first.view t) (second.view u) c.args.head.now c.args.mode c.args.planned.now kept a) c.in-Whole.is c.in_ok-commits.ensures in
    let not : TakesCommits source c.args.mode files view → ⊥
    = not_taken_too (first.view t) (second.view u) source c.args.mode c.args.head.now c.args.planned.now kept too files (first.stands_for t) (c.requires.head told) (first.image t) c.requires.first_sound (c.requires.first_due told) in
    let stands = subst (λ (f : Option _). IsFound (second.reads u) (second.stands_for u) files f) c.in-Some.is (c.requires.found told) in
    let ours = subst (λ (f : Option _). IsFoundOfSource (second.view u) source.kind f) c.in-Some.is (c.requires.ours told) in
    let Fault : SourceError → Type 0 = source.from_scratch files in
    if_err_as (IsReadRefusal Fault) (IsReadRefusal (IsReadFault source target c.args.mode files))
    (weaker Fault (IsReadFault source target c.args.mode files) (full_fault source target c.args.mode files view (c.args.head.now, c.requires.head told) (g.met.U.Target.kept_view u kept files stands) (inr ours) not)) c.plan_full.result
    (c.plan_full.ensures.refused told)

pub returns-in_err-plan_since-in-Commits-clause-only_reads : goal.returns-in_err-plan_since-in-Commits-clause-only_reads
returns-in_err-plan_since-in-Commits-clause-only_reads g c = reading_begins g.S.Store g.met.S.Store.only_now c.args.store.now

pub returns-in_ok-plan_since-in-Commits-clause-only_reads : goal.returns-in_ok-plan_since-in-Commits-clause-only_reads
returns-in_ok-plan_since-in-Commits-clause-only_reads g c = reading_begins g.S.Store g.met.S.Store.only_now c.args.store.now
