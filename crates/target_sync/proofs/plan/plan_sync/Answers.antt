use Rattle.std.proofs.Common.{inr, Result, Err, sym, ap, subst, ◌∙◌}
use Rattle.std.specs.Prelude.{IfErr}
use Rattle.std.proofs.lemmas.Result.{err_from_is_err_and}
use Rattle.lake_store.specs.Disk.{Disk}
use Rattle.lake_store.proofs.RunLaws.{reading_further}
use Rattle.source_core.specs.Answers.{IsReadRefusal}
use Rattle.source_core.specs.Since.{CanApplySince}
use Rattle.source_core.specs.declared.error.SourceError.{SourceError}
use Rattle.source_core.specs.declared.since.Since.{Since}
use Rattle.source_core.proofs.Answers.{weaker}
use Rattle.target_sync.specs.Answered.{IsReadFault}
use Rattle.target_sync.specs.Dues.{IsSinceFault, TakesCommits}
use Rattle.target_sync.specs.Plans.{IsSinceMark}
use Rattle.target_sync.specs.Sources.{source_meaning}
use Rattle.target_sync.specs.Targets.{target_facts}
use Rattle.target_sync.specs.declared.plan.Mode.TheVariants as modes
use Rattle.target_sync.specs.declared.plan.Plan.{Plan}
use Rattle.target_sync.proofs.Planning.{full_fault, if_err_as, since_due, since_fault, since_sound}
use Rattle.target_sync.proofs.plan.plan_sync.Goals as goal

pub returns-in_err-commits-clause-refused : goal.returns-in_err-commits-clause-refused
returns-in_err-commits-clause-refused g c told =
    let source = source_meaning g.F.Source c.args.source.now in
    let target = target_facts g.T.Target c.args.target.now in
    let files = (g.S.Store.disk c.args.store.now).files in
    let view = g.T.Target.view c.args.target.now c.args.kept in
    let exit = err_from_is_err_and c.from_residual.result c.from_residual.ensures.1 in
    let e : SourceError = c.in_err-commits.field-0.0 in
    subst (λ (r : Result (Plan _) SourceError). IfErr r (IsReadRefusal (IsReadFault source target modes.Sync files))) (sym (exit.1 ∙ ap (λ (x : SourceError). Err x) exit.2))
    (weaker (IsSinceFault source files view) (IsReadFault source target modes.Sync files)
    (since_fault source target files view (c.args.head.now, c.requires.head told) (g.met.T.Target.kept_view c.args.target.now c.args.kept files (c.requires.stands told)) (inr (c.requires.ours told))) e (c.in_err-commits.ensures.refused told))

pub returns-in_ok-plan_since-in-Commits-clause-sound : goal.returns-in_ok-plan_since-in-Commits-clause-sound
returns-in_ok-plan_since-in-Commits-clause-sound g c ours =
    let target = g.T.Target in
    let t = c.args.target.now in
    since_sound (target.view t) (target.stands_for t) (source_meaning g.F.Source c.args.source.now) c.args.head.now c.args.kept c.in-Commits.commits c.in_ok-plan_since-in-Commits.field-0 c.in_ok-plan_since-in-Commits.ensures
    (target.image t) (g.F.Source.kind c.args.source.now) (g.met.T.Target.image_publishable t) (ours.2, ours.0)
    (subst (λ (s : Since). CanApplySince (target.view t c.args.kept).table s) c.in-Commits.is (c.in_ok-commits.ensures.can c.requires.publishable))

pub returns-in_ok-plan_since-in-Commits-clause-due : goal.returns-in_ok-plan_since-in-Commits-clause-due
returns-in_ok-plan_since-in-Commits-clause-due g c told =
    let source = source_meaning g.F.Source c.args.source.now in
    let target = g.T.Target in
    let t = c.args.target.now in
    let files = (g.S.Store.disk c.args.store.now).files in
    since_due (target.view t) (target.stands_for t) source c.args.head.now c.args.kept c.in-Commits.commits c.in_ok-plan_since-in-Commits.field-0 c.in_ok-plan_since-in-Commits.ensures files
    (c.requires.stands told) (subst (λ (s : Since). IsSinceMark source files (target.view t c.args.kept) s) c.in-Commits.is (c.in_ok-commits.ensures.since told))

pub returns-in-NotReached-clause-refused : goal.returns-in-NotReached-clause-refused
returns-in-NotReached-clause-refused g c told =
    let source = source_meaning g.F.Source c.args.source.now in
    let target = target_facts g.T.Target c.args.target.now in
    let files = (g.S.Store.disk c.args.store.now).files in
    let view = g.T.Target.view c.args.target.now c.args.kept in
    let not : TakesCommits source modes.Sync files view → ⊥
    = λ takes. subst (λ (s : Since). IsSinceMark source files view s) c.in-NotReached.is (c.in_ok-commits.ensures.since told) takes.1 in
    let Fault : SourceError → Type 0 = source.from_scratch files in
    if_err_as (IsReadRefusal Fault) (IsReadRefusal (IsReadFault source target modes.Sync files))
    (weaker Fault (IsReadFault source target modes.Sync files)
    (full_fault source target modes.Sync files view (c.args.head.now, c.requires.head told) (g.met.T.Target.kept_view c.args.target.now c.args.kept files (c.requires.stands told)) (inr (c.requires.ours told)) not))
    c.plan_full.result
    (subst (λ (d : Disk). IfErr c.plan_full.result (IsReadRefusal (source.from_scratch d.files))) (c.in_ok-commits.ensures.only_reads told).disk (c.plan_full.ensures.refused told))

pub returns-in-NotReached-clause-only_reads : goal.returns-in-NotReached-clause-only_reads
returns-in-NotReached-clause-only_reads g c = reading_further g.S.Store c.args.store.now c.commits_since.new.store c.plan_full.new.store c.in_ok-commits.ensures.only_reads c.plan_full.ensures.only_reads
