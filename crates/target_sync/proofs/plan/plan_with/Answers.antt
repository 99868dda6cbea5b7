use Rattle.std.proofs.Common.{◌≡◌, inr, Option, sym, subst, ◌∙◌}
use Rattle.source_core.specs.Answers.{IsReadRefusal}
use Rattle.source_core.specs.declared.error.SourceError.{SourceError}
use Rattle.source_core.proofs.Answers.{weaker}
use Rattle.target_sync.specs.Answered.{IsReadFault}
use Rattle.target_sync.specs.Dues.{TakesCommits}
use Rattle.target_sync.specs.Plans.{IsFound, IsFoundOfSource}
use Rattle.target_sync.specs.Sources.{source_meaning}
use Rattle.target_sync.specs.Targets.{target_facts}
use Rattle.target_sync.specs.declared.plan.Mode.TheVariants as modes
use Rattle.target_sync.proofs.Planning.{absent_fault, full_fault, if_err_as}
use Rattle.target_sync.proofs.plan.plan_with.Goals as goal

pub returns-in-None-clause-refused : goal.returns-in-None-clause-refused
returns-in-None-clause-refused g c told =
    let source = source_meaning g.F.Source c.args.source.now in
    let target = target_facts g.T.Target c.args.target.now in
    let t = c.args.target.now in
    let files = (g.S.Store.disk c.args.store.now).files in
    let reads = subst (λ (f : Option _). IsFound (g.T.Target.reads t) (g.T.Target.stands_for t) files f) c.in-None.is (c.requires.found told) in
    let Fault : SourceError → Type 0 = source.from_scratch files in
    if_err_as (IsReadRefusal Fault) (IsReadRefusal (IsReadFault source target c.args.mode files)) (weaker Fault (IsReadFault source target c.args.mode files) (absent_fault source target c.args.mode files (c.args.head.now, c.requires.head told) reads)) c.plan_full.result
    (c.plan_full.ensures.refused told)

pub returns-in-Full-clause-refused : goal.returns-in-Full-clause-refused
returns-in-Full-clause-refused g c told =
    let source = source_meaning g.F.Source c.args.source.now in
    let target = target_facts g.T.Target c.args.target.now in
    let t = c.args.target.now in
    let files = (g.S.Store.disk c.args.store.now).files in
    let kept = c.in-Some.kept in
    let view = g.T.Target.view t kept in
    let stands = subst (λ (f : Option _). IsFound (g.T.Target.reads t) (g.T.Target.stands_for t) files f) c.in-Some.is (c.requires.found told) in
    let ours = subst (λ (f : Option _). IsFoundOfSource (g.T.Target.view t) source.kind f) c.in-Some.is (c.requires.ours told) in
    let not : TakesCommits source c.args.mode files view → ⊥ = λ takes. let is : modes.Full ≡ modes.Sync = sym c.in-Full.is ∙ takes.0 in cc is in
    let Fault : SourceError → Type 0 = source.from_scratch files in
    if_err_as (IsReadRefusal Fault) (IsReadRefusal (IsReadFault source target c.args.mode files))
    (weaker Fault (IsReadFault source target c.args.mode files) (full_fault source target c.args.mode files view (c.args.head.now, c.requires.head told) (g.met.T.Target.kept_view t kept files stands) (inr ours) not)) c.plan_full-in-Full.result
    (c.plan_full-in-Full.ensures.refused told)
