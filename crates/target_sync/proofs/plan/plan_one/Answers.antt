use Rattle.std.proofs.Common.{Result, sym, subst}
use Rattle.std.specs.Prelude.{IfErr}
use Rattle.target_sync.specs.Answered.{IsPlanRefusal}
use Rattle.target_sync.specs.Sources.{source_meaning}
use Rattle.target_sync.specs.Targets.{target_facts}
use Rattle.target_sync.specs.declared.plan.Plan.{Plan}
use Rattle.target_sync.specs.declared.status.Status.{Status}
use Rattle.target_sync.proofs.Planning.{plan_refusal}
use Rattle.target_sync.proofs.plan.plan_one.Goals as goal

pub returns-in-Absent-clause-refused : goal.returns-in-Absent-clause-refused
returns-in-Absent-clause-refused g c told =
    let source = source_meaning g.F.Source c.args.source.now in
    let target = target_facts g.T.Target c.args.target.now in
    let files = (g.S.Store.disk c.args.store.now).files in
    subst (λ (r : Result (Plan _) Status). IfErr r (IsPlanRefusal source target c.args.mode files)) (sym c.of_source.ensures.answer) (plan_refusal source target c.args.mode files c.plan_found.result (c.plan_found.ensures.refused told))

pub returns-in-Ours-clause-refused : goal.returns-in-Ours-clause-refused
returns-in-Ours-clause-refused g c told =
    let source = source_meaning g.F.Source c.args.source.now in
    let target = target_facts g.T.Target c.args.target.now in
    let files = (g.S.Store.disk c.args.store.now).files in
    subst (λ (r : Result (Plan _) Status). IfErr r (IsPlanRefusal source target c.args.mode files)) (sym c.of_source-in-Ours.ensures.answer) (plan_refusal source target c.args.mode files c.plan_found-in-Ours.result (c.plan_found-in-Ours.ensures.refused told))
