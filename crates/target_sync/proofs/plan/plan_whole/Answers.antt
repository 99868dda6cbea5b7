use Rattle.std.proofs.Common.{ℕ, List, Result, Err, sym, ap, subst, ◌∙◌}
use Rattle.std.specs.Prelude.{IfErr}
use Rattle.std.proofs.lemmas.Result.{err_from_is_err_and}
use Rattle.source_core.specs.Answers.{IsReadRefusal}
use Rattle.source_core.specs.declared.error.SourceError.{SourceError}
use Rattle.source_core.proofs.Answers.{weaker}
use Rattle.target_sync.specs.Sources.{source_meaning}
use Rattle.target_sync.specs.Targets.{IsStart}
use Rattle.target_sync.specs.declared.plan.Plan.{Plan}
use Rattle.target_sync.proofs.Planning.{full_due, full_sound, goes_on_found, not_taken_found, stands_found, start_found}
use Rattle.target_sync.proofs.plan.plan_whole.Goals as goal

pub id_behind-requires-clause-goes_on : goal.id_behind-requires-clause-goes_on
id_behind-requires-clause-goes_on g c told =
    let target = g.T.Target in
    let t = c.args.target.now in
    goes_on_found (target.view t) (target.reads t) (target.stands_for t) (g.F.Source.kind c.args.source.now) c.args.found c.as_slice.result.now c.in_ok-kept.kept (c.requires.ours told) c.in_ok-kept.ensures

pub returns-in_err-id-clause-refused : goal.returns-in_err-id-clause-refused
returns-in_err-id-clause-refused g c told =
    let Fault : SourceError → Type 0 = g.F.Source.from_scratch c.args.source.now (g.S.Store.disk c.args.store.now).files in
    let exit = err_from_is_err_and c.from_residual-in_err-id.result c.from_residual-in_err-id.ensures.1 in
    let e : SourceError = c.in_err-id.field-0.0 in
    subst (λ (r : Result (Plan _) SourceError). IfErr r (IsReadRefusal Fault)) (sym (exit.1 ∙ ap (λ (x : SourceError). Err x) exit.2)) (weaker (λ e. ⊥) Fault (λ e never. absurd never) e c.in_err-id.ensures.refused)

pub returns-clause-sound : goal.returns-clause-sound
returns-clause-sound g c ours =
    let target = g.T.Target in
    let t = c.args.target.now in
    full_sound (target.view t) (target.stands_for t) (source_meaning g.F.Source c.args.source.now) c.args.mode c.args.head.now c.args.table.now c.in_ok-kept.kept c.in_ok-id.id c.in_ok-plan_over.field-0 c.in_ok-plan_over.ensures
    (target.image t) (g.F.Source.kind c.args.source.now)
    (subst (λ (names : List (List ℕ)). IsStart (g.F.Source.kind c.args.source.now) names (target.view t c.in_ok-kept.kept)) c.as_slice.ensures
    (start_found (target.view t) (target.reads t) (target.stands_for t) (g.F.Source.kind c.args.source.now) c.args.found c.as_slice.result.now c.in_ok-kept.kept ours c.in_ok-kept.ensures))

pub returns-clause-due : goal.returns-clause-due
returns-clause-due g c told =
    let source = source_meaning g.F.Source c.args.source.now in
    let target = g.T.Target in
    let t = c.args.target.now in
    let files = (g.S.Store.disk c.args.store.now).files in
    let kept = c.in_ok-kept.kept in
    full_due (target.view t) (target.stands_for t) source c.args.mode c.args.head.now c.args.table.now kept c.in_ok-id.id c.in_ok-plan_over.field-0 c.in_ok-plan_over.ensures files
    (stands_found (target.view t) (target.reads t) (target.stands_for t) files c.args.found c.as_slice.result.now kept (c.requires.found told) c.in_ok-kept.ensures)
    (c.requires.table told)
    (c.in_ok-id.ensures.id told)
    (not_taken_found (target.view t) (target.reads t) (target.stands_for t) source c.args.mode files c.args.found c.as_slice.result.now kept (c.requires.in_full told) c.in_ok-kept.ensures)
