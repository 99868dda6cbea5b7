use Rattle.std.proofs.Common.{inl, inr, Result, sym, subst, ◌∙◌}
use Rattle.std.proofs.lemmas.Result.{err_from_is_err_and}
use Rattle.std.specs.Prelude.{IfErr}
use Rattle.lake_store.specs.Runs.{OnlyReads}
use Rattle.lake_store.proofs.RunLaws.{reading_further}
use Rattle.target_core.specs.TargetMeanings.{meaning}
use Rattle.lake_sweep.specs.Refusals.{HasCause, IsSweepRefused}
use Rattle.lake_sweep.specs.Removing.{AreGone, IsEarly, Removes}
use Rattle.lake_sweep.specs.declared.error.SweepError.{SweepError}
use Rattle.lake_sweep.specs.declared.plan.Swept.{Swept}
use Rattle.lake_sweep.proofs.RemovingLaws.{after_reading}
use Rattle.lake_sweep.proofs.CauseLaws.{cause_weaker, not_early}
use Rattle.lake_sweep.proofs.SweepLaws.{swept_after}
use Rattle.lake_sweep.proofs.sweeping.remove_leftovers.Goals as goal

pub returns-in_err-swept-clause-sweeps : goal.returns-in_err-swept-clause-sweeps
returns-in_err-swept-clause-sweeps g c told = inl (c.sweep_plan.ensures.only_reads told)

pub returns-in_err-remove_all-clause-sweeps : goal.returns-in_err-remove_all-clause-sweeps
returns-in_err-remove_all-clause-sweeps g c told =
    let paths = c.in_ok-swept.swept.removed in
    let removes = subst (λ l. Removes g.S.Store l c.sweep_plan.new.store c.remove_all.new.store) c.as_slice.ensures (c.remove_all.ensures.removes told) in
    inr (paths, c.in_ok-swept.ensures.planned told, after_reading g.S.Store paths c.args.store.now c.sweep_plan.new.store c.remove_all.new.store told (c.sweep_plan.ensures.only_reads told) removes)

pub returns-in_err-remove_all-clause-refused : goal.returns-in_err-remove_all-clause-refused
returns-in_err-remove_all-clause-refused g c told =
    let t = c.args.target.now in
    let P : SweepError → Type 0 = IsSweepRefused (g.T.Target.is_foreign t) (g.T.Target.is_crowded t) (meaning g.T.Target t) (g.S.Store.disk c.args.store.now).files in
    let exit = err_from_is_err_and c.from_residual-in_err-remove_all.result c.from_residual-in_err-remove_all.ensures.1 in
    subst (λ (r : Result Swept SweepError). IfErr r (HasCause P)) (sym exit.1)
    (cause_weaker (λ (e : SweepError). ⊥) P (λ e none. absurd none) exit.0 (subst (HasCause (λ (e : SweepError). ⊥)) (sym exit.2) c.in_err-remove_all.ensures.refused))

pub returns-in_err-remove_all-clause-early : goal.returns-in_err-remove_all-clause-early
returns-in_err-remove_all-clause-early g c told =
    let exit = err_from_is_err_and c.from_residual-in_err-remove_all.result c.from_residual-in_err-remove_all.ensures.1 in
    subst (λ (r : Result Swept SweepError). IfErr r (λ e. IsEarly e → OnlyReads g.S.Store c.args.store.now c.remove_all.new.store)) (sym exit.1)
    (λ early. absurd (not_early exit.0 (subst (HasCause (λ (e : SweepError). ⊥)) (sym exit.2) c.in_err-remove_all.ensures.refused) early))

pub returns-clause-swept : goal.returns-clause-swept
returns-clause-swept g c told =
    let paths = c.in_ok-swept.swept.removed in
    swept_after g.S.Store (g.T.Target.kind c.args.target.now) c.args.store.now c.sweep_plan.new.store c.remove_all.new.store paths (c.sweep_plan.ensures.only_reads told) (c.in_ok-swept.ensures.planned told)
    (subst (λ l. AreGone l (g.S.Store.disk c.sweep_plan.new.store).files (g.S.Store.disk c.remove_all.new.store).files) c.as_slice.ensures (c.in_ok-remove_all.ensures.gone told))

pub returns-clause-none : goal.returns-clause-none
returns-clause-none g c told none =
    reading_further g.S.Store c.args.store.now c.sweep_plan.new.store c.remove_all.new.store (λ t. c.sweep_plan.ensures.only_reads t) (λ t. c.remove_all.ensures.none t (c.as_slice.ensures ∙ none)) told

pub returns-clause-sweeps : goal.returns-clause-sweeps
returns-clause-sweeps g c told =
    let paths = c.in_ok-swept.swept.removed in
    let removes = subst (λ l. Removes g.S.Store l c.sweep_plan.new.store c.remove_all.new.store) c.as_slice.ensures (c.remove_all.ensures.removes told) in
    inr (paths, c.in_ok-swept.ensures.planned told, after_reading g.S.Store paths c.args.store.now c.sweep_plan.new.store c.remove_all.new.store told (c.sweep_plan.ensures.only_reads told) removes)
