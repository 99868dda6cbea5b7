use Rattle.std.proofs.Common.{Option, Result, subst, sym}
use Rattle.std.specs.Prelude.{IfErr}
use Rattle.std.proofs.lemmas.Result.{err_from_is_err_and}
use Rattle.hudi_table.specs.Reading.{IsNextHere, table_in}
use Rattle.hudi_table.specs.Refusals.{IsStepRefusal}
use Rattle.hudi_table.specs.declared.reading.Latest.{Latest}
use Rattle.hudi_table.specs.declared.reading.Naming.TheVariants.{External}
use Rattle.target_hudi.specs.InspectSteps.{IsInstantStop, latest_in}
use Rattle.target_hudi.specs.declared.inspect.Newest.{Newest}
use Rattle.target_hudi.specs.declared.stop.Stop.{Stop}
use Rattle.target_hudi.proofs.SeenLemmas.{sound_latest, step_stop, unmarked_stop}
use Rattle.target_hudi.proofs.inspect.read_instant.Goals as goal

pub returns-in_err-latest-clause-stop : goal.returns-in_err-latest-clause-stop
returns-in_err-latest-clause-stop g c = λ told.
    let exit = err_from_is_err_and c.from_residual.result c.from_residual.ensures.1 in
    let files = (g.S.Store.disk c.args.store.now).files in
    let source = c.args.source in
    let p = c.args.properties.now in
    let x = c.args.instant.now in
    let before = latest_in c.args.before in
    let e = c.in_err-latest.field-0.0 in
    let refused = subst (λ (l : Option Latest). IsStepRefusal files External p.table x (table_in l) e) c.latest_of-before.ensures (c.in_err-latest.ensures.refused told) in
    subst (λ (r : Result Newest Stop). IfErr r (IsInstantStop source files p x before)) (sym exit.1)
    (subst (IsInstantStop source files p x before) (sym exit.2) (step_stop source files p x before e (c.requires told) refused))

pub returns-in_err-mark-clause-stop : goal.returns-in_err-mark-clause-stop
returns-in_err-mark-clause-stop g c = λ told.
    let exit = err_from_is_err_and c.from_residual-in_err-mark.result c.from_residual-in_err-mark.ensures.1 in
    let files = (g.S.Store.disk c.args.store.now).files in
    let source = c.args.source in
    let p = c.args.properties.now in
    let x = c.args.instant.now in
    let before = latest_in c.args.before in
    let here = subst (λ (l : Option Latest). IsNextHere files External p.table x (table_in l) c.in_ok-latest.latest) c.latest_of-before.ensures (c.in_ok-latest.ensures.found told) in
    subst (λ (r : Result Newest Stop). IfErr r (IsInstantStop source files p x before)) (sym exit.1)
    (subst (IsInstantStop source files p x before) (sym exit.2) (unmarked_stop source files p x before c.in_ok-latest.latest here c.in_err-mark.field-0.0 c.in_err-mark.ensures.stop))

pub returns-clause-sound : goal.returns-clause-sound
returns-clause-sound g c = λ before.
    (c.in_ok-latest.ensures.sound (sound_latest c.args.source c.args.properties.now c.args.before c.latest_of-before.result c.latest_of-before.ensures before), c.in_ok-mark.ensures.mark.1)
