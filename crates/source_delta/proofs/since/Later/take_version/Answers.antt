use Rattle.std.proofs.Common.{Result, sym, subst}
use Rattle.std.proofs.lemmas.Result.{err_from_is_err_and}
use Rattle.std.specs.Prelude.{IfErr}
use Rattle.source_core.proofs.Answers.{errs}
use Rattle.source_core.specs.Answers.{IsReadRefusal}
use Rattle.source_core.specs.declared.error.SourceError.{SourceError}
use Rattle.source_delta.specs.Since.{IsRefusedBehind}
use Rattle.source_delta.proofs.SinceLaws.{over_behind}
use Rattle.source_delta.proofs.since.Later.take_version.Goals as goal

pub returns-in_err-says-clause-refused : goal.returns-in_err-says-clause-refused
returns-in_err-says-clause-refused g c told =
    let exit = err_from_is_err_and c.from_residual.result c.from_residual.ensures.1 in
    let files = (g.S.Store.disk c.args.store.now).files in
    let before = c.args.self.now in
    subst (λ (r : Result (Unit {0}) SourceError). IfErr r (IsReadRefusal (IsRefusedBehind files c.args.version before.table before.actions))) (sym exit.1)
    (subst (IsReadRefusal (IsRefusedBehind files c.args.version before.table before.actions)) (sym exit.2) (c.in_err-says.ensures.refused told before.table))

pub returns-clause-next : goal.returns-clause-next
returns-clause-next g c told = c.take.ensures.next (g.S.Store.disk c.args.store.now).files (c.in_ok-says.ensures.says told)

pub returns-clause-refused : goal.returns-clause-refused
returns-clause-refused g c told =
    let files = (g.S.Store.disk c.args.store.now).files in
    let before = c.args.self.now in
    errs c.take.result _ _ (over_behind files c.args.version c.in_ok-says.says before.table before.actions (c.in_ok-says.ensures.says told) c.in_ok-says.ensures.few) c.take.ensures.refused
