use Rattle.std.proofs.Common.{Result, sym, subst}
use Rattle.std.proofs.lemmas.Result.{err_from_is_err_and}
use Rattle.source_core.specs.Answers.{IsHeadAnswer, IsHeadRefusal}
use Rattle.source_core.specs.declared.error.SourceError.{SourceError}
use Rattle.source_core.specs.declared.head.Head.{Head}
use Rattle.source_iceberg.specs.Heads.{IsAbsent, IsIcebergHead}
use Rattle.source_iceberg.specs.Reading.{ShowsAtHead}
use Rattle.source_iceberg.proofs.AtHead.{answered}
use Rattle.source_iceberg.proofs.source.IcebergSourceSource.head.Goals as goal

pub returns-in_err-newest-clause-head : goal.returns-in_err-newest-clause-head
returns-in_err-newest-clause-head g c told =
    let exit = err_from_is_err_and c.from_residual.result c.from_residual.ensures.1 in
    let files = (g.S.Store.disk c.args.store.now).files in
    subst (λ (r : Result Head SourceError). IsHeadAnswer (IsAbsent files) (IsIcebergHead files) (ShowsAtHead files) r) (sym exit.1)
    (subst (IsHeadRefusal (IsAbsent files) (ShowsAtHead files)) (sym exit.2) (c.in_err-newest.ensures.refused told))

pub returns-clause-head : goal.returns-clause-head
returns-clause-head g c told =
    let files = (g.S.Store.disk c.args.store.now).files in
    let newest = c.in_ok-newest.newest in
    answered files newest.version newest.metadata (c.in_ok-newest.ensures.newest told) c.head_of.result (c.in_ok-newest.ensures.few told) c.head_of.ensures.head c.head_of.ensures.refused
