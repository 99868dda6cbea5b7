use Rattle.std.proofs.Common.{ℕ, ◌+◌, List, Contains, take, sym, subst, arith}
use Rattle.std.proofs.lemmas.Result.{err_from_is_err_and}
use Rattle.table_history.specs.declared.feature.Feature.TheVariants.{PartitionValue}
use Rattle.partition_map.specs.declared.kind.PartKind.{PartKind}
use Rattle.delta_log.specs.declared.commit.FileAction.{FileAction}
use Rattle.delta_live.specs.Live.{SpellsNoValue}
use Rattle.delta_live.specs.RowSteps.{AreRowsOf}
use Rattle.delta_live.proofs.ValueLemmas.{rows_step, tells_more}
use Rattle.delta_live.proofs.rows.rows_of.Goals as goal
use Rattle.lake_basics.proofs.Lists.{there_at}

pub returns-in_err-row-clause-refused : goal.returns-in_err-row-clause-refused
returns-in_err-row-clause-refused c =
    let p = err_from_is_err_and c.from_residual.result c.from_residual.ensures.1 in
    rw (p.1, p.2) (tells_more PartitionValue _
    ((f : FileAction) × (column : List ℕ × PartKind) × Contains c.args.files.now f × Contains c.args.columns.now column × SpellsNoValue column f)
    (λ none. (c.file-item.result, none.0, there_at c.args.files.now c.loop-file.file-index c.file-item.result (omega arith) c.file-item.is, none.1, none.2)) _ c.in_err-row.ensures.refused)

pub loop-file-preserved : goal.loop-file-preserved
loop-file-preserved c =
    subst (AreRowsOf c.args.columns.now (take (c.loop-file.file-index + 1) c.args.files.now)) (sym c.in_ok-rows.ensures)
    (rows_step c.args.columns.now c.args.files.now c.loop-file.rows.items c.loop-file.file-index c.file-item.result c.in_ok-row.row (omega arith) c.file-item.is c.loop-file.invariant c.in_ok-row.ensures.ok)
