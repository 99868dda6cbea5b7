use Rattle.std.proofs.Common.{ℕ, ◌+◌, List, Contains, take, sym, subst, arith}
use Rattle.std.proofs.lemmas.Result.{err_from_is_err_and}
use Rattle.table_history.specs.declared.feature.Feature.TheVariants.{PartitionValue}
use Rattle.table_history.specs.declared.row.PartValue.{PartValue}
use Rattle.partition_map.specs.Stands.{DeltaStands}
use Rattle.partition_map.specs.declared.kind.PartKind.{PartKind}
use Rattle.delta_live.specs.Live.{text_of, AreValues}
use Rattle.delta_live.proofs.ValueLemmas.{values_more, tells_more}
use Rattle.delta_live.proofs.rows.values_of.Goals as goal
use Rattle.lake_basics.proofs.Lists.{there_at}

pub returns-in_err-value_of-clause-refused : goal.returns-in_err-value_of-clause-refused
returns-in_err-value_of-clause-refused c =
    let p = err_from_is_err_and c.from_residual.result c.from_residual.ensures.1 in
    rw (p.1, p.2) (tells_more PartitionValue _
    ((column : List ℕ × PartKind) × Contains c.args.columns.now column × ((v : PartValue) → DeltaStands column.1 (text_of column.0 c.args.texts.now) v → ⊥))
    (λ none. (c.column-item.result, there_at c.args.columns.now c.loop-column.column-index c.column-item.result (omega arith) c.column-item.is, none)) _ c.in_err-value_of.ensures.refused)

pub loop-column-preserved : goal.loop-column-preserved
loop-column-preserved c =
    subst (AreValues (take (c.loop-column.column-index + 1) c.args.columns.now) c.args.texts.now) (sym c.in_ok-push.ensures.ok)
    (values_more c.args.columns.now c.args.texts.now c.loop-column.values c.loop-column.column-index c.column-item.result c.in_ok-value_of.field-0 (omega arith) c.column-item.is c.loop-column.invariant c.in_ok-value_of.ensures.ok)
