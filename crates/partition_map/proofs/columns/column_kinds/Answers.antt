use Rattle.std.proofs.Common.{ℕ, List, ap, ◌∙◌}
use Rattle.partition_map.specs.Columns.{column_kind, kind_in}
use Rattle.partition_map.proofs.ColumnLemmas.{kind_more}
use Rattle.partition_map.proofs.columns.column_kinds.Goals as goal

pub loop-name-preserved : goal.loop-name-preserved
loop-name-preserved c =
    kind_more (kind_in c.in_ok-by_name.by_name) (column_kind c.args.schema.now)
    (λ (name : List ℕ). c.in_ok-by_name.ensures name ∙ ap (λ schema. column_kind schema name) c.columns.ensures)
    c.args.names.now c.loop-name.name-index c.name-item.result c.as_str.result.now c.loop-name.kinds.items c.push.new.self.items c.kind_of.result
    c.loop-name-test.true c.name-item.is c.loop-name.invariant c.as_str.ensures.value c.kind_of.ensures c.in_ok-push.ensures.items
