use Rattle.std.proofs.Common.{◌≡◌, ◌∙◌, ap, sym, map, arith}
use Rattle.std.proofs.lemmas.Grind.{common_steps}
use Rattle.table_history.specs.TypeTree.{columns_of}
use Rattle.table_history.specs.SchemaView.{column_view}
use Rattle.iceberg_field_ids.proofs.Widened.{wide, widened_columns_of}
use Rattle.iceberg_field_ids.proofs.wide.+widen.Goals as goal

pub wide_columns-returns : goal.wide_columns-returns
wide_columns-returns t c =
    let all : map column_view c.loop-column.wide.items ≡ map wide (map column_view c.args.columns.now) = grind (arith, common_steps) in
    ap columns_of all ∙ sym (widened_columns_of _)
