use Rattle.std.proofs.Common.{◌≡◌, ◌∙◌, ap, sym, map, arith}
use Rattle.std.proofs.lemmas.Grind.{common_steps}
use Rattle.serde_json.specs.View.{items_of, view}
use Rattle.table_history.specs.SchemaView.{column_view}
use Rattle.schema_delta.proofs.Fields.{delta_field, delta_fields_of}
use Rattle.schema_delta.proofs.writing.+write.Goals as goal

pub fields_json-returns : goal.fields_json-returns
fields_json-returns t c =
    let all : map view c.loop-column.fields.items ≡ map delta_field (map column_view c.args.columns.now) = grind (arith, common_steps) in
    ap items_of all ∙ sym (delta_fields_of _)
