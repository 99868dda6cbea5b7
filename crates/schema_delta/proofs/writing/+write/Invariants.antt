use Rattle.std.proofs.Common.{◌≡◌, take, map}
use Rattle.serde_json.specs.View.{view}
use Rattle.table_history.specs.SchemaView.{column_view}
use Rattle.schema_delta.proofs.Fields.{delta_field}
use Rattle.schema_delta.proofs.writing.+write.Given as goal

abbrev pub invariant-fields_json-loop-column : goal.invariant-fields_json-loop-column
invariant-fields_json-loop-column l = map view l.fields.items ≡ map delta_field (map column_view (take l.column-index l.columns))
