use Rattle.std.proofs.Common.{◌≡◌, drop}
use Rattle.table_history.specs.SchemaView.{columns_view}
use Rattle.schema_map.specs.Image.{have_text_keys}
use Rattle.schema_avro.proofs.names.+keys.Given as goal

abbrev pub invariant-have_text_keys-loop-column : goal.invariant-have_text_keys-loop-column
invariant-have_text_keys-loop-column l = have_text_keys (columns_view (drop l.column-index l.columns)) ≡ have_text_keys (columns_view l.columns)
