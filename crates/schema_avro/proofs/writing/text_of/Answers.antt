use Rattle.serde_json.specs.View.{view}
use Rattle.table_history.specs.TypeTree.{struct_of}
use Rattle.table_history.specs.SchemaView.{columns_view}
use Rattle.schema_avro.specs.AvroWriting.{avro_data}
use Rattle.schema_avro.proofs.AvroRefused.{flat_avro, text_said, again_said}
use Rattle.schema_avro.proofs.writing.text_of.Goals as goal

pub returns-clause-text : goal.returns-clause-text
returns-clause-text c =
    text_said c.json_text.result (view c.in_ok-value.value) (avro_data (struct_of (columns_view c.args.columns.now)) 0).0 c.in_ok-value.ensures
    (flat_avro (struct_of (columns_view c.args.columns.now)) 0) c.json_text.ensures.text

pub returns-clause-again : goal.returns-clause-again
returns-clause-again c =
    again_said c.json_text.result (view c.in_ok-value.value) (avro_data (struct_of (columns_view c.args.columns.now)) 0).0 c.in_ok-value.ensures
    (flat_avro (struct_of (columns_view c.args.columns.now)) 0) c.json_text.ensures.reads_back
