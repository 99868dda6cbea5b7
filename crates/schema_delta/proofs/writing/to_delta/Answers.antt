use Rattle.std.proofs.Common.{◌≡◌, ◌≤◌, ◌∙◌, ap, Some, false}
use Rattle.serde_json.specs.Data.{depth}
use Rattle.serde_json.specs.View.{view}
use Rattle.serde_json.specs.Read.{max_depth}
use Rattle.serde_json.specs.Written.{has_float}
use Rattle.json_reading.specs.Json.{json}
use Rattle.table_history.specs.TypeTree.{struct_of}
use Rattle.schema_delta.specs.DeltaWriting.{delta_data}
use Rattle.schema_delta.proofs.DeltaSchema.{text_only}
use Rattle.schema_delta.proofs.Spelled.{schema_flat, schema_shallow, delta_spelled}
use Rattle.schema_delta.proofs.writing.to_delta.Goals as goal

pub returns-clause-spells : goal.returns-clause-spells
returns-clause-spells c sound small =
    let flat : has_float (view c.in_ok-value.value) ≡ false = rw c.in_ok-value.ensures (schema_flat c.args.schema.now) in
    let shallow : depth (view c.in_ok-value.value) ≤ max_depth = rw c.in_ok-value.ensures (schema_shallow c.args.schema.now small) in
    let written = ap json (c.in_ok-json_text.ensures.text flat) in
    let read = written ∙ c.in_ok-json_text.ensures.reads_back flat shallow ∙ ap Some c.in_ok-value.ensures in
    (delta_data (struct_of c.args.schema.now), read, delta_spelled (struct_of c.args.schema.now) sound)

pub returns-clause-reads_back : goal.returns-clause-reads_back
returns-clause-reads_back c sound limits =
    text_only _ _ (returns-clause-spells c sound limits.levels) limits
