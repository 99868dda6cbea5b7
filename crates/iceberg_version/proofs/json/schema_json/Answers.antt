use Rattle.std.proofs.Common.{◌≡◌, ap, false, of_z, rules, to_z, w32, ◌∙◌}
use Rattle.std.proofs.lemmas.Int.{to_z-of_z}
use Rattle.serde_json.specs.View.{view}
use Rattle.serde_json.specs.Written.{compact_text, has_float}
use Rattle.schema_iceberg.specs.IcebergWriting.{iceberg_value}
use Rattle.iceberg_version.proofs.FlatLemmas.{flat_schema, text_is}
use Rattle.iceberg_version.proofs.json.schema_json.Goals as goal

pub returns-in-Ok : goal.returns-in-Ok
returns-in-Ok c =
    let schema = c.args.schema.now in
    let id = to_z-of_z w32 schema.0 (search rules) in
    let told = c.in-Ok.ensures.value in
    let is : view c.in-Ok.value ≡ iceberg_value schema.1 schema.2 (to_z w32 (of_z w32 schema.0)) = cc in
    let flat : has_float (view c.in-Ok.value) ≡ false = ap has_float is ∙ flat_schema schema.1 schema.2 (to_z w32 (of_z w32 schema.0)) in
    text_is c.json_text.result (compact_text (view c.in-Ok.value)) (compact_text (iceberg_value schema.1 schema.2 schema.0)) (has_float (view c.in-Ok.value) ≡ false) c.json_text.ensures.text flat (ap compact_text (is ∙ ap (iceberg_value schema.1 schema.2) id))
