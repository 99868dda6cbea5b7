use Rattle.std.proofs.Common.{◌≡◌, ap, false, map, ◌∙◌}
use Rattle.serde_json.specs.Data.{Data, array}
use Rattle.serde_json.specs.View.{items_of, view}
use Rattle.serde_json.specs.Written.{compact_text, has_float}
use Rattle.iceberg_metadata.specs.Writing.{spec_field_data}
use Rattle.iceberg_version.proofs.FlatLemmas.{flat_spec_fields, text_is}
use Rattle.iceberg_version.proofs.json.spec_json.Goals as goal

pub returns : goal.returns
returns c =
    let fields = c.args.fields.now in
    let value : Data = view c.in_ok-value.value in
    let is : value ≡ array (items_of (map spec_field_data fields)) = c.in_ok-value.ensures in
    let flat : has_float value ≡ false = ap has_float is ∙ flat_spec_fields fields in
    text_is c.json_text.result (compact_text value) (compact_text (array (items_of (map spec_field_data fields)))) (has_float value ≡ false) c.json_text.ensures.text flat (ap compact_text is)
