use Rattle.std.proofs.Common.{◌≡◌, ◌∙◌, ap, sym, Ok, false}
use Rattle.serde_json.specs.View.{view}
use Rattle.serde_json.specs.Written.{has_float, compact_text}
use Rattle.schema_iceberg.proofs.FlatMapping.{flat_mapping}
use Rattle.schema_iceberg.proofs.mapping.name_mapping.Goals as goal

pub returns : goal.returns
returns c =
    let flat : has_float (view c.in_ok-value.value) ≡ false = ap has_float c.in_ok-value.ensures ∙ flat_mapping c.args.schema.now c.args.ids.now in
    ap Ok (sym (c.in_ok-json_text.ensures.text flat ∙ ap compact_text c.in_ok-value.ensures))
