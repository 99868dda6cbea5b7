use Rattle.std.proofs.Common.{◌≡◌, ◌+◌, ◌*◌, drop}
use Rattle.serde_json.specs.View.{items_view}
use Rattle.json_reading.specs.Json.{items}
use Rattle.delta_outline.specs.Forms.{worse, form, types_form}
use Rattle.delta_outline.proofs.form.+form.Given as goal

abbrev pub decreases-form_within : goal.decreases-form_within
decreases-form_within l = 4 * l.levels

abbrev pub decreases-parts_form : goal.decreases-parts_form
decreases-parts_form l = 4 * l.levels + 3

abbrev pub decreases-types_form : goal.decreases-types_form
decreases-types_form l = 4 * l.levels + 2

abbrev pub decreases-member_form : goal.decreases-member_form
decreases-member_form l = 4 * l.levels + 1

abbrev pub invariant-types_form-loop-field : goal.invariant-types_form-loop-field
invariant-types_form-loop-field l = worse l.worst (types_form (form l.levels) (items (items_view (drop l.field-index l.fields.items)))) ≡ types_form (form l.levels) (items (items_view l.fields.items))
