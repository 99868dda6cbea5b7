use Rattle.std.proofs.Common.{◌≡◌, drop, map}
use Rattle.avro_value.specs.Layout.{field_layout, layouts_of, are_bare}
use Rattle.avro_value.proofs.bare.+bare.Given as goal

abbrev pub invariant-fields_are_bare-loop-field : goal.invariant-fields_are_bare-loop-field
invariant-fields_are_bare-loop-field l = are_bare (layouts_of (map field_layout (drop l.field-index l.fields.items))) ≡ are_bare (layouts_of (map field_layout l.fields.items))
