use Rattle.std.proofs.Common.{◌≡◌, drop, map}
use Rattle.serde_json.specs.View.{items_view}
use Rattle.avro_schema.specs.Tree.{tree_of, field_of, branches_of, fields_of}
use Rattle.avro_schema.specs.Writing.{branches_json, fields_json}
use Rattle.avro_schema.proofs.WrittenItems.{with_items}
use Rattle.avro_schema.proofs.write.+json.Given as goal

abbrev pub invariant-branch_values-loop-branch : goal.invariant-branch_values-loop-branch
invariant-branch_values-loop-branch l =
    with_items (items_view l.values.items) (branches_json (branches_of (map tree_of (drop l.branch-index l.branches.items))) l.space l.names.keys)
    ≡ branches_json (branches_of (map tree_of l.branches.items)) l.space l.fn.names.keys

abbrev pub invariant-field_values-loop-field : goal.invariant-field_values-loop-field
invariant-field_values-loop-field l =
    with_items (items_view l.values.items) (fields_json (fields_of (map field_of (drop l.field-index l.fields.items))) l.space l.names.keys)
    ≡ fields_json (fields_of (map field_of l.fields.items)) l.space l.fn.names.keys
