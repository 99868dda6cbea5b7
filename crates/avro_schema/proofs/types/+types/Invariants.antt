use Rattle.std.proofs.Common.{◌≡◌, ◌*◌, ◌+◌, drop, map}
use Rattle.serde_json.specs.View.{items_view}
use Rattle.avro_schema.specs.Tree.{tree_of, field_of}
use Rattle.json_reading.specs.Json.{items}
use Rattle.avro_schema.specs.Reading.{type_at, single_type, field_type, in_turn}
use Rattle.avro_schema.specs.State.{state_of}
use Rattle.avro_schema.proofs.Turns.{with_turns}
use Rattle.avro_schema.proofs.types.+types.Given as goal

abbrev pub decreases-any_type : goal.decreases-any_type
decreases-any_type l = 9 * l.left

abbrev pub decreases-union_type : goal.decreases-union_type
decreases-union_type l = 9 * l.below + 8

abbrev pub decreases-branch_list : goal.decreases-branch_list
decreases-branch_list l = 9 * l.below + 7

abbrev pub decreases-single_type : goal.decreases-single_type
decreases-single_type l = 9 * l.below + 6

abbrev pub decreases-object_type : goal.decreases-object_type
decreases-object_type l = 9 * l.below + 5

abbrev pub decreases-array_type : goal.decreases-array_type
decreases-array_type l = 9 * l.below + 4

abbrev pub decreases-map_type : goal.decreases-map_type
decreases-map_type l = 9 * l.below + 4

abbrev pub decreases-record_type : goal.decreases-record_type
decreases-record_type l = 9 * l.below + 4

abbrev pub decreases-field_list : goal.decreases-field_list
decreases-field_list l = 9 * l.below + 3

abbrev pub decreases-field_type : goal.decreases-field_type
decreases-field_type l = 9 * l.below + 2

abbrev pub invariant-branch_list-loop-branch : goal.invariant-branch_list-loop-branch
invariant-branch_list-loop-branch l =
    with_turns (map tree_of l.schemas.items) (in_turn (single_type (l.below + 1) (type_at l.below) l.space) (items (items_view (drop l.branch-index l.branches.items))) (state_of l.names))
    ≡ in_turn (single_type (l.below + 1) (type_at l.below) l.space) (items (items_view l.branches.items)) (state_of l.fn.names)

abbrev pub invariant-field_list-loop-value : goal.invariant-field_list-loop-value
invariant-field_list-loop-value l =
    with_turns (map field_of l.fields.items) (in_turn (field_type (type_at l.below) l.space) (items (items_view (drop l.value-index l.list.items))) (state_of l.names))
    ≡ in_turn (field_type (type_at l.below) l.space) (items (items_view l.list.items)) (state_of l.fn.names)
