use Rattle.std.proofs.Common.{◌≡◌, ◌+◌, drop, map}
use Rattle.avro_schema.specs.Tree.{tree_of, field_of, branches_of, fields_of}
use Rattle.avro_schema.specs.Sizes.{branch_type_count, field_type_count}
use Rattle.avro_schema.proofs.size.+count.Given as goal

abbrev pub invariant-budget_behind_branches-loop-branch : goal.invariant-budget_behind_branches-loop-branch
invariant-budget_behind_branches-loop-branch l = l.left + branch_type_count (branches_of (map tree_of l.branches.items)) ≡ l.budget + branch_type_count (branches_of (map tree_of (drop l.branch-index l.branches.items)))

abbrev pub invariant-budget_behind_fields-loop-field : goal.invariant-budget_behind_fields-loop-field
invariant-budget_behind_fields-loop-field l = l.left + field_type_count (fields_of (map field_of l.fields.items)) ≡ l.budget + field_type_count (fields_of (map field_of (drop l.field-index l.fields.items)))
