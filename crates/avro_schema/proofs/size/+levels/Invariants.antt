use Rattle.std.proofs.Common.{◌≤◌, ◌↔◌, drop, map}
use Rattle.avro_schema.specs.Tree.{tree_of, field_of, branches_of, fields_of}
use Rattle.avro_schema.specs.Sizes.{branch_level_count, field_level_count}
use Rattle.avro_schema.proofs.size.+levels.Given as goal

abbrev pub invariant-branches_within-loop-branch : goal.invariant-branches_within-loop-branch
invariant-branches_within-loop-branch l = branch_level_count (branches_of (map tree_of (drop l.branch-index l.branches.items))) ≤ l.limit ↔ branch_level_count (branches_of (map tree_of l.branches.items)) ≤ l.limit

abbrev pub invariant-fields_within-loop-field : goal.invariant-fields_within-loop-field
invariant-fields_within-loop-field l = field_level_count (fields_of (map field_of (drop l.field-index l.fields.items))) ≤ l.limit ↔ field_level_count (fields_of (map field_of l.fields.items)) ≤ l.limit
