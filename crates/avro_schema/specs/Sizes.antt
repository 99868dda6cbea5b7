-- How large a schema is. A named type is counted with all its parts wherever it stands.
use Rattle.std.specs.Prelude.{ℕ, max, ◌+◌}
use Rattle.avro_schema.specs.Tree.{SchemaTree, schema_tree, ShapeTree, BranchTrees, no_branches, branch, FieldTrees, no_fields, field}

-- the most levels and the most types that a schema text may have
abbrev pub max_levels : ℕ
max_levels = 64

abbrev pub max_types : ℕ
max_types = 262144

-- how many types there are in a schema, itself among them
abbrev mutual
  pub type_count : SchemaTree → ℕ
  type_count (schema_tree shape logical precision scale) = shape_type_count shape + 1

  pub shape_type_count : ShapeTree → ℕ
  shape_type_count (ShapeTree.array_of items element_id) = type_count items
  shape_type_count (ShapeTree.map_of values key_id value_id) = type_count values
  shape_type_count (ShapeTree.union_of branches) = branch_type_count branches
  shape_type_count (ShapeTree.record_of name fields) = field_type_count fields
  shape_type_count _ = 0

  pub branch_type_count : BranchTrees → ℕ
  branch_type_count no_branches = 0
  branch_type_count (branch t ts) = type_count t + branch_type_count ts

  pub field_type_count : FieldTrees → ℕ
  field_type_count no_fields = 0
  field_type_count (field name t id fs) = type_count t + field_type_count fs

-- how many levels a schema has. Items, values and fields are one level below their type, and a
-- union's branches are on the level of the union.
abbrev mutual
  pub level_count : SchemaTree → ℕ
  level_count (schema_tree shape logical precision scale) = shape_level_count shape

  pub shape_level_count : ShapeTree → ℕ
  shape_level_count (ShapeTree.array_of items element_id) = level_count items + 1
  shape_level_count (ShapeTree.map_of values key_id value_id) = level_count values + 1
  shape_level_count (ShapeTree.union_of branches) = max 1 (branch_level_count branches)
  shape_level_count (ShapeTree.record_of name fields) = field_level_count fields + 1
  shape_level_count _ = 1

  pub branch_level_count : BranchTrees → ℕ
  branch_level_count no_branches = 0
  branch_level_count (branch t ts) = max (level_count t) (branch_level_count ts)

  pub field_level_count : FieldTrees → ℕ
  field_level_count no_fields = 0
  field_level_count (field name t id fs) = max (level_count t) (field_level_count fs)
