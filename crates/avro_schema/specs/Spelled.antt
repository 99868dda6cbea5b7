-- Which schemas a text can spell (Avro specification, "Schema Declaration" and "Names"). A type that
-- has a name is written where it stands first, and by its name alone where it stands again.
use Rattle.std.specs.Prelude.{◌≡◌, ◌≤◌, ℕ, ℤ, pos, negsuc, ◌⊎◌, IfSome, List, [], Option, Some, None, true}
use Rattle.serde_json.specs.Data.{depth}
use Rattle.serde_json.specs.Read.{max_depth}
use Rattle.avro_schema.specs.Tree.{SchemaTree, schema_tree, ShapeTree, BranchTrees, no_branches, branch, FieldTrees, no_fields, field}
use Rattle.avro_schema.specs.Sizes.{max_levels, max_types, level_count, type_count}
use Rattle.avro_schema.specs.Names.{full_name, primitive_of, is_name, Definition, definition_of, with_definition, are_distinct}
use Rattle.avro_schema.specs.Grammar.{Place, top, is_a_fault, inside, IsOutside, field_names}
use Rattle.avro_schema.specs.Writing.{json_of}

-- a size, a precision or a scale
abbrev pub IsSize : ℕ → Type 0
IsSize n = n ≤ 2147483647

-- an id, of 32 bits with a sign
abbrev pub IsId : ℤ → Type 0
IsId (pos n) = n ≤ 2147483647
IsId (negsuc n) = n ≤ 2147483647

-- The type is no union, and may be a branch of one.
abbrev pub IsNoUnion : SchemaTree → Type 0
IsNoUnion (schema_tree (ShapeTree.union_of ts) logical precision scale) = ⊥
IsNoUnion _ = Unit {0}

-- The full name may be given to a type there.
abbrev pub IsFree : Place → List Definition → List ℕ → Type 0
IsFree at before name = (is_name name ≡ true) × IsOutside at name × (definition_of name before ≡ None)

-- The full name, as it stands there, means the type that was given it before.
abbrev pub IsKnown : Place → List Definition → List ℕ → SchemaTree → Type 0
IsKnown at before name t = (primitive_of name ≡ None) × (full_name at.space name ≡ name) × IsOutside at name × (definition_of name before ≡ Some t)

abbrev mutual
  -- The type can be written at that place, where these types are defined before it, and those behind.
  pub Stands : Place → List Definition → SchemaTree → List Definition → Type 0
  Stands at before (schema_tree shape logical precision scale) after = IfSome precision IsSize × IfSome scale IsSize × ShapeStands at before shape logical precision scale after

  pub ShapeStands : Place → List Definition → ShapeTree → Option (List ℕ) → Option ℕ → Option ℕ → List Definition → Type 0
  ShapeStands at before (ShapeTree.fixed_of name size) logical precision scale after =
      (IsKnown at before name (schema_tree (ShapeTree.fixed_of name size) logical precision scale) × (after ≡ before))
      ⊎ (IsFree at before name × IsSize size × (after ≡ with_definition name (schema_tree (ShapeTree.fixed_of name size) logical precision scale) before))
  ShapeStands at before (ShapeTree.enum_of name symbols) logical precision scale after =
      (IsKnown at before name (schema_tree (ShapeTree.enum_of name symbols) logical precision scale) × (after ≡ before))
      ⊎ (IsFree at before name × (are_distinct symbols ≡ true) × (after ≡ with_definition name (schema_tree (ShapeTree.enum_of name symbols) logical precision scale) before))
  ShapeStands at before (ShapeTree.array_of inner element_id) logical precision scale after = IfSome element_id IsId × Stands at before inner after
  ShapeStands at before (ShapeTree.map_of inner key_id value_id) logical precision scale after = IfSome key_id IsId × IfSome value_id IsId × Stands at before inner after
  ShapeStands at before (ShapeTree.union_of branches) logical precision scale after = (logical ≡ None) × (precision ≡ None) × (scale ≡ None) × BranchesStand at before branches after
  ShapeStands at before (ShapeTree.record_of name fields) logical precision scale after =
      (IsKnown at before name (schema_tree (ShapeTree.record_of name fields) logical precision scale) × (after ≡ before))
      ⊎ (IsFree at before name × (are_distinct (field_names fields) ≡ true)
      × ((between : List Definition) × FieldsStand (inside at name) before fields between × (after ≡ with_definition name (schema_tree (ShapeTree.record_of name fields) logical precision scale) between)))
  ShapeStands at before _ logical precision scale after = after ≡ before

  pub BranchesStand : Place → List Definition → BranchTrees → List Definition → Type 0
  BranchesStand at before no_branches after = after ≡ before
  BranchesStand at before (branch t ts) after = IsNoUnion t × ((between : List Definition) × Stands at before t between × BranchesStand at between ts after)

  pub FieldsStand : Place → List Definition → FieldTrees → List Definition → Type 0
  FieldsStand at before no_fields after = after ≡ before
  FieldsStand at before (field name t id fs) after = IfSome id IsId × ((between : List Definition) × Stands at before t between × FieldsStand at between fs after)

-- The schema is within the limits of a text, its JSON nests no deeper than a JSON text may, and its
-- types, names, sizes and ids are of the grammar.
pub record IsSpelled (t : SchemaTree) : Type 0 where
  pub behind : List Definition
  pub stands : Stands (top is_a_fault) [] t behind
  pub levels : level_count t ≤ max_levels
  pub types : type_count t ≤ max_types
  pub shallow : depth (json_of t) ≤ max_depth
