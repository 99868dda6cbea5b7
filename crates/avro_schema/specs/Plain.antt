-- Schemas in which each name is given to one type, and no type is used by its name: those that the
-- table formats write. A text can spell each of them.
use Rattle.std.specs.Prelude.{◌≡◌, ◌≤◌, ℕ, IfSome, List, [], ◌∷◌, ◌++◌, Option, None, true}
use Rattle.avro_schema.specs.Tree.{SchemaTree, schema_tree, ShapeTree, BranchTrees, no_branches, branch, FieldTrees, no_fields, field}
use Rattle.avro_schema.specs.Sizes.{max_types, level_count, type_count}
use Rattle.avro_schema.specs.Names.{is_name, are_distinct}
use Rattle.avro_schema.specs.Grammar.{field_names}
use Rattle.avro_schema.specs.Spelled.{IsSize, IsId, IsNoUnion}

-- the full names of the types that have one, an outer one before those in it
abbrev mutual
  pub names_in : SchemaTree → List (List ℕ)
  names_in (schema_tree shape logical precision scale) = shape_names shape

  pub shape_names : ShapeTree → List (List ℕ)
  shape_names (ShapeTree.fixed_of name size) = name ∷ []
  shape_names (ShapeTree.enum_of name symbols) = name ∷ []
  shape_names (ShapeTree.array_of inner element_id) = names_in inner
  shape_names (ShapeTree.map_of inner key_id value_id) = names_in inner
  shape_names (ShapeTree.union_of branches) = branch_names branches
  shape_names (ShapeTree.record_of name fields) = name ∷ names_in_fields fields
  shape_names _ = []

  pub branch_names : BranchTrees → List (List ℕ)
  branch_names no_branches = []
  branch_names (branch t ts) = names_in t ++ branch_names ts

  pub names_in_fields : FieldTrees → List (List ℕ)
  names_in_fields no_fields = []
  names_in_fields (field name t id fs) = names_in t ++ names_in_fields fs

abbrev mutual
  -- Each name, size and id is of the grammar, no union stands in a union, and fields and symbols have
  -- distinct names.
  pub IsSound : SchemaTree → Type 0
  IsSound (schema_tree shape logical precision scale) = IfSome precision IsSize × IfSome scale IsSize × ShapeIsSound shape logical precision scale

  pub ShapeIsSound : ShapeTree → Option (List ℕ) → Option ℕ → Option ℕ → Type 0
  ShapeIsSound (ShapeTree.fixed_of name size) logical precision scale = (is_name name ≡ true) × IsSize size
  ShapeIsSound (ShapeTree.enum_of name symbols) logical precision scale = (is_name name ≡ true) × (are_distinct symbols ≡ true)
  ShapeIsSound (ShapeTree.array_of inner element_id) logical precision scale = IfSome element_id IsId × IsSound inner
  ShapeIsSound (ShapeTree.map_of inner key_id value_id) logical precision scale = IfSome key_id IsId × IfSome value_id IsId × IsSound inner
  ShapeIsSound (ShapeTree.union_of branches) logical precision scale = (logical ≡ None) × (precision ≡ None) × (scale ≡ None) × BranchesAreSound branches
  ShapeIsSound (ShapeTree.record_of name fields) logical precision scale = (is_name name ≡ true) × (are_distinct (field_names fields) ≡ true) × FieldsAreSound fields
  ShapeIsSound _ logical precision scale = Unit {0}

  pub BranchesAreSound : BranchTrees → Type 0
  BranchesAreSound no_branches = Unit {0}
  BranchesAreSound (branch t ts) = IsNoUnion t × IsSound t × BranchesAreSound ts

  pub FieldsAreSound : FieldTrees → Type 0
  FieldsAreSound no_fields = Unit {0}
  FieldsAreSound (field name t id fs) = IfSome id IsId × IsSound t × FieldsAreSound fs

-- The schema is plain: no name is given twice. 32 levels nest no deeper than JSON may.
pub record IsPlain (t : SchemaTree) : Type 0 where
  pub sound : IsSound t
  pub distinct : are_distinct (names_in t) ≡ true
  pub levels : level_count t ≤ 32
  pub types : type_count t ≤ max_types
