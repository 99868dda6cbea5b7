-- The JSON that is written of a schema. A named type is written once, and by its full name where it
-- stands again. An object has the members that its type needs, in byte order of their names.
use Rattle.std.specs.Prelude.{ℕ, ℤ, ◌==◌, ◌||◌, List, [], length, map, Bool, Option, Some, None, option_map, if◌then◌else◌, codes}
use Rattle.std.specs.List.{list_any}
use Rattle.std.specs.Str.{bytes_eq}
use Rattle.serde_json.specs.Data.{Data, number, string, array, object, unsigned, Items, no_items, item, Members, no_members, put}
use Rattle.serde_json.specs.Find.{of_integer}
use Rattle.serde_json.specs.View.{items_of}
use Rattle.indexmap.specs.IndexSet.{insert_key}
use Rattle.avro_schema.specs.Tree.{SchemaTree, schema_tree, ShapeTree, BranchTrees, no_branches, branch, FieldTrees, no_fields, field}
use Rattle.avro_schema.specs.Names.{has_dot, namespace_of}

-- a JSON value, and the full names that are defined behind it
abbrev pub Written : Type 0 → Type 0
Written A = A × List (List ℕ)

abbrev pub put_some : List ℕ → Option Data → Members → Members
put_some key None members = members
put_some key (Some d) members = put key d members

abbrev pub size_json : ℕ → Data
size_json n = number (unsigned n)

abbrev pub id_json : ℤ → Data
id_json z = number (of_integer z)

-- the members with the logical type, precision and scale
abbrev pub with_annotations : Option (List ℕ) → Option ℕ → Option ℕ → Members → Members
with_annotations logical precision scale members = put_some (codes "scale") (option_map size_json scale) (put_some (codes "precision") (option_map size_json precision) (put_some (codes "logicalType") (option_map string logical) members))

abbrev pub type_members : List ℕ → Members
type_members word = put (codes "type") (string word) no_members

-- a primitive type, which is its word alone where nothing stands beside it
abbrev pub primitive_json : List ℕ → Option (List ℕ) → Option ℕ → Option ℕ → Data
primitive_json word None None None = string word
primitive_json word logical precision scale = object (with_annotations logical precision scale (type_members word))

-- a full name without a dot has no namespace, and has to say so inside a namespace
abbrev pub no_namespace : List ℕ → List ℕ → Option Data
no_namespace space name = if has_dot name || (length space == 0) then None else Some (string [])

-- what the definition of a named type begins with
abbrev pub named_members : List ℕ → List ℕ → List ℕ → Members
named_members word space name = put (codes "name") (string name) (put_some (codes "namespace") (no_namespace space name) (type_members word))

abbrev pub is_written : List ℕ → List (List ℕ) → Bool
is_written name names = list_any (bytes_eq name) names

-- a definition, or the name alone where it is defined before
abbrev pub definition_json : List ℕ → List (List ℕ) → Written Data → Written Data
definition_json name names defined = if is_written name names then (string name, names) else (defined.0, insert_key bytes_eq defined.1 name)

abbrev pub array_members : Data → Option ℤ → Members
array_members items element_id = put_some (codes "element-id") (option_map id_json element_id) (put (codes "items") items (type_members (codes "array")))

abbrev pub map_members : Data → Option ℤ → Option ℤ → Members
map_members values key_id value_id = put_some (codes "value-id") (option_map id_json value_id) (put_some (codes "key-id") (option_map id_json key_id) (put (codes "values") values (type_members (codes "map"))))

abbrev pub field_json : List ℕ → Data → Option ℤ → Data
field_json name type field_id = object (put_some (codes "field-id") (option_map id_json field_id) (put (codes "type") type (put (codes "name") (string name) no_members)))

abbrev pub fixed_members : List ℕ → List ℕ → ℕ → Members
fixed_members space name size = put (codes "size") (size_json size) (named_members (codes "fixed") space name)

abbrev pub enum_members : List ℕ → List ℕ → List (List ℕ) → Members
enum_members space name symbols = put (codes "symbols") (array (items_of (map string symbols))) (named_members (codes "enum") space name)

abbrev pub record_members : List ℕ → List ℕ → Items → Members
record_members space name fields = put (codes "fields") (array fields) (named_members (codes "record") space name)

abbrev pub written_as : {A B : Type 0} → (A → B) → Written A → Written B
written_as f w = (f w.0, w.1)

abbrev mutual
  -- the JSON of a schema in a namespace, where these full names are defined before
  pub schema_json : SchemaTree → List ℕ → List (List ℕ) → Written Data
  schema_json (schema_tree shape logical precision scale) space names = shape_json shape logical precision scale space names

  pub shape_json : ShapeTree → Option (List ℕ) → Option ℕ → Option ℕ → List ℕ → List (List ℕ) → Written Data
  shape_json ShapeTree.null logical precision scale space names = (primitive_json (codes "null") logical precision scale, names)
  shape_json ShapeTree.boolean logical precision scale space names = (primitive_json (codes "boolean") logical precision scale, names)
  shape_json ShapeTree.int logical precision scale space names = (primitive_json (codes "int") logical precision scale, names)
  shape_json ShapeTree.long logical precision scale space names = (primitive_json (codes "long") logical precision scale, names)
  shape_json ShapeTree.float logical precision scale space names = (primitive_json (codes "float") logical precision scale, names)
  shape_json ShapeTree.double logical precision scale space names = (primitive_json (codes "double") logical precision scale, names)
  shape_json ShapeTree.bytes logical precision scale space names = (primitive_json (codes "bytes") logical precision scale, names)
  shape_json ShapeTree.text logical precision scale space names = (primitive_json (codes "string") logical precision scale, names)
  shape_json (ShapeTree.fixed_of name size) logical precision scale space names = definition_json name names (object (with_annotations logical precision scale (fixed_members space name size)), names)
  shape_json (ShapeTree.enum_of name symbols) logical precision scale space names = definition_json name names (object (with_annotations logical precision scale (enum_members space name symbols)), names)
  shape_json (ShapeTree.array_of items element_id) logical precision scale space names = written_as (λ d. object (with_annotations logical precision scale (array_members d element_id))) (schema_json items space names)
  shape_json (ShapeTree.map_of values key_id value_id) logical precision scale space names = written_as (λ d. object (with_annotations logical precision scale (map_members d key_id value_id))) (schema_json values space names)
  shape_json (ShapeTree.union_of branches) logical precision scale space names = written_as array (branches_json branches space names)
  shape_json (ShapeTree.record_of name fields) logical precision scale space names = definition_json name names (written_as (λ ds. object (with_annotations logical precision scale (record_members space name ds))) (fields_json fields (namespace_of name) names))

  pub branches_json : BranchTrees → List ℕ → List (List ℕ) → Written Items
  branches_json no_branches space names = (no_items, names)
  branches_json (branch t ts) space names = written_as (λ ds. item (schema_json t space names).0 ds) (branches_json ts space (schema_json t space names).1)

  pub fields_json : FieldTrees → List ℕ → List (List ℕ) → Written Items
  fields_json no_fields space names = (no_items, names)
  fields_json (field name t field_id fs) space names = written_as (λ ds. item (field_json name (schema_json t space names).0 field_id) ds) (fields_json fs space (schema_json t space names).1)

-- the whole JSON of a schema
abbrev pub json_of : SchemaTree → Data
json_of t = (schema_json t [] []).0
