-- Which schema a JSON value is (Avro specification, "Schema Declaration" and "Names"). A text is read
-- depth-first, and a name stands for a type that was defined before it.
use Rattle.std.specs.Prelude.{◌≡◌, ◌≤◌, ℕ, ◌⊎◌, List, [], ◌∷◌, ◌++◌, map, true, false, Option, Some, None, Ok, codes}
use Rattle.std.specs.List.{list_any}
use Rattle.std.specs.Str.{bytes_eq}
use Rattle.serde_json.specs.Data.{Data, string, Items}
use Rattle.serde_json.specs.Find.{get, as_array}
use Rattle.json_reading.specs.Json.{json, text_member, list_member, items}
use Rattle.avro_schema.specs.Tree.{SchemaTree, schema_tree, ShapeTree, BranchTrees, no_branches, branch, FieldTrees, no_fields, field}
use Rattle.avro_schema.specs.Sizes.{max_levels, max_types, level_count, type_count}
use Rattle.avro_schema.specs.Names.{full_name, namespace_of, primitive_of, is_name, Definition, definition_of, with_definition, are_distinct}
use Rattle.avro_schema.specs.Reading.{size_member, id_member, space_in}

-- What the use of a name inside its own definition is taken for. A schema has no such use. Where
-- other faults are looked for, it may stand for any type.
pub data OwnUse : Type 0 where
  is_a_fault : OwnUse
  is_any_type : OwnUse

-- where a type stands: the namespace of the named type around it, the full names of the types that
-- are being defined around it, the outermost first, and what a use of those is taken for
pub record Place : Type 0 where
  pub space : List ℕ
  pub open_names : List (List ℕ)
  pub own_use : OwnUse

-- inside the definition of that full name
abbrev pub inside : Place → List ℕ → Place
inside at name = record { space = namespace_of name; open_names = at.open_names ++ name ∷ []; own_use = at.own_use }

-- The place is inside the definition of that full name.
abbrev pub IsInside : Place → List ℕ → Type 0
IsInside at name = list_any (bytes_eq name) at.open_names ≡ true

-- The place is not inside the definition of that full name.
abbrev pub IsOutside : Place → List ℕ → Type 0
IsOutside at name = list_any (bytes_eq name) at.open_names ≡ false

-- None of the words by which an object says which complex type it is.
abbrev pub IsNoComplexWord : List ℕ → Type 0
IsNoComplexWord word = (bytes_eq word (codes "record") ≡ false) × (bytes_eq word (codes "enum") ≡ false) × (bytes_eq word (codes "fixed") ≡ false) × (bytes_eq word (codes "array") ≡ false) × (bytes_eq word (codes "map") ≡ false)

-- The object says this beside its type.
abbrev pub Annotates : Data → Option (List ℕ) → Option ℕ → Option ℕ → Type 0
Annotates d logical precision scale = (text_member (codes "logicalType") d ≡ logical) × (size_member (codes "precision") d ≡ precision) × (size_member (codes "scale") d ≡ scale)

-- The value is the word of a primitive type, or an object that says its type by that word.
abbrev pub IsPrimitive : Data → SchemaTree → Type 0
IsPrimitive d (schema_tree shape logical precision scale) = (word : List ℕ) × (primitive_of word ≡ Some shape)
    × (((d ≡ string word) × (logical ≡ None) × (precision ≡ None) × (scale ≡ None))
    ⊎ ((text_member (codes "type") d ≡ Some word) × IsNoComplexWord word × Annotates d logical precision scale))

-- The value is a name, or an object whose type is that name and whose other members are ignored.
abbrev pub SaysName : Data → List ℕ → Type 0
SaysName d name = (primitive_of name ≡ None) × ((d ≡ string name) ⊎ ((text_member (codes "type") d ≡ Some name) × IsNoComplexWord name))

-- The full name stands for the type: it was defined before, and isn't used inside its definition.
abbrev pub StandsFor : Place → List Definition → List ℕ → SchemaTree → Type 0
StandsFor at before name t = (IsOutside at name × (definition_of name before ≡ Some t)) ⊎ (IsInside at name × (at.own_use ≡ is_any_type))

-- The object has this full name.
abbrev pub IsNamed : Place → Data → List ℕ → Type 0
IsNamed at d name = (own : List ℕ) × (text_member (codes "name") d ≡ Some own) × (is_name own ≡ true)
    × (name ≡ full_name (space_in (text_member (codes "namespace") d) at.space) own)

-- The object defines this full name, which has no type yet.
abbrev pub DefinesName : Place → List Definition → Data → List ℕ → Type 0
DefinesName at before d name = IsNamed at d name × IsOutside at name × (definition_of name before ≡ None)

-- The object says its type by that word.
abbrev pub SaysType : Data → List ℕ → Type 0
SaysType d word = text_member (codes "type") d ≡ Some word

abbrev pub field_names : FieldTrees → List (List ℕ)
field_names no_fields = []
field_names (field name t id fs) = name ∷ field_names fs

abbrev mutual
  -- The value is the schema, where these types are defined before it, and those behind it.
  pub Declares : Place → List Definition → Data → SchemaTree → List Definition → Type 0
  Declares at before d (schema_tree shape logical precision scale) after =
      (IsPrimitive d (schema_tree shape logical precision scale) × (after ≡ before))
      ⊎ ((name : List ℕ) × SaysName d name × StandsFor at before (full_name at.space name) (schema_tree shape logical precision scale) × (after ≡ before))
      ⊎ DeclaresComplex at before d shape logical precision scale after

  pub DeclaresComplex : Place → List Definition → Data → ShapeTree → Option (List ℕ) → Option ℕ → Option ℕ → List Definition → Type 0
  DeclaresComplex at before d (ShapeTree.union_of branches) logical precision scale after =
      (list : Items) × (as_array d ≡ Some list) × (logical ≡ None) × (precision ≡ None) × (scale ≡ None) × DeclaresBranches at before (items list) branches after
  DeclaresComplex at before d (ShapeTree.array_of inner element_id) logical precision scale after =
      SaysType d (codes "array") × Annotates d logical precision scale
      × ((part : Data) × (get (codes "items") d ≡ Some part) × Declares at before part inner after × (id_member (codes "element-id") d ≡ Ok element_id))
  DeclaresComplex at before d (ShapeTree.map_of inner key_id value_id) logical precision scale after =
      SaysType d (codes "map") × Annotates d logical precision scale
      × ((part : Data) × (get (codes "values") d ≡ Some part) × Declares at before part inner after × (id_member (codes "key-id") d ≡ Ok key_id) × (id_member (codes "value-id") d ≡ Ok value_id))
  DeclaresComplex at before d (ShapeTree.fixed_of name size) logical precision scale after =
      SaysType d (codes "fixed") × Annotates d logical precision scale × DefinesName at before d name × (size_member (codes "size") d ≡ Some size)
      × (after ≡ with_definition name (schema_tree (ShapeTree.fixed_of name size) logical precision scale) before)
  DeclaresComplex at before d (ShapeTree.enum_of name symbols) logical precision scale after =
      SaysType d (codes "enum") × Annotates d logical precision scale × DefinesName at before d name
      × ((list : Items) × (list_member (codes "symbols") d ≡ Some list) × (items list ≡ map string symbols)) × (are_distinct symbols ≡ true)
      × (after ≡ with_definition name (schema_tree (ShapeTree.enum_of name symbols) logical precision scale) before)
  DeclaresComplex at before d (ShapeTree.record_of name fields) logical precision scale after =
      SaysType d (codes "record") × Annotates d logical precision scale × DefinesName at before d name
      × ((list : Items) × (between : List Definition) × (list_member (codes "fields") d ≡ Some list) × DeclaresFields (inside at name) before (items list) fields between
      × (are_distinct (field_names fields) ≡ true) × (after ≡ with_definition name (schema_tree (ShapeTree.record_of name fields) logical precision scale) between))
  DeclaresComplex at before d _ logical precision scale after = ⊥

  -- A union's branches, none of which is a union.
  pub DeclaresBranches : Place → List Definition → List Data → BranchTrees → List Definition → Type 0
  DeclaresBranches at before [] no_branches after = after ≡ before
  DeclaresBranches at before [] (branch t ts) after = ⊥
  DeclaresBranches at before (d ∷ ds) no_branches after = ⊥
  DeclaresBranches at before (d ∷ ds) (branch t ts) after = (as_array d ≡ None)
      × ((between : List Definition) × Declares at before d t between × DeclaresBranches at between ds ts after)

  pub DeclaresFields : Place → List Definition → List Data → FieldTrees → List Definition → Type 0
  DeclaresFields at before [] no_fields after = after ≡ before
  DeclaresFields at before [] (field name t id fs) after = ⊥
  DeclaresFields at before (d ∷ ds) no_fields after = ⊥
  DeclaresFields at before (d ∷ ds) (field name t id fs) after = (text_member (codes "name") d ≡ Some name) × (id_member (codes "field-id") d ≡ Ok id)
      × ((part : Data) × (between : List Definition) × (get (codes "type") d ≡ Some part) × Declares at before part t between × DeclaresFields at between ds fs after)

abbrev pub top : OwnUse → Place
top own_use = record { space = []; open_names = []; own_use = own_use }

-- The bytes are a text of the schema, where the use of a name inside its own definition is taken so.
pub record IsTextOf (own_use : OwnUse) (bytes : List ℕ) (t : SchemaTree) : Type 0 where
  pub value : Data
  pub behind : List Definition
  pub reads : json bytes ≡ Some value
  pub declares : Declares (top own_use) [] value t behind
  pub levels : level_count t ≤ max_levels
  pub types : type_count t ≤ max_types

-- The bytes are a text of the schema.
abbrev pub IsSchemaText : List ℕ → SchemaTree → Type 0
IsSchemaText = IsTextOf is_a_fault
