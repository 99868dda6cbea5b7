-- Names of types (Avro specification, "Names").
use Rattle.std.specs.Prelude.{ℕ, ◌==◌, ◌&&◌, not, List, [], ◌∷◌, ◌++◌, length, Bool, true, Option, Some, None, is_some, if◌then◌else◌, codes}
use Rattle.std.specs.List.{list_any}
use Rattle.std.specs.Str.{bytes_eq}
use Rattle.avro_schema.specs.Tree.{SchemaTree, ShapeTree}

-- the byte that parts a namespace from a name
abbrev pub dot : ℕ
dot = 46

abbrev pub has_dot : List ℕ → Bool
has_dot name = list_any (λ b. b == dot) name

-- the part of a full name before its last dot, or nothing where it has none
abbrev pub namespace_of : List ℕ → List ℕ
namespace_of [] = []
namespace_of (b ∷ bs) = if has_dot bs then b ∷ namespace_of bs else []

-- The full name of a name that stands in a namespace, where the empty namespace is none.
abbrev pub full_name : List ℕ → List ℕ → List ℕ
full_name space name = if has_dot name then name else (if length space == 0 then name else space ++ (dot ∷ name))

-- the primitive type of that word (Avro specification, "Primitive Types")
abbrev pub primitive_of : List ℕ → Option ShapeTree
primitive_of word = if bytes_eq word (codes "null") then Some ShapeTree.null else (if bytes_eq word (codes "boolean") then Some ShapeTree.boolean else (if bytes_eq word (codes "int") then Some ShapeTree.int else (if bytes_eq word (codes "long") then Some ShapeTree.long else (if bytes_eq word (codes "float") then Some ShapeTree.float else (if bytes_eq word (codes "double") then Some ShapeTree.double else (if bytes_eq word (codes "bytes") then Some ShapeTree.bytes else (if bytes_eq word (codes "string") then Some ShapeTree.text else None)))))))

-- A type may have this name: it isn't empty, and isn't the word of a primitive type.
abbrev pub is_name : List ℕ → Bool
is_name name = not (length name == 0) && not (is_some (primitive_of name))

-- a full name and its type
abbrev pub Definition : Type 0
Definition = List ℕ × SchemaTree

-- the type that a full name was given
abbrev pub definition_of : List ℕ → List Definition → Option SchemaTree
definition_of name [] = None
definition_of name (d ∷ ds) = if bytes_eq name d.0 then Some d.1 else definition_of name ds

-- the definitions with this one
abbrev pub with_definition : List ℕ → SchemaTree → List Definition → List Definition
with_definition name t [] = (name, t) ∷ []
with_definition name t (d ∷ ds) = if bytes_eq name d.0 then (d.0, t) ∷ ds else d ∷ with_definition name t ds

-- No text stands twice.
abbrev pub are_distinct : List (List ℕ) → Bool
are_distinct [] = true
are_distinct (t ∷ ts) = not (list_any (bytes_eq t) ts) && are_distinct ts
