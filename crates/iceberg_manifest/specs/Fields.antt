-- Fields of Avro records by the ids that Iceberg gives them (Iceberg specification, "Avro": `field-id`).
use Rattle.std.specs.Prelude.{ℕ, ◌+◌, ℤ, Bool, true, false, Option, Some, None, option_and_then, Result, Ok, Err, if◌then◌else◌}
use Rattle.std.specs.Option.{option_map_or}
use Rattle.std.specs.Ordering.{int_eq}
use Rattle.lake_basics.specs.Outcome.{◌>>=◌, required}
use Rattle.avro_schema.specs.Tree.{SchemaTree, schema_tree, ShapeTree, BranchTrees, no_branches, branch, FieldTrees, no_fields, field}
use Rattle.iceberg_manifest.specs.declared.error.Flaw.{Flaw}
use Rattle.iceberg_manifest.specs.declared.error.Flaw.TheVariants.{Malformed}
use Rattle.iceberg_manifest.specs.declared.field.FieldKind.{FieldKind}
use Rattle.iceberg_manifest.specs.declared.field.FieldKind.TheVariants.{Boolean, Whole, Text}

-- what a manifest gives, or that it is malformed
abbrev pub Reading : Type 0 → Type 0
Reading A = Result A Flaw

-- ---- types

abbrev pub shape_part : SchemaTree → ShapeTree
shape_part (schema_tree shape logical precision scale) = shape

abbrev pub is_null_shape : ShapeTree → Bool
is_null_shape ShapeTree.null = true
is_null_shape _ = false

abbrev pub is_null_type : SchemaTree → Bool
is_null_type t = is_null_shape (shape_part t)

-- A whole number is an int or a long: a reader takes the one for the other.
abbrev pub is_shape_of : FieldKind → ShapeTree → Bool
is_shape_of Boolean ShapeTree.boolean = true
is_shape_of Whole ShapeTree.int = true
is_shape_of Whole ShapeTree.long = true
is_shape_of Text ShapeTree.text = true
is_shape_of _ _ = false

-- the type beside null in a union of two, in either order
abbrev pub beside_null : BranchTrees → Option SchemaTree
beside_null (branch s (branch t no_branches)) = if is_null_type s then Some t else (if is_null_type t then Some s else None)
beside_null _ = None

abbrev pub plain_shape_type : SchemaTree → ShapeTree → Option SchemaTree
plain_shape_type t (ShapeTree.union_of branches) = beside_null branches
plain_shape_type t _ = Some t

-- The type of a field, which may be a union of null and that type. Any other union has none.
abbrev pub plain_type : SchemaTree → Option SchemaTree
plain_type t = plain_shape_type t (shape_part t)

-- The field's values are of the kind, or null.
abbrev pub is_type_of : FieldKind → SchemaTree → Bool
is_type_of kind t = option_map_or (λ s. is_shape_of kind (shape_part s)) (plain_type t) false

abbrev pub shape_fields : ShapeTree → Option FieldTrees
shape_fields (ShapeTree.record_of name fields) = Some fields
shape_fields _ = None

-- the fields of a record
abbrev pub record_fields : SchemaTree → Option FieldTrees
record_fields t = shape_fields (shape_part t)

-- the fields of a record, which may be a union of null and it
abbrev pub plain_record : SchemaTree → Option FieldTrees
plain_record t = option_and_then record_fields (plain_type t)

-- ---- fields

abbrev pub is_id : ℤ → Option ℤ → Bool
is_id id None = false
is_id id (Some own) = int_eq own id

-- The first field of that id, and its place, where the first field has the place k.
abbrev pub first_from : ℕ → ℤ → FieldTrees → Option (ℕ × SchemaTree)
first_from k id no_fields = None
first_from k id (field name t own fs) = if is_id id own then Some (k, t) else first_from (k + 1) id fs

-- the first field of that id: its place among the fields, from 0, and its type
abbrev pub first_of : ℤ → FieldTrees → Option (ℕ × SchemaTree)
first_of = first_from 0

abbrev pub place_in : FieldKind → Option (ℕ × SchemaTree) → Reading (Option ℕ)
place_in kind None = Ok None
place_in kind (Some x) = if is_type_of kind x.1 then Ok (Some x.0) else Err Malformed

-- the place of the field of that id, which may be absent, and otherwise has values of that kind
unfoldable pub place_of : FieldKind → ℤ → FieldTrees → Reading (Option ℕ)
place_of kind id fields = place_in kind (first_of id fields)

-- the same of a field that must be there
unfoldable pub required_place : FieldKind → ℤ → FieldTrees → Reading ℕ
required_place kind id fields = place_of kind id fields >>= required Malformed

abbrev pub record_in : Option (ℕ × SchemaTree) → Reading (ℕ × FieldTrees)
record_in None = Err Malformed
record_in (Some x) = required Malformed (plain_record x.1) >>= λ fields. Ok (x.0, fields)

-- the place of the record of that id, which must be there, and its fields
unfoldable pub record_place : ℤ → FieldTrees → Reading (ℕ × FieldTrees)
record_place id fields = record_in (first_of id fields)
