-- Why bytes are no schema text (Avro specification, "Schema Declaration" and "Names").
use Rattle.std.specs.Prelude.{◌≡◌, ℕ, List, Contains, Some, codes}
use Rattle.serde_json.specs.Data.{Data, Items}
use Rattle.serde_json.specs.Find.{get, as_array}
use Rattle.json_reading.specs.Json.{json, list_member, items}
use Rattle.avro_schema.specs.declared.error.SchemaError.{SchemaError}
use Rattle.avro_schema.specs.declared.error.SchemaError.TheVariants as errors
use Rattle.avro_schema.specs.Tree.{SchemaTree}
use Rattle.avro_schema.specs.Names.{full_name}
use Rattle.avro_schema.specs.Grammar.{Place, top, inside, IsInside, IsNamed, SaysName, SaysType, IsTextOf, is_a_fault, is_any_type}

-- In the value, which stands at that place, a name is used inside its own definition.
pub data UsesOwnName : Place → Data → Type 0 where
  here : {at : Place} {d : Data} (name : List ℕ) → SaysName d name → IsInside at (full_name at.space name) → UsesOwnName at d
  in_branch : {at : Place} {d : Data} (list : Items) (branch : Data) → as_array d ≡ Some list → Contains (items list) branch → UsesOwnName at branch → UsesOwnName at d
  in_items : {at : Place} {d : Data} (part : Data) → SaysType d (codes "array") → get (codes "items") d ≡ Some part → UsesOwnName at part → UsesOwnName at d
  in_values : {at : Place} {d : Data} (part : Data) → SaysType d (codes "map") → get (codes "values") d ≡ Some part → UsesOwnName at part → UsesOwnName at d
  in_field : {at : Place} {d : Data} (name : List ℕ) (list : Items) (field part : Data) → SaysType d (codes "record") → IsNamed at d name
      → list_member (codes "fields") d ≡ Some list → Contains (items list) field → get (codes "type") field ≡ Some part → UsesOwnName (inside at name) part → UsesOwnName at d

-- In the text a name is used inside its own definition.
abbrev pub IsRecursive : List ℕ → Type 0
IsRecursive bytes = (value : Data) × (json bytes ≡ Some value) × UsesOwnName (top is_a_fault) value

-- The text has another fault: it is no schema text even where each use of a name inside its own
-- definition stands for a type.
abbrev pub HasOtherFault : List ℕ → Type 0
HasOtherFault bytes = (t : SchemaTree) → IsTextOf is_any_type bytes t → ⊥

-- The bytes have the fault that a refusal names.
abbrev pub IsRefused : List ℕ → SchemaError → Type 0
IsRefused bytes errors.Memory = Unit {0}
IsRefused bytes errors.BadSchema = HasOtherFault bytes
IsRefused bytes errors.Recursive = IsRecursive bytes
