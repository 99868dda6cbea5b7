-- What stands at the places of a schema's JSON (Delta Lake protocol, "Schema Serialization Format").
use Rattle.std.specs.Prelude.{ℕ, zero, suc, List, [], ◌∷◌, Bool, true, false, ◌&&◌, Option, Some, None, is_some, Result, Ok, Err, if◌then◌else◌, codes}
use Rattle.std.specs.Str.{bytes_eq}
use Rattle.serde_json.specs.Data.{Data, null, boolean, number, string, array, object, Items, no_items, item, no_members, member}
use Rattle.serde_json.specs.Find.{get}
use Rattle.lake_basics.specs.Outcome.{◌>>=◌, required, each}
use Rattle.json_reading.specs.Json.{text_member, bool_member, list_member, items}
use Rattle.avro_schema.specs.Names.{are_distinct}
use Rattle.table_history.specs.TypeTree.{ColumnTrees}
use Rattle.schema_delta.specs.Delta.{delta_schema}
use Rattle.schema_map.specs.declared.fault.MapError.{MapError}
use Rattle.delta_outline.specs.declared.fault.OutlineFault.{OutlineFault}
use Rattle.delta_outline.specs.declared.fault.OutlineFault.TheVariants as fault
use Rattle.delta_outline.specs.declared.form.Form.{Form}
use Rattle.delta_outline.specs.declared.form.Form.TheVariants.{Known, Other, Malformed}

-- ---- words

-- the JSON of a schema with one column of the type of this word
abbrev pub one_column : List ℕ → Data
one_column word = object
    (member (codes "fields") (array (item (object
    (member (codes "name") (string (codes "a"))
    (member (codes "nullable") (boolean true)
    (member (codes "type") (string word) no_members)))) no_items))
    (member (codes "type") (string (codes "struct")) no_members))

abbrev pub is_read : Result ColumnTrees MapError → Bool
is_read (Ok schema) = true
is_read (Err e) = false

-- The word spells a type: that schema is read.
abbrev pub is_known_word : List ℕ → Bool
is_known_word word = is_read (delta_schema (one_column word))

-- ---- forms

abbrev pub worse : Form → Form → Form
worse Known second = second
worse Malformed _ = Malformed
worse Other Malformed = Malformed
worse Other Known = Other
worse Other Other = Other

abbrev pub form_if : Bool → Form
form_if true = Known
form_if false = Malformed

abbrev pub form_of_word : Bool → Form
form_of_word true = Known
form_of_word false = Other

-- ---- one place by itself

-- the name of a field that has a name, a type and whether it may be null
unfoldable pub field_name : Data → Result (List ℕ) OutlineFault
field_name d = do
  name ← required fault.Malformed (text_member (codes "name") d)
  nullable ← required fault.Malformed (bool_member (codes "nullable") d)
  kind ← required fault.Malformed (get (codes "type") d)
  Ok name

abbrev pub names_form : Result (List (List ℕ)) OutlineFault → Form
names_form (Ok names) = form_if (are_distinct names)
names_form (Err e) = Malformed

abbrev pub fields_form : Items → Form
fields_form ds = names_form (each field_name (items ds))

abbrev pub listed_form : Option Items → Form
listed_form None = Malformed
listed_form (Some ds) = fields_form ds

abbrev pub struct_form : Data → Form
struct_form d = listed_form (list_member (codes "fields") d)

abbrev pub list_form : Data → Form
list_form d = form_if (is_some (bool_member (codes "containsNull") d) && is_some (get (codes "elementType") d))

abbrev pub map_form : Data → Form
map_form d = form_if (is_some (bool_member (codes "valueContainsNull") d) && (is_some (get (codes "keyType") d) && is_some (get (codes "valueType") d)))

abbrev pub named_form : Option (List ℕ) → Data → Form
named_form None d = Malformed
named_form (Some word) d = if bytes_eq word (codes "struct") then struct_form d else (if bytes_eq word (codes "array") then list_form d else (if bytes_eq word (codes "map") then map_form d else Other))

abbrev pub nested_form : Data → Form
nested_form d = named_form (text_member (codes "type") d) d

-- what stands at this place by itself
abbrev pub own_form : Data → Form
own_form null = Malformed
own_form (boolean b) = Malformed
own_form (number n) = Malformed
own_form (string word) = form_of_word (is_known_word word)
own_form (array ds) = Malformed
own_form (object ms) = nested_form (object ms)

-- ---- a place with those inside it, where `part` tells the worst form at a part and inside it

abbrev pub form_at : (Data → Form) → Option Data → Form
form_at part None = Known
form_at part (Some d) = part d

-- the worst form in the member of this name, where it is there
abbrev pub member_form : (Data → Form) → List ℕ → Data → Form
member_form part name d = form_at part (get name d)

-- the worst form in the types of fields
abbrev pub types_form : (Data → Form) → List Data → Form
types_form part [] = Known
types_form part (d ∷ ds) = worse (member_form part (codes "type") d) (types_form part ds)

abbrev pub listed_types : (Data → Form) → Option Items → Form
listed_types part None = Known
listed_types part (Some ds) = types_form part (items ds)

abbrev pub named_parts : (Data → Form) → Option (List ℕ) → Data → Form
named_parts part None d = Known
named_parts part (Some word) d =
    if bytes_eq word (codes "struct") then listed_types part (list_member (codes "fields") d)
    else (if bytes_eq word (codes "array") then member_form part (codes "elementType") d
    else (if bytes_eq word (codes "map") then worse (member_form part (codes "keyType") d) (member_form part (codes "valueType") d) else Known))

-- the worst form in the parts of a type
abbrev pub parts_form : (Data → Form) → Data → Form
parts_form part d = named_parts part (text_member (codes "type") d) d

-- the worst form at a place and, in so many levels, inside it
unfoldable pub form : ℕ → Data → Form
form zero d = own_form d
form (suc n) d = worse (own_form d) (parts_form (form n) d)
