-- The schema that a JSON value is, read depth-first, and the first fault where it is none: the
-- function that `Schema::from_json` gives. Grammar.antt says what it means.
use Rattle.std.specs.Prelude.{ℕ, ℤ, pos, negsuc, nat_le, zero, suc, ◌-◌, ◌==◌, ◌||◌, ◌&&◌, not, List, [], ◌∷◌, ◌++◌, map, length, take, Bool, true, false, Option, Some, None, option_map, option_and_then, is_some, Result, Ok, Err, nat_lt, if◌then◌else◌, codes}
use Rattle.std.specs.List.{list_any}
use Rattle.std.specs.Str.{bytes_eq}
use Rattle.serde_json.specs.Data.{Data, null, boolean, number, string, array, object, Items}
use Rattle.serde_json.specs.Find.{get, as_array}
use Rattle.lake_basics.specs.Outcome.{◌>>=◌, required, each, with_fault}
use Rattle.avro_schema.specs.declared.error.SchemaFault.{SchemaFault}
use Rattle.avro_schema.specs.declared.error.SchemaFault.TheVariants.{BadSchema, Recursive}
use Rattle.avro_schema.specs.declared.error.SchemaError.{SchemaError}
use Rattle.avro_schema.specs.declared.error.SchemaError.TheVariants as errors
use Rattle.avro_schema.specs.Tree.{SchemaTree, schema_tree, ShapeTree, FieldTree, branches_of, fields_of}
use Rattle.avro_schema.specs.Sizes.{max_levels, max_types, type_count, level_count}
use Rattle.avro_schema.specs.Names.{full_name, namespace_of, primitive_of, is_name, Definition, definition_of, with_definition, are_distinct}
use Rattle.json_reading.specs.Json.{json, whole, int, text_member, list_member, items, text}

abbrev pub Reading : Type 0 → Type 0
Reading A = Result A SchemaFault

-- what has been read so far: the full names of the types that are being defined, the outermost
-- first, the types that have been defined, in order, and how many more types there may be
pub record State : Type 0 where
  pub open_names : List (List ℕ)
  pub definitions : List Definition
  pub budget : ℕ

-- A schema and what has been read behind it.
abbrev pub SchemaRead : Type 0
SchemaRead = SchemaTree × State

-- what reads a type in a namespace
abbrev pub Reader : Type 0
Reader = List ℕ → Data → State → Reading SchemaRead

abbrev pub needed : {A : Type 0} → Option A → Reading A
needed found = required BadSchema found

abbrev pub checked : Bool → Reading (Unit {0})
checked test = if test then Ok tt else Err BadSchema

-- ---- numbers and texts

abbrev pub below_2_31 : ℤ → Option ℕ
below_2_31 (pos n) = if nat_le n 2147483647 then Some n else None
below_2_31 (negsuc n) = None

-- the member, where it is a whole number from 0 to 2 ^ 31 - 1
abbrev pub size_member : List ℕ → Data → Option ℕ
size_member name d = option_and_then below_2_31 (option_and_then whole (get name d))

abbrev pub id_in : Option Data → Reading (Option ℤ)
id_in None = Ok None
id_in (Some d) = needed (option_map Some (int d))

-- an id, which may be absent and else is a whole number of 32 bits
abbrev pub id_member : List ℕ → Data → Reading (Option ℤ)
id_member name d = id_in (get name d)

-- ---- names

abbrev pub proper_name : Data → Reading (List ℕ)
proper_name d = do
  name ← needed (text_member (codes "name") d)
  proper ← checked (is_name name)
  Ok name

abbrev pub space_in : Option (List ℕ) → List ℕ → List ℕ
space_in None enclosing = enclosing
space_in (Some space) enclosing = space

abbrev pub is_open : List ℕ → State → Bool
is_open name st = list_any (bytes_eq name) st.open_names

-- The name has no type yet.
abbrev pub is_new : List ℕ → State → Bool
is_new name st = not (is_open name st) && not (is_some (definition_of name st.definitions))

-- the full name that an object defines
abbrev pub new_name : List ℕ → Data → State → Reading (List ℕ)
new_name enclosing d st = do
  name ← proper_name d
  fresh ← checked (is_new (full_name (space_in (text_member (codes "namespace") d) enclosing) name) st)
  Ok (full_name (space_in (text_member (codes "namespace") d) enclosing) name)

-- ---- types

-- one type is counted
abbrev pub counted : State → Reading State
counted st = if st.budget == 0 then Err BadSchema else Ok (record st { budget = st.budget - 1 })

abbrev pub used_type : ℕ → Option SchemaTree → State → Reading SchemaRead
used_type left None st = Err BadSchema
used_type left (Some t) st = if nat_lt left (level_count t) || nat_lt st.budget (type_count t) then Err BadSchema else Ok (t, record st { budget = st.budget - type_count t })

-- the type of that full name, with so many levels left, counted with all its parts
abbrev pub used_name : ℕ → List ℕ → State → Reading SchemaRead
used_name left name st = if is_open name st then Err Recursive else used_type left (definition_of name st.definitions) st

abbrev pub one_type : SchemaTree → State → Reading SchemaRead
one_type t st = do
  next ← counted st
  Ok (t, next)

abbrev pub word_or_name : Option ShapeTree → ℕ → List ℕ → List ℕ → State → Reading SchemaRead
word_or_name (Some shape) left space name st = one_type (schema_tree shape None None None) st
word_or_name None left space name st = used_name left (full_name space name) st

-- the type of a text, with so many levels left
abbrev pub text_type : ℕ → List ℕ → List ℕ → State → Reading SchemaRead
text_type left space name st = word_or_name (primitive_of name) left space name st

-- a type with what its object says beside it
abbrev pub annotated : Data → ShapeTree → SchemaTree
annotated d shape = schema_tree shape (text_member (codes "logicalType") d) (size_member (codes "precision") d) (size_member (codes "scale") d)

-- a type that was defined under that name
abbrev pub defined : List ℕ → SchemaTree → State → SchemaRead
defined name t st = (t, record st { definitions = with_definition name t st.definitions })

abbrev pub fixed_type : List ℕ → Data → State → Reading SchemaRead
fixed_type space d st = do
  name ← new_name space d st
  size ← needed (size_member (codes "size") d)
  Ok (defined name (annotated d (ShapeTree.fixed_of name size)) st)

abbrev pub symbols_in : Data → Reading (List (List ℕ))
symbols_in d = do
  list ← needed (list_member (codes "symbols") d)
  symbols ← each (text BadSchema) (items list)
  distinct ← checked (are_distinct symbols)
  Ok symbols

abbrev pub enum_type : List ℕ → Data → State → Reading SchemaRead
enum_type space d st = do
  name ← new_name space d st
  symbols ← symbols_in d
  Ok (defined name (annotated d (ShapeTree.enum_of name symbols)) st)

abbrev pub array_type : Reader → List ℕ → Data → State → Reading SchemaRead
array_type below space d st = do
  inner ← needed (get (codes "items") d)
  t ← below space inner st
  id ← id_member (codes "element-id") d
  Ok (annotated d (ShapeTree.array_of t.0 id), t.1)

abbrev pub map_type : Reader → List ℕ → Data → State → Reading SchemaRead
map_type below space d st = do
  inner ← needed (get (codes "values") d)
  t ← below space inner st
  key ← id_member (codes "key-id") d
  value ← id_member (codes "value-id") d
  Ok (annotated d (ShapeTree.map_of t.0 key value), t.1)

abbrev pub field_type : Reader → List ℕ → Data → State → Reading (FieldTree × State)
field_type below space d st = do
  name ← needed (text_member (codes "name") d)
  inner ← needed (get (codes "type") d)
  t ← below space inner st
  id ← id_member (codes "field-id") d
  Ok ((name, t.0, id), t.1)

-- one after another, each behind what the one before left
abbrev pub in_turn : {A B : Type 0} → (A → State → Reading (B × State)) → List A → State → Reading (List B × State)
in_turn f [] st = Ok ([], st)
in_turn f (x ∷ xs) st = do
  first ← f x st
  others ← in_turn f xs first.1
  Ok (first.0 ∷ others.0, others.1)

abbrev pub field_name : FieldTree → List ℕ
field_name f = f.0

-- the record of these fields, which is defined now
abbrev pub record_with : Data → List ℕ → List FieldTree → State → Reading SchemaRead
record_with d name fields st = do
  distinct ← checked (are_distinct (map field_name fields))
  Ok (defined name (annotated d (ShapeTree.record_of name (fields_of fields))) st)

abbrev pub record_type : Reader → List ℕ → Data → State → Reading SchemaRead
record_type below space d st = do
  name ← new_name space d st
  list ← needed (list_member (codes "fields") d)
  fields ← in_turn (field_type below (namespace_of name)) (items list) (record st { open_names = st.open_names ++ name ∷ [] })
  record_with d name fields.0 (record fields.1 { open_names = take (length st.open_names) fields.1.open_names })

abbrev pub other_type : Option ShapeTree → ℕ → List ℕ → Data → List ℕ → State → Reading SchemaRead
other_type (Some shape) left space d word st = one_type (annotated d shape) st
other_type None left space d word st = used_name left (full_name space word) st

-- the type of an object that says it by that word
abbrev pub object_type : ℕ → Reader → List ℕ → Data → List ℕ → State → Reading SchemaRead
object_type left below space d word st =
    if bytes_eq word (codes "record") then (counted st >>= record_type below space d) else (
    if bytes_eq word (codes "enum") then (counted st >>= enum_type space d) else (
    if bytes_eq word (codes "fixed") then (counted st >>= fixed_type space d) else (
    if bytes_eq word (codes "array") then (counted st >>= array_type below space d) else (
    if bytes_eq word (codes "map") then (counted st >>= map_type below space d) else (
    other_type (primitive_of word) left space d word st)))))

-- a type that is no union, with so many levels left, and what reads the levels below
abbrev pub single_type : ℕ → Reader → Reader
single_type left below space null st = Err BadSchema
single_type left below space (boolean b) st = Err BadSchema
single_type left below space (number n) st = Err BadSchema
single_type left below space (string name) st = text_type left space name st
single_type left below space (array ds) st = Err BadSchema
single_type left below space (object ms) st = needed (text_member (codes "type") (object ms)) >>= λ word. object_type left below space (object ms) word st

abbrev pub union_type : Reader → List ℕ → List Data → State → Reading SchemaRead
union_type one space ds st = do
  started ← counted st
  branches ← in_turn (one space) ds started
  Ok (schema_tree (ShapeTree.union_of (branches_of branches.0)) None None None, branches.1)

abbrev pub type_by : Option Items → ℕ → Reader → Reader
type_by None left below space d st = single_type left below space d st
type_by (Some ds) left below space d st = union_type (single_type left below) space (items ds) st

abbrev pub type_with : ℕ → Reader → Reader
type_with left below space d st = type_by (as_array d) left below space d st

-- the type that a value is, with so many levels from its own on
unfoldable pub type_at : ℕ → Reader
type_at zero space d st = Err BadSchema
type_at (suc left) space d st = type_with (suc left) (type_at left) space d st

abbrev pub start : State
start = record { open_names = []; definitions = []; budget = max_types }

unfoldable pub tree_at : Data → Reading SchemaTree
tree_at d = do
  t ← type_at max_levels [] d start
  Ok t.0

abbrev pub error_of : SchemaFault → SchemaError
error_of BadSchema = errors.BadSchema
error_of Recursive = errors.Recursive

abbrev pub is_memory : SchemaError → Bool
is_memory errors.Memory = true
is_memory errors.BadSchema = false
is_memory errors.Recursive = false

abbrev pub text_tree : List ℕ → Reading SchemaTree
text_tree bytes = needed (json bytes) >>= tree_at

-- the schema that a text is, or why it is none
abbrev pub schema_of : List ℕ → Result SchemaTree SchemaError
schema_of bytes = with_fault error_of (text_tree bytes)
