-- What the JSON spellings of a schema share.
use Rattle.std.specs.Prelude.{ℕ, List, [], Option, Some, None, unwrap_or, Result, Ok, Err, if◌then◌else◌, codes}
use Rattle.std.specs.Str.{bytes_eq}
use Rattle.serde_json.specs.Data.{Data, string, object, Items, no_members, member}
use Rattle.lake_basics.specs.Outcome.{◌>>=◌, required}
use Rattle.json_reading.specs.Json.{text_member, list_member}
use Rattle.table_history.specs.TypeTree.{TypeTree, decimal, ColumnTrees}
use Rattle.schema_map.specs.declared.fault.Fault.{Fault}
use Rattle.schema_map.specs.declared.fault.Fault.TheVariants.{BadSchema}
use Rattle.schema_map.specs.declared.fault.MapError.{MapError}
use Rattle.schema_map.specs.Errors.{in_column}
use Rattle.schema_map.specs.Names.{columns_with_own_names}
use Rattle.schema_map.specs.Limits.{schema_of_few_columns}

-- a decimal, or else what is given
abbrev pub decimal_or : Option (ℕ × ℕ) → Result TypeTree Fault → Result TypeTree Fault
decimal_or None reading = reading
decimal_or (Some p) reading = Ok (decimal p.0 p.1)

-- A fault is told by the name of the top-level column, where it has a name.
abbrev pub column_name : Data → List ℕ
column_name d = unwrap_or (text_member (codes "name") d) []

-- the fields of the schema itself
unfoldable pub schema_fields : Data → Result Items Fault
schema_fields d = do
  word ← required BadSchema (text_member (codes "type") d)
  fields ← required BadSchema (list_member (codes "fields") d)
  if bytes_eq word (codes "struct") then Ok fields else Err BadSchema

-- columns with names of their own, and not too many
abbrev pub schema_of : ColumnTrees → Result ColumnTrees MapError
schema_of columns = in_column [] (columns_with_own_names columns) >>= schema_of_few_columns

-- the JSON that is written for a struct of these fields
abbrev pub struct_data : Data → Data
struct_data fields = object (member (codes "fields") fields (member (codes "type") (string (codes "struct")) no_members))
