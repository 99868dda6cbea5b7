-- What one line of a commit says, as a function of the line, or that it says nothing. It gives just what Actions states.
use Rattle.std.specs.Prelude.{ℕ, ℤ, pos, negsuc, ◌==◌, ◌||◌, ◌&&◌, List, [], length, Bool, false, Option, Some, None, is_some, is_none, Result, Ok, Err, if◌then◌else◌, codes}
use Rattle.std.specs.List.{list_all}
use Rattle.std.specs.Str.{bytes_eq}
use Rattle.serde_json.specs.Data.{Data, null, boolean, number, string, array, object}
use Rattle.serde_json.specs.Find.{get, as_array, as_object}
use Rattle.lake_basics.specs.Outcome.{◌>>=◌, required, each}
use Rattle.json_reading.specs.Json.{json, text, text_member, whole_member, count_member, list_member, object_member, present, items, pairs}
use Rattle.json_scan.specs.Stated as stated
use Rattle.delta_log.specs.declared.action.LineAction.{LineAction}
use Rattle.delta_log.specs.declared.action.LineAction.TheVariants as action
use Rattle.delta_log.specs.declared.error.LineFault.{LineFault}
use Rattle.delta_log.specs.declared.error.LineFault.TheVariants.{Malformed}

-- ---- pairs

abbrev pub text_or_null : Data → Result (Option (List ℕ)) LineFault
text_or_null null = Ok None
text_or_null (boolean b) = Err Malformed
text_or_null (number n) = Err Malformed
text_or_null (string s) = Ok (Some s)
text_or_null (array ds) = Err Malformed
text_or_null (object ms) = Err Malformed

-- a name, with what its value gives
abbrev pub keyed : {A : Type 0} → (Data → Result A LineFault) → List ℕ × Data → Result (List ℕ × A) LineFault
keyed f p = do
  value ← f p.1
  Ok (p.0, value)

abbrev pub setting : List ℕ × Data → Result (List ℕ × List ℕ) LineFault
setting = keyed (text Malformed)

abbrev pub partition_value : List ℕ × Data → Result (List ℕ × Option (List ℕ)) LineFault
partition_value = keyed text_or_null

-- an object of texts, or absent
abbrev pub settings : Option Data → Result (List (List ℕ × List ℕ)) LineFault
settings None = Ok []
settings (Some d) = do
  members ← required Malformed (as_object d)
  each setting (pairs members)

-- ---- the protocol

-- a list of texts, where it is there and not null
abbrev pub features : Option Data → Result (Option (List (List ℕ))) LineFault
features None = Ok None
features (Some d) = do
  names ← required Malformed (as_array d)
  texts ← each (text Malformed) (items names)
  Ok (Some texts)

-- the reader version at which a protocol lists its reader features
abbrev pub lists_features : ℤ → Bool
lists_features (pos version) = version == 3
lists_features (negsuc n) = false

abbrev pub needed_features : ℤ → Option (List (List ℕ)) → Result (Option (List (List ℕ))) LineFault
needed_features version stated = if lists_features version && is_none stated then Err Malformed else Ok stated

unfoldable pub protocol : Data → Result LineAction LineFault
protocol d = do
  reader ← required Malformed (whole_member (codes "minReaderVersion") d)
  writer ← required Malformed (whole_member (codes "minWriterVersion") d)
  stated ← features (present (codes "readerFeatures") d)
  reader_features ← needed_features reader stated
  writer_features ← features (present (codes "writerFeatures") d)
  Ok (action.Protocol (record { reader = reader; writer = writer; reader_features = reader_features; writer_features = writer_features }))

-- ---- the table

unfoldable pub meta_data : Data → Result LineAction LineFault
meta_data d = do
  id ← required Malformed (text_member (codes "id") d)
  format ← required Malformed (get (codes "format") d)
  provider ← required Malformed (text_member (codes "provider") format)
  schema ← required Malformed (text_member (codes "schemaString") d)
  columns ← required Malformed (list_member (codes "partitionColumns") d)
  partition ← each (text Malformed) (items columns)
  configuration ← settings (get (codes "configuration") d)
  Ok (action.MetaData (record { id = id; schema = schema; partition = partition; configuration = configuration }) (bytes_eq provider (codes "parquet")))

-- ---- files

-- the record count that the text of an object states, if it states one
unfoldable pub stated_count : List ℕ → Result (Option ℕ) LineFault
stated_count stats = stated.stated_count Malformed (codes "numRecords") stats

-- Statistics are a text where they are there and not null, and the empty text has none.
abbrev pub record_count_in : Option Data → Result (Option ℕ) LineFault
record_count_in None = Ok None
record_count_in (Some d) = do
  stats ← text Malformed d
  if length stats == 0 then Ok None else stated_count stats

unfoldable pub record_count : Data → Result (Option ℕ) LineFault
record_count d = record_count_in (present (codes "stats") d)

unfoldable pub add : Data → Result LineAction LineFault
add d = do
  uri ← required Malformed (text_member (codes "path") d)
  members ← required Malformed (object_member (codes "partitionValues") d)
  values ← each partition_value (pairs members)
  size ← required Malformed (count_member (codes "size") d)
  count ← record_count d
  Ok (action.Add uri values size count (is_some (present (codes "deletionVector") d)))

unfoldable pub remove : Data → Result LineAction LineFault
remove d = do
  uri ← required Malformed (text_member (codes "path") d)
  Ok (action.Remove uri (is_some (present (codes "deletionVector") d)))

-- ---- lines

-- Of the members that name an action one is there at most. The others say nothing.
abbrev pub only_action : Option Data → Option Data → Option Data → Option Data → Result LineAction LineFault
only_action None None None None = Ok action.NoAction
only_action (Some d) None None None = protocol d
only_action None (Some d) None None = meta_data d
only_action None None (Some d) None = add d
only_action None None None (Some d) = remove d
only_action _ _ _ _ = Err Malformed

unfoldable pub object_action : Data → Result LineAction LineFault
object_action d = do
  members ← required Malformed (as_object d)
  only_action (present (codes "protocol") d) (present (codes "metaData") d) (present (codes "add") d) (present (codes "remove") d)

-- blank, tab and carriage return
abbrev pub is_space : ℕ → Bool
is_space b = (b == 32) || (b == 9) || (b == 13)

-- A line is blank, or one JSON object.
unfoldable pub line_action : List ℕ → Result LineAction LineFault
line_action line = if list_all is_space line then Ok action.NoAction else (required Malformed (json line) >>= object_action)
