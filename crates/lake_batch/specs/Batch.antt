-- What a batch file holds, and which files are none.
use Rattle.std.specs.Prelude.{◌≡◌, ◌≢◌, ◌<◌, ◌≤◌, ◌+◌, ℕ, List, map, length, All, Contains, codes, Some, Result, Ok, Err}
use Rattle.std.specs.List.{IsDistinct}
use Rattle.std.specs.Str.{IsUtf8, bytes_eq}
use Rattle.toml.specs.Data.{Data, string, array, table, Members, no_members, member}
use Rattle.toml.specs.Parse.{parse_document}
use Rattle.toml.specs.View.{items_of}
use Rattle.table_history.specs.Path.{IsPath}
use Rattle.lake_basics.specs.declared.outcome.ReadError.{ReadError}
use Rattle.lake_basics.specs.declared.outcome.ReadError.TheVariants as errors
use Rattle.lake_store.specs.Runs.{IsIn}
use Rattle.lake_batch.specs.declared.batch.Batch.{Batch}
use Rattle.lake_batch.specs.declared.batch.BatchError.{BatchError}
use Rattle.lake_batch.specs.declared.batch.BatchError.TheVariants.{File, Memory}
use Rattle.lake_batch.specs.declared.batch.Item.{Item}
use Rattle.lake_batch.specs.declared.batch.Why.{Why}
use Rattle.lake_batch.specs.declared.batch.Why.TheVariants.{Missing, Long, Syntax, Shape, Many, Folder, Overlap}

abbrev pub folder_of : Item → List ℕ
folder_of item = item.folder

-- ---- the form

-- an array of texts
abbrev pub texts_data : List (List ℕ) → Data
texts_data texts = array (items_of (map string texts))

-- a `folder` and a `command`, and nothing else; the keys in byte order
abbrev pub table_data : Item → Data
table_data item = table (member (codes "command") (texts_data item.command) (member (codes "folder") (string item.folder) no_members))

-- the document of these tables: their array under `table`, and nothing else
abbrev pub batch_document : List Item → Members
batch_document tables = member (codes "table") (array (items_of (map table_data tables))) no_members

-- the bytes are the text of this TOML 1.1 document
abbrev pub IsToml : List ℕ → Members → Type 0
IsToml bytes document = IsUtf8 bytes × (parse_document bytes ≡ Some document)

-- they are the text of none
abbrev pub IsNoToml : List ℕ → Type 0
IsNoToml bytes = (document : Members) → IsToml bytes document → ⊥

-- ---- the tables

-- Each folder is a path, which fits behind a location of so many bytes and a slash.
abbrev pub AreFolders : ℕ → List Item → Type 0
AreFolders before tables = All (λ item. IsPath item.folder × (before + 1 + length item.folder ≤ 1024)) tables

-- The path lies in one of the folders.
abbrev pub LiesInOne : List (List ℕ) → List ℕ → Type 0
LiesInOne folders path = (folder : List ℕ) × Contains folders folder × IsIn folder path

-- No folder stands twice, and none lies in another one.
pub record AreApart (folders : List (List ℕ)) : Type 0 where
  pub distinct : IsDistinct bytes_eq folders
  pub outside : (folder : List ℕ) → Contains folders folder → LiesInOne folders folder → ⊥

-- ---- the file

abbrev pub IsShort : List ℕ → Type 0
IsShort bytes = length bytes ≤ 1048576

-- The bytes hold the batch of these tables, which may be run at this location.
pub record IsBatch (place bytes : List ℕ) (tables : List Item) : Type 0 where
  pub short : IsShort bytes
  pub form : IsToml bytes (batch_document tables)
  pub few : length tables ≤ 1000
  pub folders : AreFolders (length place) tables
  pub apart : AreApart (map folder_of tables)

-- The bytes are of a batch's form, with these tables.
abbrev pub HasTables : List ℕ → (List Item → Type 0) → Type 0
HasTables bytes P = IsShort bytes × ((tables : List Item) × IsToml bytes (batch_document tables) × P tables)

-- The bytes hold no batch for this location, for this cause. Each cause comes only where no earlier one does.
abbrev pub IsFault : List ℕ → List ℕ → Why → Type 0
IsFault place bytes Missing = ⊥
IsFault place bytes Long = 1048576 < length bytes
IsFault place bytes Syntax = IsShort bytes × IsNoToml bytes
IsFault place bytes Shape = IsShort bytes × ((document : Members) × IsToml bytes document × ((tables : List Item) → document ≢ batch_document tables))
IsFault place bytes Many = HasTables bytes (λ tables. 1000 < length tables)
IsFault place bytes Folder = HasTables bytes (λ tables. (length tables ≤ 1000) × ¬ AreFolders (length place) tables)
IsFault place bytes Overlap = HasTables bytes (λ tables. (length tables ≤ 1000) × AreFolders (length place) tables × ¬ AreApart (map folder_of tables))

-- what reading them for tables at this location gives
abbrev pub IsReadBy : List ℕ → List ℕ → Result Batch (ReadError Why) → Type 0
IsReadBy place bytes (Ok batch) = IsBatch place bytes batch.tables
IsReadBy place bytes (Err errors.Memory) = Unit {0}
IsReadBy place bytes (Err (errors.Fault why)) = IsFault place bytes why

abbrev pub batch_error : ReadError Why → BatchError
batch_error errors.Memory = Memory
batch_error (errors.Fault why) = File why

-- the same, where the error has its public name
abbrev pub IsReadSo : List ℕ → List ℕ → Result Batch BatchError → Type 0
IsReadSo place bytes (Ok batch) = IsBatch place bytes batch.tables
IsReadSo place bytes (Err Memory) = Unit {0}
IsReadSo place bytes (Err (File why)) = IsFault place bytes why

-- whether tables of this form may be run at the location
abbrev pub IsJudgedSo : List ℕ → List Item → Result (Unit {0}) (ReadError Why) → Type 0
IsJudgedSo place tables (Ok x) = (length tables ≤ 1000) × AreFolders (length place) tables × AreApart (map folder_of tables)
IsJudgedSo place tables (Err errors.Memory) = Unit {0}
IsJudgedSo place tables (Err (errors.Fault Many)) = 1000 < length tables
IsJudgedSo place tables (Err (errors.Fault Folder)) = (length tables ≤ 1000) × ¬ AreFolders (length place) tables
IsJudgedSo place tables (Err (errors.Fault Overlap)) = (length tables ≤ 1000) × AreFolders (length place) tables × ¬ AreApart (map folder_of tables)
IsJudgedSo place tables (Err (errors.Fault _)) = ⊥
