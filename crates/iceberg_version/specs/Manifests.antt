-- The manifests of a snapshot with their live rows, and what a commit makes of them (Iceberg specification, "Manifests" and "Manifest Lists").
use Rattle.std.specs.Prelude.{◌≡◌, ◌≢◌, ◌≤ℤ◌, ℕ, ◌+◌, ◌-◌, ◌^◌, ◌==◌, min, not, nat_lt, ℤ, pos, List, [], ◌∷◌, ◌++◌, length, map, take, drop, Bool, Contains, Option, None, Some, unwrap_or, if◌then◌else◌}
use Rattle.std.specs.List.{filter, list_any, sum}
use Rattle.std.specs.Str.{bytes_eq}
use Rattle.lake_basics.specs.declared.limits.TheConstants.{MAX_MANIFEST_ENTRIES}
use Rattle.table_history.specs.Row.{Row}
use Rattle.table_history.specs.Rows.{IsInPathOrder, SameRows}
use Rattle.table_history.specs.declared.table.Change.{Change}
use Rattle.iceberg_manifest.specs.Entry.{EntryData}
use Rattle.iceberg_manifest.specs.Entry.{is_live}
use Rattle.iceberg_manifest.specs.declared.info.ManifestInfo.{ManifestInfo}
use Rattle.file_links.specs.declared.slots.Held.{Held}
use Rattle.iceberg_table.specs.Folder.{path_of}
use Rattle.iceberg_version.specs.Names.{manifest_name}

-- a manifest of a list: its row there, and its live rows in their order, each with the version that added it
pub record LiveManifest : Type 0 where
  pub info : ManifestInfo
  pub rows : List Held

-- A manifest of the list of a new version: one that stays as it is, or a new one of these entries, whose live rows are those.
pub data NextManifest : Type 0 where
  stays : LiveManifest → NextManifest
  new : List EntryData → List Held → NextManifest

-- ---- entries

-- the name of the file of a path, where the names of the table's files begin with this
abbrev pub file_at : List ℕ → List ℕ → List ℕ
file_at front path = front ++ path

-- an entry of this status, with the number of a snapshot and twice a sequence number
abbrev pub entry_of : List ℕ → ℕ → ℤ → Option ℤ → Row → EntryData
entry_of front status snapshot sequence row = record { status = status; snapshot = Some snapshot; sequence = sequence; file_sequence = sequence; path = file_at front row.path; values = row.values; count = row.count; size = row.size }

-- A live row that stays has the three numbers of the version that added it.
abbrev pub existing_entry : List ℕ → Held → EntryData
existing_entry front held = entry_of front 0 (pos held.born) (Some (pos held.born)) held.row

-- An added row has the snapshot of the new version, and inherits its sequence numbers.
abbrev pub added_entry : List ℕ → ℕ → Row → EntryData
added_entry front version row = entry_of front 1 (pos version) None row

-- A removed row has the snapshot of the new version, and the sequence numbers of the version that added it.
abbrev pub deleted_entry : List ℕ → ℕ → Held → EntryData
deleted_entry front version held = entry_of front 2 (pos version) (Some (pos held.born)) held.row

-- ---- the manifests of the new version

-- whether the row's path is one of those that are removed
abbrev pub is_lost : List (List ℕ) → Held → Bool
is_lost removed held = list_any (bytes_eq held.row.path) removed

abbrev pub lost : List (List ℕ) → List Held → List Held
lost removed rows = filter (is_lost removed) rows

abbrev pub left : List (List ℕ) → List Held → List Held
left removed rows = filter (λ held. not (is_lost removed held)) rows

-- the rows that stay as existing, and then the removed ones as deleted
abbrev pub rewritten_entries : List ℕ → ℕ → List (List ℕ) → List Held → List EntryData
rewritten_entries front version removed rows = map (existing_entry front) (left removed rows) ++ map (deleted_entry front version) (lost removed rows)

-- a manifest from which a row is removed is written anew in its place, and any other stays
abbrev pub carried : List ℕ → ℕ → List (List ℕ) → LiveManifest → NextManifest
carried front version removed m =
    if list_any (is_lost removed) m.rows then new (rewritten_entries front version removed m.rows) (left removed m.rows) else stays m

-- whether the manifest has a live row
abbrev pub has_rows : LiveManifest → Bool
has_rows m = nat_lt 0 (length m.rows)

abbrev pub born_at : ℕ → Row → Held
born_at version row = record { row = row; born = version }

-- a manifest of added rows
abbrev pub added_manifest : List ℕ → ℕ → List Row → NextManifest
added_manifest front version rows = new (map (added_entry front version) rows) (map (born_at version) rows)

-- The list is cut into these parts, one behind the other: each is of so many items, and the last may be of fewer.
abbrev pub AreParts : {A : Type 0} → ℕ → List A → List (List A) → Type 0
AreParts size xs [] = xs ≡ []
AreParts size xs (part ∷ parts) = (xs ≢ []) × (part ≡ take size xs) × AreParts size (drop size xs) parts

-- Behind the change these are the manifests of the new version's list: those of the list before that had a live row, in their order, and then
-- those of the added rows, in byte order of paths.
pub record AreNextManifests (front : List ℕ) (version : ℕ) (manifests : List LiveManifest) (change : Change) (next : List NextManifest) : Type 0 where
  pub added : List Row
  pub rows : SameRows change.added added
  pub order : IsInPathOrder added
  pub parts : List (List Row)
  pub cut : AreParts MAX_MANIFEST_ENTRIES added parts
  pub is : next ≡ map (carried front version change.removed) (filter has_rows manifests) ++ map (added_manifest front version) parts

-- the entries of the new manifests, in the order of the list
abbrev pub new_entries : List NextManifest → List (List EntryData)
new_entries [] = []
new_entries (stays m ∷ next) = new_entries next
new_entries (new entries rows ∷ next) = entries ∷ new_entries next

-- ---- their rows in the list

abbrev pub of_status : ℕ → List EntryData → List EntryData
of_status status entries = filter (λ e. e.status == status) entries

-- how many files of this status there are
abbrev pub files_of : ℕ → List EntryData → ℤ
files_of status entries = pos (length (of_status status entries))

-- the greatest whole number of 64 bits
abbrev pub MAX_LONG : ℕ
MAX_LONG = 2 ^ 63 - 1

-- how many records they have, or the greatest whole number where there are more
abbrev pub capped_records : ℕ → List EntryData → ℕ
capped_records status entries = min (sum (map (λ e. e.count) (of_status status entries))) MAX_LONG

abbrev pub records_of : ℕ → List EntryData → ℤ
records_of status entries = pos (capped_records status entries)

-- the sequence number of an entry in a manifest of this version
abbrev pub sequence_in : ℕ → EntryData → ℤ
sequence_in version e = unwrap_or e.sequence (pos version)

-- the sequence numbers of the live entries
abbrev pub live_sequences : ℕ → List EntryData → List ℤ
live_sequences version entries = map (sequence_in version) (filter is_live entries)

-- the least of these numbers, if there is one
abbrev pub IsLeastOf : List ℤ → Option ℤ → Type 0
IsLeastOf numbers None = numbers ≡ []
IsLeastOf numbers (Some least) = Contains numbers least × ((n : ℤ) → Contains numbers n → least ≤ℤ n)

abbrev pub if_any : Bool → ℤ → Option ℤ
if_any any least = if any then Some least else None

-- the number is the least of these, and the version where there is none
abbrev pub IsLeast : ℕ → List ℤ → ℤ → Type 0
IsLeast version numbers n = (least : Option ℤ) × IsLeastOf numbers least × (n ≡ unwrap_or least (pos version))

-- the row in the list of a version's new manifest of this number, which has these entries and so many bytes
abbrev pub info_of : List ℕ → ℕ → ℕ → List EntryData → ℤ → ℕ → ℕ → ManifestInfo
info_of front version number entries least size place = record {
  manifest_path = file_at front (path_of (manifest_name version number));
  manifest_length = pos size;
  partition_spec_id = pos 0;
  content = pos 0;
  sequence_number = pos version;
  min_sequence_number = least;
  added_snapshot_id = pos version;
  added_files_count = files_of 1 entries;
  existing_files_count = files_of 0 entries;
  deleted_files_count = files_of 2 entries;
  added_rows_count = records_of 1 entries;
  existing_rows_count = records_of 0 entries;
  deleted_rows_count = records_of 2 entries;
  place = place;
}

-- the same row in another place of a list
abbrev pub with_place : ManifestInfo → ℕ → ManifestInfo
with_place info place = record info { place = place }

abbrev pub IsInfoOf : List ℕ → ℕ → ℕ → List EntryData → List ℕ → ℕ → ManifestInfo → Type 0
IsInfoOf front version number entries bytes place info = (least : ℤ) × IsLeast version (live_sequences version entries) least × (info ≡ info_of front version number entries least (length bytes) place)

-- The manifests of a list in their order with their rows there, of which the first has that place. The new ones have these bytes, and numbers from
-- that one on.
abbrev pub AreListed : List ℕ → ℕ → ℕ → ℕ → List NextManifest → List (List ℕ) → List LiveManifest → Type 0
AreListed front version place number [] [] [] = Unit {0}
AreListed front version place number (stays m ∷ next) texts (listed ∷ behind) = (listed ≡ record m { info = with_place m.info place }) × AreListed front version (place + 1) number next texts behind
AreListed front version place number (new entries rows ∷ next) (bytes ∷ texts) (listed ∷ behind) = (listed.rows ≡ rows) × IsInfoOf front version number entries bytes place listed.info × AreListed front version (place + 1) (number + 1) next texts behind
AreListed front version place number _ _ _ = ⊥
