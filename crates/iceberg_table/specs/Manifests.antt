-- What the manifests of a list say (Iceberg specification, "Manifests").
use Rattle.std.specs.Prelude.{◌≡◌, ◌≢◌, ◌⊎◌, ◌<◌, ◌≤◌, ◌+◌, ℕ, pos, List, [], ◌∷◌, ◌++◌, None, length, take}
use Rattle.std.specs.FinMap as map
use Rattle.lake_basics.specs.declared.limits.TheConstants.{MAX_ACTIONS, MAX_FILE_BYTES}
use Rattle.lake_basics.specs.declared.outcome.ReadError.TheVariants as read
use Rattle.lake_store.specs.Disk.{Files}
use Rattle.avro_value.specs.declared.api.TheConstants.{MAX_VALUES}
use Rattle.table_history.specs.Rows.{HasDistinctPaths}
use Rattle.table_history.specs.declared.limit.LimitKind.TheVariants.{Actions}
use Rattle.iceberg_manifest.specs.Containers.{StandsFor}
use Rattle.iceberg_manifest.specs.Entry.{EntryData}
use Rattle.iceberg_live.specs.LiveRows.{AreLiveRows, IsFirstFault}
use Rattle.iceberg_manifest.specs.Scans.{entries_of}
use Rattle.iceberg_manifest.specs.declared.error.ManifestError.{ManifestError}
use Rattle.iceberg_live.specs.declared.live.LiveRow.{LiveRow}
use Rattle.iceberg_manifest.specs.declared.partition.PartColumn.{PartColumn}
use Rattle.iceberg_manifest_feeding.specs.Order.{IsFaultWithin, IsRefusedInOrder}
use Rattle.iceberg_table.specs.Errors.{IsTold, manifest_fault}
use Rattle.iceberg_table.specs.Files.{HoldsFile}
use Rattle.iceberg_table.specs.Once.{counted_before, entries_once}
use Rattle.iceberg_table.specs.Order.{Stops, StopsAt}
use Rattle.iceberg_table.specs.Tables.{AreShared, rows_in, rows_of}
use Rattle.iceberg_table.specs.declared.error.Fault.{Fault}
use Rattle.iceberg_table.specs.declared.error.Fault.TheVariants as fault
use Rattle.iceberg_table.specs.declared.error.IcebergError.{IcebergError}
use Rattle.iceberg_table.specs.declared.error.IcebergError.TheVariants as error
use Rattle.iceberg_table.specs.declared.list.ManifestFile.{ManifestFile}
use Rattle.iceberg_table.specs.declared.manifest.Content.{Content}
use Rattle.iceberg_table.specs.declared.manifest.Manifest.{Manifest}

-- The bytes are a manifest of these entries.
abbrev pub AreEntries : List PartColumn → List ℕ → List EntryData → Type 0
AreEntries columns bytes entries = StandsFor MAX_VALUES (entries_of columns) bytes entries

-- The manifest at this path is there and has these entries.
pub record SaysManifest (files : Files) (columns : List PartColumn) (path : List ℕ) (entries : List EntryData) : Type 0 where
  pub bytes : List ℕ
  pub holds : HoldsFile files path bytes
  pub are : AreEntries columns bytes entries

-- what the bytes of a manifest give: how many entries there are, and the rows of those that are live
pub record IsContent (location : List ℕ) (columns : List PartColumn) (file : ManifestFile) (bytes : List ℕ) (c : Content) : Type 0 where
  pub entries : List EntryData
  pub are : AreEntries columns bytes entries
  pub only : (others : List EntryData) → AreEntries columns bytes others → others ≡ entries
  pub count : c.entries ≡ length entries
  pub rows : AreLiveRows location file.info entries c.rows

-- The manifest has so many entries, and these are the rows of those that are live.
pub record HasEntries (files : Files) (location : List ℕ) (columns : List PartColumn) (r : Manifest) : Type 0 where
  pub entries : List EntryData
  pub says : SaysManifest files columns r.file.path entries
  pub only : (others : List EntryData) → SaysManifest files columns r.file.path others → others ≡ entries
  pub count : r.entries ≡ length entries
  pub rows : AreLiveRows location r.file.info entries r.rows

-- This is what is read of the manifest that a list names. No row is taken from a manifest of deletes.
abbrev pub IsManifestOf : Files → List ℕ → List PartColumn → ManifestFile → Manifest → Type 0
IsManifestOf files location columns file r =
    (r.file ≡ file) × (((file.info.content ≡ pos 0) × HasEntries files location columns r) ⊎ ((file.info.content ≢ pos 0) × ((all : List LiveRow) × HasEntries files location columns (record { file = r.file; entries = r.entries; rows = all })) × (r.rows ≡ [])))

-- The entries and those before them are too many, or the first of them that is live and at fault shows this.
abbrev pub IsEntriesFault : List ℕ → ManifestFile → ℕ → List EntryData → Fault → Type 0
IsEntriesFault location file before entries f =
    ((MAX_ACTIONS < before + length entries) × (f ≡ fault.Limit Actions))
    ⊎ ((before + length entries ≤ MAX_ACTIONS) × (e : ManifestError) × IsFirstFault location file.info entries e × (manifest_fault e ≡ read.Fault f))

-- The bytes are no manifest, first for this in the order of reading, or its entries show this, behind so many of the manifests before it.
abbrev pub IsManifestFault : List ℕ → List PartColumn → ℕ → ManifestFile → List ℕ → Fault → Type 0
IsManifestFault location columns before file bytes =
    Stops (AreEntries columns bytes) (λ f. (e : ManifestError) × IsRefusedInOrder columns bytes e × (manifest_fault e ≡ read.Fault f)) (IsEntriesFault location file before)

-- These bytes of a manifest, whatever follows them, show this first.
abbrev pub IsShownWithin : List PartColumn → List ℕ → Fault → Type 0
IsShownWithin columns bytes f = (e : ManifestError) × IsFaultWithin columns bytes e × (manifest_fault e ≡ read.Fault f)

-- The manifest at this path has more bytes than are read, and these have no fault within.
abbrev pub IsLargeManifest : Files → List PartColumn → List ℕ → Type 0
IsLargeManifest files columns path =
    (bytes : List ℕ) × HoldsFile files path bytes × (MAX_FILE_BYTES < length bytes) × ((e : ManifestError) → ¬ IsFaultWithin columns (take MAX_FILE_BYTES bytes) e)

-- The bytes of the manifest show this. Where they are more than are read, those that are read show it.
abbrev pub IsFaultyManifest : Files → List ℕ → List PartColumn → ℕ → ManifestFile → Fault → Type 0
IsFaultyManifest files location columns before file f =
    (bytes : List ℕ) × HoldsFile files file.path bytes × IsManifestFault location columns before file bytes f × (MAX_FILE_BYTES < length bytes → IsShownWithin columns (take MAX_FILE_BYTES bytes) f)

-- The manifest is refused so, behind so many entries: it isn't there, it is too large, or it shows this fault.
abbrev pub IsManifestRefusal : Files → List ℕ → List PartColumn → ℕ → ManifestFile → IcebergError → Type 0
IsManifestRefusal files location columns before file error.Memory = ⊥
IsManifestRefusal files location columns before file error.StoreFault = ⊥
IsManifestRefusal files location columns before file error.ManyNames = ⊥
IsManifestRefusal files location columns before file (error.Missing p) = (p ≡ file.path) × (map.get files file.path ≡ None)
IsManifestRefusal files location columns before file (error.Large p) = (p ≡ file.path) × IsLargeManifest files columns file.path
IsManifestRefusal files location columns before file (error.Refused p f) = (p ≡ file.path) × IsFaultyManifest files location columns before file f

-- The manifest is read, and a live entry of it has the path of an earlier one, for which the list at this path is named.
abbrev pub SharesFile : Files → List ℕ → List PartColumn → List ℕ → List Manifest → ManifestFile → IcebergError → Type 0
SharesFile files location columns path found file e =
    (r : Manifest) × IsManifestOf files location columns file r × (entries_once (found ++ r ∷ []) ≤ MAX_ACTIONS) × IsTold path (AreShared (rows_of found ++ rows_in r.rows)) e

-- The first of the manifests that is refused, behind those before it, whose live rows have distinct paths, is refused so by itself, or else for a file
-- that it shares.
abbrev pub AreManifestsRefused : Files → List ℕ → List PartColumn → List ℕ → List ManifestFile → IcebergError → Type 0
AreManifestsRefused files location columns path list =
    StopsAt (IsManifestOf files location columns)
    (λ found file e. (entries_once found ≤ MAX_ACTIONS) × HasDistinctPaths (rows_of found) × (IsManifestRefusal files location columns (counted_before file.path found) file e ⊎ SharesFile files location columns path found file e)) list
