-- What is made for a commit: the files of the new version, and what is kept behind it.
use Rattle.std.specs.Prelude.{◌≡◌, ◌+◌, ◌≤◌, ℕ, List, Contains, Ok, Option, Some, map, nat_eq, option_map, unwrap_or}
use Rattle.std.specs.List.{IsDistinct}
use Rattle.serde_json.specs.Written.{compact_text}
use Rattle.lake_basics.specs.declared.limits.TheConstants.{MAX_ICEBERG_VERSION}
use Rattle.schema_map.specs.Image.{wide_columns}
use Rattle.table_history.specs.TypeTree.{ColumnTrees}
use Rattle.table_history.specs.declared.table.Change.{Change}
use Rattle.table_history.specs.declared.table.Commit.{Commit}
use Rattle.file_links.specs.Rows.{Entry, OwnedRows, Owns}
use Rattle.iceberg_manifest.specs.Lists.{AreEach}
use Rattle.iceberg_manifest.specs.declared.info.ManifestInfo.{ManifestInfo}
use Rattle.iceberg_metadata.specs.Judging.{metadata_of}
use Rattle.iceberg_metadata.specs.Paths.{current_schema}
use Rattle.iceberg_metadata.specs.Writing.{SameMetadata, metadata_text}
use Rattle.iceberg_metadata.specs.declared.metadata.Metadata.{Metadata}
use Rattle.iceberg_table.specs.Lists.{AreRows}
use Rattle.iceberg_table.specs.Manifests.{AreEntries}
use Rattle.target_core.specs.Mark.{IsMarkText, mark_data}
use Rattle.target_core.specs.Views.{IsAdvanced, Origin}
use Rattle.target_core.specs.declared.mark.Mark.{Mark}
use Rattle.iceberg_version.specs.KeptEnd.{end_of, manifests_of, view_of}
use Rattle.iceberg_version.specs.Manifests.{AreListed, AreNextManifests, LiveManifest, NextManifest, new_entries}
use Rattle.iceberg_version.specs.Writing.{IsWritten, NewVersion, TableEnd, mark_of, next_version}
use Rattle.iceberg_version.specs.declared.kept.IcebergKept.{IcebergKept}
use Rattle.iceberg_version.specs.declared.kept.KeptManifest.{KeptManifest}
use Rattle.iceberg_commit.specs.Behind.{IsTableBehind}
use Rattle.iceberg_commit.specs.Texts.{AreShort}

-- how an Iceberg table holds a schema
abbrev pub image : ColumnTrees → Option ColumnTrees
image schema = Some (wide_columns schema)

-- Each kept manifest has an owner of its own, and no other owner has rows.
pub record OwnEachRow (links : OwnedRows) (manifests : List KeptManifest) : Type 0 where
  pub distinct : IsDistinct nat_eq (map (λ m. m.owner) manifests)
  pub only : (owner : ℕ) (e : Entry) → Owns links owner e → (m : KeptManifest) × Contains manifests m × (m.owner ≡ owner)

-- ---- what is written

-- a new version: its number, and the bytes of its new manifests, of its list and of its metadata
pub record VersionFiles : Type 0 where
  pub version : ℕ
  pub manifests : List (List ℕ)
  pub list : List ℕ
  pub metadata : List ℕ

-- the files of what is written for a commit
abbrev pub version_files : TableEnd → NewVersion → VersionFiles
version_files end written = record { version = next_version end; manifests = written.texts; list = written.list; metadata = metadata_text written.metadata }

-- Reading the texts that are written for a commit gives back the metadata with its mark, the rows of the list, and the entries of each new manifest.
pub record IsReadBack (end : TableEnd) (origin : Origin) (now : ℕ) (commit : Commit) (written : NewVersion) (is : IsWritten end origin now commit written) : Type 0 where
  pub metadata : (again : Metadata) × (metadata_of (metadata_text written.metadata) ≡ Ok again) × SameMetadata written.metadata again
  pub mark : IsMarkText (compact_text (mark_data (mark_of (next_version end) origin commit.position))) (mark_of (next_version end) origin commit.position)
  pub list : AreRows written.list (map (λ m. m.info) written.manifests)
  pub manifests : AreEach (λ entries bytes. AreEntries is.columns bytes entries) (new_entries is.manifests.next) written.texts

-- ---- what is kept

-- The metadata's current schema is that of the table behind the change.
abbrev pub HasCurrent : IcebergKept → Change → Type 0
HasCurrent kept change = option_map (λ s. s.1) (current_schema kept.metadata) ≡ Some (wide_columns (unwrap_or change.schema kept.table.schema))

-- A list of these rows has these manifests, which the change makes of those that are kept, for the version that is kept already.
pub record AreListedBehind (kept : IcebergKept) (change : Change) (infos : List ManifestInfo) (listed : List LiveManifest) : Type 0 where
  pub front : List ℕ
  pub next : List NextManifest
  pub texts : List (List ℕ)
  pub next_are : AreNextManifests front kept.version (manifests_of kept) change next
  pub are : AreListed front kept.version 0 0 next texts listed
  pub infos_are : infos ≡ map (λ m. m.info) listed

-- `next` is kept behind the change, of a version and metadata that are kept already: the table, this mark, and these manifests.
pub record IsKeptBehind (kept : IcebergKept) (change : Change) (mark : Mark) (listed : List LiveManifest) (next : IcebergKept) : Type 0 where
  pub table : IsTableBehind kept.table change next.table
  pub marked : next.mark ≡ Some mark
  pub version : next.version ≡ kept.version
  pub metadata : next.metadata ≡ kept.metadata
  pub manifests : manifests_of next ≡ listed
  pub own : OwnEachRow kept.links kept.manifests → OwnEachRow next.links next.manifests

-- ---- both

-- These are the files of the version that the commit is written as, and `next` is what is kept behind it: its number, its metadata, its mark and the
-- table, and of each manifest of its list the live rows. Each manifest has an owner of its own, where each had one before. Reading gives back what is
-- written, each text is short enough to be read, and the version doesn't pass the greatest.
pub record IsNextVersion (kept : IcebergKept) (origin : Origin) (now : ℕ) (commit : Commit) (new : VersionFiles) (next : IcebergKept) : Type 0 where
  pub written : NewVersion
  pub is : IsWritten (end_of kept) origin now commit written
  pub back : IsReadBack (end_of kept) origin now commit written is
  pub within : kept.version + 1 ≤ MAX_ICEBERG_VERSION
  pub short : AreShort new.manifests new.list new.metadata
  pub files : new ≡ version_files (end_of kept) written
  pub advanced : IsAdvanced image origin (view_of kept) commit (view_of next)
  pub version : next.version ≡ kept.version + 1
  pub metadata : next.metadata ≡ written.metadata
  pub mark : next.mark ≡ Some (mark_of (kept.version + 1) origin commit.position)
  pub manifests : manifests_of next ≡ written.manifests
  pub own : OwnEachRow kept.links kept.manifests → OwnEachRow next.links next.manifests
