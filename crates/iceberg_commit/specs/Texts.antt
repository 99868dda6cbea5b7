-- The texts of a new version's manifests and their rows in the list, as they are made one by one.
use Rattle.std.specs.List.{All}
use Rattle.std.specs.Prelude.{◌≡◌, ◌≤◌, ◌<◌, ◌^◌, ◌++◌, ◌∷◌, [], ℕ, ℤ, pos, List, Contains, IsSome, Ok, Option, length, map}
use Rattle.file_links.specs.Rows.{rows_of as owned_rows}
use Rattle.file_links.specs.declared.slots.Held.{Held}
use Rattle.lake_basics.specs.declared.limits.TheConstants.{MAX_AVRO_VALUES, MAX_FILE_BYTES, MAX_LIVE_FILES}
use Rattle.table_history.specs.declared.limit.LimitKind.TheVariants.{File}
use Rattle.iceberg_manifest.specs.Containers.{StandsFor}
use Rattle.iceberg_manifest.specs.Entry.{EntryData}
use Rattle.iceberg_manifest.specs.Lists.{AreEach}
use Rattle.iceberg_manifest.specs.ListWriting.{info_tree, list_meta, marker}
use Rattle.iceberg_manifest.specs.WrittenTypes.{list_type}
use Rattle.avro_container.specs.Writing.{IsWritten as IsContainerWritten}
use Rattle.iceberg_metadata.specs.Judging.{metadata_of as read_metadata}
use Rattle.iceberg_metadata.specs.Writing.{SameMetadata, metadata_text}
use Rattle.iceberg_metadata.specs.declared.metadata.Metadata.{Metadata}
use Rattle.iceberg_manifest.specs.ManifestWriting.{IsWritableManifest}
use Rattle.iceberg_manifest.specs.Scans.{entries_of, infos_of}
use Rattle.iceberg_manifest.specs.declared.info.ManifestInfo.{ManifestInfo}
use Rattle.target_core.specs.declared.target.TargetError.{TargetError}
use Rattle.target_core.specs.declared.target.TargetError.TheVariants.{Limit, Memory}
use Rattle.iceberg_version.specs.Carrying.{IsNextOf, parts_at}
use Rattle.iceberg_version.specs.KeptEnd.{held_rows, live_manifest}
use Rattle.iceberg_version.specs.Manifests.{AreListed, IsInfoOf, LiveManifest, NextManifest, new, new_entries, stays, with_place}
use Rattle.iceberg_version.specs.Writing.{IsLong, IsManifestText}
use Rattle.iceberg_version.specs.declared.before.Before.{Before}
use Rattle.iceberg_version.specs.declared.carrying.Next.{Next}
use Rattle.iceberg_version.specs.declared.kept.KeptManifest.{KeptManifest}
use Rattle.iceberg_version.specs.declared.layout.Layout.{Layout}
use Rattle.iceberg_commit.specs.declared.new_list.NewList.{NewList}

-- A file can be read whole that has these bytes.
abbrev pub IsShort : List ℕ → Type 0
IsShort bytes = length bytes ≤ MAX_FILE_BYTES

-- The texts of new manifests, of their list and of the metadata are all so.
pub record AreShort (manifests : List (List ℕ)) (list metadata : List ℕ) : Type 0 where
  pub manifests_are : All IsShort manifests
  pub list_is : IsShort list
  pub metadata_is : IsShort metadata

-- A text of this kind is too long, or memory runs out.
abbrev pub IsTextRefusal : (List ℕ → Type 0) → TargetError → Type 0
IsTextRefusal IsText Memory = Unit {0}
IsTextRefusal IsText (Limit which number) = (which ≡ File) × (number ≡ MAX_FILE_BYTES) × ((bytes : List ℕ) × IsText bytes × IsLong bytes)
IsTextRefusal IsText _ = ⊥

-- The bytes are those of the list of these rows, in the snapshot of this version behind that parent, and reading gives these back.
pub record IsListOf (infos : List ManifestInfo) (version : ℕ) (parent : Option ℤ) (bytes : List ℕ) : Type 0 where
  pub written : IsContainerWritten MAX_AVRO_VALUES bytes (list_meta (pos version) parent (pos version)) list_type marker (map info_tree infos)
  pub reads_back : StandsFor MAX_AVRO_VALUES infos_of bytes infos

-- The bytes are those of this metadata, and reading gives it back.
pub record IsMetadataIn (m : Metadata) (bytes : List ℕ) : Type 0 where
  pub written : bytes ≡ metadata_text m
  pub again : Metadata
  pub reads_back : read_metadata bytes ≡ Ok again
  pub same : SameMetadata m again

-- ---- one manifest

-- The bytes are those of a manifest of these entries, and reading gives these back.
pub record IsTextIn (layout : Layout) (entries : List EntryData) (bytes : List ℕ) : Type 0 where
  pub written : IsManifestText layout.schema.now layout.partition.now layout.fields.now layout.columns.items entries bytes
  pub reads_back : StandsFor MAX_AVRO_VALUES (entries_of layout.columns.items) bytes entries

-- A manifest can be written of these entries, and its list can count them.
pub record IsWritableIn (layout : Layout) (entries : List EntryData) : Type 0 where
  pub manifest : IsWritableManifest MAX_AVRO_VALUES layout.columns.items layout.partition.now entries
  pub few : length entries ≤ MAX_LIVE_FILES

-- The manifest of the new list is made of this.
abbrev pub IsMadeOf : Layout → Before → Next → NextManifest → Type 0
IsMadeOf layout before next m = IsNextOf layout.front layout.version before.removed.now (map (live_manifest before.links.now) before.manifests.now) (parts_at before.parts.now) next m

-- The owners of the manifests before are there, and a version added each of their rows.
pub record HasOwners (before : Before) : Type 0 where
  pub there : (m : KeptManifest) → Contains before.manifests.now m → IsSome (owned_rows before.links.now m.owner)
  pub born : (m : KeptManifest) (row : Held) → Contains before.manifests.now m → Contains (held_rows before.links.now m.owner) row → row.born < 2 ^ 63

-- It is made of some manifest or rows, and where it is new, it can be written.
pub record CanBeMade (layout : Layout) (before : Before) (next : Next) : Type 0 where
  pub made : NextManifest
  pub of : IsMadeOf layout before next made
  pub writable : (entries : List EntryData) (rows : List Held) → IsMadeOf layout before next (new entries rows) → IsWritableIn layout entries

-- the bytes are those of the new manifest that is made of this
abbrev pub IsTextOfNext : Layout → Before → Next → List ℕ → Type 0
IsTextOfNext layout before next bytes = (entries : List EntryData) × (rows : List Held) × IsMadeOf layout before next (new entries rows) × IsTextIn layout entries bytes

-- ---- one more

-- A new manifest of these entries comes behind the others.
pub record AddsNew (layout : Layout) (entries : List EntryData) (before after : NewList) : Type 0 where
  pub bytes : List ℕ
  pub info : ManifestInfo
  pub text : IsTextIn layout entries bytes
  pub short : IsShort bytes
  pub info_is : IsInfoOf layout.front layout.version (length before.manifests.items) entries bytes (length before.infos.items) info
  pub manifests : after.manifests.items ≡ before.manifests.items ++ bytes ∷ []
  pub infos : after.infos.items ≡ before.infos.items ++ info ∷ []

-- A manifest that stays comes behind the others.
pub record AddsKept (info : ManifestInfo) (before after : NewList) : Type 0 where
  pub manifests : after.manifests.items ≡ before.manifests.items
  pub infos : after.infos.items ≡ before.infos.items ++ with_place info (length before.infos.items) ∷ []

abbrev pub Adds : Layout → NextManifest → NewList → NewList → Type 0
Adds layout (stays m) before after = AddsKept m.info before after
Adds layout (new entries rows) before after = AddsNew layout entries before after

-- ---- all of them

-- The new ones of these manifests have these texts, each short enough to be read, and the list has these rows of all.
pub record AreTexts (layout : Layout) (next : List NextManifest) (list : NewList) : Type 0 where
  pub listed : List LiveManifest
  pub infos : list.infos.items ≡ map (λ m. m.info) listed
  pub are : AreListed layout.front layout.version 0 0 next list.manifests.items listed
  pub each : AreEach (IsTextIn layout) (new_entries next) list.manifests.items
  pub short : All IsShort list.manifests.items

-- the bytes are those of the new manifest that is made of one of these
abbrev pub IsTextAmong : Layout → Before → List Next → List ℕ → Type 0
IsTextAmong layout before next bytes = (one : Next) × Contains next one × IsTextOfNext layout before one bytes
