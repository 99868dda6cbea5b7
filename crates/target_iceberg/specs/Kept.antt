-- What is kept of an Iceberg target, and when it is what the files hold.
use Rattle.std.specs.Prelude.{◌≡◌, ◌⊎◌, ◌<◌, ℕ, ℤ, pos, negsuc, List, map, Contains, Some}
use Rattle.std.specs.Fmt.{decimal}
use Rattle.lake_store.specs.Disk.{Files}
use Rattle.file_links.specs.Rows.{Entry, OwnedRows, Owns, rows_of}
use Rattle.file_links.specs.declared.slots.Held.{Held}
use Rattle.iceberg_manifest.specs.Lists.{AreEach}
use Rattle.iceberg_live.specs.declared.live.LiveRow.{LiveRow}
use Rattle.iceberg_metadata.specs.Writing.{SameMetadata}
use Rattle.iceberg_metadata.specs.declared.metadata.Metadata.{Metadata}
use Rattle.iceberg_table.specs.Files.{SaysMetadata}
use Rattle.iceberg_table.specs.Folder.{HasVersion, IsNewest}
use Rattle.iceberg_table.specs.declared.manifest.Manifest.{Manifest}
use Rattle.iceberg_version.specs.KeptEnd.{view_of}
use Rattle.iceberg_version.specs.Writing.{no_version}
use Rattle.iceberg_version.specs.declared.kept.IcebergKept.{IcebergKept}
use Rattle.iceberg_version.specs.declared.kept.KeptManifest.{KeptManifest}
use Rattle.iceberg_commit.specs.NextVersion.{OwnEachRow}
use Rattle.target_core.specs.declared.mark.Mark.{Mark}
use Rattle.target_iceberg.specs.Reading.{HasMark, IsAbsent, Reads, SaysCurrent}

-- ---- the newest version

-- There is no version, or this is the newest.
abbrev pub IsCounted : ℕ → Files → Type 0
IsCounted version files = ((version ≡ 0) × ((v : ℕ) → ¬ HasVersion files v)) ⊎ ((0 < version) × IsNewest (HasVersion files) version)

-- ---- its manifests

-- the version that added a row, where a snapshot of this number did: no version has a number below 0
abbrev pub born_of : ℤ → ℕ
born_of (pos n) = n
born_of (negsuc n) = 0

abbrev pub held_of : LiveRow → Held
held_of live = record { row = live.row; born = born_of live.snapshot }

-- This is kept of a manifest: its row in the list, and an owner of its live rows, in their order.
pub record IsKeptOf (links : OwnedRows) (manifest : Manifest) (kept : KeptManifest) : Type 0 where
  pub info : kept.info ≡ manifest.file.info
  pub rows : List Entry
  pub owned : rows_of links kept.owner ≡ Some rows
  pub same : map (λ e. e.held) rows ≡ map held_of manifest.rows

-- ---- all that is kept

-- The newest version says what is kept of it: its metadata with the kept mark, and the manifests of its current list with their live rows.
pub record HoldsEnd (files : Files) (kept : IcebergKept) : Type 0 where
  pub metadata : Metadata
  pub says : SaysMetadata files kept.version metadata
  pub same : SameMetadata kept.metadata metadata
  pub mark : Mark
  pub marked : kept.mark ≡ Some mark
  pub has : HasMark metadata mark
  pub at : mark.at ≡ decimal kept.version
  pub current : SaysCurrent files metadata
  pub manifests : AreEach (IsKeptOf kept.links) current.manifests kept.manifests
  pub own : OwnEachRow kept.links kept.manifests

-- Nothing is published, and a first commit makes a table of this id at this location.
pub record IsFirst (files : Files) (id location : List ℕ) (kept : IcebergKept) : Type 0 where
  pub none : IsAbsent files
  pub version : kept.version ≡ 0
  pub metadata : kept.metadata ≡ no_version id location
  pub manifests : (m : KeptManifest) → ¬ Contains kept.manifests m
  pub links : (owner : ℕ) (e : Entry) → ¬ Owns kept.links owner e

-- What is kept is what the files hold. The id and the location are those that a first commit gives the table.
pub record StandsFor (id location : List ℕ) (kept : IcebergKept) (files : Files) : Type 0 where
  pub reads : Reads files (view_of kept)
  pub end : IsFirst files id location kept ⊎ HoldsEnd files kept
