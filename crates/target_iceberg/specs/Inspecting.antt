-- Which files of an Iceberg target are foreign, with the first path at fault, and which numbers inspecting passes.
use Rattle.std.specs.Prelude.{◌≡◌, ◌≢◌, ◌⊎◌, ◌<◌, ℕ, List, length, Option, None, Some, IsSome}
use Rattle.std.specs.Cmp.Lexicographic.{slice_cmp}
use Rattle.std.specs.FinMap as map
use Rattle.std.specs.Ordering.{nat_cmp}
use Rattle.std.specs.declared.cmp.Ordering.TheVariants.{Less}
use Rattle.lake_basics.specs.declared.limits.TheConstants.{MAX_FILE_BYTES, MAX_NAMES}
use Rattle.lake_store.specs.Disk.{Files, IsName, names_in}
use Rattle.table_history.specs.Words.{limit_number}
use Rattle.table_history.specs.declared.kind.Kind.{Kind}
use Rattle.table_history.specs.declared.kind.Kind.TheVariants.{Iceberg}
use Rattle.table_history.specs.declared.limit.LimitKind.{LimitKind}
use Rattle.table_history.specs.declared.limit.LimitKind.TheVariants.{File, Names}
use Rattle.iceberg_metadata.specs.declared.metadata.Metadata.{Metadata}
use Rattle.iceberg_metadata.specs.declared.metadata.Snapshot.{Snapshot}
use Rattle.iceberg_table.specs.Errors.{IsFileFault}
use Rattle.iceberg_table.specs.Files.{SaysMetadata}
use Rattle.iceberg_table.specs.Folder.{HasVersion, IsNewest, metadata_folder, path_of, version_path}
use Rattle.iceberg_table.specs.Refusals.{IsMetadataFault, IsSnapshotRefusal}
use Rattle.iceberg_table.specs.declared.error.Fault.TheVariants as fault
use Rattle.iceberg_table.specs.declared.error.IcebergError.{IcebergError}
use Rattle.iceberg_table.specs.declared.error.IcebergError.TheVariants as error
use Rattle.target_iceberg.specs.Leftovers.{IsLeftoverName}
use Rattle.target_core.specs.Views.{Standing}
use Rattle.target_iceberg.specs.Form.{HasOwnForm}
use Rattle.target_iceberg.specs.Reading.{IsCurrent, IsMarked}

-- ---- without a version

-- a name in the folder that no commit writes before it publishes
pub record IsStray (files : Files) (name : List ℕ) : Type 0 where
  pub proper : IsName name
  pub there : IsSome (map.get files (path_of name))
  pub other : ¬ IsLeftoverName name

-- There is no version, and this is the path of the first such name in byte order.
pub record IsFirstStray (files : Files) (path : List ℕ) : Type 0 where
  pub versions : (version : ℕ) → ¬ HasVersion files version
  pub name : List ℕ
  pub is : path ≡ path_of name
  pub stray : IsStray files name
  pub first : (other : List ℕ) → IsStray files other → slice_cmp nat_cmp other name ≢ Less

-- ---- what is told of a refusal below

-- the path of a file that is missing, at fault or shows a feature that isn't supported
abbrev pub faulty_path : IcebergError → Option (List ℕ)
faulty_path error.Memory = None
faulty_path error.StoreFault = None
faulty_path error.ManyNames = None
faulty_path (error.Missing path) = Some path
faulty_path (error.Large path) = None
faulty_path (error.Refused path fault.Malformed) = Some path
faulty_path (error.Refused path (fault.Unsupported feature)) = Some path
faulty_path (error.Refused path (fault.Limit which)) = None

-- The error tells that this number is passed.
abbrev pub TellsNumber : IcebergError → LimitKind → ℕ → Type 0
TellsNumber error.Memory which number = ⊥
TellsNumber error.StoreFault which number = ⊥
TellsNumber error.ManyNames which number = (which ≡ Names) × (number ≡ MAX_NAMES)
TellsNumber (error.Missing path) which number = ⊥
TellsNumber (error.Large path) which number = (which ≡ File) × (number ≡ MAX_FILE_BYTES)
TellsNumber (error.Refused path fault.Malformed) which number = ⊥
TellsNumber (error.Refused path (fault.Unsupported feature)) which number = ⊥
TellsNumber (error.Refused path (fault.Limit limit)) which number = (which ≡ limit) × (number ≡ limit_number Iceberg limit)

-- ---- the newest version

-- The version is the newest, and reading it is refused so.
abbrev pub IsRefusedVersion : Files → ℕ → IcebergError → Type 0
IsRefusedVersion files version e = IsNewest (HasVersion files) version × IsFileFault files (version_path version) IsMetadataFault e

-- The version is the newest, and is read so.
abbrev pub IsNewestRead : Files → ℕ → Metadata → Type 0
IsNewestRead files version m = IsNewest (HasVersion files) version × SaysMetadata files version m

-- Its mark names this version, from 1 on, and a source of this format.
abbrev pub IsOfThis : Kind → ℕ → Metadata → Type 0
IsOfThis source version m = (0 < version) × ((standing : Standing) × IsMarked m version standing × (standing.origin.source ≡ source))

-- Commits can go on from its form, and this is its current snapshot.
abbrev pub HasForm : ℕ → Metadata → Snapshot → Type 0
HasForm version m s = IsCurrent m s × HasOwnForm version m

-- The newest version is read, its mark and its form are as they should be, and reading its current snapshot is refused so.
pub record IsRefusedSnapshot (source : Kind) (files : Files) (e : IcebergError) : Type 0 where
  pub version : ℕ
  pub metadata : Metadata
  pub newest : IsNewestRead files version metadata
  pub mark : IsOfThis source version metadata
  pub snapshot : Snapshot
  pub form : HasForm version metadata snapshot
  pub refused : IsSnapshotRefusal files metadata version snapshot e

-- The newest version is read, and this is its path. It has no mark that names it and a source of this format, or it has no current snapshot, or not the
-- form that commits go on from.
pub record IsNotOurs (source : Kind) (files : Files) (path : List ℕ) : Type 0 where
  pub version : ℕ
  pub metadata : Metadata
  pub newest : IsNewestRead files version metadata
  pub is : path ≡ version_path version
  pub cause : (s : Snapshot) → ¬ (IsOfThis source version metadata × HasForm version metadata s)

-- ---- foreign

-- This is the first path at fault: a stray name, the newest version, or a file of its current snapshot.
abbrev pub IsForeign : Kind → Files → List ℕ → Type 0
IsForeign source files path =
    IsFirstStray files path
    ⊎ (((version : ℕ) × (e : IcebergError) × IsRefusedVersion files version e × (faulty_path e ≡ Some path))
    ⊎ (IsNotOurs source files path
    ⊎ ((e : IcebergError) × IsRefusedSnapshot source files e × (faulty_path e ≡ Some path))))

-- ---- numbers that are passed

-- The folder has too many names, or the newest version or its current snapshot passes the number.
abbrev pub IsCrowded : Kind → Files → LimitKind → ℕ → Type 0
IsCrowded source files which number =
    ((which ≡ Names) × (number ≡ MAX_NAMES) × (MAX_NAMES < length (names_in files metadata_folder)))
    ⊎ (((version : ℕ) × (e : IcebergError) × IsRefusedVersion files version e × TellsNumber e which number)
    ⊎ ((e : IcebergError) × IsRefusedSnapshot source files e × TellsNumber e which number))
