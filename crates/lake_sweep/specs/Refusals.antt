-- Why a target isn't swept.
use Rattle.std.specs.Prelude.{◌≡◌, ◌⊎◌, ◌<◌, ◌≤◌, ℕ, List, length}
use Rattle.lake_basics.specs.declared.limits.TheConstants.{MAX_ACTIONS, MAX_COMMITS, MAX_NAMES}
use Rattle.lake_store.specs.Disk.{Files, names_in}
use Rattle.table_history.specs.declared.kind.Kind.{Kind}
use Rattle.table_history.specs.declared.kind.Kind.TheVariants.{Delta, Hudi, Iceberg}
use Rattle.table_history.specs.declared.limit.LimitKind.{LimitKind}
use Rattle.table_history.specs.declared.limit.LimitKind.TheVariants.{Actions, Commits, Names}
use Rattle.hudi_commit.specs.Names.{claims_folder}
use Rattle.target_core.specs.Folders.{folder_of}
use Rattle.target_core.specs.Meaning.{Meaning}
use Rattle.lake_sweep.specs.Plan.{IsKnown, first_source, second_source}
use Rattle.lake_sweep.specs.Versions.{AreVersionsRead, CountsReached, CountsVersions, IsFirstRefused}
use Rattle.lake_sweep.specs.declared.error.SweepError.{SweepError}
use Rattle.lake_sweep.specs.declared.error.SweepError.TheVariants as error

-- ---- what inspecting tells

-- The target is foreign to the sources of both other formats, and this is the first one's path.
abbrev pub IsForeignToBoth : (Kind → Files → List ℕ → Type 0) → Kind → Files → List ℕ → Type 0
IsForeignToBoth is_foreign kind files path = is_foreign (first_source kind) files path × ((other : List ℕ) × is_foreign (second_source kind) files other)

-- Inspecting it passes the number, for the first of them, or where it is foreign to that one, for the second.
abbrev pub IsCrowdedForOne : (Kind → Files → List ℕ → Type 0) → (Kind → Files → LimitKind → ℕ → Type 0) → Kind → Files → LimitKind → ℕ → Type 0
IsCrowdedForOne is_foreign is_crowded kind files which number =
    is_crowded (first_source kind) files which number
    ⊎ (((path : List ℕ) × is_foreign (first_source kind) files path) × is_crowded (second_source kind) files which number)

-- Inspecting it passes this number.
abbrev pub IsCrowdedFor : (LimitKind → ℕ → Type 0) → SweepError → Type 0
IsCrowdedFor is_crowded error.Memory = ⊥
IsCrowdedFor is_crowded error.StoreFault = ⊥
IsCrowdedFor is_crowded (error.Foreign path) = ⊥
IsCrowdedFor is_crowded (error.Limit which number) = is_crowded which number

-- It is foreign to both, or a number is passed before that is known.
abbrev pub IsUnknown : (Kind → Files → List ℕ → Type 0) → (Kind → Files → LimitKind → ℕ → Type 0) → Kind → Files → SweepError → Type 0
IsUnknown is_foreign is_crowded kind files error.Memory = ⊥
IsUnknown is_foreign is_crowded kind files error.StoreFault = ⊥
IsUnknown is_foreign is_crowded kind files (error.Foreign path) = IsForeignToBoth is_foreign kind files path
IsUnknown is_foreign is_crowded kind files (error.Limit which number) = IsCrowdedForOne is_foreign is_crowded kind files which number

-- ---- what reading for leftovers tells

-- Want of memory and a fault of the store have no cause in the files, and any other refusal has this one.
abbrev pub HasCause : (SweepError → Type 0) → SweepError → Type 0
HasCause Shows error.Memory = Unit {0}
HasCause Shows error.StoreFault = Unit {0}
HasCause Shows (error.Foreign path) = Shows (error.Foreign path)
HasCause Shows (error.Limit which number) = Shows (error.Limit which number)

-- the folder has more names than are listed
abbrev pub HasManyNames : Files → List ℕ → SweepError → Type 0
HasManyNames files folder e = (MAX_NAMES < length (names_in files folder)) × (e ≡ error.Limit Names MAX_NAMES)

abbrev pub HasFewNames : Files → List ℕ → Type 0
HasFewNames files folder = length (names_in files folder) ≤ MAX_NAMES

-- More versions are there than are read.
abbrev pub HasManyVersions : Files → SweepError → Type 0
HasManyVersions files e = (count : ℕ) × CountsVersions files count × (MAX_COMMITS < count) × (e ≡ error.Limit Commits MAX_COMMITS)

abbrev pub HasFewVersions : Files → Type 0
HasFewVersions files = (count : ℕ) × CountsVersions files count × (count ≤ MAX_COMMITS)

-- More lists and manifests are reached than are told apart.
abbrev pub ReachesMany : Files → SweepError → Type 0
ReachesMany files e = (count : ℕ) × CountsReached files count × (MAX_ACTIONS < count) × (e ≡ error.Limit Actions MAX_ACTIONS)

abbrev pub ReachesFew : Files → Type 0
ReachesFew files = (count : ℕ) × CountsReached files count × (count ≤ MAX_ACTIONS)

abbrev pub AreAllVersionsRead : Files → Type 0
AreAllVersionsRead files = AreVersionsRead files (λ version. Unit {0})

-- The versions are too many, or one of their files is refused so, or what they reach is too much.
abbrev pub IsReachRefused : Files → SweepError → Type 0
IsReachRefused files e =
    HasManyVersions files e
    ⊎ ((HasFewVersions files × IsFirstRefused files e)
    ⊎ (HasFewVersions files × AreAllVersionsRead files × ReachesMany files e))

-- Looking for leftovers is refused so. An Iceberg table's versions are counted, then read with their lists, and what they reach is counted last.
abbrev pub IsReadingRefused : Kind → Files → SweepError → Type 0
IsReadingRefused Delta files e = HasManyNames files (folder_of Delta) e
IsReadingRefused Iceberg files e = HasManyNames files (folder_of Iceberg) e ⊎ (HasFewNames files (folder_of Iceberg) × IsReachRefused files e)
IsReadingRefused Hudi files e = HasManyNames files claims_folder e

-- Nothing of that is so.
abbrev pub IsReadable : Kind → Files → Type 0
IsReadable Delta files = HasFewNames files (folder_of Delta)
IsReadable Iceberg files = HasFewNames files (folder_of Iceberg) × HasFewVersions files × AreAllVersionsRead files × ReachesFew files
IsReadable Hudi files = HasFewNames files claims_folder

-- ---- both

-- What inspecting tells goes before what reading for leftovers tells.
abbrev pub IsSweepRefused : (Kind → Files → List ℕ → Type 0) → (Kind → Files → LimitKind → ℕ → Type 0) → Meaning → Files → SweepError → Type 0
IsSweepRefused is_foreign is_crowded target files e =
    IsUnknown is_foreign is_crowded target.kind files e ⊎ (IsKnown target files × IsReadingRefused target.kind files e)
