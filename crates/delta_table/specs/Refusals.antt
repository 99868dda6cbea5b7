-- Why a log isn't read.
use Rattle.std.specs.Prelude.{◌≡◌, ◌⊎◌, ℕ, ◌<◌, ◌≤◌, ◌+◌, List, length, take, Option}
use Rattle.lake_basics.specs.declared.limits.TheConstants.{MAX_COMMITS, MAX_FILE_BYTES, MAX_NAMES}
use Rattle.lake_store.specs.Disk.{Files, names_in}
use Rattle.lake_store.specs.declared.store.StoreError.{StoreError}
use Rattle.lake_store.specs.declared.store.StoreError.TheVariants as store
use Rattle.table_history.specs.declared.table.Table.{Table}
use Rattle.delta_change.specs.Change.{IsChangeRefusal}
use Rattle.delta_log.specs.Readable.{IsFirstFault}
use Rattle.delta_log.specs.declared.commit.DeltaCommit.{DeltaCommit}
use Rattle.delta_log.specs.declared.error.DeltaError.{DeltaError}
use Rattle.delta_log.specs.declared.error.DeltaError.TheVariants as delta
use Rattle.delta_feeding.specs.Laws.{IsFaultWithin}
use Rattle.delta_table.specs.Log.{IsReadLog, SaysCommit}
use Rattle.delta_table.specs.Versions.{HasVersion, HoldsVersion, log_folder}
use Rattle.delta_table.specs.declared.error.LogError.{LogError}
use Rattle.delta_table.specs.declared.error.LogError.TheVariants as error

-- ---- what is told of a refusal below

-- of a folder that couldn't be listed
abbrev pub error_of_list : StoreError → LogError
error_of_list store.Memory = error.Memory
error_of_list store.Failed = error.StoreFault
error_of_list (store.TooLong n) = error.ManyNames
error_of_list store.Taken = error.Memory

-- of a version's file that couldn't be read
abbrev pub error_of_read : ℕ → StoreError → LogError
error_of_read version store.Memory = error.Memory
error_of_read version store.Failed = error.StoreFault
error_of_read version (store.TooLong n) = error.Large version
error_of_read version store.Taken = error.Memory

-- of a version's commit
abbrev pub error_at : ℕ → DeltaError → LogError
error_at version delta.Memory = error.Memory
error_at version (delta.Malformed n) = error.Refused version (delta.Malformed n)
error_at version (delta.DoublePath n) = error.Refused version (delta.DoublePath n)
error_at version (delta.Unsupported f n) = error.Refused version (delta.Unsupported f n)
error_at version (delta.Limit w) = error.Refused version (delta.Limit w)

-- ---- causes

-- The list of a log's versions is refused.
abbrev pub IsListRefusal : Files → LogError → Type 0
IsListRefusal files error.Memory = Unit {0}
IsListRefusal files error.StoreFault = Unit {0}
IsListRefusal files error.ManyNames = MAX_NAMES < length (names_in files log_folder)
IsListRefusal files _ = ⊥

-- The version's file has no more bytes than are read.
abbrev pub IsShort : Files → ℕ → Type 0
IsShort files version = (bytes : List ℕ) → HoldsVersion files version bytes → length bytes ≤ MAX_FILE_BYTES

-- The version's file has more bytes than are read, and of these no line that a newline ends is at fault.
abbrev pub IsLarge : Files → ℕ → Type 0
IsLarge files version = (bytes : List ℕ) × HoldsVersion files version bytes × (MAX_FILE_BYTES < length bytes) × ((e : DeltaError) → ¬ IsFaultWithin (take MAX_FILE_BYTES bytes) e)

-- A line of the version's commit is the first at fault, and has this fault. Where the file has more bytes than are read, a newline ends that line among these.
abbrev pub IsUnreadable : Files → ℕ → DeltaError → Type 0
IsUnreadable files version e = (bytes : List ℕ) × HoldsVersion files version bytes × IsFirstFault bytes e × (MAX_FILE_BYTES < length bytes → IsFaultWithin (take MAX_FILE_BYTES bytes) e)

-- The version's commit can be read, and can't be taken over the table before it, for this cause.
abbrev pub IsUnfit : Files → ℕ → Option Table → DeltaError → Type 0
IsUnfit files version base e = (c : DeltaCommit) × SaysCommit files version c × IsChangeRefusal c base e

-- The version is refused by itself.
abbrev pub IsVersionRefusal : Files → ℕ → LogError → Type 0
IsVersionRefusal files version error.Memory = Unit {0}
IsVersionRefusal files version error.StoreFault = Unit {0}
IsVersionRefusal files version error.ManyNames = ⊥
IsVersionRefusal files version error.ManyCommits = ⊥
IsVersionRefusal files version (error.Missing v) = (v ≡ version) × ¬ HasVersion files version
IsVersionRefusal files version (error.Large v) = (v ≡ version) × IsLarge files version
IsVersionRefusal files version (error.Refused v e) = (v ≡ version) × IsUnreadable files version e

-- The version is refused by itself, or over the table before it.
abbrev pub IsStepRefusal : Files → ℕ → Option Table → LogError → Type 0
IsStepRefusal files version base error.Memory = Unit {0}
IsStepRefusal files version base error.StoreFault = Unit {0}
IsStepRefusal files version base error.ManyNames = ⊥
IsStepRefusal files version base error.ManyCommits = ⊥
IsStepRefusal files version base (error.Missing v) = (v ≡ version) × ¬ HasVersion files version
IsStepRefusal files version base (error.Large v) = (v ≡ version) × IsLarge files version
IsStepRefusal files version base (error.Refused v e) = (v ≡ version) × (IsUnreadable files version e ⊎ IsUnfit files version base e)

-- A version up to the newest is refused so, and those before it can be read and pass no number.
abbrev pub StopsAt : Files → ℕ → LogError → Type 0
StopsAt files newest e = (version : ℕ) × (base : Option Table) × (version ≤ newest) × IsReadLog files version base × IsStepRefusal files version base e

-- The log up to the newest version is refused: where it has more versions than are read, for that alone.
abbrev pub IsLogRefusal : Files → ℕ → LogError → Type 0
IsLogRefusal files newest error.Memory = Unit {0}
IsLogRefusal files newest error.StoreFault = Unit {0}
IsLogRefusal files newest error.ManyNames = ⊥
IsLogRefusal files newest error.ManyCommits = MAX_COMMITS < newest + 1
IsLogRefusal files newest (error.Missing v) = (newest + 1 ≤ MAX_COMMITS) × StopsAt files newest (error.Missing v)
IsLogRefusal files newest (error.Large v) = (newest + 1 ≤ MAX_COMMITS) × StopsAt files newest (error.Large v)
IsLogRefusal files newest (error.Refused v e) = (newest + 1 ≤ MAX_COMMITS) × StopsAt files newest (error.Refused v e)

-- ---- which version is told

-- If a version is told, it has this.
abbrev pub TellsOf : (ℕ → Type 0) → LogError → Type 0
TellsOf P (error.Missing v) = P v
TellsOf P (error.Large v) = P v
TellsOf P (error.Refused v e) = P v
TellsOf P _ = Unit {0}
