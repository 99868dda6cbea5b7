-- What a Delta log shows for which it isn't read as a source.
use Rattle.std.specs.Prelude.{◌≡◌, ◌⊎◌, ◌<◌, ◌≤◌, ℕ, List, length, Option, Some, None}
use Rattle.lake_basics.specs.declared.limits.TheConstants.{MAX_COMMITS, MAX_FILE_BYTES, MAX_NAMES}
use Rattle.lake_store.specs.Disk.{Files, names_in}
use Rattle.table_history.specs.Words.{limit_number}
use Rattle.table_history.specs.declared.feature.Feature.TheVariants.{NeedsCheckpoint}
use Rattle.table_history.specs.declared.kind.Kind.TheVariants.{Delta}
use Rattle.table_history.specs.declared.limit.LimitKind.TheVariants as limit
use Rattle.delta_log.specs.declared.error.DeltaError.{DeltaError}
use Rattle.delta_log.specs.declared.error.DeltaError.TheVariants as delta
use Rattle.delta_table.specs.Refusals.{IsLogRefusal}
use Rattle.delta_table.specs.Versions.{HasVersion, IsVersionPath, log_folder}
use Rattle.delta_table.specs.declared.error.LogError.{LogError}
use Rattle.delta_table.specs.declared.error.LogError.TheVariants as log
use Rattle.source_core.specs.declared.error.SourceError.{SourceError}
use Rattle.source_core.specs.declared.error.SourceError.TheVariants.{Memory, Malformed, Unsupported, Limit, StoreFault}
use Rattle.source_delta.specs.Heads.{IsNewest}

-- ---- how a fault of a log is told

-- of a version's commit, with the path of its file; a second action on one path is one fault more of the grammar
abbrev pub TellsCommit : ℕ → DeltaError → SourceError → Type 0
TellsCommit version delta.Memory e = ⊥
TellsCommit version (delta.Malformed line) e = (path : List ℕ) × IsVersionPath path version × (e ≡ Malformed path)
TellsCommit version (delta.DoublePath line) e = (path : List ℕ) × IsVersionPath path version × (e ≡ Malformed path)
TellsCommit version (delta.Unsupported feature line) e = (path : List ℕ) × IsVersionPath path version × (e ≡ Unsupported feature path)
TellsCommit version (delta.Limit which) e = e ≡ Limit which (limit_number Delta which)

-- A file that has to be there and isn't is malformed. Want of memory and a fault of the store are no faults of the log.
abbrev pub Tells : LogError → SourceError → Type 0
Tells log.Memory e = ⊥
Tells log.StoreFault e = ⊥
Tells log.ManyNames e = e ≡ Limit limit.Names MAX_NAMES
Tells log.ManyCommits e = e ≡ Limit limit.Commits MAX_COMMITS
Tells (log.Missing version) e = (path : List ℕ) × IsVersionPath path version × (e ≡ Malformed path)
Tells (log.Large version) e = e ≡ Limit limit.File MAX_FILE_BYTES
Tells (log.Refused version error) e = TellsCommit version error e

-- what is told of a fault of a commit, and of one of a log, where no path is told
abbrev pub plain_of_commit : DeltaError → Option SourceError
plain_of_commit delta.Memory = Some Memory
plain_of_commit (delta.Malformed line) = None
plain_of_commit (delta.DoublePath line) = None
plain_of_commit (delta.Unsupported feature line) = None
plain_of_commit (delta.Limit which) = Some (Limit which (limit_number Delta which))

abbrev pub plain : LogError → Option SourceError
plain log.Memory = Some Memory
plain log.StoreFault = Some StoreFault
plain log.ManyNames = Some (Limit limit.Names MAX_NAMES)
plain log.ManyCommits = Some (Limit limit.Commits MAX_COMMITS)
plain (log.Missing version) = None
plain (log.Large version) = Some (Limit limit.File MAX_FILE_BYTES)
plain (log.Refused version error) = plain_of_commit error

-- ---- causes

-- The log's folder has more names than are listed.
abbrev pub HasManyNames : Files → SourceError → Type 0
HasManyNames files e = (MAX_NAMES < length (names_in files log_folder)) × (e ≡ Limit limit.Names MAX_NAMES)

-- The versions up to this one are refused at one of them, those before it being read.
abbrev pub IsRefusedLog : Files → ℕ → SourceError → Type 0
IsRefusedLog files newest e = (cause : LogError) × IsLogRefusal files newest cause × Tells cause e

abbrev pub HasEach : Files → ℕ → Type 0
HasEach files newest = (version : ℕ) → version ≤ newest → HasVersion files version

-- the greatest version up to the newest that isn't there
pub record IsLastMissing (files : Files) (newest version : ℕ) : Type 0 where
  pub within : version ≤ newest
  pub missing : ¬ HasVersion files version
  pub behind : (later : ℕ) → version < later → later ≤ newest → HasVersion files later

abbrev pub LacksVersion : Files → ℕ → SourceError → Type 0
LacksVersion files newest e = (version : ℕ) × (path : List ℕ) × IsLastMissing files newest version × IsVersionPath path version × (e ≡ Unsupported NeedsCheckpoint path)

abbrev pub HasFewNames : Files → Type 0
HasFewNames files = length (names_in files log_folder) ≤ MAX_NAMES

-- Version 0 is there, and is refused.
abbrev pub IsFirstRefused : Files → SourceError → Type 0
IsFirstRefused files e = HasVersion files 0 × IsRefusedLog files 0 e

-- Finding the head reads the names, and then, where they aren't too many, version 0, where it is there.
abbrev pub ShowsAtHead : Files → SourceError → Type 0
ShowsAtHead files e = HasManyNames files e ⊎ (HasFewNames files × IsFirstRefused files e)

-- Reading from scratch reads the names, and then, where they aren't too many, the versions from 0 to the newest, unless one of them is missing.
abbrev pub ShowsFromScratch : Files → SourceError → Type 0
ShowsFromScratch files e =
    HasManyNames files e
    ⊎ (HasFewNames files × (newest : ℕ) × IsNewest files newest × (LacksVersion files newest e ⊎ (HasEach files newest × IsRefusedLog files newest e)))
