-- What a Hudi table shows for which it isn't read as a source.
use Rattle.std.specs.Prelude.{◌≡◌, ◌⊎◌, ◌<◌, ◌≤◌, ℕ, List, length, Some, codes}
use Rattle.lake_basics.specs.declared.limits.TheConstants.{MAX_COMMITS, MAX_FILE_BYTES, MAX_NAMES}
use Rattle.lake_store.specs.Disk.{Files, names_in}
use Rattle.table_history.specs.Words.{limit_number}
use Rattle.table_history.specs.declared.feature.Feature.TheVariants.{NeedsArchive}
use Rattle.table_history.specs.declared.kind.Kind.TheVariants.{Hudi}
use Rattle.table_history.specs.declared.limit.LimitKind.TheVariants as limit
use Rattle.hudi_names.specs.declared.name.Action.{Action}
use Rattle.hudi_names.specs.declared.error.HudiError.{HudiError}
use Rattle.hudi_names.specs.declared.error.HudiError.TheVariants as hudi
use Rattle.hudi_properties.specs.declared.table.HudiTable.{HudiTable}
use Rattle.hudi_table.specs.Files.{SaysProperties}
use Rattle.hudi_table.specs.Folder.{IsHead, IsReached}
use Rattle.hudi_table.specs.Instants.{path_of, timeline_folder}
use Rattle.hudi_table.specs.Refusals.{IsFileRefusal, IsPropertyFault, IsReadingRefusal}
use Rattle.hudi_table.specs.declared.error.TimelineError.{TimelineError}
use Rattle.hudi_table.specs.declared.error.TimelineError.TheVariants as error
use Rattle.hudi_table.specs.declared.instants.CompletedInstant.{CompletedInstant}
use Rattle.hudi_table.specs.declared.properties.Properties.{Properties}
use Rattle.hudi_table.specs.declared.reading.Naming.TheVariants.{Base}
use Rattle.source_core.specs.declared.error.SourceError.{SourceError}
use Rattle.source_core.specs.declared.error.SourceError.TheVariants.{Malformed, Unsupported, Limit}
use Rattle.source_hudi.specs.Instants.{AreAllRead, IsArchiveEmpty, IsFirstUnread, archive_folder, feature_of, first_archived, reached_in}

-- ---- how a fault of a timeline is told

-- of what the file at this path says
abbrev pub TellsFile : List ℕ → HudiError → SourceError → Type 0
TellsFile path hudi.Memory e = ⊥
TellsFile path (hudi.Malformed line) e = e ≡ Malformed path
TellsFile path (hudi.Unsupported feature) e = e ≡ Unsupported feature path
TellsFile path (hudi.Limit which) e = e ≡ Limit which (limit_number Hudi which)

-- A file that has to be there and isn't is malformed. Want of memory and a fault of the store are no faults of the timeline.
abbrev pub Tells : TimelineError → SourceError → Type 0
Tells error.Memory e = ⊥
Tells error.StoreFault e = ⊥
Tells error.ManyNames e = e ≡ Limit limit.Names MAX_NAMES
Tells error.ManyCommits e = e ≡ Limit limit.Commits MAX_COMMITS
Tells (error.Missing path) e = e ≡ Malformed path
Tells (error.Large path) e = e ≡ Limit limit.File MAX_FILE_BYTES
Tells (error.Refused path cause) e = TellsFile path cause e

-- Memory ran out in the reading of the timeline.
abbrev pub IsOfMemory : TimelineError → Type 0
IsOfMemory error.Memory = Unit {0}
IsOfMemory (error.Refused path cause) = cause ≡ hudi.Memory
IsOfMemory _ = ⊥

-- ---- causes

-- The folder has more names than are listed.
abbrev pub HasManyNames : Files → List ℕ → SourceError → Type 0
HasManyNames files folder e = (MAX_NAMES < length (names_in files folder)) × (e ≡ Limit limit.Names MAX_NAMES)

abbrev pub HasFewNames : Files → List ℕ → Type 0
HasFewNames files folder = length (names_in files folder) ≤ MAX_NAMES

-- The properties aren't there, or are refused.
abbrev pub HasNoProperties : Files → SourceError → Type 0
HasNoProperties files e = (cause : TimelineError) × IsFileRefusal files (codes "hoodie.properties") (IsPropertyFault files) cause × Tells cause e

-- The archive holds files that aren't too many, of which the first is told.
abbrev pub HasArchive : Files → SourceError → Type 0
HasArchive files e = HasFewNames files archive_folder × (path : List ℕ) × (first_archived (names_in files archive_folder) ≡ Some path) × (e ≡ Unsupported NeedsArchive path)

-- An instant up to the head is of an action that isn't read, and the first such name is told.
abbrev pub HasUnread : Files → List ℕ → SourceError → Type 0
HasUnread files head e = (name : List ℕ) × (action : Action) × IsFirstUnread files head name action × (e ≡ Unsupported (feature_of action) (path_of name))

-- One of the instants is refused, those before it being read.
abbrev pub HasRefused : Files → HudiTable → List CompletedInstant → SourceError → Type 0
HasRefused files table instants e = (cause : TimelineError) × IsReadingRefusal files Base table instants cause × Tells cause e

-- Finding the head reads the names, and then, where they aren't too many and something is completed up to a head, the properties.
abbrev pub ShowsAtHead : Files → SourceError → Type 0
ShowsAtHead files e = HasManyNames files timeline_folder e ⊎ (HasFewNames files timeline_folder × ((time : List ℕ) × IsReached files time) × HasNoProperties files e)

-- The instants up to the head are judged by their names, and then those of them that are completed are read.
abbrev pub ShowsUpTo : Files → HudiTable → List ℕ → SourceError → Type 0
ShowsUpTo files table head e = HasUnread files head e ⊎ (AreAllRead files head × HasRefused files table (reached_in files) e)

-- The names come before them, and are judged where they aren't too many.
abbrev pub ShowsInTimeline : Files → HudiTable → SourceError → Type 0
ShowsInTimeline files table e = HasManyNames files timeline_folder e ⊎ (HasFewNames files timeline_folder × (head : List ℕ) × IsHead files head × ShowsUpTo files table head e)

-- The archive comes before them.
abbrev pub ShowsInInstants : Files → HudiTable → SourceError → Type 0
ShowsInInstants files table e = HasManyNames files archive_folder e ⊎ HasArchive files e ⊎ (IsArchiveEmpty files × ShowsInTimeline files table e)

-- Reading from scratch reads the properties first.
abbrev pub ShowsFromScratch : Files → SourceError → Type 0
ShowsFromScratch files e = HasNoProperties files e ⊎ ((p : Properties) × SaysProperties files p × ShowsInInstants files p.table e)
