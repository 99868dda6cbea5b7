-- What the steps of inspecting a Hudi target find, and why they stop.
use Rattle.std.specs.Prelude.{◌≡◌, Bool, false, ℕ, ◌<◌, true, List, [], ◌∷◌, ◌++◌, length, Contains, Option, None, Some, option_map}
use Rattle.lake_basics.specs.declared.limits.TheConstants.{MAX_NAMES}
use Rattle.lake_store.specs.Disk.{Files, names_in}
use Rattle.table_history.specs.Words.{limit_number}
use Rattle.table_history.specs.declared.kind.Kind.{Kind}
use Rattle.table_history.specs.declared.kind.Kind.TheVariants.{Hudi}
use Rattle.table_history.specs.declared.limit.LimitKind.{LimitKind}
use Rattle.table_history.specs.declared.limit.LimitKind.TheVariants as limit
use Rattle.hudi_names.specs.Time.{IsSomeTime}
use Rattle.hudi_names.specs.declared.name.Action.TheVariants.{ReplaceCommit}
use Rattle.hudi_timeline.specs.Change.{IsTableOf}
use Rattle.hudi_names.specs.declared.error.HudiError.{HudiError}
use Rattle.hudi_names.specs.declared.error.HudiError.TheVariants as hudi
use Rattle.hudi_table.specs.Files.{SaysProperties}
use Rattle.hudi_table.specs.Instants.{path_of}
use Rattle.hudi_table.specs.Reading.{IsNextHere, IsReadingOf, table_in}
use Rattle.hudi_table.specs.declared.error.TimelineError.{TimelineError}
use Rattle.hudi_table.specs.declared.error.TimelineError.TheVariants as timeline
use Rattle.hudi_table.specs.declared.instants.CompletedInstant.{CompletedInstant}
use Rattle.hudi_table.specs.declared.instants.InstantName.{InstantName}
use Rattle.hudi_table.specs.declared.properties.Properties.{Properties}
use Rattle.hudi_table.specs.declared.reading.Latest.{Latest}
use Rattle.hudi_table.specs.declared.reading.Naming.TheVariants.{External}
use Rattle.hudi_commit.specs.Names.{IsThere, claim_path, claims_folder, properties_path, timeline_path}
use Rattle.target_core.specs.Conditions.{IsPublishable}
use Rattle.target_core.specs.Mark.{IsMarkText}
use Rattle.target_core.specs.Refusals.{IsInspectRefusal}
use Rattle.target_core.specs.Views.{IsOfSource, Standing, standing_of}
use Rattle.target_core.specs.declared.mark.Mark.{Mark}
use Rattle.target_core.specs.declared.target.TargetError.TheVariants as target
use Rattle.target_hudi.specs.Inspecting.{IsCrowded, IsFaulty, IsForeign, PassesIn}
use Rattle.target_hudi.specs.Kept.{StandsFor, view_of}
use Rattle.target_hudi.specs.Reading.{HasOwnNames, HasOwnProperties, IsAbsent, IsMarkAt, completed_in}
use Rattle.target_hudi.specs.declared.inspect.Newest.{Newest}
use Rattle.target_hudi.specs.declared.kept.HudiKept.{HudiKept}
use Rattle.target_hudi.specs.declared.stop.Stop.{Stop}
use Rattle.target_hudi.specs.declared.stop.Stop.TheVariants as stop

-- ---- why inspecting stops

-- It stops at a path at fault, or is refused for a number that is passed.
abbrev pub IsStop : (List ℕ → Type 0) → (LimitKind → ℕ → Type 0) → Stop → Type 0
IsStop is_foreign is_crowded (stop.Refused e) = IsInspectRefusal is_crowded e
IsStop is_foreign is_crowded (stop.Foreign path) = is_foreign path

abbrev pub IsStopIn : Kind → Files → Stop → Type 0
IsStopIn source files s = IsStop (IsForeign source files) (IsCrowded source files) s

-- whatever the files hold
abbrev pub IsOfStop : Stop → Type 0
IsOfStop s = IsStop (λ path. Unit {0}) (λ which number. Unit {0}) s

abbrev pub limit_of : LimitKind → Stop
limit_of which = stop.Refused (target.Limit which (limit_number Hudi which))

abbrev pub stop_at : List ℕ → HudiError → Stop
stop_at path hudi.Memory = stop.Refused target.Memory
stop_at path (hudi.Malformed line) = stop.Foreign path
stop_at path (hudi.Unsupported feature) = stop.Foreign path
stop_at path (hudi.Limit which) = limit_of which

abbrev pub stop_of : TimelineError → Stop
stop_of timeline.Memory = stop.Refused target.Memory
stop_of timeline.StoreFault = stop.Refused target.StoreFault
stop_of timeline.ManyNames = limit_of limit.Names
stop_of timeline.ManyCommits = limit_of limit.Commits
stop_of (timeline.Missing path) = stop.Foreign path
stop_of (timeline.Large path) = limit_of limit.File
stop_of (timeline.Refused path e) = stop_at path e

-- ---- the properties

abbrev pub is_missing : TimelineError → Bool
is_missing timeline.Memory = false
is_missing timeline.StoreFault = false
is_missing timeline.ManyNames = false
is_missing timeline.ManyCommits = false
is_missing (timeline.Missing path) = true
is_missing (timeline.Large path) = false
is_missing (timeline.Refused path e) = false

-- They aren't those of a table of this program.
abbrev pub IsOthersStop : Bool → Stop → Type 0
IsOthersStop ours (stop.Refused e) = e ≡ target.Memory
IsOthersStop ours (stop.Foreign path) = (ours ≡ false) × (path ≡ properties_path)

-- They say this of a table of this program, or there are none and no instant's name.
abbrev pub IsProperties : Files → List InstantName → Option Properties → Type 0
IsProperties files instants None = HasOwnProperties files × (instants ≡ [])
IsProperties files instants (Some p) = HasOwnProperties files × SaysProperties files p

-- ---- names

-- a replacecommit at 17 digits that spell a real day and time
abbrev pub HasOwnForm : InstantName → Type 0
HasOwnForm i = (i.action ≡ ReplaceCommit) × IsSomeTime i.time

-- and it is claimed where it is pending
abbrev pub IsOwnInstant : Files → InstantName → Type 0
IsOwnInstant files i = HasOwnForm i × (i.is_pending ≡ true → IsThere files (claim_path i.time))

abbrev pub HasManyClaims : Files → LimitKind → ℕ → Type 0
HasManyClaims files which number = (which ≡ limit.Names) × (number ≡ MAX_NAMES) × (MAX_NAMES < length (names_in files claims_folder))

abbrev pub IsListStop : Files → Stop → Type 0
IsListStop files s = IsStop (λ path. ⊥) (HasManyClaims files) s

-- The name isn't such as this program writes, or the claims that are looked up for it are too many.
abbrev pub IsNameStop : Files → InstantName → Stop → Type 0
IsNameStop files i s = IsStop
    (λ path. (path ≡ timeline_path i.name) × ¬ IsOwnInstant files i)
    (λ which number. HasOwnForm i × (i.is_pending ≡ true) × HasManyClaims files which number) s

-- ---- completed instants

-- The properties and the names are those of this program, and these are the completed instants.
pub record IsOwnTimeline (files : Files) (p : Properties) (completed : List CompletedInstant) : Type 0 where
  pub properties : HasOwnProperties files
  pub names : HasOwnNames files
  pub says : SaysProperties files p
  pub are : completed ≡ completed_in files

abbrev pub latest_in : Option Newest → Option Latest
latest_in newest = option_map (λ n. n.latest) newest

-- The instant that was read has this mark, which names it.
pub record IsMarkOf (latest : Latest) (c : CompletedInstant) (mark : Mark) : Type 0 where
  pub text : List ℕ
  pub stated : latest.mark ≡ Some text
  pub reads : IsMarkText text mark
  pub at : mark.at ≡ c.time

-- The instant is read over the newest before it, and has a mark of its own for a source of this format.
pub record IsNextOurs (source : Kind) (files : Files) (p : Properties) (c : CompletedInstant) (before : Option Newest) (next : Newest) : Type 0 where
  pub here : IsNextHere files External p.table c (table_in (latest_in before)) next.latest
  pub marked : IsMarkAt files c (standing_of next.mark)
  pub at : next.mark.at ≡ c.time
  pub source_is : next.mark.source ≡ source

-- The instant is at fault, or passes a number.
abbrev pub IsInstantStop : Kind → Files → Properties → CompletedInstant → Option Latest → Stop → Type 0
IsInstantStop source files p c before s = IsStop (λ path. (path ≡ path_of c.name) × IsFaulty source files p c before) (PassesIn files p c before) s

abbrev pub AllMarked : Kind → Files → List CompletedInstant → Type 0
AllMarked source files cs = (c : CompletedInstant) → Contains cs c → (standing : Standing) × IsMarkAt files c standing × (standing.origin.source ≡ source)

-- The last of the instants has this mark, which names it.
abbrev pub IsMarkOfLast : Files → List CompletedInstant → Option Newest → Type 0
IsMarkOfLast files cs None = Unit {0}
IsMarkOfLast files cs (Some newest) = (front : List CompletedInstant) × (c : CompletedInstant) × (cs ≡ front ++ c ∷ []) × IsMarkAt files c (standing_of newest.mark) × (newest.mark.at ≡ c.time)

-- The instants are read one after another, each with a mark of its own for a source of this format.
pub record IsOurReading (source : Kind) (files : Files) (p : Properties) (cs : List CompletedInstant) (newest : Option Newest) : Type 0 where
  pub read : IsReadingOf files External p.table cs (latest_in newest)
  pub marked : AllMarked source files cs
  pub last : IsMarkOfLast files cs newest

abbrev pub IsSoundNewest : Kind → Properties → Newest → Type 0
IsSoundNewest source p newest = IsTableOf p.table newest.latest.table × (newest.mark.source ≡ source)

-- ---- what is kept

-- This is kept of so many commits, of which the newest has this time.
pub record IsKeptOf (newest : Newest) (commits : ℕ) (time : List ℕ) (kept : HudiKept) : Type 0 where
  pub table : kept.table ≡ newest.latest.table
  pub marked : kept.mark ≡ Some newest.mark
  pub commits_are : kept.commits ≡ commits
  pub newest_is : kept.newest ≡ Some time

abbrev pub IsSoundKept : Kind → HudiKept → Type 0
IsSoundKept source kept = (0 < kept.commits) × IsPublishable kept.table × IsOfSource source (view_of kept)

-- Nothing is published, or this is kept of commits that are ours for a source of this format.
abbrev pub IsFound : Kind → Files → Option HudiKept → Type 0
IsFound source files None = IsAbsent files
IsFound source files (Some kept) = StandsFor kept files × IsOfSource source (view_of kept)
