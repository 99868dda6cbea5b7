-- What a Hudi target's files stand for, and what a commit carries.
use Rattle.std.specs.Prelude.{◌≡◌, ◌↔◌, ◌⊎◌, ℕ, suc, ◌<◌, List, [], ◌∷◌, ◌++◌, length, true, Contains, Some, codes}
use Rattle.lake_store.specs.Disk.{Disk, Files, IsName, names_in}
use Rattle.table_history.specs.Path.{IsPath}
use Rattle.table_history.specs.Row.{Row}
use Rattle.table_history.specs.declared.kind.Kind.{Kind}
use Rattle.table_history.specs.declared.table.Change.{Change}
use Rattle.partition_map.specs.declared.kind.PartKind.{PartKind}
use Rattle.hudi_names.specs.Time.{IsSomeTime}
use Rattle.hudi_names.specs.declared.name.State.{State}
use Rattle.hudi_timeline.specs.Live.{AreRowsOf, Completed, completed}
use Rattle.hudi_timeline.specs.Schemas.{AreKindsOf}
use Rattle.hudi_instant.specs.declared.instant.Instant.{Instant}
use Rattle.hudi_properties.specs.declared.table.HudiTable.{HudiTable}
use Rattle.hudi_table.specs.Files.{HoldsFile, ReadsAs, SaysInstant, SaysProperties}
use Rattle.hudi_table.specs.Instants.{path_of, timeline_of}
use Rattle.hudi_table.specs.Reading.{HasLiveRows, IsReadingOf, form_of}
use Rattle.hudi_table.specs.declared.instants.CompletedInstant.{CompletedInstant}
use Rattle.hudi_table.specs.declared.properties.Properties.{Properties}
use Rattle.hudi_table.specs.declared.reading.Latest.{Latest}
use Rattle.hudi_table.specs.declared.reading.Naming.TheVariants.{External}
use Rattle.hudi_commit.specs.Names.{IsInstantIn, IsThere, Stage, claim_path, completed_name, completed_path, pending_name, properties_path, timeline_folder, timeline_path}
use Rattle.hudi_commit.specs.Orderly.{LacksProperties}
use Rattle.hudi_commit.specs.Settled.{IsSettled}
use Rattle.target_core.specs.Changes.{IsGone}
use Rattle.target_core.specs.Mark.{IsMarkText}
use Rattle.target_core.specs.Views.{IsUnpublished, Standing, View, standing_of}
use Rattle.target_core.specs.declared.mark.Mark.{Mark}
use Rattle.target_hudi.specs.Writing.{replaced_of}

-- ---- the folder

-- A file of the folder is named for an instant.
pub record NamesInstant (files : Files) (name : List ℕ) : Type 0 where
  pub proper : IsName name
  pub there : IsThere files (timeline_path name)
  pub state : State
  pub says : IsInstantIn state name

-- The name is that of a replacecommit at a real day and time of 17 digits, which is completed, or pending and claimed or completed too.
abbrev pub IsOwnName : Files → List ℕ → Type 0
IsOwnName files name =
    (instant : List ℕ) × IsSomeTime instant
    × ((name ≡ completed_name instant)
    ⊎ ((stage : Stage) × (name ≡ pending_name stage instant) × (IsThere files (claim_path instant) ⊎ IsThere files (completed_path instant))))

-- Where properties are, they can be read and say that this program made the table. They are wherever an instant's name is.
pub record HasOwnProperties (files : Files) : Type 0 where
  pub own : (bytes : List ℕ) → HoldsFile files (codes "hoodie.properties") bytes → (p : Properties) × ReadsAs bytes p × (p.table.ours ≡ true)
  pub there : LacksProperties files → ⊥

-- so are all names of instants in the folder
abbrev pub HasOwnNames : Files → Type 0
HasOwnNames files = (name : List ℕ) → NamesInstant files name → IsOwnName files name

-- the completed commits and replacecommits, the oldest first
abbrev pub completed_in : Files → List CompletedInstant
completed_in files = (timeline_of (names_in files timeline_folder)).completed

abbrev pub commits_in : Files → ℕ
commits_in files = length (completed_in files)

-- ---- the mark

-- The completed instant has a mark of its own, which names that instant and says this.
pub record IsMarkAt (files : Files) (c : CompletedInstant) (standing : Standing) : Type 0 where
  pub instant : Instant
  pub says : SaysInstant files c instant
  pub text : List ℕ
  pub stated : instant.mark ≡ Some text
  pub mark : Mark
  pub reads : IsMarkText text mark
  pub at : mark.at ≡ c.time
  pub is : standing_of mark ≡ standing

-- ---- what the files stand for

-- No instant is completed, and nothing in the folder is another's.
pub record IsAbsent (files : Files) : Type 0 where
  pub properties : HasOwnProperties files
  pub names : HasOwnNames files
  pub none : completed_in files ≡ []

-- Each completed instant is read over those before it and has a mark of its own, all for sources of one format, and the rows are the live ones after the
-- newest (Hudi technical specification, file groups), which says where the target stands.
pub record IsOurs (files : Files) (view : View) : Type 0 where
  pub properties : HasOwnProperties files
  pub names : HasOwnNames files
  pub table : Properties
  pub says : SaysProperties files table
  pub latest : Latest
  pub read : IsReadingOf files External table.table (completed_in files) (Some latest)
  pub live : HasLiveRows files External table.table (completed_in files) latest
  pub source : Kind
  pub marked : (c : CompletedInstant) → Contains (completed_in files) c → (standing : Standing) × IsMarkAt files c standing × (standing.origin.source ≡ source)
  pub front : List CompletedInstant
  pub newest : CompletedInstant
  pub last : completed_in files ≡ front ++ newest ∷ []
  pub standing : Standing
  pub stands : IsMarkAt files newest standing
  pub view_is : view ≡ record { commits = commits_in files; mark = Some standing; table = latest.table }

abbrev pub Reads : Files → View → Type 0
Reads files view = (IsAbsent files × IsUnpublished view) ⊎ IsOurs files view

-- ---- what a commit carries

-- A write stat of the instant is this row, whatever else the instant writes.
abbrev pub HasStatRow : HudiTable → List PartKind → Completed → Row → Type 0
HasStatRow table kinds u row = (rows : List Row) × AreRowsOf table kinds u rows × Contains rows row

-- The commit of this number, counted from 1, is that completed instant. The rows of its write stats are the added rows, its replaced ids are those of the
-- paths that are removed and not added again, and its mark says this.
pub record IsCarried (files : Files) (number : ℕ) (change : Change) (standing : Standing) : Type 0 where
  pub table : Properties
  pub says_table : SaysProperties files table
  pub front : List CompletedInstant
  pub commit : CompletedInstant
  pub behind : List CompletedInstant
  pub split : completed_in files ≡ front ++ commit ∷ behind
  pub is : number ≡ suc (length front)
  pub instant : Instant
  pub says : SaysInstant files commit instant
  -- the table behind the commit gives the partition columns their kinds
  pub latest : Latest
  pub read : IsReadingOf files External table.table (front ++ commit ∷ []) (Some latest)
  pub kinds : List PartKind
  pub are_kinds : AreKindsOf latest.table.schema table.table.partition kinds
  pub adds : (row : Row) → Contains change.added row ↔ HasStatRow table.table kinds (completed (form_of External commit.time) instant) row
  pub removes : (path : List ℕ) → IsGone change path ↔ (IsPath path × Contains instant.replaced (replaced_of path))
  pub only : (p : List ℕ × List ℕ) → Contains instant.replaced p → (path : List ℕ) × IsPath path × (p ≡ replaced_of path)
  pub marked : IsMarkAt files commit standing

-- ---- what commits reach, and when a crash changes nothing of it

-- Where an instant is completed, its file and the properties are reached.
abbrev pub IsReached : Files → List ℕ → Type 0
IsReached files path =
    (c : CompletedInstant) × Contains (completed_in files) c
    × ((path ≡ path_of c.name) ⊎ (path ≡ properties_path)) × IsThere files path

-- The timeline is settled, and a table with a completed instant has folders of names and values that are escaped.
pub record IsSettledTarget (disk : Disk) : Type 0 where
  pub timeline : IsSettled disk
  pub hive_style : (p : Properties) → 0 < commits_in disk.files → SaysProperties disk.files p → p.table.hive_style ≡ true
  pub url_encode : (p : Properties) → 0 < commits_in disk.files → SaysProperties disk.files p → p.table.url_encode ≡ true
