-- Which files of a Hudi target are foreign, with the first path at fault, and which numbers inspecting passes.
use Rattle.std.specs.Prelude.{◌≡◌, ◌≢◌, ◌⊎◌, ℕ, ◌<◌, List, ◌∷◌, ◌++◌, length, false, Contains, Option, codes}
use Rattle.std.specs.Cmp.Lexicographic.{slice_cmp}
use Rattle.std.specs.Ordering.{nat_cmp}
use Rattle.std.specs.declared.cmp.Ordering.TheVariants.{Less}
use Rattle.lake_basics.specs.declared.limits.TheConstants.{MAX_COMMITS, MAX_FILE_BYTES, MAX_NAMES}
use Rattle.lake_store.specs.Disk.{Files, names_in}
use Rattle.table_history.specs.Words.{limit_number}
use Rattle.table_history.specs.declared.kind.Kind.{Kind}
use Rattle.table_history.specs.declared.kind.Kind.TheVariants.{Hudi}
use Rattle.table_history.specs.declared.limit.LimitKind.{LimitKind}
use Rattle.table_history.specs.declared.limit.LimitKind.TheVariants.{Commits, File, Names}
use Rattle.hudi_names.specs.Time.{IsSomeTime}
use Rattle.hudi_names.specs.declared.error.HudiError.{HudiError}
use Rattle.hudi_names.specs.declared.error.HudiError.TheVariants as errors
use Rattle.hudi_table.specs.Files.{HasFault, HoldsFile, ReadsAs, SaysProperties}
use Rattle.hudi_table.specs.Instants.{path_of}
use Rattle.hudi_table.specs.Reading.{IsNextHere, IsReadingOf, table_in}
use Rattle.hudi_table.specs.Refusals.{IsUnfit, IsUnreadable}
use Rattle.hudi_table.specs.declared.instants.CompletedInstant.{CompletedInstant}
use Rattle.hudi_table.specs.declared.properties.Properties.{Properties}
use Rattle.hudi_table.specs.declared.reading.Latest.{Latest}
use Rattle.hudi_table.specs.declared.reading.Naming.TheVariants.{External}
use Rattle.hudi_commit.specs.Names.{IsThere, Stage, claims_folder, completed_path, pending_name, properties_path, timeline_folder, timeline_path}
use Rattle.hudi_commit.specs.Orderly.{LacksProperties}
use Rattle.target_core.specs.Views.{Standing}
use Rattle.target_hudi.specs.Reading.{HasOwnNames, HasOwnProperties, IsMarkAt, IsOwnName, NamesInstant, completed_in}

-- ---- foreign

-- the error tells of what bytes hold, and not of a number that is passed
abbrev pub IsFault : HudiError → Type 0
IsFault errors.Memory = ⊥
IsFault (errors.Malformed line) = Unit {0}
IsFault (errors.Unsupported feature) = Unit {0}
IsFault (errors.Limit which) = ⊥

-- The properties are missing beside an instant's name, or can't be read, or don't say that this program made the table.
abbrev pub HasForeignProperties : Files → Type 0
HasForeignProperties files =
    LacksProperties files
    ⊎ ((bytes : List ℕ) × HoldsFile files (codes "hoodie.properties") bytes
    × (((e : HudiError) × IsFault e × HasFault bytes e) ⊎ ((p : Properties) × ReadsAs bytes p × (p.table.ours ≡ false))))

-- a name of an instant that isn't one of this program's
pub record IsForeignName (files : Files) (name : List ℕ) : Type 0 where
  pub names : NamesInstant files name
  pub foreign : ¬ IsOwnName files name

-- This is the path of the first such name in byte order.
pub record IsFirstForeignName (files : Files) (path : List ℕ) : Type 0 where
  pub properties : HasOwnProperties files
  pub name : List ℕ
  pub is : path ≡ timeline_path name
  pub foreign : IsForeignName files name
  pub first : (other : List ℕ) → IsForeignName files other → slice_cmp nat_cmp other name ≢ Less

-- The completed instants before this one are read, each with a mark of its own for a source of this format.
pub record IsReadUpTo (source : Kind) (files : Files) (table : Properties) (c : CompletedInstant) (latest : Option Latest) : Type 0 where
  pub properties : HasOwnProperties files
  pub names : HasOwnNames files
  pub says : SaysProperties files table
  pub front : List CompletedInstant
  pub behind : List CompletedInstant
  pub split : completed_in files ≡ front ++ c ∷ behind
  pub read : IsReadingOf files External table.table front latest
  pub marked : (before : CompletedInstant) → Contains front before → (standing : Standing) × IsMarkAt files before standing × (standing.origin.source ≡ source)

-- The instant can't be read, or taken over the table before it, for a fault. Or it can, and has no mark of its own for a source of this format.
abbrev pub IsFaulty : Kind → Files → Properties → CompletedInstant → Option Latest → Type 0
IsFaulty source files table c latest =
    ((e : HudiError) × IsFault e × (IsUnreadable files c e ⊎ IsUnfit files External table.table c (table_in latest) e))
    ⊎ ((next : Latest) × IsNextHere files External table.table c (table_in latest) next
    × ((standing : Standing) → IsMarkAt files c standing → standing.origin.source ≢ source))

-- This is the path of the first completed instant at fault.
pub record IsFirstFaulty (source : Kind) (files : Files) (path : List ℕ) : Type 0 where
  pub instant : CompletedInstant
  pub is : path ≡ path_of instant.name
  pub table : Properties
  pub latest : Option Latest
  pub before : IsReadUpTo source files table instant latest
  pub faulty : IsFaulty source files table instant latest

abbrev pub IsForeign : Kind → Files → List ℕ → Type 0
IsForeign source files path =
    ((path ≡ properties_path) × HasForeignProperties files)
    ⊎ (IsFirstForeignName files path ⊎ IsFirstFaulty source files path)

-- ---- numbers that are passed

-- the timeline's file of this name has too many bytes
abbrev pub IsLarge : Files → List ℕ → Type 0
IsLarge files name = (bytes : List ℕ) × HoldsFile files name bytes × (MAX_FILE_BYTES < length bytes)

-- The instant has too many bytes, or what it says or the table behind it passes a number.
abbrev pub PassesIn : Files → Properties → CompletedInstant → Option Latest → LimitKind → ℕ → Type 0
PassesIn files table c latest which number =
    ((which ≡ File) × (number ≡ MAX_FILE_BYTES) × IsLarge files c.name)
    ⊎ ((number ≡ limit_number Hudi which) × (IsUnreadable files c (errors.Limit which) ⊎ IsUnfit files External table.table c (table_in latest) (errors.Limit which)))

-- Claims are looked up for this instant: it is pending at a real day and time and isn't completed, and the names of instants before it are all own.
pub record LooksUpClaims (files : Files) : Type 0 where
  pub properties : HasOwnProperties files
  pub stage : Stage
  pub instant : List ℕ
  pub time : IsSomeTime instant
  pub pending : NamesInstant files (pending_name stage instant)
  pub lacking : ¬ IsThere files (completed_path instant)
  pub before : (other : List ℕ) → NamesInstant files other → slice_cmp nat_cmp other (pending_name stage instant) ≡ Less → IsOwnName files other

-- The timeline's folder has too many names, the properties have too many bytes, the claims that are looked up are too many, too many instants are
-- completed, or one of them passes a number and those before it are read.
abbrev pub IsCrowded : Kind → Files → LimitKind → ℕ → Type 0
IsCrowded source files which number =
    ((which ≡ Names) × (number ≡ MAX_NAMES) × (MAX_NAMES < length (names_in files timeline_folder)))
    ⊎ (((which ≡ File) × (number ≡ MAX_FILE_BYTES) × IsLarge files (codes "hoodie.properties"))
    ⊎ (((which ≡ Names) × (number ≡ MAX_NAMES) × LooksUpClaims files × (MAX_NAMES < length (names_in files claims_folder)))
    ⊎ (((which ≡ Commits) × (number ≡ MAX_COMMITS) × HasOwnProperties files × HasOwnNames files × (MAX_COMMITS < length (completed_in files)))
    ⊎ ((c : CompletedInstant) × (table : Properties) × (latest : Option Latest) × IsReadUpTo source files table c latest × PassesIn files table c latest which number))))
