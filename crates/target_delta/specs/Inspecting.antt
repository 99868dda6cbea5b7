-- Which files of a Delta target are foreign, with the first path at fault, and which numbers inspecting passes.
use Rattle.std.specs.Prelude.{◌≡◌, ◌≢◌, ◌⊎◌, ℕ, suc, ◌<◌, ◌≤◌, List, length, Option, Some, IsSome}
use Rattle.std.specs.Cmp.Lexicographic.{slice_cmp}
use Rattle.std.specs.FinMap as map
use Rattle.std.specs.Ordering.{nat_cmp}
use Rattle.std.specs.declared.cmp.Ordering.TheVariants.{Less}
use Rattle.lake_basics.specs.declared.limits.TheConstants.{MAX_COMMITS, MAX_FILE_BYTES, MAX_NAMES}
use Rattle.lake_store.specs.Disk.{Files, IsName, names_in}
use Rattle.table_history.specs.declared.kind.Kind.{Kind}
use Rattle.table_history.specs.declared.kind.Kind.TheVariants.{Delta}
use Rattle.table_history.specs.declared.limit.LimitKind.{LimitKind}
use Rattle.table_history.specs.declared.limit.LimitKind.TheVariants.{Commits, File, Names}
use Rattle.table_history.specs.declared.table.Table.{Table}
use Rattle.table_history.specs.Words.{limit_number}
use Rattle.delta_log.specs.declared.error.DeltaError.{DeltaError}
use Rattle.delta_log.specs.declared.error.DeltaError.TheVariants as errors
use Rattle.delta_table.specs.Log.{IsLog, IsReadLog}
use Rattle.delta_table.specs.Refusals.{IsLarge, IsUnfit, IsUnreadable}
use Rattle.delta_table.specs.Versions.{HasVersion, IsVersionPath, log_folder}
use Rattle.target_core.specs.Views.{Standing}
use Rattle.target_delta.specs.Names.{HasVersions, IsLeftoverName, path_of}
use Rattle.target_delta.specs.Reading.{IsMarkAt}

-- ---- foreign

-- a name in the folder that no commit was staged under
pub record IsStray (files : Files) (name : List ℕ) : Type 0 where
  pub proper : IsName name
  pub there : IsSome (map.get files (path_of name))
  pub other : ¬ IsLeftoverName name

-- There is no version, and this is the path of the first such name in byte order.
pub record IsFirstStray (files : Files) (path : List ℕ) : Type 0 where
  pub versions : (version : ℕ) → ¬ HasVersion files version
  pub name : List ℕ
  pub is : path ≡ path_of name
  pub stray : IsStray files name
  pub first : (other : List ℕ) → IsStray files other → slice_cmp nat_cmp other name ≢ Less

-- The error tells of bytes that are no commit, or of a feature that they show, and not of a number that is passed.
abbrev pub IsFault : DeltaError → Type 0
IsFault errors.Memory = ⊥
IsFault (errors.Malformed line) = Unit {0}
IsFault (errors.DoublePath line) = Unit {0}
IsFault (errors.Unsupported feature line) = Unit {0}
IsFault (errors.Limit which) = ⊥

-- The version is missing, or can't be read or taken over the table before it for such a fault.
abbrev pub IsFaulty : Files → ℕ → Option Table → Type 0
IsFaulty files version base = (¬ HasVersion files version) ⊎ ((error : DeltaError) × IsFault error × (IsUnreadable files version error ⊎ IsUnfit files version base error))

-- This is the path of the first faulty version: those before it are read and taken, and it or a later one is there.
pub record IsFirstFaulty (files : Files) (path : List ℕ) : Type 0 where
  pub version : ℕ
  pub named : IsVersionPath path version
  pub base : Option Table
  pub log : IsLog files version base
  pub later : ℕ
  pub within : version ≤ later
  pub there : HasVersion files later
  pub faulty : IsFaulty files version base

-- All versions are read and taken, and this is the path of the newest, which has no mark of its own for a source of this format.
pub record IsUnmarked (source : Kind) (files : Files) (path : List ℕ) : Type 0 where
  pub newest : ℕ
  pub named : IsVersionPath path newest
  pub versions : HasVersions files (suc newest)
  pub table : Table
  pub log : IsLog files (suc newest) (Some table)
  pub unmarked : (standing : Standing) → IsMarkAt files newest standing → standing.origin.source ≢ source

abbrev pub IsForeign : Kind → Files → List ℕ → Type 0
IsForeign source files path = IsFirstStray files path ⊎ (IsFirstFaulty files path ⊎ IsUnmarked source files path)

-- ---- numbers that are passed

-- The version has too many bytes, or its lines or the table behind it pass a number.
abbrev pub PassesIn : Files → ℕ → Option Table → LimitKind → ℕ → Type 0
PassesIn files version base which number =
    ((which ≡ File) × (number ≡ MAX_FILE_BYTES) × IsLarge files version)
    ⊎ ((number ≡ limit_number Delta which) × (IsUnreadable files version (errors.Limit which) ⊎ IsUnfit files version base (errors.Limit which)))

-- So many versions from 0 on are read and taken and pass no number, and the one behind them is there too.
pub record GoesPast (files : Files) (count : ℕ) : Type 0 where
  pub table : Option Table
  pub log : IsReadLog files count table
  pub next : HasVersion files count

-- The folder has too many names; or there is one version more than are read, behind as many as are; or one of these passes a number. Those before it
-- are read and taken and pass none.
abbrev pub IsCrowded : Files → LimitKind → ℕ → Type 0
IsCrowded files which number =
    ((which ≡ Names) × (number ≡ MAX_NAMES) × (MAX_NAMES < length (names_in files log_folder)))
    ⊎ (((which ≡ Commits) × (number ≡ MAX_COMMITS) × GoesPast files MAX_COMMITS)
    ⊎ ((version : ℕ) × (base : Option Table) × (version < MAX_COMMITS) × IsReadLog files version base × PassesIn files version base which number))
