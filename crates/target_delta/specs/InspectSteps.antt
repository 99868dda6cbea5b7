-- What the steps of inspecting a Delta target find: in the names of its folder, in its log, and in why the log isn't read.
use Rattle.std.specs.Prelude.{◌≡◌, ◌≢◌, ◌⊎◌, ℕ, ◌+◌, ◌≤◌, ◌==◌, ◌&&◌, Bool, false, true, not, List, length, take, drop, find, codes, None, Some, Result, Ok, Err}
use Rattle.std.specs.Char.{is_ascii_digit}
use Rattle.std.specs.List.{list_all}
use Rattle.std.specs.Str.{bytes_eq}
use Rattle.std.specs.Fmt.{decimal}
use Rattle.lake_basics.specs.declared.limits.TheConstants.{MAX_COMMITS}
use Rattle.lake_store.specs.Disk.{Files}
use Rattle.table_history.specs.Words.{limit_number}
use Rattle.table_history.specs.declared.kind.Kind.{Kind}
use Rattle.table_history.specs.declared.kind.Kind.TheVariants.{Delta}
use Rattle.table_history.specs.declared.limit.LimitKind.{LimitKind}
use Rattle.table_history.specs.declared.limit.LimitKind.TheVariants as limit
use Rattle.delta_log.specs.declared.error.DeltaError.{DeltaError}
use Rattle.delta_log.specs.declared.error.DeltaError.TheVariants as delta
use Rattle.delta_table.specs.Versions.{HasVersion, IsVersionPath}
use Rattle.delta_table.specs.declared.error.LogError.{LogError}
use Rattle.delta_table.specs.declared.error.LogError.TheVariants as log
use Rattle.delta_table.specs.declared.log.Log.{Log}
use Rattle.target_core.specs.Mark.{IsMarkText}
use Rattle.target_core.specs.declared.mark.Mark.{Mark}
use Rattle.target_core.specs.declared.target.Seen.{Seen}
use Rattle.target_core.specs.declared.target.Seen.TheVariants.{Absent, Ours, Foreign}
use Rattle.target_core.specs.declared.target.TargetError.{TargetError}
use Rattle.target_core.specs.declared.target.TargetError.TheVariants as target
use Rattle.target_delta.specs.Names.{leftover_front, path_of}
use Rattle.target_delta.specs.Reading.{mark_setting, setting}
use Rattle.target_delta.specs.Writing.{names_ntz}
use Rattle.target_delta.specs.declared.kept.DeltaKept.{DeltaKept}

-- ---- names

-- whether a commit may have been staged under the name
abbrev pub is_leftover_name : List ℕ → Bool
is_leftover_name name =
    (length name == 37) && (bytes_eq (take 12 name) leftover_front && (list_all is_ascii_digit (take 20 (drop 12 name)) && bytes_eq (drop 20 (drop 12 name)) (codes ".json")))

abbrev pub is_stray_name : List ℕ → Bool
is_stray_name name = not (is_leftover_name name)

-- What a target of these names, in byte order, stands at, of which none is a version's.
abbrev pub IsSeenIn : List (List ℕ) → Seen DeltaKept → Type 0
IsSeenIn names Absent = find is_stray_name names ≡ None
IsSeenIn names (Ours kept) = ⊥
IsSeenIn names (Foreign path) = (name : List ℕ) × (find is_stray_name names ≡ Some name) × (path ≡ path_of name)

-- ---- versions

-- The version is there, and none after it.
pub record IsNewest (files : Files) (version : ℕ) : Type 0 where
  pub there : HasVersion files version
  pub last : (other : ℕ) → HasVersion files other → other ≤ version

-- The newest metadata of the log is the newest version's own, and its mark names that version.
pub record IsMarkOf (log : Log) (newest : ℕ) (mark : Mark) : Type 0 where
  pub own : log.meta_version ≡ newest
  pub text : List ℕ
  pub found : setting mark_setting log.meta.configuration ≡ Some text
  pub reads : IsMarkText text mark
  pub at : mark.at ≡ decimal newest

-- What is kept of a log whose newest version has this mark.
pub record IsKeptOf (log : Log) (newest : ℕ) (mark : Mark) (kept : DeltaKept) : Type 0 where
  pub table : kept.table ≡ log.table
  pub marked : kept.mark ≡ Some mark
  pub commits : kept.commits ≡ newest + 1
  pub id : kept.id ≡ log.meta.id
  pub ntz : kept.names_ntz ≡ names_ntz log.protocol

-- A log up to its newest version is ours for a source of this format where its mark names that format, and else the newest version's path is told.
abbrev pub IsSeenOf : Log → ℕ → Kind → Seen DeltaKept → Type 0
IsSeenOf log newest source Absent = ⊥
IsSeenOf log newest source (Ours kept) = (mark : Mark) × IsMarkOf log newest mark × (mark.source ≡ source) × IsKeptOf log newest mark kept
IsSeenOf log newest source (Foreign path) = IsVersionPath path newest × ((mark : Mark) → IsMarkOf log newest mark → mark.source ≢ source)

-- ---- why a log isn't read

abbrev pub limit_of : LimitKind → TargetError
limit_of which = target.Limit which (limit_number Delta which)

-- the version that is at fault, or the target's own refusal
abbrev pub fault_in : ℕ → DeltaError → Result ℕ TargetError
fault_in version delta.Memory = Err target.Memory
fault_in version (delta.Malformed line) = Ok version
fault_in version (delta.DoublePath line) = Ok version
fault_in version (delta.Unsupported feature line) = Ok version
fault_in version (delta.Limit which) = Err (limit_of which)

abbrev pub faulty_version : LogError → Result ℕ TargetError
faulty_version log.Memory = Err target.Memory
faulty_version log.StoreFault = Err target.StoreFault
faulty_version log.ManyNames = Err (limit_of limit.Names)
faulty_version log.ManyCommits = Err (limit_of limit.Commits)
faulty_version (log.Missing version) = Ok version
faulty_version (log.Large version) = Err (limit_of limit.File)
faulty_version (log.Refused version error) = fault_in version error

-- the path of the version that is at fault
abbrev pub IsToldOf : LogError → Seen DeltaKept → Type 0
IsToldOf error Absent = ⊥
IsToldOf error (Ours kept) = ⊥
IsToldOf error (Foreign path) = (version : ℕ) × (faulty_version error ≡ Ok version) × IsVersionPath path version

abbrev pub IsRefusalOf : LogError → TargetError → Type 0
IsRefusalOf error e = (e ≡ target.Memory) ⊎ (faulty_version error ≡ Err e)

-- ---- a log of more versions than are read

-- Behind as many versions as are read the next one is told where it is missing. `longer` says whether it is there.
abbrev pub IsGapBehind : Bool → Seen DeltaKept → Type 0
IsGapBehind longer Absent = ⊥
IsGapBehind longer (Ours kept) = ⊥
IsGapBehind longer (Foreign path) = (longer ≡ false) × IsVersionPath path MAX_COMMITS

abbrev pub IsRefusalBehind : ℕ → Bool → TargetError → Type 0
IsRefusalBehind newest longer e = (e ≡ target.Memory) ⊎ ((MAX_COMMITS ≤ newest) × (longer ≡ true) × (e ≡ limit_of limit.Commits))
