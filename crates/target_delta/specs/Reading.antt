-- What a Delta target's files stand for, and what a version carries.
use Rattle.std.specs.Prelude.{◌≡◌, ◌↔◌, ◌⊎◌, ℕ, zero, suc, List, length, filter_map, find, ◌==◌, ◌&&◌, nat_le, Bool, take, drop, Contains, Option, None, Some, IsSome, option_map, codes, if◌then◌else◌}
use Rattle.std.specs.FinMap as map
use Rattle.std.specs.Fmt.{decimal}
use Rattle.std.specs.List.{list_all}
use Rattle.std.specs.Char.{digit_value}
use Rattle.std.specs.Prelude.{nat_lt}
use Rattle.std.specs.Str.{bytes_eq}
use Rattle.std.specs.Str.Parse.{digits_value}
use Rattle.lake_basics.specs.declared.limits.TheConstants.{MAX_DELTA_VERSION}
use Rattle.lake_store.specs.Disk.{Files, IsName, names_in}
use Rattle.table_history.specs.Row.{Row}
use Rattle.table_history.specs.TypeTree.{ColumnTrees}
use Rattle.table_history.specs.declared.table.Change.{Change}
use Rattle.delta_live.specs.Live.{AddsRow, PartColumns, ArePartColumns}
use Rattle.delta_change.specs.TableBehind.{Spells}
use Rattle.delta_log.specs.declared.commit.DeltaCommit.{DeltaCommit}
use Rattle.delta_log.specs.declared.commit.FileAction.{FileAction}
use Rattle.delta_log.specs.declared.commit.FileAction.TheVariants as file
use Rattle.delta_log.specs.declared.commit.MetaData.{MetaData}
use Rattle.delta_table.specs.Log.{HasLiveRows, IsLog, IsNewestMeta, SaysCommit}
use Rattle.delta_table.specs.Versions.{HasVersion, log_folder}
use Rattle.target_core.specs.Changes.{IsGone}
use Rattle.target_core.specs.Mark.{IsMarkText}
use Rattle.target_core.specs.Views.{IsUnpublished, Standing, View, standing_of}
use Rattle.target_core.specs.declared.mark.Mark.{Mark}
use Rattle.target_delta.specs.Names.{HasVersions, IsLeftoverName, path_of}

-- ---- the mark

-- the value of the first setting of this name
abbrev pub setting : List ℕ → List (List ℕ × List ℕ) → Option (List ℕ)
setting name settings = option_map (λ p. p.1) (find (λ p. bytes_eq p.0 name) settings)

abbrev pub mark_setting : List ℕ
mark_setting = codes "lakebridge.mark"

-- The metadata of the commit has this mark among its settings.
pub record HasMark (commit : DeltaCommit) (mark : Mark) : Type 0 where
  pub meta : MetaData
  pub stated : commit.meta ≡ Some meta
  pub text : List ℕ
  pub found : setting mark_setting meta.configuration ≡ Some text
  pub reads : IsMarkText text mark

-- The version has a mark of its own, which names that version and says this.
pub record IsMarkAt (files : Files) (version : ℕ) (standing : Standing) : Type 0 where
  pub commit : DeltaCommit
  pub read : SaysCommit files version commit
  pub mark : Mark
  pub has : HasMark commit mark
  pub at : mark.at ≡ decimal version
  pub is : standing_of mark ≡ standing

-- ---- what the files stand for

-- No version is there, and the folder has no name but those that a commit may have been staged under.
pub record IsAbsent (files : Files) : Type 0 where
  pub versions : (version : ℕ) → ¬ HasVersion files version
  pub names : (name : List ℕ) → IsName name → IsSome (map.get files (path_of name)) → IsLeftoverName name

-- The versions are all there from 0 on, each read and taken over those before it, the rows are the live ones behind the newest (Delta protocol,
-- "Action Reconciliation"), and the newest has its own mark.
pub record IsOurs (files : Files) (view : View) : Type 0 where
  pub newest : ℕ
  pub count : view.commits ≡ suc newest
  pub versions : HasVersions files (suc newest)
  pub log : IsLog files (suc newest) (Some view.table)
  pub live : HasLiveRows files (suc newest) view.table
  pub standing : Standing
  pub mark : view.mark ≡ Some standing
  pub marked : IsMarkAt files newest standing

abbrev pub Reads : Files → View → Type 0
Reads files view = (IsAbsent files × IsUnpublished view) ⊎ IsOurs files view

-- ---- how many versions there are

abbrev pub is_digit : ℕ → Bool
is_digit c = nat_lt (digit_value c) 10

-- whether the name is that of a version
abbrev pub is_version_name : List ℕ → Bool
is_version_name name = (length name == 25) && (list_all is_digit (take 20 name) && (bytes_eq (drop 20 name) (codes ".json") && nat_le (digits_value 10 (take 20 name)) MAX_DELTA_VERSION))

-- the version that a name is of
abbrev pub version_named : List ℕ → Option ℕ
version_named name = if is_version_name name then Some (digits_value 10 (take 20 name)) else None

-- the versions in the folder, in byte order of their names
abbrev pub versions_in : Files → List ℕ
versions_in files = filter_map version_named (names_in files (log_folder))

abbrev pub commits_in : Files → ℕ
commits_in files = length (versions_in files)

-- ---- what a version carries

-- The table goes on with its id: that of the newest metadata before the version, and in version 0 the id of a new table.
abbrev pub KeepsId : List ℕ → Files → ℕ → List ℕ → Type 0
KeepsId new files zero id = id ≡ new
KeepsId new files (suc version) id = (before : MetaData) × IsNewestMeta files (suc version) before × (id ≡ before.id)

-- The commit of this number, counted from 1, is the version before that number. Its adds are the added rows, its removes the paths that are
-- removed and not added again, its metadata keeps the table's id, and its mark says this. `new` is the id of a new table.
pub record IsCarried (new : List ℕ) (files : Files) (number : ℕ) (change : Change) (standing : Standing) : Type 0 where
  pub version : ℕ
  pub is : number ≡ suc version
  pub commit : DeltaCommit
  pub read : SaysCommit files version commit
  pub meta : MetaData
  pub stated : commit.meta ≡ Some meta
  pub keeps : KeepsId new files version meta.id
  pub schema : ColumnTrees
  pub spelled : Spells meta schema
  pub columns : PartColumns
  pub kinds : ArePartColumns schema meta.partition columns
  pub adds : (row : Row) → Contains change.added row ↔ ((f : FileAction) × Contains commit.files f × AddsRow columns f row)
  pub removes : (path : List ℕ) → IsGone change path ↔ Contains commit.files (file.Remove path)
  pub marked : IsMarkAt files version standing
