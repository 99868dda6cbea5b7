-- What an Iceberg target's files stand for, and what a version carries (Iceberg specification, "Table Metadata and Snapshots").
use Rattle.std.specs.Prelude.{◌≡◌, ◌↔◌, ◌⊎◌, ◌<◌, ◌++◌, ℕ, zero, suc, pos, nat_le, List, fold, length, filter_map, find, take, drop, ◌-◌, ◌&&◌, max, Contains, Option, None, Some, IsSome, option_map, codes, if◌then◌else◌}
use Rattle.std.specs.FinMap as map
use Rattle.std.specs.Fmt.{decimal}
use Rattle.std.specs.Str.{bytes_eq}
use Rattle.std.specs.Str.Parse.{digits_value}
use Rattle.lake_basics.specs.declared.limits.TheConstants.{MAX_ICEBERG_VERSION}
use Rattle.lake_store.specs.Disk.{Files, IsName, names_in}
use Rattle.table_history.specs.Row.{Row}
use Rattle.table_history.specs.Rows.{HasDistinctPaths}
use Rattle.table_history.specs.declared.table.Change.{Change}
use Rattle.iceberg_manifest.specs.Entry.{EntryData}
use Rattle.iceberg_manifest.specs.Lists.{AreEach}
use Rattle.iceberg_live.specs.Live.{IsRowOf}
use Rattle.iceberg_metadata.specs.Location.{front_of}
use Rattle.iceberg_manifest.specs.declared.info.ManifestInfo.{ManifestInfo}
use Rattle.iceberg_live.specs.declared.live.LiveRow.{LiveRow}
use Rattle.iceberg_ancestry.specs.Ancestry.{held_at}
use Rattle.iceberg_metadata.specs.declared.metadata.Metadata.{Metadata}
use Rattle.iceberg_metadata.specs.declared.metadata.Snapshot.{Snapshot}
use Rattle.iceberg_table.specs.Files.{SaysMetadata}
use Rattle.iceberg_table.specs.Folder.{HasVersion, IsNewest, metadata_folder, path_of}
use Rattle.iceberg_table.specs.Lists.{SaysList}
use Rattle.iceberg_table.specs.Manifests.{IsManifestOf, SaysManifest}
use Rattle.iceberg_table.specs.Plan.{IsPlanOf, part_columns}
use Rattle.iceberg_table.specs.Snapshots.{IsTableOfSnapshot}
use Rattle.iceberg_table.specs.Tables.{rows_of}
use Rattle.iceberg_table.specs.declared.list.ManifestFile.{ManifestFile}
use Rattle.iceberg_table.specs.declared.manifest.Manifest.{Manifest}
use Rattle.iceberg_table.specs.declared.plan.Plan.{Plan}
use Rattle.target_iceberg.specs.Leftovers.{IsLeftoverName}
use Rattle.iceberg_version.specs.Writing.{mark_property}
use Rattle.target_core.specs.Mark.{IsMarkText}
use Rattle.target_core.specs.Views.{IsUnpublished, Standing, View, standing_of}
use Rattle.target_core.specs.declared.mark.Mark.{Mark}
use Rattle.target_iceberg.specs.Form.{HasOwnForm}

-- ---- the mark

-- the value of the first property of this name
abbrev pub property : List ℕ → List (List ℕ × List ℕ) → Option (List ℕ)
property name properties = option_map (λ p. p.1) (find (λ p. bytes_eq p.0 name) properties)

-- The metadata has this mark among its properties.
pub record HasMark (m : Metadata) (mark : Mark) : Type 0 where
  pub text : List ℕ
  pub found : property mark_property m.properties ≡ Some text
  pub reads : IsMarkText text mark

-- The metadata has a mark that names this version and says this.
pub record IsMarked (m : Metadata) (version : ℕ) (standing : Standing) : Type 0 where
  pub mark : Mark
  pub has : HasMark m mark
  pub at : mark.at ≡ decimal version
  pub is : standing_of mark ≡ standing

-- ---- what the files stand for

-- the current snapshot
abbrev pub IsCurrent : Metadata → Snapshot → Type 0
IsCurrent m s = held_at m.snapshots m.current_snapshot ≡ Some s

-- No version is there, and the folder has no name but those that a commit may have written and not published.
pub record IsAbsent (files : Files) : Type 0 where
  pub versions : (version : ℕ) → ¬ HasVersion files version
  pub names : (name : List ℕ) → IsName name → IsSome (map.get files (path_of name)) → IsLeftoverName name

-- The snapshot's list and each manifest that it names are there, in their grammar and without a feature that isn't supported. No two live rows of them
-- have one path.
pub record SaysSnapshot (files : Files) (m : Metadata) (s : Snapshot) (plan : Plan) (list : List ManifestFile) (manifests : List Manifest) : Type 0 where
  pub planned : IsPlanOf m s plan
  pub says : SaysList files m plan.list list
  pub are : AreEach (IsManifestOf files m.location (part_columns plan.columns)) list manifests
  pub distinct : HasDistinctPaths (rows_of manifests)

-- all that the metadata names of its current snapshot
pub record SaysCurrent (files : Files) (m : Metadata) : Type 0 where
  pub snapshot : Snapshot
  pub current : IsCurrent m snapshot
  pub plan : Plan
  pub list : List ManifestFile
  pub manifests : List Manifest
  pub says : SaysSnapshot files m snapshot plan list manifests

-- The newest version is read. It has its own mark and the form that commits go on from, and its current snapshot stands for the table.
pub record IsOurs (files : Files) (view : View) : Type 0 where
  pub first : 0 < view.commits
  pub newest : IsNewest (HasVersion files) view.commits
  pub metadata : Metadata
  pub says : SaysMetadata files view.commits metadata
  pub standing : Standing
  pub mark : view.mark ≡ Some standing
  pub marked : IsMarked metadata view.commits standing
  pub form : HasOwnForm view.commits metadata
  pub current : SaysCurrent files metadata
  pub table : IsTableOfSnapshot files metadata current.snapshot view.table
  pub distinct : HasDistinctPaths view.table.rows

abbrev pub Reads : Files → View → Type 0
Reads files view = (IsAbsent files × IsUnpublished view) ⊎ IsOurs files view

-- ---- how many versions there are

-- what stands between the `v` and the `.metadata.json` of a version's name
abbrev pub version_digits : List ℕ → List ℕ
version_digits name = take (length name - 15) (drop 1 name)

abbrev pub version_name : ℕ → List ℕ
version_name version = codes "v" ++ (decimal version ++ codes ".metadata.json")

-- the version that a name is of
abbrev pub version_named : List ℕ → Option ℕ
version_named name =
    if bytes_eq name (version_name (digits_value 10 (version_digits name))) && nat_le (digits_value 10 (version_digits name)) MAX_ICEBERG_VERSION
    then Some (digits_value 10 (version_digits name)) else None

-- the newest version, and 0 where there is none
abbrev pub commits_in : Files → ℕ
commits_in files = fold max 0 (filter_map version_named (names_in files metadata_folder))

-- ---- what a version carries

-- The table goes on with its id: that of the version before, and in the first version the id of a new table.
abbrev pub KeepsId : List ℕ → Files → ℕ → List ℕ → Type 0
KeepsId new files zero id = ⊥
KeepsId new files (suc zero) id = id ≡ new
KeepsId new files (suc (suc version)) id = (before : Metadata) × HasVersion files (suc version) × SaysMetadata files (suc version) before × (id ≡ before.uuid)

-- Some manifest of data that the list names holds the entry, and this is the manifest's row in the list.
pub record IsEntryIn (files : Files) (plan : Plan) (list : List ManifestFile) (info : ManifestInfo) (entry : EntryData) : Type 0 where
  pub file : ManifestFile
  pub named : Contains list file
  pub row : file.info ≡ info
  pub of_data : info.content ≡ pos 0
  pub entries : List EntryData
  pub says : SaysManifest files (part_columns plan.columns) file.path entries
  pub held : Contains entries entry

-- The entry adds the row in the snapshot of this number.
pub record Adds (location : List ℕ) (number : ℕ) (info : ManifestInfo) (entry : EntryData) (row : Row) : Type 0 where
  pub status : entry.status ≡ 1
  pub live : LiveRow
  pub is : IsRowOf location info entry live
  pub snapshot : live.snapshot ≡ pos number
  pub same : live.row ≡ row

-- The entry deletes the file at this path in the snapshot of this number.
pub record Deletes (location : List ℕ) (number : ℕ) (entry : EntryData) (path : List ℕ) : Type 0 where
  pub status : entry.status ≡ 2
  pub snapshot : entry.snapshot ≡ Some (pos number)
  pub place : entry.path ≡ front_of location ++ path

-- The commit of this number is the version of that number. Over the manifests of its current list, the entries that its snapshot adds are the added rows,
-- and those that it deletes have the removed paths. It keeps the table's id, and its mark says this. `new` is the id of a new table.
pub record IsCarried (new : List ℕ) (files : Files) (number : ℕ) (change : Change) (standing : Standing) : Type 0 where
  pub there : HasVersion files number
  pub metadata : Metadata
  pub says : SaysMetadata files number metadata
  pub id : KeepsId new files number metadata.uuid
  pub marked : IsMarked metadata number standing
  pub current : SaysCurrent files metadata
  pub adds : (row : Row) → Contains change.added row ↔ ((info : ManifestInfo) × (entry : EntryData) × IsEntryIn files current.plan current.list info entry × Adds metadata.location number info entry row)
  pub removes : (path : List ℕ) → Contains change.removed path ↔ ((info : ManifestInfo) × (entry : EntryData) × IsEntryIn files current.plan current.list info entry × Deletes metadata.location number entry path)
