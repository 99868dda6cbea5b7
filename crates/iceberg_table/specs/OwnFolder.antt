-- What is said of an Iceberg table depends on the files in its folder of metadata alone.
use Rattle.std.proofs.Common.{◌≡◌, ◌≢◌, inl, inr, ℕ, pos, List, [], ◌∷◌, ◌++◌, Contains, Option, refl, sym, subst, ◌∙◌, ⊎_elim}
use Rattle.std.specs.Prelude.{IsSome}
use Rattle.std.proofs.lemmas.List.Elements.{Contains-append_left, Contains-append_right}
use Rattle.std.specs.FinMap as map
use Rattle.lake_store.specs.Disk.{Files, front_of, names_in}
use Rattle.lake_store.proofs.OrderLaws.{names_in_listed}
use Rattle.lake_store.specs.Runs.{IsIn}
use Rattle.table_history.specs.Row.{Row}
use Rattle.table_history.proofs.RowListLemmas.{Contains-cases, Contains-head, Contains-none, Contains-tail}
use Rattle.table_history.specs.declared.table.Table.{Table}
use Rattle.iceberg_manifest.specs.Entry.{EntryData}
use Rattle.iceberg_manifest.specs.Lists.{AreEach}
use Rattle.iceberg_live.specs.MetadataPaths.{LiesInMetadata}
use Rattle.iceberg_manifest.specs.declared.info.ManifestInfo.{ManifestInfo}
use Rattle.iceberg_manifest.specs.declared.partition.PartColumn.{PartColumn}
use Rattle.iceberg_live.specs.declared.live.LiveRow.{LiveRow}
use Rattle.iceberg_metadata.specs.declared.metadata.Metadata.{Metadata}
use Rattle.iceberg_metadata.specs.declared.metadata.Snapshot.{Snapshot}
use Rattle.iceberg_table.specs.Files.{HoldsFile, SaysMetadata}
use Rattle.iceberg_table.specs.Errors.{IsFileFault}
use Rattle.iceberg_table.specs.Folder.{HasVersion, metadata_folder, version_path}
use Rattle.iceberg_table.specs.Lists.{IsListFault, IsListed, SaysList}
use Rattle.iceberg_table.specs.Manifests.{AreManifestsRefused, HasEntries, IsManifestOf, IsManifestRefusal, SaysManifest, SharesFile}
use Rattle.iceberg_table.specs.Once.{counted_before}
use Rattle.iceberg_table.specs.Plan.{part_columns}
use Rattle.iceberg_table.specs.Refusals.{IsListedRefusal, IsMetadataFault, IsSnapshotRefusal}
use Rattle.iceberg_table.specs.Snapshots.{IsLiveIn, IsReadAs, IsReadBy, IsTableOfSnapshot}
use Rattle.iceberg_table.specs.declared.error.Fault.{Fault}
use Rattle.iceberg_table.specs.declared.error.IcebergError.{IcebergError}
use Rattle.iceberg_table.specs.declared.error.IcebergError.TheVariants as error
use Rattle.iceberg_table.specs.declared.list.ManifestFile.{ManifestFile}
use Rattle.iceberg_table.specs.declared.manifest.Manifest.{Manifest}
use Rattle.iceberg_table.specs.declared.plan.Plan.{Plan}
use Rattle.iceberg_table.specs.declared.snapshot.SnapshotTable.{SnapshotTable}

-- The two have the same files of metadata.
abbrev pub SameMetadataFiles : Files → Files → Type 0
SameMetadataFiles a b = (path : List ℕ) → IsIn metadata_folder path → map.get b path ≡ map.get a path

pub files_back : (a b : Files) → SameMetadataFiles a b → SameMetadataFiles b a
files_back a b same path within = sym (same path within)

pub version_within : (version : ℕ) → IsIn metadata_folder (version_path version)
version_within version = (_, refl)

pub lies_within : (path : List ℕ) → LiesInMetadata path → IsIn metadata_folder path
lies_within path lies = (lies.0, lies.1)

-- a manifest that a list names lies in the folder
listed_within : (m : Metadata) (infos : List ManifestInfo) (list : List ManifestFile) (file : ManifestFile) → AreEach (IsListed m) infos list → Contains list file → IsIn metadata_folder file.path
listed_within m infos [] file are there = absurd (Contains-none file there)
listed_within m [] (g ∷ list) file are there = absurd are
listed_within m (info ∷ infos) (g ∷ list) file are there =
    ⊎_elim (λ same. subst (λ (f : ManifestFile). IsIn metadata_folder f.path) same (lies_within g.path are.0.path.within)) (λ later. listed_within m infos list file are.1 later) (Contains-cases g list file there)

module _ (a b : Files) (same : SameMetadataFiles a b) where
  holds_too : (path bytes : List ℕ) → IsIn metadata_folder path → HoldsFile a path bytes → HoldsFile b path bytes
  holds_too path bytes within holds = same path within ∙ holds

  pub metadata_too : (version : ℕ) (m : Metadata) → SaysMetadata a version m → SaysMetadata b version m
  metadata_too version m h = record { bytes = h.bytes; holds = holds_too (version_path version) h.bytes (version_within version) h.holds; small = h.small; read = h.read; supported = h.supported; acyclic = h.acyclic }

  pub list_too : (m : Metadata) (path : List ℕ) (list : List ManifestFile) → IsIn metadata_folder path → SaysList a m path list → SaysList b m path list
  list_too m path list within h = record { bytes = h.bytes; holds = holds_too path h.bytes within h.holds; infos = h.infos; rows = h.rows; listed = h.listed }

  pub manifest_too : (columns : List PartColumn) (path : List ℕ) (entries : List EntryData) → IsIn metadata_folder path → SaysManifest a columns path entries → SaysManifest b columns path entries
  manifest_too columns path entries within h = record { bytes = h.bytes; holds = holds_too path h.bytes within h.holds; are = h.are }

  pub entries_too : (location : List ℕ) (columns : List PartColumn) (r : Manifest) → IsIn metadata_folder r.file.path → HasEntries a location columns r → ((entries : List EntryData) → SaysManifest b columns r.file.path entries → SaysManifest a columns r.file.path entries) → HasEntries b location columns r
  entries_too location columns r within h back = record { entries = h.entries; says = manifest_too columns r.file.path h.entries within h.says; only = λ others says. h.only others (back others says); count = h.count; rows = h.rows }

  pub fault_too : (path : List ℕ) (Shows : List ℕ → Fault → Type 0) (e : IcebergError) → IsIn metadata_folder path → IsFileFault a path Shows e → IsFileFault b path Shows e
  fault_too path Shows error.Memory within h = h
  fault_too path Shows error.StoreFault within h = h
  fault_too path Shows error.ManyNames within h = h
  fault_too path Shows (error.Missing p) within h = (h.0, same path within ∙ h.1)
  fault_too path Shows (error.Large p) within h = (h.0, h.1, holds_too path h.1 within h.2, h.3)
  fault_too path Shows (error.Refused p f) within h = (h.0, h.1, holds_too path h.1 within h.2, h.3)

  -- a manifest that isn't read
  pub manifest_refusal_too : (location : List ℕ) (columns : List PartColumn) (before : ℕ) (file : ManifestFile) (e : IcebergError) → IsIn metadata_folder file.path → IsManifestRefusal a location columns before file e → IsManifestRefusal b location columns before file e
  manifest_refusal_too location columns before file error.Memory within h = h
  manifest_refusal_too location columns before file error.StoreFault within h = h
  manifest_refusal_too location columns before file error.ManyNames within h = h
  manifest_refusal_too location columns before file (error.Missing p) within h = (h.0, same file.path within ∙ h.1)
  manifest_refusal_too location columns before file (error.Large p) within h = (h.0, (h.1.0, holds_too file.path h.1.0 within h.1.1, h.1.2, h.1.3))
  manifest_refusal_too location columns before file (error.Refused p f) within h = (h.0, (h.1.0, holds_too file.path h.1.0 within h.1.1, h.1.2, h.1.3))

  -- the newest metadata that can't be read
  pub version_refusal_too : (version : ℕ) (e : IcebergError) → IsFileFault a (version_path version) IsMetadataFault e → IsFileFault b (version_path version) IsMetadataFault e
  version_refusal_too version e h = fault_too (version_path version) IsMetadataFault e (version_within version) h

  pub name_too : (name : List ℕ) → Contains (names_in a metadata_folder) name → Contains (names_in b metadata_folder) name
  name_too name there =
      let is = ((names_in_listed a metadata_folder).members name).0 there in
      ((names_in_listed b metadata_folder).members name).1 (is.0, subst (λ (o : Option (List ℕ)). IsSome o) (sym (same (front_of metadata_folder ++ name) (name, refl))) is.1)

  pub version_too : (version : ℕ) → HasVersion a version → HasVersion b version
  version_too version h = (h.0, name_too h.0 h.1, h.2)

  pub live_too : (m : Metadata) (s : Snapshot) (row : Row) → IsLiveIn a m s row → IsLiveIn b m s row
  live_too m s row h =
      let at = listed_within m h.listed.infos h.list h.file h.listed.listed h.named in
      record {
        plan = h.plan;
        planned = h.planned;
        list = h.list;
        listed = list_too m h.plan.list h.list (lies_within h.plan.list h.planned.list.within) h.listed;
        file = h.file;
        named = h.named;
        of_data = h.of_data;
        entries = h.entries;
        says = manifest_too _ h.file.path h.entries at h.says;
        entry = h.entry;
        held = h.held;
        live = h.live;
        is = h.is;
        same = h.same;
      }

-- a snapshot's table
pub table_too : (a b : Files) → SameMetadataFiles a b → (m : Metadata) (s : Snapshot) (t : Table) → IsTableOfSnapshot a m s t → IsTableOfSnapshot b m s t
table_too a b same m s t h = record {
  plan = h.plan;
  planned = h.planned;
  schema = h.schema;
  partition = h.partition;
  rows = λ row. (λ there. live_too a b same m s row ((h.rows row).0 there), λ live. (h.rows row).1 (live_too b a (files_back a b same) m s row live));
}

-- ---- what is read

module _ (a b : Files) (same : SameMetadataFiles a b) (location : List ℕ) (columns : List PartColumn) where
  back_too : (path : List ℕ) → IsIn metadata_folder path → (entries : List EntryData) → SaysManifest b columns path entries → SaysManifest a columns path entries
  back_too path within entries says = manifest_too b a (files_back a b same) columns path entries within says

  of_file_too : (file : ManifestFile) (r : Manifest) → IsIn metadata_folder file.path → IsManifestOf a location columns file r → IsManifestOf b location columns file r
  of_file_too file r within h =
      let there = subst (λ (f : ManifestFile). IsIn metadata_folder f.path) (sym h.0) within in (
        h.0,
        ⊎_elim
            (λ (d : (file.info.content ≡ pos 0) × HasEntries a location columns r). inl (d.0, entries_too a b same location columns r there d.1 (back_too r.file.path there)))
            (λ (d : (file.info.content ≢ pos 0) × ((all : List LiveRow) × HasEntries a location columns (record { file = r.file; entries = r.entries; rows = all })) × (r.rows ≡ [])). inr (
              d.0,
              (d.1.0, entries_too a b same location columns (record { file = r.file; entries = r.entries; rows = d.1.0 }) there d.1.1 (back_too r.file.path there)),
              d.2,
            ))
            h.1,
      )

  of_files_too : (list : List ManifestFile) (rs : List Manifest) → ((f : ManifestFile) → Contains list f → IsIn metadata_folder f.path) → AreEach (IsManifestOf a location columns) list rs → AreEach (IsManifestOf b location columns) list rs
  of_files_too [] [] within h = tt
  of_files_too [] (r ∷ rs) within h = absurd h
  of_files_too (f ∷ list) [] within h = absurd h
  of_files_too (f ∷ list) (r ∷ rs) within h = (of_file_too f r (within f (Contains-head f list)) h.0, of_files_too list rs (λ g there. within g (Contains-tail f list g there)) h.1)

  stops_too : (path : List ℕ) (list : List ManifestFile) (e : IcebergError) → ((f : ManifestFile) → Contains list f → IsIn metadata_folder f.path) → AreManifestsRefused a location columns path list e → AreManifestsRefused b location columns path list e
  stops_too path list e within h =
      let in_front : (f : ManifestFile) → Contains h.front f → IsIn metadata_folder f.path = λ f there. within f (subst (λ (l : List ManifestFile). Contains l f) (sym h.split) (Contains-append_left h.front (h.item ∷ h.behind) f there)) in
      let at = within h.item (subst (λ (l : List ManifestFile). Contains l h.item) (sym h.split) (Contains-append_right h.front (h.item ∷ h.behind) h.item (Contains-head h.item h.behind))) in
      record {
        front = h.front;
        item = h.item;
        behind = h.behind;
        split = h.split;
        found = h.found;
        are = of_files_too h.front h.found in_front h.are;
        refused = (
          h.refused.0,
          h.refused.1,
          ⊎_elim
              (λ refusal. inl (manifest_refusal_too a b same location columns (counted_before h.item.path h.found) h.item e at refusal))
              (λ (shares : SharesFile a location columns path h.found h.item e). inr (shares.0, of_file_too h.item shares.0 at shares.1, shares.2, shares.3))
              h.refused.2,
        );
      }

module _ (a b : Files) (same : SameMetadataFiles a b) (m : Metadata) where
  list_within : (path : List ℕ) (list : List ManifestFile) → SaysList a m path list → (f : ManifestFile) → Contains list f → IsIn metadata_folder f.path
  list_within path list says f there = listed_within m says.infos list f says.listed there

  pub read_by_too : (plan : Plan) (t : SnapshotTable) → IsIn metadata_folder plan.list → IsReadBy a m plan t → IsReadBy b m plan t
  read_by_too plan t within h = record {
    list = h.list;
    says = list_too a b same m plan.list h.list within h.says;
    only = λ others says. h.only others (list_too b a (files_back a b same) m plan.list others within says);
    manifests = of_files_too a b same m.location (part_columns plan.columns) h.list t.manifests (list_within plan.list h.list h.says) h.manifests;
    few = h.few;
    table = h.table;
  }

  pub read_as_too : (s : Snapshot) (t : SnapshotTable) → IsReadAs a m s t → IsReadAs b m s t
  read_as_too s t h = (h.0, h.1, read_by_too h.0 t (lies_within h.0.list h.1.list.within) h.2)

  listed_refusal_too : (plan : Plan) (e : IcebergError) → IsIn metadata_folder plan.list → IsListedRefusal a m plan e → IsListedRefusal b m plan e
  listed_refusal_too plan e within (inl fault) = inl (fault_too a b same plan.list (IsListFault m) e within fault)
  listed_refusal_too plan e within (inr (list, says, inl stops)) =
      inr (list, list_too a b same m plan.list list within says, inl (stops_too a b same m.location (part_columns plan.columns) plan.list list e (list_within plan.list list says) stops))
  listed_refusal_too plan e within (inr (list, says, inr (manifests, are, many))) =
      inr (list, list_too a b same m plan.list list within says, inr (manifests, of_files_too a b same m.location (part_columns plan.columns) list manifests (list_within plan.list list says) are, many))

  -- a snapshot that isn't read
  pub snapshot_refusal_too : (version : ℕ) (s : Snapshot) (e : IcebergError) → IsSnapshotRefusal a m version s e → IsSnapshotRefusal b m version s e
  snapshot_refusal_too version s e (inl told) = inl told
  snapshot_refusal_too version s e (inr (plan, planned, refused)) = inr (plan, planned, listed_refusal_too plan e (lies_within plan.list planned.list.within) refused)
