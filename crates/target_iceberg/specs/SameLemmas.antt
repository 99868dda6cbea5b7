-- What is said of an Iceberg target's files depends on the files that its versions reach.
use Rattle.std.proofs.Common.{◌≡◌, inl, inr, ℕ, zero, suc, List, [], ◌∷◌, Contains, Option, refl, sym, ap, subst, ◌∙◌}
use Rattle.std.specs.Prelude.{IsSome}
use Rattle.std.specs.FinMap as map
use Rattle.lake_store.specs.Disk.{Files}
use Rattle.lake_store.proofs.OrderLaws.{names_in_listed}
use Rattle.lake_store.specs.Runs.{IsIn}
use Rattle.table_history.specs.Row.{Row}
use Rattle.table_history.proofs.RowListLemmas.{Contains-head, Contains-tail}
use Rattle.table_history.specs.declared.table.Change.{Change}
use Rattle.table_history.specs.declared.table.Table.{Table}
use Rattle.iceberg_manifest.specs.Entry.{EntryData}
use Rattle.iceberg_manifest.specs.Lists.{AreEach}
use Rattle.iceberg_manifest.specs.declared.info.ManifestInfo.{ManifestInfo}
use Rattle.iceberg_manifest.specs.declared.partition.PartColumn.{PartColumn}
use Rattle.iceberg_metadata.specs.declared.metadata.Metadata.{Metadata}
use Rattle.iceberg_metadata.specs.declared.metadata.Snapshot.{Snapshot}
use Rattle.iceberg_table.specs.Files.{SaysMetadata}
use Rattle.iceberg_table.specs.Folder.{HasVersion, IsNewest, metadata_folder, path_of, version_path}
use Rattle.iceberg_table.specs.Lists.{IsListed, SaysList}
use Rattle.iceberg_table.specs.Manifests.{HasEntries, IsManifestOf, SaysManifest}
use Rattle.iceberg_table.specs.OwnFolder.{lies_within, version_within}
use Rattle.iceberg_table.specs.Plan.{IsPlanOf, part_columns}
use Rattle.iceberg_table.specs.Snapshots.{IsLiveIn, IsTableOfSnapshot}
use Rattle.iceberg_table.specs.declared.list.ManifestFile.{ManifestFile}
use Rattle.iceberg_table.specs.declared.manifest.Manifest.{Manifest}
use Rattle.iceberg_table.specs.declared.plan.Plan.{Plan}
use Rattle.iceberg_table.proofs.EachLaws.{each_back}
use Rattle.target_core.specs.Views.{Standing, View}
use Rattle.target_iceberg.specs.Reached.{CanGoOn, HasOwnEntries, IsReached, LeavesNames, NamesList, NamesManifest}
use Rattle.target_iceberg.specs.Reading.{IsCarried, IsEntryIn, IsOurs, KeepsId, SaysCurrent, SaysSnapshot}
use Rattle.target_iceberg.specs.OnceLemmas.{current_in}

-- ---- what is reached lies in the folder

pub reached_in : (files : Files) (path : List ℕ) → IsReached files path → IsIn metadata_folder path
reached_in files path (IsReached.metadata version there is) = subst (IsIn metadata_folder) (sym is) (version_within version)
reached_in files path (IsReached.list h) = lies_within path h.is.within
reached_in files path (IsReached.manifest h) = lies_within path h.is.within

-- A version that is there is reached.
pub version_reached : (files : Files) (version : ℕ) → HasVersion files version → IsReached files (version_path version)
version_reached files version there = IsReached.metadata version there refl

-- ---- what a version's snapshots reach

module _ (files : Files) (version : ℕ) (m : Metadata) (there : HasVersion files version) (says : SaysMetadata files version m) (s : Snapshot) (held : Contains m.snapshots s) where
  list_named : (plan : Plan) → IsPlanOf m s plan → NamesList files plan.list
  list_named plan planned = record { version = version; there = there; bytes = says.bytes; holds = says.holds; readings = says.read.readings; metadata = m; text = says.read.text; snapshot = s; held = held; is = planned.list }

  pub list_reached : (plan : Plan) → IsPlanOf m s plan → IsReached files plan.list
  list_reached plan planned = IsReached.list (list_named plan planned)

  pub manifest_reached : (plan : Plan) (list : List ManifestFile) (file : ManifestFile) → IsPlanOf m s plan → SaysList files m plan.list list → Contains list file → IsReached files file.path
  unfolding list_named
  manifest_reached plan list file planned listed named =
      let row = each_back (IsListed m) listed.infos list file listed.listed named in
      IsReached.manifest (record { list = plan.list; names = list_named plan planned; bytes = listed.bytes; holds = listed.holds; infos = listed.infos; rows = listed.rows; info = row.0; row = row.1; is = row.2.path })

-- ---- the same file

module _ (a b : Files) where
  list_at : (m : Metadata) (path : List ℕ) (list : List ManifestFile) → map.get b path ≡ map.get a path → SaysList a m path list → SaysList b m path list
  list_at m path list same h = record { bytes = h.bytes; holds = same ∙ h.holds; infos = h.infos; rows = h.rows; listed = h.listed }

  pub manifest_at : (columns : List PartColumn) (path : List ℕ) (entries : List EntryData) → map.get b path ≡ map.get a path → SaysManifest a columns path entries → SaysManifest b columns path entries
  manifest_at columns path entries same h = record { bytes = h.bytes; holds = same ∙ h.holds; are = h.are }

  version_at : (version : ℕ) (m : Metadata) → map.get b (version_path version) ≡ map.get a (version_path version) → SaysMetadata a version m → SaysMetadata b version m
  version_at version m same h = record { bytes = h.bytes; holds = same ∙ h.holds; small = h.small; read = h.read; supported = h.supported; acyclic = h.acyclic }

module _ (a b : Files) (location : List ℕ) (columns : List PartColumn) where
  has_at : (r : Manifest) → map.get b r.file.path ≡ map.get a r.file.path → HasEntries a location columns r → HasEntries b location columns r
  has_at r same h = record {
    entries = h.entries;
    says = manifest_at a b columns r.file.path h.entries same h.says;
    only = λ others says. h.only others (manifest_at b a columns r.file.path others (sym same) says);
    count = h.count;
    rows = h.rows;
  }

  of_file_at : (file : ManifestFile) (r : Manifest) → map.get b file.path ≡ map.get a file.path → IsManifestOf a location columns file r → IsManifestOf b location columns file r
  of_file_at file r same (is, inl (none, h)) = (is, inl (none, has_at r (subst (λ (f : ManifestFile). map.get b f.path ≡ map.get a f.path) (sym is) same) h))
  of_file_at file r same (is, inr (other, h, none)) =
      (is, inr (other, (h.0, has_at (record { file = r.file; entries = r.entries; rows = h.0 }) (subst (λ (f : ManifestFile). map.get b f.path ≡ map.get a f.path) (sym is) same) h.1), none))

  of_files_at : (list : List ManifestFile) (rs : List Manifest) → ((f : ManifestFile) → Contains list f → map.get b f.path ≡ map.get a f.path) → AreEach (IsManifestOf a location columns) list rs → AreEach (IsManifestOf b location columns) list rs
  of_files_at [] [] same h = tt
  of_files_at [] (r ∷ rs) same h = absurd h
  of_files_at (f ∷ list) [] same h = absurd h
  of_files_at (f ∷ list) (r ∷ rs) same h = (of_file_at f r (same f (Contains-head f list)) h.0, of_files_at list rs (λ g there. same g (Contains-tail f list g there)) h.1)

-- ---- the same snapshot

-- The two hold the same list of the snapshot, and the same manifests that it names.
pub record SameSnapshot (a b : Files) (m : Metadata) (s : Snapshot) : Type 0 where
  pub list : (plan : Plan) → IsPlanOf m s plan → map.get b plan.list ≡ map.get a plan.list
  pub manifests : (plan : Plan) (list : List ManifestFile) (file : ManifestFile) → IsPlanOf m s plan → SaysList a m plan.list list → Contains list file → map.get b file.path ≡ map.get a file.path

module _ (a b : Files) (m : Metadata) (s : Snapshot) (same : SameSnapshot a b m s) where
  pub list_too : (plan : Plan) (list : List ManifestFile) → IsPlanOf m s plan → SaysList a m plan.list list → SaysList b m plan.list list
  list_too plan list planned says = list_at a b m plan.list list (same.list plan planned) says

  pub snapshot_back : SameSnapshot b a m s
  snapshot_back = record {
    list = λ plan planned. sym (same.list plan planned);
    manifests = λ plan list file planned says named. sym (same.manifests plan list file planned (list_at b a m plan.list list (sym (same.list plan planned)) says) named);
  }

  pub manifest_too : (plan : Plan) (list : List ManifestFile) (file : ManifestFile) (columns : List PartColumn) (entries : List EntryData) → IsPlanOf m s plan → SaysList a m plan.list list → Contains list file → SaysManifest a columns file.path entries → SaysManifest b columns file.path entries
  manifest_too plan list file columns entries planned says named h = manifest_at a b columns file.path entries (same.manifests plan list file planned says named) h

  live_too : (row : Row) → IsLiveIn a m s row → IsLiveIn b m s row
  live_too row h = record {
    plan = h.plan;
    planned = h.planned;
    list = h.list;
    listed = list_too h.plan h.list h.planned h.listed;
    file = h.file;
    named = h.named;
    of_data = h.of_data;
    entries = h.entries;
    says = manifest_too h.plan h.list h.file (part_columns h.plan.columns) h.entries h.planned h.listed h.named h.says;
    entry = h.entry;
    held = h.held;
    live = h.live;
    is = h.is;
    same = h.same;
  }

  pub says_too : (plan : Plan) (list : List ManifestFile) (manifests : List Manifest) → SaysSnapshot a m s plan list manifests → SaysSnapshot b m s plan list manifests
  says_too plan list manifests h = record {
    planned = h.planned;
    says = list_too plan list h.planned h.says;
    are = of_files_at a b m.location (part_columns plan.columns) list manifests (λ file named. same.manifests plan list file h.planned h.says named) h.are;
    distinct = h.distinct;
  }

  pub entry_too : (plan : Plan) (list : List ManifestFile) (info : ManifestInfo) (entry : EntryData) → IsPlanOf m s plan → SaysList a m plan.list list → IsEntryIn a plan list info entry → IsEntryIn b plan list info entry
  entry_too plan list info entry planned says h = record {
    file = h.file;
    named = h.named;
    row = h.row;
    of_data = h.of_data;
    entries = h.entries;
    says = manifest_too plan list h.file (part_columns plan.columns) h.entries planned says h.named h.says;
    held = h.held;
  }

pub table_too : (a b : Files) (m : Metadata) (s : Snapshot) → SameSnapshot a b m s → (t : Table) → IsTableOfSnapshot a m s t → IsTableOfSnapshot b m s t
table_too a b m s same t h = record {
  plan = h.plan;
  planned = h.planned;
  schema = h.schema;
  partition = h.partition;
  rows = λ row. (λ there. live_too a b m s same row ((h.rows row).0 there), λ live. (h.rows row).1 (live_too b a m s (snapshot_back a b m s same) row live));
}

abbrev pub current_too : (a b : Files) (m : Metadata) (current : SaysCurrent a m) → SameSnapshot a b m current.snapshot → SaysCurrent b m
current_too a b m h same = record { snapshot = h.snapshot; current = h.current; plan = h.plan; list = h.list; manifests = h.manifests; says = says_too a b m h.snapshot same h.plan h.list h.manifests h.says }

-- ---- the same versions

-- What the versions of the first files reach is the same in the second, and these have no further version.
pub record SameReached (a b : Files) : Type 0 where
  pub files : (path : List ℕ) → IsReached a path → map.get b path ≡ map.get a path
  pub versions : (version : ℕ) → HasVersion b version → HasVersion a version

module _ (a b : Files) (same : (path : List ℕ) → IsReached a path → map.get b path ≡ map.get a path) where
  pub has_too : (version : ℕ) → HasVersion a version → HasVersion b version
  has_too version h =
      let is = ((names_in_listed a metadata_folder).members h.0).0 h.1 in
      let reached : IsReached a (path_of h.0) = IsReached.metadata version h (ap path_of h.2.spelled) in
      (h.0, ((names_in_listed b metadata_folder).members h.0).1 (is.0, subst (λ (o : Option (List ℕ)). IsSome o) (sym (same (path_of h.0) reached)) is.1), h.2)

  list_names_too : (path : List ℕ) → NamesList a path → NamesList b path
  list_names_too path h = record {
    version = h.version;
    there = has_too h.version h.there;
    bytes = h.bytes;
    holds = same (version_path h.version) (version_reached a h.version h.there) ∙ h.holds;
    readings = h.readings;
    metadata = h.metadata;
    text = h.text;
    snapshot = h.snapshot;
    held = h.held;
    is = h.is;
  }

  manifest_names_too : (path : List ℕ) → NamesManifest a path → NamesManifest b path
  unfolding list_names_too
  manifest_names_too path h = record {
    list = h.list;
    names = list_names_too h.list h.names;
    bytes = h.bytes;
    holds = same h.list (IsReached.list h.names) ∙ h.holds;
    infos = h.infos;
    rows = h.rows;
    info = h.info;
    row = h.row;
    is = h.is;
  }

  pub reached_too : (path : List ℕ) → IsReached a path → IsReached b path
  reached_too path (IsReached.metadata version there is) = IsReached.metadata version (has_too version there) is
  reached_too path (IsReached.list h) = IsReached.list (list_names_too path h)
  reached_too path (IsReached.manifest h) = IsReached.manifest (manifest_names_too path h)

pub reached_stays : (a b : Files) → ((path : List ℕ) → IsReached a path → map.get b path ≡ map.get a path) → (path : List ℕ) → IsReached a path → IsReached b path
reached_stays a b same path h = reached_too a b same path h

module _ (a b : Files) (same : SameReached a b) where
  list_names_back : (path : List ℕ) → NamesList b path → NamesList a path
  list_names_back path h =
      let there = same.versions h.version h.there in
      record {
        version = h.version;
        there = there;
        bytes = h.bytes;
        holds = sym (same.files (version_path h.version) (version_reached a h.version there)) ∙ h.holds;
        readings = h.readings;
        metadata = h.metadata;
        text = h.text;
        snapshot = h.snapshot;
        held = h.held;
        is = h.is;
      }

  manifest_names_back : (path : List ℕ) → NamesManifest b path → NamesManifest a path
  unfolding list_names_back
  manifest_names_back path h =
      let names = list_names_back h.list h.names in
      record {
        list = h.list;
        names = names;
        bytes = h.bytes;
        holds = sym (same.files h.list (IsReached.list names)) ∙ h.holds;
        infos = h.infos;
        rows = h.rows;
        info = h.info;
        row = h.row;
        is = h.is;
      }

  pub reached_back : (path : List ℕ) → IsReached b path → IsReached a path
  reached_back path (IsReached.metadata version there is) = IsReached.metadata version (same.versions version there) is
  reached_back path (IsReached.list h) = IsReached.list (list_names_back path h)
  reached_back path (IsReached.manifest h) = IsReached.manifest (manifest_names_back path h)

  pub files_back : SameReached b a
  files_back = record {
    files = λ path reached. sym (same.files path (reached_back path reached));
    versions = λ version there. has_too a b same.files version there;
  }

  pub metadata_too : (version : ℕ) (m : Metadata) → HasVersion a version → SaysMetadata a version m → SaysMetadata b version m
  metadata_too version m there h = version_at a b version m (same.files (version_path version) (version_reached a version there)) h

  pub same_snapshot : (version : ℕ) (m : Metadata) → HasVersion a version → SaysMetadata a version m → (s : Snapshot) → Contains m.snapshots s → SameSnapshot a b m s
  same_snapshot version m there says s held = record {
    list = λ plan planned. same.files plan.list (list_reached a version m there says s held plan planned);
    manifests = λ plan list file planned listed named. same.files file.path (manifest_reached a version m there says s held plan list file planned listed named);
  }

  pub same_current : (version : ℕ) (m : Metadata) → HasVersion a version → SaysMetadata a version m → (current : SaysCurrent a m) → SameSnapshot a b m current.snapshot
  same_current version m there says current = same_snapshot version m there says current.snapshot (current_in m current.snapshot current.current)

  pub newest_too : (version : ℕ) → IsNewest (HasVersion a) version → IsNewest (HasVersion b) version
  newest_too version h = record { there = has_too a b same.files version h.there; last = λ other there. h.last other (same.versions other there) }

  pub ours_too : (view : View) → IsOurs a view → IsOurs b view
  ours_too view h =
      let snapshot = same_current view.commits h.metadata h.newest.there h.says h.current in
      record {
        first = h.first;
        newest = newest_too view.commits h.newest;
        metadata = h.metadata;
        says = metadata_too view.commits h.metadata h.newest.there h.says;
        standing = h.standing;
        mark = h.mark;
        marked = h.marked;
        form = h.form;
        current = current_too a b h.metadata h.current snapshot;
        table = table_too a b h.metadata h.current.snapshot snapshot view.table h.table;
        distinct = h.distinct;
      }

  id_too : (new : List ℕ) (number : ℕ) (id : List ℕ) → KeepsId new a number id → KeepsId new b number id
  id_too new zero id h = h
  id_too new (suc zero) id h = h
  id_too new (suc (suc version)) id h = (h.0, has_too a b same.files (suc version) h.1, metadata_too (suc version) h.0 h.1 h.2, h.3)

-- ---- what a version carries, and how commits go on

pub carried_too : (a b : Files) → SameReached a b → (new : List ℕ) (number : ℕ) (change : Change) (s : Standing) → IsCarried new a number change s → IsCarried new b number change s
carried_too a b same new number change s h =
    let snapshot = same_current a b same number h.metadata h.there h.says h.current in
    let back = snapshot_back a b h.metadata h.current.snapshot snapshot in
    let plan = h.current.plan in
    let list = h.current.list in
    let planned = h.current.says.planned in
    let listed = h.current.says.says in
    let listed_too = list_too a b h.metadata h.current.snapshot snapshot plan list planned listed in
    record {
      there = has_too a b same.files number h.there;
      metadata = h.metadata;
      says = metadata_too a b same number h.metadata h.there h.says;
      id = id_too a b same new number h.metadata.uuid h.id;
      marked = h.marked;
      current = current_too a b h.metadata h.current snapshot;
      adds = λ row. (
        λ is.
            let e = (h.adds row).0 is in
            (e.0, e.1, entry_too a b h.metadata h.current.snapshot snapshot plan list e.0 e.1 planned listed e.2, e.3),
        λ e. (h.adds row).1 (e.0, e.1, entry_too b a h.metadata h.current.snapshot back plan list e.0 e.1 planned listed_too e.2, e.3),
      );
      removes = λ path. (
        λ is.
            let e = (h.removes path).0 is in
            (e.0, e.1, entry_too a b h.metadata h.current.snapshot snapshot plan list e.0 e.1 planned listed e.2, e.3),
        λ e. (h.removes path).1 (e.0, e.1, entry_too b a h.metadata h.current.snapshot back plan list e.0 e.1 planned listed_too e.2, e.3),
      );
    }

module _ (a b : Files) (same : SameReached a b) (newest : ℕ) where
  names_too : LeavesNames a newest → LeavesNames b newest
  names_too h = record {
    staged = λ version reached. h.staged version (reached_back a b same _ reached);
    metadata = λ version later reached. h.metadata version later (reached_back a b same _ reached);
    lists = λ version later reached. h.lists version later (reached_back a b same _ reached);
    manifests = λ version number later reached. h.manifests version number later (reached_back a b same _ reached);
  }

  own_entries_too : (m : Metadata) → HasVersion b newest → SaysMetadata b newest m → (current : SaysCurrent b m) → CanGoOn a newest → HasOwnEntries b newest m current
  own_entries_too m there says current can =
      let other = files_back a b same in
      let snapshot = same_current b a other newest m there says current in
      let planned = current.says.planned in
      let listed = current.says.says in
      let own = can.entries m (metadata_too b a other newest m there says) (current_too b a m current snapshot) in
      record {
        rows = own.rows;
        entries = λ file entries entry id named held there is. own.entries file entries entry id named (manifest_too b a m current.snapshot snapshot current.plan current.list file (part_columns current.plan.columns) entries planned listed named held) there is;
        few = λ file entries named held. own.few file entries named (manifest_too b a m current.snapshot snapshot current.plan current.list file (part_columns current.plan.columns) entries planned listed named held);
      }

  pub goes_on_too : HasVersion b newest → CanGoOn a newest → CanGoOn b newest
  goes_on_too there can = record { names = names_too can.names; entries = λ m says current. own_entries_too m there says current can }
