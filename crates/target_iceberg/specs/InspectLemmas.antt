-- Foreign files are neither absent nor ours, and have one first path at fault.
use Rattle.std.proofs.Common.{◌≡◌, ◌⊎◌, inl, inr, ℕ, List, [], ◌∷◌, ◌++◌, Some, refl, sym, ap, subst, ◌∙◌}
use Rattle.std.specs.Cmp.Lexicographic.{slice_cmp}
use Rattle.std.specs.Ordering.{nat_cmp}
use Rattle.lake_store.specs.Disk.{Files}
use Rattle.table_history.specs.Row.{Row}
use Rattle.table_history.specs.Rows.{HasDistinctPaths}
use Rattle.table_history.specs.declared.kind.Kind.{Kind}
use Rattle.iceberg_manifest.specs.Lists.{AreEach}
use Rattle.iceberg_manifest.specs.declared.partition.PartColumn.{PartColumn}
use Rattle.iceberg_manifest.proofs.SplitLaws.{split_each}
use Rattle.iceberg_metadata.specs.declared.metadata.Metadata.{Metadata}
use Rattle.iceberg_metadata.specs.declared.metadata.Snapshot.{Snapshot}
use Rattle.iceberg_table.specs.Files.{SaysMetadata}
use Rattle.iceberg_table.specs.Folder.{HasVersion, IsNewest, path_of, version_path}
use Rattle.iceberg_table.specs.Lists.{IsListFault, SaysList}
use Rattle.iceberg_table.specs.Manifests.{AreManifestsRefused, IsManifestOf, IsManifestRefusal, SharesFile}
use Rattle.iceberg_table.specs.Once.{counted_before}
use Rattle.iceberg_table.specs.Plan.{IsPlanFault, part_columns}
use Rattle.iceberg_table.specs.Refusals.{IsListedRefusal, IsMetadataFault, IsSnapshotRefusal}
use Rattle.iceberg_table.specs.Tables.{AreManyRows, AreShared, rows_in, rows_of}
use Rattle.iceberg_table.specs.declared.error.Fault.{Fault}
use Rattle.iceberg_table.specs.declared.error.IcebergError.{IcebergError}
use Rattle.iceberg_table.specs.declared.list.ManifestFile.{ManifestFile}
use Rattle.iceberg_table.specs.declared.manifest.Manifest.{Manifest}
use Rattle.iceberg_table.specs.declared.plan.Plan.{Plan}
use Rattle.iceberg_table.proofs.OnceLaws.{newest_once}
use Rattle.target_core.specs.Views.{IsOfSource, IsUnpublished, Standing, View}
use Rattle.target_core.proofs.Texts.{less_or_more}
use Rattle.target_iceberg.specs.Inspecting.{HasForm, IsFirstStray, IsForeign, IsNewestRead, IsNotOurs, IsOfThis, IsRefusedSnapshot, IsRefusedVersion, faulty_path}
use Rattle.target_iceberg.specs.Reading.{IsAbsent, IsCurrent, IsOurs, Reads, SaysSnapshot}
use Rattle.target_iceberg.specs.FaultLemmas.{IsOfFile, file_told, list_or_fault, manifest_or_fault, manifest_told, plan_or_fault, shares_none, told_at, told_none, version_or_fault}
use Rattle.target_iceberg.specs.OnceLemmas.{current_once, list_once, manifest_once, manifests_once, metadata_once, plan_once}
use Rattle.target_iceberg.specs.ViewLemmas.{never_ours}
use Rattle.lake_basics.proofs.Options.{some_once}

-- ---- lists that stop

-- Where two lists are one, their fronts are one too, or the shorter front and its item begin the longer one.
data Places {A : Type 0} (front : List A) (item : A) (behind front' : List A) (item' : A) (behind' : List A) : Type 0 where
  level : front ≡ front' → item ≡ item' → Places front item behind front' item' behind'
  before : (rest : List A) → front' ≡ front ++ item ∷ rest → Places front item behind front' item' behind'
  after : (rest : List A) → front ≡ front' ++ item' ∷ rest → Places front item behind front' item' behind'

head_is : {A : Type 0} (x y : A) (xs ys : List A) → x ∷ xs ≡ y ∷ ys → (x ≡ y) × (xs ≡ ys)
head_is x y xs ys is = (cc, cc)

further : {A : Type 0} (x : A) (front : List A) (item : A) (behind front' : List A) (item' : A) (behind' : List A) → Places front item behind front' item' behind' → Places (x ∷ front) item behind (x ∷ front') item' behind'
further {A} x front item behind front' item' behind' (Places.level fronts items) = Places.level (ap (λ (l : List A). x ∷ l) fronts) items
further {A} x front item behind front' item' behind' (Places.before rest is) = Places.before rest (ap (λ (l : List A). x ∷ l) is)
further {A} x front item behind front' item' behind' (Places.after rest is) = Places.after rest (ap (λ (l : List A). x ∷ l) is)

places : {A : Type 0} (front : List A) (item : A) (behind front' : List A) (item' : A) (behind' : List A) → front ++ item ∷ behind ≡ front' ++ item' ∷ behind' → Places front item behind front' item' behind'
places [] item behind [] item' behind' is = Places.level refl (head_is item item' behind behind' is).0
places {A} [] item behind (y ∷ front') item' behind' is =
    let one = head_is item y behind (front' ++ item' ∷ behind') is in
    Places.before front' (ap (λ (z : A). z ∷ front') (sym one.0))
places {A} (x ∷ front) item behind [] item' behind' is =
    let one = head_is x item' (front ++ item ∷ behind) behind' is in
    Places.after front (ap (λ (z : A). z ∷ front) one.0)
places {A} (x ∷ front) item behind (y ∷ front') item' behind' is =
    let one = head_is x y (front ++ item ∷ behind) (front' ++ item' ∷ behind') is in
    subst (λ (z : A). Places (x ∷ front) item behind (z ∷ front') item' behind') one.0 (further x front item behind front' item' behind' (places front item behind front' item' behind' one.1))

-- ---- manifests that are read or refused

module _ (files : Files) (location : List ℕ) (columns : List PartColumn) (path : List ℕ) where
  abbrev Of : ManifestFile → Manifest → Type 0
  Of = IsManifestOf files location columns

  -- Of manifests that are read, whose live rows have distinct paths, none is refused behind those before it.
  none_refused : (front : List ManifestFile) (item : ManifestFile) (behind : List ManifestFile) (manifests found : List Manifest) (told : List ℕ) (e : IcebergError) → AreEach Of (front ++ item ∷ behind) manifests → HasDistinctPaths (rows_of manifests) → AreEach Of front found
      → IsManifestRefusal files location columns (counted_before item.path found) item e ⊎ SharesFile files location columns path found item e → faulty_path e ≡ Some told → ⊥
  none_refused front item behind manifests found told e are distinct fronts (inl refused) is =
      let s = split_each Of front item behind manifests are in
      manifest_or_fault files location columns (counted_before item.path found) item told e s.one s.here refused is
  none_refused front item behind manifests found told e are distinct fronts (inr (r, of, few, shared)) is =
      let s = split_each Of front item behind manifests are in
      let same : found ≡ s.found = manifests_once files location columns front found s.found fronts s.are in
      let one : r ≡ s.one = manifest_once files location columns item r s.one of s.here in
      let apart = shares_none s.found s.one s.rest (subst (λ (ms : List Manifest). HasDistinctPaths (rows_of ms)) s.is distinct) in
      shared.2.1 (subst (λ (m : Manifest). HasDistinctPaths (rows_of found ++ rows_in m.rows)) (sym one) (subst (λ (ms : List Manifest). HasDistinctPaths (rows_of ms ++ rows_in s.one.rows)) (sym same) apart))

  module _ (list : List ManifestFile) where
    read_or_refused : (manifests : List Manifest) (told : List ℕ) (e : IcebergError) → AreEach Of list manifests → HasDistinctPaths (rows_of manifests) → AreManifestsRefused files location columns path list e → faulty_path e ≡ Some told → ⊥
    read_or_refused manifests told e are distinct stops is =
        none_refused stops.front stops.item stops.behind manifests stops.found told e (subst (λ (l : List ManifestFile). AreEach Of l manifests) stops.split are) distinct stops.are stops.refused.2 is

    -- A manifest that is refused isn't one of those that are read before another one.
    one_before : (d e : IcebergError) (told : List ℕ) → (a : AreManifestsRefused files location columns path list d) → (b : AreManifestsRefused files location columns path list e) → faulty_path d ≡ Some told → (rest : List ManifestFile) → b.front ≡ a.front ++ a.item ∷ rest → ⊥
    one_before d e told a b at rest is = none_refused a.front a.item rest b.found a.found told d (subst (λ (l : List ManifestFile). AreEach Of l b.found) is b.are) b.refused.1 a.are a.refused.2 at

    -- The one that is refused is told by its own path, or by that of the list.
    at_item : (a b : List Manifest) (item : ManifestFile) (d e : IcebergError) (p q : List ℕ) → IsManifestRefusal files location columns (counted_before item.path a) item d ⊎ SharesFile files location columns path a item d → IsManifestRefusal files location columns (counted_before item.path b) item e ⊎ SharesFile files location columns path b item e
        → faulty_path d ≡ Some p → faulty_path e ≡ Some q → p ≡ q
    at_item a b item d e p q (inl x) (inl y) told too = manifest_told files location columns (counted_before item.path a) item d p x told ∙ sym (manifest_told files location columns (counted_before item.path b) item e q y too)
    at_item a b item d e p q (inl x) (inr y) told too = absurd (manifest_or_fault files location columns (counted_before item.path a) item p d y.0 y.1 x told)
    at_item a b item d e p q (inr x) (inl y) told too = absurd (manifest_or_fault files location columns (counted_before item.path b) item q e x.0 x.1 y too)
    at_item a b item d e p q (inr x) (inr y) told too = told_at path p (AreShared (rows_of a ++ rows_in x.0.rows)) d x.3 told ∙ sym (told_at path q (AreShared (rows_of b ++ rows_in y.0.rows)) e y.3 too)

    manifests_told : (d e : IcebergError) (p q : List ℕ) → AreManifestsRefused files location columns path list d → AreManifestsRefused files location columns path list e → faulty_path d ≡ Some p → faulty_path e ≡ Some q → p ≡ q
    manifests_told d e p q a b told too = by (places a.front a.item a.behind b.front b.item b.behind (sym a.split ∙ b.split))
      where
        by : Places a.front a.item a.behind b.front b.item b.behind → p ≡ q
        by (Places.level fronts items) =
            at_item a.found b.found b.item d e p q (subst (λ (f : ManifestFile). IsManifestRefusal files location columns (counted_before f.path a.found) f d ⊎ SharesFile files location columns path a.found f d) items a.refused.2) b.refused.2 told too
        by (Places.before rest is) = absurd (one_before d e p a b told rest is)
        by (Places.after rest is) = absurd (one_before e d q b a too rest is)

-- ---- a snapshot that is read or refused

many_or_file : (rows : List Row) (f : Fault) → IsOfFile f → AreManyRows rows f → ⊥
many_or_file rows f of_file many = subst IsOfFile many.2 of_file

module _ (files : Files) (m : Metadata) (plan : Plan) where
  abbrev OfList : List ManifestFile → List Manifest → Type 0
  OfList = AreEach (IsManifestOf files m.location (part_columns plan.columns))

  listed_or_refused : (list : List ManifestFile) (manifests : List Manifest) (told : List ℕ) (e : IcebergError) → SaysList files m plan.list list → OfList list manifests → HasDistinctPaths (rows_of manifests) → IsListedRefusal files m plan e → faulty_path e ≡ Some told → ⊥
  listed_or_refused list manifests told e says are distinct (inl fault) is = list_or_fault files m plan.list told list e says fault is
  listed_or_refused list manifests told e says are distinct (inr (other, lists, inl stops)) is =
      let same : other ≡ list = list_once files m plan.list other list lists says in
      read_or_refused files m.location (part_columns plan.columns) plan.list list manifests told e are distinct (subst (λ (l : List ManifestFile). AreManifestsRefused files m.location (part_columns plan.columns) plan.list l e) same stops) is
  listed_or_refused list manifests told e says are distinct (inr (other, lists, inr (found, reads, (few, many)))) is = told_none plan.list told (AreManyRows (rows_of found)) e (many_or_file (rows_of found)) many is

  listed_told : (d e : IcebergError) (p q : List ℕ) → IsListedRefusal files m plan d → IsListedRefusal files m plan e → faulty_path d ≡ Some p → faulty_path e ≡ Some q → p ≡ q
  listed_told d e p q (inl a) (inl b) told too = file_told files plan.list p (IsListFault m) d a told ∙ sym (file_told files plan.list q (IsListFault m) e b too)
  listed_told d e p q (inl a) (inr b) told too = absurd (list_or_fault files m plan.list p b.0 d b.1 a told)
  listed_told d e p q (inr a) (inl b) told too = absurd (list_or_fault files m plan.list q a.0 e a.1 b too)
  listed_told d e p q (inr (l, says, inl a)) (inr (k, lists, inl b)) told too =
      let same : l ≡ k = list_once files m plan.list l k says lists in
      manifests_told files m.location (part_columns plan.columns) plan.list k d e p q (subst (λ (x : List ManifestFile). AreManifestsRefused files m.location (part_columns plan.columns) plan.list x d) same a) b told too
  listed_told d e p q (inr (l, says, inr (found, reads, (few, many)))) (inr b) told too = absurd (told_none plan.list p (AreManyRows (rows_of found)) d (many_or_file (rows_of found)) many told)
  listed_told d e p q (inr (l, says, inl a)) (inr (k, lists, inr (found, reads, (few, many)))) told too = absurd (told_none plan.list q (AreManyRows (rows_of found)) e (many_or_file (rows_of found)) many too)

module _ (files : Files) (m : Metadata) (version : ℕ) (s : Snapshot) where
  snapshot_or_refused : (plan : Plan) (list : List ManifestFile) (manifests : List Manifest) (told : List ℕ) (e : IcebergError) → SaysSnapshot files m s plan list manifests → IsSnapshotRefusal files m version s e → faulty_path e ≡ Some told → ⊥
  snapshot_or_refused plan list manifests told e says (inl fault) is = told_none (version_path version) told (IsPlanFault m s) e (λ f _ shows. plan_or_fault m s plan f says.planned shows) fault is
  snapshot_or_refused plan list manifests told e says (inr (other, planned, refused)) is =
      let same : other ≡ plan = plan_once m s other plan planned says.planned in
      listed_or_refused files m plan list manifests told e says.says says.are says.distinct (subst (λ (p : Plan). IsListedRefusal files m p e) same refused) is

  snapshot_told : (d e : IcebergError) (p q : List ℕ) → IsSnapshotRefusal files m version s d → IsSnapshotRefusal files m version s e → faulty_path d ≡ Some p → faulty_path e ≡ Some q → p ≡ q
  snapshot_told d e p q (inl a) (inl b) told too = told_at (version_path version) p (IsPlanFault m s) d a told ∙ sym (told_at (version_path version) q (IsPlanFault m s) e b too)
  snapshot_told d e p q (inl a) (inr b) told too = absurd (told_none (version_path version) p (IsPlanFault m s) d (λ f _ shows. plan_or_fault m s b.0 f b.1 shows) a told)
  snapshot_told d e p q (inr a) (inl b) told too = absurd (told_none (version_path version) q (IsPlanFault m s) e (λ f _ shows. plan_or_fault m s a.0 f a.1 shows) b too)
  snapshot_told d e p q (inr a) (inr b) told too =
      let same : a.0 ≡ b.0 = plan_once m s a.0 b.0 a.1 b.1 in
      listed_told files m b.0 d e p q (subst (λ (x : Plan). IsListedRefusal files m x d) same a.2) b.2 told too

-- ---- neither absent nor ours

-- The newest version that is read is the one that ours has.
module _ (files : Files) (view : View) (ours : IsOurs files view) where
  ours_version : (version : ℕ) → IsNewest (HasVersion files) version → view.commits ≡ version
  ours_version version newest = newest_once (HasVersion files) view.commits version ours.newest newest

  ours_says : (version : ℕ) → IsNewest (HasVersion files) version → SaysMetadata files version ours.metadata
  ours_says version newest = subst (λ (n : ℕ). SaysMetadata files n ours.metadata) (ours_version version newest) ours.says

  not_refused_version : (version : ℕ) (told : List ℕ) (e : IcebergError) → IsRefusedVersion files version e → faulty_path e ≡ Some told → ⊥
  not_refused_version version told e h is = version_or_fault files version ours.metadata (ours_says version h.0) told e h.1 is

  not_refused_snapshot : (source : Kind) (told : List ℕ) (e : IcebergError) → IsRefusedSnapshot source files e → faulty_path e ≡ Some told → ⊥
  not_refused_snapshot source told e h is = by (metadata_once files h.version ours.metadata h.metadata (ours_says h.version h.newest.0) h.newest.1)
    where
      by : ours.metadata ≡ h.metadata → ⊥
      by same =
          let current = ours.current in
          let at : IsCurrent h.metadata current.snapshot = subst (λ (m : Metadata). IsCurrent m current.snapshot) same current.current in
          let snapshot : current.snapshot ≡ h.snapshot = current_once h.metadata current.snapshot h.snapshot at h.form.0 in
          let says = subst (λ (s : Snapshot). SaysSnapshot files h.metadata s current.plan current.list current.manifests) snapshot (subst (λ (m : Metadata). SaysSnapshot files m current.snapshot current.plan current.list current.manifests) same current.says) in
          snapshot_or_refused files h.metadata h.version h.snapshot current.plan current.list current.manifests told e says h.refused is

  not_not_ours : (source : Kind) (path : List ℕ) → IsNotOurs source files path → IsOfSource source view → ⊥
  not_not_ours source path h of =
      let version = ours_version h.version h.newest.0 in
      let same : ours.metadata ≡ h.metadata = metadata_once files h.version ours.metadata h.metadata (ours_says h.version h.newest.0) h.newest.1 in
      let standing : ours.standing ≡ of.0 = some_once view.mark ours.standing of.0 ours.mark of.1 in
      let here : IsOfThis source view.commits ours.metadata × HasForm view.commits ours.metadata ours.current.snapshot = ((ours.first, (ours.standing, ours.marked, ap (λ (t : Standing). t.origin.source) standing ∙ of.2)), (ours.current.current, ours.form)) in
      let there = subst (λ (n : ℕ). IsOfThis source n ours.metadata × HasForm n ours.metadata ours.current.snapshot) version here in
      h.cause ours.current.snapshot (subst (λ (m : Metadata). IsOfThis source h.version m × HasForm h.version m ours.current.snapshot) same there)

  not_ours : (source : Kind) (path : List ℕ) → IsForeign source files path → IsOfSource source view → ⊥
  not_ours source path (inl h) of = h.versions view.commits ours.newest.there
  not_ours source path (inr (inl h)) of = not_refused_version h.0 path h.1 h.2 h.3
  not_ours source path (inr (inr (inl h))) of = not_not_ours source path h of
  not_ours source path (inr (inr (inr h))) of = not_refused_snapshot source path h.0 h.1 h.2

not_absent : (source : Kind) (files : Files) (path : List ℕ) → IsAbsent files → IsForeign source files path → ⊥
not_absent source files path none (inl h) = h.stray.other (none.names h.name h.stray.proper h.stray.there)
not_absent source files path none (inr (inl h)) = none.versions h.0 h.2.0.there
not_absent source files path none (inr (inr (inl h))) = none.versions h.version h.newest.0.there
not_absent source files path none (inr (inr (inr h))) = none.versions h.1.version h.1.newest.0.there

pub not_foreign : (source : Kind) (files : Files) (path : List ℕ) (v : View) → IsForeign source files path → Reads files v → (IsUnpublished v → ⊥) × (IsOfSource source v → ⊥)
not_foreign source files path v foreign (inl h) = (λ is. not_absent source files path h.0 foreign, λ of. not_absent source files path h.0 foreign)
not_foreign source files path v foreign (inr h) = (λ is. never_ours files v is h, λ of. not_ours files v h source path foreign of)

-- ---- one path

strays : (files : Files) (p q : List ℕ) → IsFirstStray files p → IsFirstStray files q → p ≡ q
strays files p q a b =
    let names : a.name ≡ b.name = less_or_more a.name b.name (slice_cmp nat_cmp a.name b.name) (slice_cmp nat_cmp b.name a.name) refl refl (b.first a.name a.stray) (a.first b.name b.stray) in
    a.is ∙ ap path_of names ∙ sym b.is

-- what is told of a table that has a newest version
abbrev Told : Kind → Files → List ℕ → Type 0
Told source files path = ((version : ℕ) × (e : IcebergError) × IsRefusedVersion files version e × (faulty_path e ≡ Some path)) ⊎ (IsNotOurs source files path ⊎ ((e : IcebergError) × IsRefusedSnapshot source files e × (faulty_path e ≡ Some path)))

module _ (source : Kind) (files : Files) where
  told_there : (path : List ℕ) → Told source files path → (version : ℕ) × HasVersion files version
  told_there path (inl h) = (h.0, h.2.0.there)
  told_there path (inr (inl h)) = (h.version, h.newest.0.there)
  told_there path (inr (inr h)) = (h.1.version, h.1.newest.0.there)

  stray_or_told : (p q : List ℕ) → IsFirstStray files p → Told source files q → ⊥
  stray_or_told p q a b = let there = told_there q b in a.versions there.0 there.1

  same_newest : (v w : ℕ) → IsNewest (HasVersion files) v → IsNewest (HasVersion files) w → v ≡ w
  same_newest v w a b = newest_once (HasVersion files) v w a b

  same_metadata : (v w : ℕ) (m n : Metadata) → IsNewestRead files v m → IsNewestRead files w n → m ≡ n
  same_metadata v w m n a b = metadata_once files w m n (subst (λ (k : ℕ). SaysMetadata files k m) (same_newest v w a.0 b.0) a.1) b.1

  -- the newest version is read or refused
  read_or_told : (v w : ℕ) (m : Metadata) (told : List ℕ) (e : IcebergError) → IsNewestRead files v m → IsRefusedVersion files w e → faulty_path e ≡ Some told → ⊥
  read_or_told v w m told e a b is = version_or_fault files w m (subst (λ (k : ℕ). SaysMetadata files k m) (same_newest v w a.0 b.0) a.1) told e b.1 is

  version_told : (v w : ℕ) (d e : IcebergError) (p q : List ℕ) → IsRefusedVersion files v d → IsRefusedVersion files w e → faulty_path d ≡ Some p → faulty_path e ≡ Some q → p ≡ q
  version_told v w d e p q a b told too = file_told files (version_path v) p IsMetadataFault d a.1 told ∙ ap version_path (same_newest v w a.0 b.0) ∙ sym (file_told files (version_path w) q IsMetadataFault e b.1 too)

  ours_or_told : (p : List ℕ) (e : IcebergError) → IsNotOurs source files p → IsRefusedSnapshot source files e → ⊥
  ours_or_told p e a b =
      let version : b.version ≡ a.version = same_newest b.version a.version b.newest.0 a.newest.0 in
      let metadata : b.metadata ≡ a.metadata = same_metadata b.version a.version b.metadata a.metadata b.newest a.newest in
      let there = subst (λ (n : ℕ). IsOfThis source n b.metadata × HasForm n b.metadata b.snapshot) version (b.mark, b.form) in
      a.cause b.snapshot (subst (λ (m : Metadata). IsOfThis source a.version m × HasForm a.version m b.snapshot) metadata there)

  current_told : (d e : IcebergError) (p q : List ℕ) → IsRefusedSnapshot source files d → IsRefusedSnapshot source files e → faulty_path d ≡ Some p → faulty_path e ≡ Some q → p ≡ q
  current_told d e p q a b told too =
      let version : a.version ≡ b.version = same_newest a.version b.version a.newest.0 b.newest.0 in
      let metadata : a.metadata ≡ b.metadata = same_metadata a.version b.version a.metadata b.metadata a.newest b.newest in
      let snapshot : a.snapshot ≡ b.snapshot = current_once b.metadata a.snapshot b.snapshot (subst (λ (m : Metadata). IsCurrent m a.snapshot) metadata a.form.0) b.form.0 in
      let refused = subst (λ (s : Snapshot). IsSnapshotRefusal files b.metadata b.version s d) snapshot (subst (λ (n : ℕ). IsSnapshotRefusal files b.metadata n a.snapshot d) version (subst (λ (m : Metadata). IsSnapshotRefusal files m a.version a.snapshot d) metadata a.refused)) in
      snapshot_told files b.metadata b.version b.snapshot d e p q refused b.refused told too

  told_once : (p q : List ℕ) → Told source files p → Told source files q → p ≡ q
  told_once p q (inl a) (inl b) = version_told a.0 b.0 a.1 b.1 p q a.2 b.2 a.3 b.3
  told_once p q (inl a) (inr (inl b)) = absurd (read_or_told b.version a.0 b.metadata p a.1 b.newest a.2 a.3)
  told_once p q (inl a) (inr (inr b)) = absurd (read_or_told b.1.version a.0 b.1.metadata p a.1 b.1.newest a.2 a.3)
  told_once p q (inr (inl a)) (inl b) = absurd (read_or_told a.version b.0 a.metadata q b.1 a.newest b.2 b.3)
  told_once p q (inr (inr a)) (inl b) = absurd (read_or_told a.1.version b.0 a.1.metadata q b.1 a.1.newest b.2 b.3)
  told_once p q (inr (inl a)) (inr (inl b)) = a.is ∙ ap version_path (same_newest a.version b.version a.newest.0 b.newest.0) ∙ sym b.is
  told_once p q (inr (inl a)) (inr (inr b)) = absurd (ours_or_told p b.0 a b.1)
  told_once p q (inr (inr a)) (inr (inl b)) = absurd (ours_or_told q a.0 b a.1)
  told_once p q (inr (inr a)) (inr (inr b)) = current_told a.0 b.0 p q a.1 b.1 a.2 b.2

pub one_path : (source : Kind) (files : Files) (p q : List ℕ) → IsForeign source files p → IsForeign source files q → p ≡ q
one_path source files p q (inl a) (inl b) = strays files p q a b
one_path source files p q (inl a) (inr b) = absurd (stray_or_told source files p q a b)
one_path source files p q (inr a) (inl b) = absurd (stray_or_told source files q p b a)
one_path source files p q (inr a) (inr b) = told_once source files p q a b
