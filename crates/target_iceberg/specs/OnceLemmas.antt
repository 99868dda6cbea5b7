-- What the files of an Iceberg target say, they say once: reading is a function of the bytes.
use Rattle.std.proofs.Common.{◌≡◌, inl, inr, ℕ, ℤ, List, [], ◌∷◌, length, Contains, Option, Some, None, Result, Ok, Err, Bool, true, false, cond, refl, sym, ap, subst, ◌∙◌}
use Rattle.std.specs.Ordering.{int_eq}
use Rattle.avro_schema.specs.Tree.{SchemaTree}
use Rattle.avro_value.specs.ValueTree.{ValueTree}
use Rattle.avro_value.specs.declared.api.TheConstants.{MAX_VALUES}
use Rattle.avro_container.specs.Format.{IsWithin, Pairs}
use Rattle.avro_container.specs.Reading.{container_at}
use Rattle.avro_container.proofs.Containers.{container_again, container_refused}
use Rattle.lake_store.specs.Disk.{Files}
use Rattle.table_history.proofs.RowListLemmas.{Contains-head, Contains-tail}
use Rattle.iceberg_manifest.specs.Containers.{IsRefusedBy, Scan, StandsFor}
use Rattle.iceberg_manifest.specs.Entry.{EntryData}
use Rattle.iceberg_manifest.specs.Lists.{AreEach}
use Rattle.iceberg_live.specs.Live.{rows_in}
use Rattle.iceberg_live.specs.LiveRows.{AreLiveRows}
use Rattle.iceberg_metadata.specs.Location.{front_of}
use Rattle.iceberg_manifest.specs.Scans.{entries_of}
use Rattle.iceberg_manifest.specs.declared.error.ManifestError.{ManifestError}
use Rattle.iceberg_manifest.specs.declared.info.ManifestInfo.{ManifestInfo}
use Rattle.iceberg_live.specs.declared.live.LiveRow.{LiveRow}
use Rattle.iceberg_manifest.specs.declared.partition.PartColumn.{PartColumn}
use Rattle.iceberg_live.proofs.LiveLaws.{rows_given}
use Rattle.iceberg_ancestry.specs.Ancestry.{held, held_at}
use Rattle.iceberg_metadata.specs.Reading.{IsRead}
use Rattle.iceberg_metadata.specs.Schemas.{HeldSchema}
use Rattle.iceberg_metadata.specs.declared.metadata.Metadata.{Metadata}
use Rattle.iceberg_metadata.specs.declared.metadata.Snapshot.{Snapshot}
use Rattle.iceberg_metadata.proofs.OnceLemmas.{text_once}
use Rattle.iceberg_table.specs.Files.{HoldsFile, SaysMetadata}
use Rattle.iceberg_table.specs.Folder.{version_path}
use Rattle.iceberg_table.specs.Lists.{SaysList}
use Rattle.iceberg_table.specs.Manifests.{AreEntries, HasEntries, IsManifestOf, SaysManifest}
use Rattle.iceberg_table.specs.Plan.{IsPlanOf, part_columns, snapshot_schema}
use Rattle.iceberg_table.specs.declared.list.ManifestFile.{ManifestFile}
use Rattle.iceberg_table.specs.declared.manifest.Manifest.{Manifest}
use Rattle.iceberg_table.specs.declared.plan.Plan.{Plan}
use Rattle.iceberg_table.proofs.EachLaws.{each_once}
use Rattle.iceberg_table.proofs.ListLaws as lists
use Rattle.iceberg_table.proofs.LiveLaws.{columns_same, list_same}
use Rattle.iceberg_table.proofs.ManifestLaws.{held_once}
use Rattle.iceberg_table.proofs.OnceLaws.{rows_once}
use Rattle.target_core.specs.Mark.{IsMarkText}
use Rattle.target_core.specs.Views.{Standing, standing_of}
use Rattle.target_core.specs.declared.mark.Mark.{Mark}
use Rattle.target_core.proofs.Marks.{one_mark}
use Rattle.target_iceberg.specs.Reading.{HasMark, IsCurrent, IsMarked, SaysCurrent}
use Rattle.lake_basics.proofs.Options.{none_or_some, ok_once, some_once}

-- ---- answers

pub ok_or_err : {A E : Type 0} (r : Result A E) (x : A) (e : E) → r ≡ Ok x → r ≡ Err e → ⊥
ok_or_err r x e p q = cc (sym p ∙ q)

-- ---- files of Avro values

abbrev Whole : Type 0
Whole = Pairs × SchemaTree × List ValueTree

module _ {B : Type 0} (limit : ℕ) (scan : Scan B) (bytes : List ℕ) where
  whole_once : (v w : Whole) → IsWithin limit bytes v.0 v.1 v.2 → IsWithin limit bytes w.0 w.1 w.2 → scan v.1 v.2 ≡ scan w.1 w.2
  whole_once v w a b =
      let one : v ≡ w = ok_once (container_at limit bytes) v w (container_again limit bytes v.0 v.1 v.2 a) (container_again limit bytes w.0 w.1 w.2 b) in
      ap (λ (u : Whole). scan u.1 u.2) one

  pub stands_once : (x y : B) → StandsFor limit scan bytes x → StandsFor limit scan bytes y → x ≡ y
  stands_once x y h k =
      let same : scan h.schema h.values ≡ scan k.schema k.values = whole_once (h.meta, h.schema, h.values) (k.meta, k.schema, k.values) h.container k.container in
      ok_once (scan k.schema k.values) x y (sym same ∙ h.read) k.read

  -- Bytes that stand for something aren't refused.
  pub stands_or_refused : (x : B) (e : ManifestError) → StandsFor limit scan bytes x → IsRefusedBy limit scan bytes e → ⊥
  stands_or_refused x e h (inl flaw) = ok_or_err (container_at limit bytes) (h.meta, h.schema, h.values) flaw.1.fault (container_again limit bytes h.meta h.schema h.values h.container) (container_refused limit bytes flaw.1.fault flaw.1.first)
  stands_or_refused x e h (inr k) =
      let same : scan h.schema h.values ≡ scan k.schema k.values = whole_once (h.meta, h.schema, h.values) (k.meta, k.schema, k.values) h.container k.container in
      ok_or_err (scan k.schema k.values) x e (sym same ∙ h.read) k.read

pub entries_once : (columns : List PartColumn) (bytes : List ℕ) (a b : List EntryData) → AreEntries columns bytes a → AreEntries columns bytes b → a ≡ b
entries_once columns bytes a b h k = stands_once MAX_VALUES (entries_of columns) bytes a b h k

-- ---- metadata

pub read_once : (bytes : List ℕ) (m n : Metadata) → IsRead bytes m → IsRead bytes n → m ≡ n
read_once bytes m n a b = text_once bytes a.readings b.readings m n a.text b.text

held_metadata_once : (files : Files) (path a b : List ℕ) (m n : Metadata) → HoldsFile files path a → HoldsFile files path b → IsRead a m → IsRead b n → m ≡ n
held_metadata_once files path a b m n ha hb ra rb = read_once b m n (subst (λ (bytes : List ℕ). IsRead bytes m) (held_once files path a b ha hb) ra) rb

pub metadata_once : (files : Files) (version : ℕ) (m n : Metadata) → SaysMetadata files version m → SaysMetadata files version n → m ≡ n
metadata_once files version m n a b = held_metadata_once files (version_path version) a.bytes b.bytes m n a.holds b.holds a.read b.read

-- ---- snapshots

held_by : (s t : Snapshot) (ss : List Snapshot) (b : Bool) (o : Option Snapshot) → (o ≡ Some t → Contains ss t) → cond b (Some s) o ≡ Some t → Contains (s ∷ ss) t
held_by s t ss true o later is = subst (λ (u : Snapshot). Contains (s ∷ ss) u) (some_once (Some s) s t refl is) (Contains-head s ss)
held_by s t ss false o later is = Contains-tail s ss t (later is)

held_in : (ss : List Snapshot) (id : ℤ) (t : Snapshot) → held ss id ≡ Some t → Contains ss t
held_in [] id t is = absurd (none_or_some None t refl is)
held_in (s ∷ ss) id t is = held_by s t ss (int_eq s.id id) (held ss id) (λ later. held_in ss id t later) is

held_at_in : (ss : List Snapshot) (id : Option ℤ) (t : Snapshot) → held_at ss id ≡ Some t → Contains ss t
held_at_in ss None t is = absurd (none_or_some None t refl is)
held_at_in ss (Some id) t is = held_in ss id t is

pub current_in : (m : Metadata) (s : Snapshot) → IsCurrent m s → Contains m.snapshots s
current_in m s is = held_at_in m.snapshots m.current_snapshot s is

pub current_once : (m : Metadata) (s t : Snapshot) → IsCurrent m s → IsCurrent m t → s ≡ t
current_once m s t a b = some_once (held_at m.snapshots m.current_snapshot) s t a b

plan_by : (a b : Plan) → a.list ≡ b.list → a.schema ≡ b.schema → a.columns ≡ b.columns → a ≡ b
plan_by a b list schema columns = λ i. record { list = list i; schema = schema i; columns = columns i }

pub plan_once : (m : Metadata) (s : Snapshot) (a b : Plan) → IsPlanOf m s a → IsPlanOf m s b → a ≡ b
plan_once m s a b h k =
    let held : h.held ≡ k.held = ok_once (snapshot_schema m s) h.held k.held h.named k.named in
    let schema : a.schema ≡ b.schema = h.schema ∙ ap (λ (x : HeldSchema). x.1) held ∙ sym k.schema in
    plan_by a b (list_same m s a b h k) schema (columns_same m s a b h k)

-- ---- lists and manifests

pub list_once : (files : Files) (m : Metadata) (path : List ℕ) (a b : List ManifestFile) → SaysList files m path a → SaysList files m path b → a ≡ b
list_once files m path a b h k = lists.list_once files m path k.bytes k.infos b k.holds (λ others are. rows_once k.bytes others k.infos are k.rows) k.listed a h

pub manifest_says_once : (files : Files) (columns : List PartColumn) (path : List ℕ) (a b : List EntryData) → SaysManifest files columns path a → SaysManifest files columns path b → a ≡ b
manifest_says_once files columns path a b h k =
    entries_once columns k.bytes a b (subst (λ (bytes : List ℕ). AreEntries columns bytes a) (held_once files path h.bytes k.bytes h.holds k.holds) h.are) k.are

pub live_rows_once : (location : List ℕ) (info : ManifestInfo) (entries : List EntryData) (a b : List LiveRow) → AreLiveRows location info entries a → AreLiveRows location info entries b → a ≡ b
live_rows_once location info entries a b h k = ok_once (rows_in (front_of location) info entries) a b (rows_given location info entries a h) (rows_given location info entries b k)

manifest_by : (a b : Manifest) → a.file ≡ b.file → a.entries ≡ b.entries → a.rows ≡ b.rows → a ≡ b
manifest_by a b file entries rows = λ i. record { file = file i; entries = entries i; rows = rows i }

abbrev manifest_with : ManifestFile → ℕ → List LiveRow → Manifest
manifest_with file entries rows = record { file = file; entries = entries; rows = rows }

module _ (files : Files) (location : List ℕ) (columns : List PartColumn) (file : ManifestFile) where
  has_once : (n m : ℕ) (rs qs : List LiveRow) → HasEntries files location columns (manifest_with file n rs) → HasEntries files location columns (manifest_with file m qs) → (n ≡ m) × (rs ≡ qs)
  has_once n m rs qs h k =
      let same : h.entries ≡ k.entries = manifest_says_once files columns file.path h.entries k.entries h.says k.says in (
        h.count ∙ ap (λ (es : List EntryData). length es) same ∙ sym k.count,
        live_rows_once location file.info k.entries rs qs (subst (λ (es : List EntryData). AreLiveRows location file.info es rs) same h.rows) k.rows,
      )

  has_at : (r : Manifest) (rows : List LiveRow) → r.file ≡ file → HasEntries files location columns (manifest_with r.file r.entries rows) → HasEntries files location columns (manifest_with file r.entries rows)
  has_at r rows is h = subst (λ (f : ManifestFile). HasEntries files location columns (manifest_with f r.entries rows)) is h

  pub manifest_once : (a b : Manifest) → IsManifestOf files location columns file a → IsManifestOf files location columns file b → a ≡ b
  manifest_once a b (sa, inl (za, ha)) (sb, inl (zb, hb)) =
      let one = has_once a.entries b.entries a.rows b.rows (has_at a a.rows sa ha) (has_at b b.rows sb hb) in
      manifest_by a b (sa ∙ sym sb) one.0 one.1
  manifest_once a b (sa, inl (za, ha)) (sb, inr (nb, hb, eb)) = absurd (nb za)
  manifest_once a b (sa, inr (na, ha, ea)) (sb, inl (zb, hb)) = absurd (na zb)
  manifest_once a b (sa, inr (na, ha, ea)) (sb, inr (nb, hb, eb)) =
      let one = has_once a.entries b.entries ha.0 hb.0 (has_at a ha.0 sa ha.1) (has_at b hb.0 sb hb.1) in
      manifest_by a b (sa ∙ sym sb) one.0 (ea ∙ sym eb)

pub manifests_once : (files : Files) (location : List ℕ) (columns : List PartColumn) (list : List ManifestFile) (a b : List Manifest) → AreEach (IsManifestOf files location columns) list a → AreEach (IsManifestOf files location columns) list b → a ≡ b
manifests_once files location columns list a b h k = each_once (IsManifestOf files location columns) list a b (manifest_once files location columns) h k

-- ---- what the current snapshot says

pub record SaysOnce (files : Files) (m : Metadata) (a b : SaysCurrent files m) : Type 0 where
  pub snapshot : a.snapshot ≡ b.snapshot
  pub plan : a.plan ≡ b.plan
  pub list : a.list ≡ b.list
  pub manifests : a.manifests ≡ b.manifests

pub says_once : (files : Files) (m : Metadata) (a b : SaysCurrent files m) → SaysOnce files m a b
says_once files m a b =
    let snapshot : a.snapshot ≡ b.snapshot = current_once m a.snapshot b.snapshot a.current b.current in
    let plan : a.plan ≡ b.plan = plan_once m b.snapshot a.plan b.plan (subst (λ (s : Snapshot). IsPlanOf m s a.plan) snapshot a.says.planned) b.says.planned in
    let list : a.list ≡ b.list = list_once files m b.plan.list a.list b.list (subst (λ (p : Plan). SaysList files m p.list a.list) plan a.says.says) b.says.says in
    let manifests : a.manifests ≡ b.manifests = manifests_once files m.location (part_columns b.plan.columns) b.list a.manifests b.manifests
    (subst (λ (l : List ManifestFile). AreEach (IsManifestOf files m.location (part_columns b.plan.columns)) l a.manifests) list (subst (λ (p : Plan). AreEach (IsManifestOf files m.location (part_columns p.columns)) a.list a.manifests) plan a.says.are)) b.says.are in
    record { snapshot = snapshot; plan = plan; list = list; manifests = manifests }

-- ---- marks

pub mark_once : (m : Metadata) (a b : Mark) → HasMark m a → HasMark m b → a ≡ b
mark_once m a b h k =
    let text : h.text ≡ k.text = some_once _ h.text k.text h.found k.found in
    one_mark k.text a b (subst (λ (t : List ℕ). IsMarkText t a) text h.reads) k.reads

pub standing_once : (m : Metadata) (version : ℕ) (s t : Standing) → IsMarked m version s → IsMarked m version t → s ≡ t
standing_once m version s t h k = sym h.is ∙ ap standing_of (mark_once m h.mark k.mark h.has k.has) ∙ k.is
