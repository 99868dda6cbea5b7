-- The current snapshot of a new version: its list, its manifests, and their live rows.
use Rattle.std.proofs.Common.{◌≡◌, ◌↔◌, inl, ⊎_elim, ℕ, ◌+◌, ◌<◌, ◌^◌, List, [], ◌∷◌, map, length, Contains, refl, sym, ap, subst, ◌∙◌, arith}
use Rattle.std.specs.Prelude.{slice_get}
use Rattle.std.specs.FinMap as map
use Rattle.std.specs.List.{AllByRecursion}
use Rattle.std.proofs.lemmas.List.{length-map}
use Rattle.lake_basics.specs.declared.limits.TheConstants.{MAX_MANIFEST_ENTRIES}
use Rattle.lake_store.specs.Disk.{Files}
use Rattle.table_history.specs.Row.{Row}
use Rattle.table_history.specs.Rows.{HasDistinctPaths}
use Rattle.table_history.specs.Tables.{IsRowAfter}
use Rattle.table_history.specs.declared.table.Commit.{Commit}
use Rattle.table_history.proofs.RowListLemmas.{Contains-cases, Contains-head, Contains-none, Contains-tail}
use Rattle.iceberg_manifest.specs.Entry.{EntryData}
use Rattle.iceberg_manifest.specs.Lists.{AreEach}
use Rattle.iceberg_live.specs.LiveRows.{AreLiveRows}
use Rattle.iceberg_manifest.specs.declared.info.ManifestInfo.{ManifestInfo}
use Rattle.iceberg_manifest.specs.declared.partition.PartColumn.{PartColumn}
use Rattle.iceberg_metadata.specs.declared.metadata.Metadata.{Metadata}
use Rattle.iceberg_table.specs.Folder.{path_of}
use Rattle.iceberg_table.specs.Lists.{IsListed, SaysList}
use Rattle.iceberg_table.specs.Manifests.{IsManifestOf, SaysManifest}
use Rattle.iceberg_table.specs.Plan.{part_columns}
use Rattle.iceberg_table.specs.Tables.{rows_of}
use Rattle.iceberg_table.specs.declared.list.ManifestFile.{ManifestFile}
use Rattle.iceberg_table.specs.declared.manifest.Manifest.{Manifest}
use Rattle.iceberg_version.specs.Manifests.{LiveManifest, NextManifest}
use Rattle.iceberg_version.specs.Names.{manifest_name}
use Rattle.iceberg_version.specs.Writing.{TableEnd, front_in}
use Rattle.iceberg_version.proofs.ListLemmas.{parts_joined}
use Rattle.target_core.specs.Views.{Origin}
use Rattle.target_iceberg.specs.Reading.{SaysCurrent}
use Rattle.target_iceberg.proofs.WrittenManifests.{IsPlaced, IsPlacedNext, place_all}
use Rattle.target_iceberg.proofs.WrittenNext.{IsMade, all_made, few_rows, few_texts}
use Rattle.target_iceberg.specs.OnceLemmas.{manifest_says_once}
use Rattle.target_iceberg.proofs.WrittenRows.{after_are, after_distinct, after_rows, listed_rows, rows_behind}
use Rattle.target_iceberg.proofs.WrittenStart.{IsLiveOf, live_rows, live_rows_are}
use Rattle.target_iceberg.proofs.WrittenVersion as version
use Rattle.target_iceberg.proofs.WrittenVersion.{HasCommitted}

-- The files of the list and what is read of them, each with what it was made of.
pub record AreGathered (files after : Files) (n count : ℕ) (again : Metadata) (columns : List PartColumn) (next : List NextManifest) (listed : List LiveManifest) : Type 0 where
  pub list : List ManifestFile
  pub manifests : List Manifest
  pub rows : AreEach (IsListed again) (map (λ m. m.info) listed) list
  pub are : AreEach (IsManifestOf after again.location columns) list manifests
  pub live : AreEach IsLiveOf manifests listed
  pub each : (file : ManifestFile) → Contains list file → (nx : NextManifest) × (l : LiveManifest) × (p : IsPlacedNext files after n count again columns nx l) × Contains next nx × (p.placed.file ≡ file)
  pub of : (nx : NextManifest) → Contains next nx → (l : LiveManifest) × (p : IsPlacedNext files after n count again columns nx l) × Contains list p.placed.file

module _ (files after : Files) (n count : ℕ) (again : Metadata) (columns : List PartColumn) where
  abbrev Placed : NextManifest → LiveManifest → Type 0
  Placed nx l = IsPlacedNext files after n count again columns nx l

  abbrev read_of : {l : LiveManifest} → IsPlaced after again columns l → Manifest
  read_of p = record { file = p.file; entries = length p.entries; rows = p.rows }

  of_file : (l : LiveManifest) (p : IsPlaced after again columns l) → IsManifestOf after again.location columns p.file (read_of p)
  of_file l p = (
    refl,
    inl (
      ap (λ (i : ManifestInfo). i.content) p.info ∙ p.of_data,
      record {
        entries = p.entries;
        says = p.says;
        only = λ others says. manifest_says_once after columns p.file.path others p.entries says p.says;
        count = refl;
        rows = subst (λ (i : ManifestInfo). AreLiveRows again.location i p.entries p.rows) (sym p.info) p.live;
      },
    ),
  )

  gather : (next : List NextManifest) (listed : List LiveManifest) → AreEach Placed next listed → AreGathered files after n count again columns next listed
  gather [] [] are = record { list = []; manifests = []; rows = tt; are = tt; live = tt; each = λ file there. absurd (Contains-none file there); of = λ nx there. absurd (Contains-none nx there) }
  gather [] (l ∷ ls) are = absurd are
  gather (nx ∷ next) [] are = absurd are
  gather (nx ∷ next) (l ∷ ls) are =
      let p = are.0.placed in
      let rest = gather next ls are.1 in
      record {
        list = p.file ∷ rest.list;
        manifests = read_of p ∷ rest.manifests;
        rows = (p.row, rest.rows);
        are = (of_file l p, rest.are);
        live = (record { info = sym p.info; rows = p.held }, rest.live);
        each = λ file there.
            ⊎_elim
            (λ (same : p.file ≡ file). (nx, l, are.0, Contains-head nx next, same))
            (λ (later : Contains rest.list file). let found = rest.each file later in (found.0, found.1, found.2, Contains-tail nx next found.0 found.3, found.4))
            (Contains-cases p.file rest.list file there);
        of = λ one there.
            ⊎_elim
            (λ (same : nx ≡ one). subst (λ (x : NextManifest). (k : LiveManifest) × (q : Placed x k) × Contains (p.file ∷ rest.list) q.placed.file) same (l, are.0, Contains-head p.file rest.list))
            (λ (later : Contains next one). let found = rest.of one later in (found.0, found.1, Contains-tail p.file rest.list found.1.placed.file found.2))
            (Contains-cases nx next one there);
      }

module _ (files after : Files) (id location : List ℕ) (rows : List Row) (end : TableEnd) (origin : Origin) (now : ℕ) (commit : Commit) (h : HasCommitted files after id location rows end origin now commit) where
  abbrev again : Metadata
  again = version.again files after id location rows end origin now commit h

  abbrev columns : List PartColumn
  columns = h.writes.is.columns

  abbrev count : ℕ
  count = length h.writes.written.texts

  abbrev next : List NextManifest
  next = h.writes.is.manifests.next

  abbrev Made : NextManifest → Type 0
  Made nx = IsMade (front_in end) (end.version + 1) commit.change.removed end.manifests h.writes.is.manifests.next_are.parts nx

  pub made_all : AllByRecursion Made next
  made_all = subst (AllByRecursion Made) (sym h.writes.is.manifests.next_are.is) (all_made (front_in end) (end.version + 1) commit.change.removed end.manifests h.writes.is.manifests.next_are.parts)

  few : count < 2 ^ 64
  few =
      let texts = few_texts (front_in end) (end.version + 1) 0 0 next h.writes.written.texts h.writes.written.manifests h.writes.is.manifests.listed in
      let infos = few_rows h.writes.written.list (map (λ m. m.info) h.writes.written.manifests) h.writes.back.list in
      let same = length-map h.writes.written.manifests (λ (m : LiveManifest). m.info) in
      omega (arith, texts, infos, same)

  texts_held : (i : ℕ) → i < count → map.get after (path_of (manifest_name (end.version + 1) (0 + i))) ≡ slice_get h.writes.written.texts i
  texts_held i under = let same : 0 + i ≡ i = omega arith in ap (λ (j : ℕ). map.get after (path_of (manifest_name (end.version + 1) j))) same ∙ h.writes.manifests i under

  pub gathered : AreGathered files after end.version count again columns next h.writes.written.manifests
  gathered =
      gather files after end.version count again columns next h.writes.written.manifests
      (place_all files after id location rows end origin now commit h 0 0 next h.writes.written.texts h.writes.written.manifests few (omega arith) made_all h.writes.is.manifests.listed h.writes.back.manifests texts_held)

  abbrev pub list : List ManifestFile
  list = gathered.list

  abbrev pub manifests : List Manifest
  manifests = gathered.manifests

  -- ---- the rows

  abbrev added : List Row
  added = h.writes.is.manifests.next_are.added

  rows_same : live_rows h.writes.written.manifests ≡ after_rows rows (live_rows end.manifests) commit.change.removed commit.change.added added h.start.rows_are h.writes.is.manifests.next_are.rows
  rows_same =
      let next_are = h.writes.is.manifests.next_are in
      listed_rows (front_in end) (end.version + 1) 0 0 next h.writes.written.texts h.writes.written.manifests h.writes.is.manifests.listed
      ∙ rows_behind (front_in end) (end.version + 1) end.manifests commit.change.removed next added next_are.parts (parts_joined MAX_MANIFEST_ENTRIES added next_are.parts next_are.cut) next_are.is

  pub rows_are : (row : Row) → Contains (live_rows h.writes.written.manifests) row ↔ IsRowAfter rows commit.change.removed commit.change.added row
  rows_are = subst (λ (l : List Row). (row : Row) → Contains l row ↔ IsRowAfter rows commit.change.removed commit.change.added row) (sym rows_same) (after_are rows (live_rows end.manifests) commit.change.removed commit.change.added added h.start.rows_are h.writes.is.manifests.next_are.rows)

  pub read_rows : live_rows h.writes.written.manifests ≡ rows_of manifests
  read_rows = live_rows_are manifests h.writes.written.manifests gathered.live

  pub distinct : HasDistinctPaths (rows_of manifests)
  distinct =
      subst HasDistinctPaths (sym rows_same ∙ read_rows)
      (after_distinct rows (live_rows end.manifests) commit.change.removed commit.change.added added h.start.rows_are h.writes.is.manifests.next_are.rows h.start.distinct h.writes.is.manifests.next_are.order h.added_new)

  -- ---- the snapshot

  pub parts_are : part_columns (version.plan files after id location rows end origin now commit h).columns ≡ columns
  parts_are = version.part_columns_are files after id location rows end origin now commit h

  pub says_list : SaysList after again (version.plan files after id location rows end origin now commit h).list list
  says_list = record { bytes = h.writes.written.list; holds = h.writes.list; infos = map (λ m. m.info) h.writes.written.manifests; rows = h.writes.back.list; listed = gathered.rows }

  abbrev pub current : SaysCurrent after again
  current = record {
    snapshot = version.snapshot files after id location rows end origin now commit h;
    current = version.current files after id location rows end origin now commit h;
    plan = version.plan files after id location rows end origin now commit h;
    list = list;
    manifests = manifests;
    says = record {
      planned = version.planned files after id location rows end origin now commit h;
      says = says_list;
      are = subst (λ (cs : List PartColumn). AreEach (IsManifestOf after again.location cs) list manifests) (sym parts_are) gathered.are;
      distinct = distinct;
    };
  }

  -- the manifests are read with the plan's columns
  pub says_planned : (path : List ℕ) (entries : List EntryData) → SaysManifest after columns path entries → SaysManifest after (part_columns (version.plan files after id location rows end origin now commit h).columns) path entries
  says_planned path entries says = subst (λ (cs : List PartColumn). SaysManifest after cs path entries) (sym parts_are) says
