-- How many entries the manifests of an Iceberg target's current list have behind a commit.
use Rattle.std.proofs.Common.{◌≡◌, inl, inr, ℕ, suc, ◌+◌, ◌<◌, ◌≤◌, List, [], ◌∷◌, ◌++◌, length, map as map_of, Contains, refl, sym, ap, subst, ◌∙◌, arith}
use Rattle.std.specs.FinMap as map
use Rattle.std.specs.List.{filter}
use Rattle.std.specs.Prelude.{not, slice_get}
use Rattle.std.proofs.lemmas.List.{append_cancel_left}
use Rattle.std.proofs.lemmas.List.Filters.{length-filter_both}
use Rattle.lake_basics.specs.declared.limits.TheConstants.{MAX_MANIFEST_ENTRIES}
use Rattle.lake_store.specs.Disk.{Files}
use Rattle.table_history.proofs.RowListLemmas.{Contains-none}
use Rattle.table_history.specs.Row.{Row}
use Rattle.table_history.specs.declared.table.Commit.{Commit}
use Rattle.iceberg_live.specs.Live.{IsRowOf}
use Rattle.iceberg_live.specs.declared.live.LiveRow.{LiveRow}
use Rattle.iceberg_manifest.specs.Entry.{EntryData, is_live}
use Rattle.iceberg_manifest.specs.Lists.{AreEach}
use Rattle.iceberg_manifest.specs.declared.info.ManifestInfo.{ManifestInfo}
use Rattle.iceberg_manifest.specs.declared.partition.PartColumn.{PartColumn}
use Rattle.iceberg_metadata.specs.Location.{front_of}
use Rattle.iceberg_metadata.specs.declared.metadata.Metadata.{Metadata}
use Rattle.iceberg_table.proofs.EachLaws.{each_back}
use Rattle.iceberg_table.specs.Files.{HoldsFile}
use Rattle.iceberg_table.specs.Folder.{path_of}
use Rattle.iceberg_table.specs.Lists.{IsListed}
use Rattle.iceberg_table.specs.Manifests.{AreEntries, IsManifestOf, SaysManifest}
use Rattle.iceberg_table.specs.Once.{entry_count}
use Rattle.iceberg_table.specs.Plan.{part_columns}
use Rattle.iceberg_table.specs.declared.list.ManifestFile.{ManifestFile}
use Rattle.iceberg_table.specs.declared.manifest.Manifest.{Manifest}
use Rattle.iceberg_version.specs.Manifests.{AreListed, IsInfoOf, LiveManifest, NextManifest, new, new_entries, stays, with_place}
use Rattle.iceberg_version.specs.Names.{manifest_name}
use Rattle.iceberg_version.specs.Writing.{TableEnd, front_in}
use Rattle.iceberg_version.proofs.ListLemmas.{parts_joined}
use Rattle.iceberg_version.proofs.Shared.{each_length}
use Rattle.target_core.specs.Views.{Origin}
use Rattle.target_iceberg.proofs.WrittenCurrent as written
use Rattle.target_iceberg.proofs.WrittenFiles.{reached_stays}
use Rattle.target_iceberg.proofs.WrittenStart.{HasEnd, IsFirstEnd, IsLiveOf}
use Rattle.target_iceberg.proofs.WrittenVersion as version
use Rattle.target_iceberg.proofs.WrittenVersion.{HasCommitted}
use Rattle.target_iceberg.specs.OnceLemmas.{current_in, manifest_says_once}
use Rattle.target_iceberg.specs.SameLemmas.{manifest_at, manifest_reached}
use Rattle.lake_play.proofs.EntryCounts.{HasRows, IsCountOf, next_count}

-- ---- a manifest that is read

-- its entries, which are as many as are told
abbrev IsRead : Files → List PartColumn → ManifestFile → Manifest → Type 0
IsRead files columns file r = (entries : List EntryData) × SaysManifest files columns file.path entries × (r.entries ≡ length entries)

read_of : (files : Files) (location : List ℕ) (columns : List PartColumn) (file : ManifestFile) (r : Manifest) → IsManifestOf files location columns file r → IsRead files columns file r
read_of files location columns file r (same, inl (of_data, is)) = (is.entries, subst (λ (f : ManifestFile). SaysManifest files columns f.path is.entries) same is.says, is.count)
read_of files location columns file r (same, inr (other, is, none)) = (is.1.entries, subst (λ (f : ManifestFile). SaysManifest files columns f.path is.1.entries) same is.1.says, is.1.count)

rows_within : (files : Files) (location : List ℕ) (columns : List PartColumn) (file : ManifestFile) (r : Manifest) → IsManifestOf files location columns file r → HasRows r
rows_within files location columns file r (same, inl (of_data, is)) =
    let live = each_length (IsRowOf location r.file.info) (filter is_live is.entries) r.rows is.rows in
    let some = length-filter_both is_live (λ e. not (is_live e)) (λ e. refl) is.entries in
    let count = is.count in
    omega (arith, live, some, count)
rows_within files location columns file r (same, inr (other, is, none)) = let empty = ap (λ (l : List LiveRow). length l) none in omega (arith, empty)

-- ---- behind a commit

module _ (files after : Files) (id location : List ℕ) (rows : List Row) (end : TableEnd) (origin : Origin) (now : ℕ) (commit : Commit) (h : HasCommitted files after id location rows end origin now commit) where
  abbrev again : Metadata
  again = version.again files after id location rows end origin now commit h

  abbrev columns : List PartColumn
  columns = h.writes.is.columns

  abbrev count : ℕ
  count = length h.writes.written.texts

  abbrev Of : ManifestFile → Manifest → Type 0
  Of = IsManifestOf after again.location columns

  new_location : again.location ≡ end.metadata.location
  new_location = (version.new files after id location rows end origin now commit h).location

  -- a manifest that stays has the entries that it had
  stays_count : (has : HasEnd files end) (m : LiveManifest) (k : ℕ) (file : ManifestFile) (r : Manifest) → IsListed again (with_place m.info k) file → Of file r → IsCountOf has.current.manifests (stays m) r
  stays_count has m k file r listed of s there same_info =
      let says = has.current.says in
      let old_columns = part_columns has.current.plan.columns in
      let was = each_back (IsManifestOf files has.metadata.location old_columns) has.current.list has.current.manifests s says.are there in
      let f = was.0 in
      let old = read_of files has.metadata.location old_columns f s was.2 in
      let row = each_back (IsListed has.metadata) says.says.infos has.current.list f says.says.listed was.1 in
      let old_location : has.metadata.location ≡ again.location = ap (λ (x : Metadata). x.location) (sym has.same.others) ∙ sym new_location in
      let info : m.info ≡ row.0 = sym same_info ∙ ap (λ (x : ManifestFile). x.info) was.2.0 ∙ row.2.row in
      let place : front_of again.location ++ file.path ≡ front_of again.location ++ f.path = sym listed.path.place ∙ ap (λ (x : ManifestInfo). x.manifest_path) info ∙ row.2.path.place ∙ ap (λ (l : List ℕ). front_of l ++ f.path) old_location in
      let path : file.path ≡ f.path = append_cancel_left (front_of again.location) file.path f.path place in
      let reached = manifest_reached files end.version has.metadata has.newest.there has.says has.current.snapshot (current_in has.metadata has.current.snapshot has.current.current) has.current.plan has.current.list f says.planned says.says was.1 in
      let stayed = reached_stays files after end.version count h.start.free h.writes.others f.path reached in
      let still = subst (λ (cs : List PartColumn). SaysManifest after cs f.path old.0) (version.old_columns files after id location rows end origin now commit h has) (manifest_at files after old_columns f.path old.0 stayed old.1) in
      let mine = read_of after again.location columns file r of in
      let same = manifest_says_once after columns file.path mine.0 old.0 mine.1 (subst (λ (p : List ℕ). SaysManifest after columns p old.0) (sym path) still) in
      mine.2 ∙ ap (λ (es : List EntryData). length es) same ∙ sym old.2

  -- a new one has those that are written
  new_is : (es : List EntryData) (bytes : List ℕ) (number k : ℕ) (info : ManifestInfo) (file : ManifestFile) (r : Manifest) → IsInfoOf (front_in end) (end.version + 1) number es bytes k info → IsListed again info file → Of file r → AreEntries columns bytes es
      → HoldsFile after (path_of (manifest_name (end.version + 1) number)) bytes → r.entries ≡ length es
  new_is es bytes number k info file r is listed of are holds =
      let name = path_of (manifest_name (end.version + 1) number) in
      let place : front_of again.location ++ file.path ≡ front_of again.location ++ name = sym listed.path.place ∙ ap (λ (x : ManifestInfo). x.manifest_path) is.2 ∙ ap (λ (l : List ℕ). front_of l ++ name) (sym new_location) in
      let path : file.path ≡ name = append_cancel_left (front_of again.location) file.path name place in
      let mine = read_of after again.location columns file r of in
      let theirs : SaysManifest after columns file.path es = record { bytes = bytes; holds = subst (λ (p : List ℕ). HoldsFile after p bytes) (sym path) holds; are = are } in
      mine.2 ∙ ap (λ (l : List EntryData). length l) (manifest_says_once after columns file.path mine.0 es mine.1 theirs)

  -- the texts from this number on stand in their files
  abbrev AreHeld : ℕ → List (List ℕ) → Type 0
  AreHeld number texts = (i : ℕ) → i < length texts → map.get after (path_of (manifest_name (end.version + 1) (number + i))) ≡ slice_get texts i

  next_held : (number : ℕ) (bytes : List ℕ) (texts : List (List ℕ)) → AreHeld number (bytes ∷ texts) → AreHeld (number + 1) texts
  next_held number bytes texts held i under =
      let same : number + 1 + i ≡ number + suc i = omega arith in
      ap (λ (j : ℕ). map.get after (path_of (manifest_name (end.version + 1) j))) same ∙ held (suc i) (omega (arith, under))

  counts : (before : List Manifest) → ((m : LiveManifest) (k : ℕ) (file : ManifestFile) (r : Manifest) → IsListed again (with_place m.info k) file → Of file r → IsCountOf before (stays m) r)
      → (k number : ℕ) (next : List NextManifest) (texts : List (List ℕ)) (listed : List LiveManifest) (list : List ManifestFile) (rs : List Manifest) → AreListed (front_in end) (end.version + 1) k number next texts listed
      → AreEach (λ entries bytes. AreEntries columns bytes entries) (new_entries next) texts → AreHeld number texts → AreEach (IsListed again) (map_of (λ (m : LiveManifest). m.info) listed) list → AreEach Of list rs → AreEach (IsCountOf before) next rs
  counts before still k number [] [] [] [] [] are read held rows of = tt
  counts before still k number [] [] [] [] (r ∷ rs) are read held rows of = absurd of
  counts before still k number [] [] [] (f ∷ list) rs are read held rows of = absurd rows
  counts before still k number [] [] (l ∷ ls) list rs are read held rows of = absurd are
  counts before still k number [] (t ∷ ts) ls list rs are read held rows of = absurd are
  counts before still k number (stays m ∷ next) texts [] list rs are read held rows of = absurd are
  counts before still k number (stays m ∷ next) texts (l ∷ ls) [] rs are read held rows of = absurd rows
  counts before still k number (stays m ∷ next) texts (l ∷ ls) (f ∷ list) [] are read held rows of = absurd of
  counts before still k number (stays m ∷ next) texts (l ∷ ls) (f ∷ list) (r ∷ rs) are read held rows of =
      (still m k f r (subst (λ (x : LiveManifest). IsListed again x.info f) are.0 rows.0) of.0, counts before still (k + 1) number next texts ls list rs are.1 read held rows.1 of.1)
  counts before still k number (new es hs ∷ next) [] ls list rs are read held rows of = absurd are
  counts before still k number (new es hs ∷ next) (t ∷ ts) [] list rs are read held rows of = absurd are
  counts before still k number (new es hs ∷ next) (t ∷ ts) (l ∷ ls) [] rs are read held rows of = absurd rows
  counts before still k number (new es hs ∷ next) (t ∷ ts) (l ∷ ls) (f ∷ list) [] are read held rows of = absurd of
  counts before still k number (new es hs ∷ next) (t ∷ ts) (l ∷ ls) (f ∷ list) (r ∷ rs) are read held rows of =
      let plain : number + 0 ≡ number = omega arith in
      let holds : HoldsFile after (path_of (manifest_name (end.version + 1) number)) t = ap (λ (j : ℕ). map.get after (path_of (manifest_name (end.version + 1) j))) (sym plain) ∙ held 0 (omega arith) in
      (new_is es t number k l.info f r are.1 rows.0 of.0 read.0 holds, counts before still (k + 1) (number + 1) next ts ls list rs are.2 read.1 (next_held number t ts held) rows.1 of.1)

  abbrev added : List Row
  added = h.writes.is.manifests.next_are.added

  abbrev manifests : List Manifest
  manifests = written.manifests files after id location rows end origin now commit h

  all_counts : (before : List Manifest) → ((m : LiveManifest) (k : ℕ) (file : ManifestFile) (r : Manifest) → IsListed again (with_place m.info k) file → Of file r → IsCountOf before (stays m) r) → AreEach (IsCountOf before) h.writes.is.manifests.next manifests
  all_counts before still =
      let gathered = written.gathered files after id location rows end origin now commit h in
      let held : AreHeld 0 h.writes.written.texts = λ i under. let same : 0 + i ≡ i = omega arith in ap (λ (j : ℕ). map.get after (path_of (manifest_name (end.version + 1) j))) same ∙ h.writes.manifests i under in
      counts before still 0 0 h.writes.is.manifests.next h.writes.written.texts h.writes.written.manifests gathered.list gathered.manifests h.writes.is.manifests.listed h.writes.back.manifests held gathered.rows gathered.are

  few_by : (before : List Manifest) → ((s : Manifest) → Contains before s → HasRows s) → AreEach IsLiveOf before end.manifests → AreEach (IsCountOf before) h.writes.is.manifests.next manifests → entry_count manifests ≤ entry_count before + length added
  few_by before short live are =
      let next_are = h.writes.is.manifests.next_are in
      let joined = ap (λ (l : List Row). length l) (parts_joined MAX_MANIFEST_ENTRIES next_are.added next_are.parts next_are.cut) in
      let few = next_count (front_in end) (end.version + 1) commit.change.removed before end.manifests next_are.parts h.writes.is.manifests.next manifests short live next_are.is are in
      omega (arith, few, joined)

  -- Behind a first commit they have an entry for each row that is added.
  pub first_entries : IsFirstEnd files id location end → entry_count manifests ≤ length added
  first_entries first =
      let few : entry_count manifests ≤ 0 + length added =
      few_by [] (λ s there. absurd (Contains-none s there)) (subst (AreEach IsLiveOf []) (sym first.manifests) tt)
      (all_counts [] (λ m k file r listed of s there. absurd (Contains-none s there))) in
      omega (arith, few)

  -- Behind another one they have those that they had, and as many more.
  pub more_entries : (has : HasEnd files end) → entry_count manifests ≤ entry_count has.current.manifests + length added
  more_entries has =
      few_by has.current.manifests
      (λ s there.
      let was = each_back (IsManifestOf files has.metadata.location (part_columns has.current.plan.columns)) has.current.list has.current.manifests s has.current.says.are there in
      rows_within files has.metadata.location (part_columns has.current.plan.columns) was.0 s was.2)
      has.manifests (all_counts has.current.manifests (stays_count has))
