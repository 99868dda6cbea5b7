-- The manifests of a new version's list, in the files behind a commit.
use Rattle.std.proofs.Common.{◌≡◌, ◌≢◌, ◌⊎◌, inl, inr, ⊎_elim, ℕ, suc, ℤ, pos, negsuc, ◌+◌, ◌<◌, ◌≤◌, ◌^◌, List, [], ◌∷◌, ◌++◌, map, length, Contains, Option, Some, refl, sym, ap, subst, ◌∙◌, arith}
use Rattle.std.specs.Prelude.{◌≤ℤ◌, slice_get}
use Rattle.std.specs.FinMap as map
use Rattle.std.specs.List.{AllByRecursion, filter}
use Rattle.std.proofs.lemmas.Int.{ints}
use Rattle.lake_basics.specs.declared.limits.TheConstants.{MAX_MANIFEST_ENTRIES}
use Rattle.lake_store.specs.Disk.{Files}
use Rattle.table_history.specs.Path.{IsPath}
use Rattle.table_history.specs.Row.{Row}
use Rattle.table_history.specs.declared.table.Commit.{Commit}
use Rattle.table_history.proofs.RowListLemmas.{Contains-filter, Contains-none}
use Rattle.file_links.specs.declared.slots.Held.{Held}
use Rattle.iceberg_manifest.specs.Entry.{EntryData}
use Rattle.iceberg_manifest.specs.Lists.{AreEach}
use Rattle.iceberg_live.specs.Live.{IsInherited, IsRowOf}
use Rattle.iceberg_manifest.specs.Entry.{is_live}
use Rattle.iceberg_live.specs.LiveRows.{AreLiveRows}
use Rattle.iceberg_metadata.specs.Location.{front_of}
use Rattle.iceberg_manifest.specs.declared.info.ManifestInfo.{ManifestInfo}
use Rattle.iceberg_live.specs.declared.live.LiveRow.{LiveRow}
use Rattle.iceberg_manifest.specs.declared.partition.PartColumn.{PartColumn}
use Rattle.iceberg_metadata.specs.declared.metadata.Metadata.{Metadata}
use Rattle.iceberg_table.specs.Files.{HoldsFile}
use Rattle.iceberg_table.specs.Folder.{path_of}
use Rattle.iceberg_table.specs.Lists.{IsListed}
use Rattle.iceberg_table.specs.Manifests.{AreEntries, HasEntries, IsManifestOf, SaysManifest}
use Rattle.iceberg_table.specs.Plan.{part_columns}
use Rattle.iceberg_table.specs.declared.list.ManifestFile.{ManifestFile}
use Rattle.iceberg_table.specs.declared.manifest.Manifest.{Manifest}
use Rattle.iceberg_table.proofs.EachLaws.{each_back}
use Rattle.iceberg_version.specs.Manifests.{AreListed, IsInfoOf, LiveManifest, NextManifest, added_entry, born_at, left, lost, new, new_entries, rewritten_entries, stays, with_place}
use Rattle.iceberg_version.specs.Names.{manifest_name}
use Rattle.iceberg_version.specs.Writing.{TableEnd, front_in}
use Rattle.iceberg_version.proofs.ListLemmas.{parts_joined}
use Rattle.iceberg_version.proofs.Shared.{of_map}
use Rattle.target_core.specs.Views.{Origin}
use Rattle.target_iceberg.specs.Kept.{born_of, held_of}
use Rattle.target_iceberg.specs.Reached.{IsReached}
use Rattle.target_iceberg.proofs.WrittenFiles.{reached_stays}
use Rattle.target_iceberg.specs.OnceLemmas.{current_in}
use Rattle.target_iceberg.specs.SameLemmas.{manifest_at, manifest_reached}
use Rattle.target_iceberg.proofs.WrittenNames.{manifest_path}
use Rattle.target_iceberg.proofs.WrittenNext.{IsMade, added_live, born_again, held_again, in_joined, live_of, new_live, rewritten_live}
use Rattle.target_iceberg.proofs.WrittenStart.{HasEnd, IsFirstEnd, IsLiveOf}
use Rattle.target_iceberg.proofs.WrittenVersion as version
use Rattle.target_iceberg.proofs.WrittenVersion.{HasCommitted}

-- ---- a manifest of the list before

-- The numbers of its row in the list and of its entries are none past a version.
pub record HasLowNumbers (version : ℕ) (added : ℤ) (entries : List EntryData) : Type 0 where
  pub added_in : added ≤ℤ pos version
  pub each : (e : EntryData) (snapshot : ℤ) → Contains entries e → e.snapshot ≡ Some snapshot → snapshot ≤ℤ pos version
  pub few : length entries ≤ MAX_MANIFEST_ENTRIES

-- The manifest that was read has live rows, and this is where.
pub record IsReadIn (files : Files) (end : TableEnd) (has : HasEnd files end) (m : LiveManifest) : Type 0 where
  pub file : ManifestFile
  pub named : Contains has.current.list file
  pub info : m.info ≡ file.info
  pub of_data : file.info.content ≡ pos 0
  pub entries : List EntryData
  pub says : SaysManifest files (part_columns has.current.plan.columns) file.path entries
  pub rows : List LiveRow
  pub live : AreLiveRows has.metadata.location file.info entries rows
  pub held : m.rows ≡ map held_of rows
  pub low : HasLowNumbers end.version file.info.added_snapshot_id entries

module _ (files : Files) (end : TableEnd) (has : HasEnd files end) where
  abbrev old_columns : List PartColumn
  old_columns = part_columns has.current.plan.columns

  low_numbers : (file : ManifestFile) (entries : List EntryData) → Contains has.current.list file → SaysManifest files old_columns file.path entries → HasLowNumbers end.version file.info.added_snapshot_id entries
  low_numbers file entries named says = record { added_in = has.own.rows file named; each = λ e snapshot held is. has.own.entries file entries e snapshot named says held is; few = has.own.few file entries named says }

  read_by : (m : LiveManifest) (r : Manifest) (file : ManifestFile) → Contains has.current.list file → IsManifestOf files has.metadata.location old_columns file r → IsLiveOf r m → m.rows ≢ [] → IsReadIn files end has m
  read_by m r file named is live some =
      ⊎_elim
      (λ (d : (file.info.content ≡ pos 0) × HasEntries files has.metadata.location old_columns r).
      let says : SaysManifest files old_columns file.path d.1.entries = subst (λ (f : ManifestFile). SaysManifest files old_columns f.path d.1.entries) is.0 d.1.says in
      record {
        file = file;
        named = named;
        info = live.info ∙ ap (λ (f : ManifestFile). f.info) is.0;
        of_data = d.0;
        entries = d.1.entries;
        says = says;
        rows = r.rows;
        live = subst (λ (f : ManifestFile). AreLiveRows has.metadata.location f.info d.1.entries r.rows) is.0 d.1.rows;
        held = live.rows;
        low = low_numbers file d.1.entries named says;
      })
      (λ (d : (file.info.content ≢ pos 0) × ((all : List LiveRow) × HasEntries files has.metadata.location old_columns (record { file = r.file; entries = r.entries; rows = all })) × (r.rows ≡ [])).
      absurd (some (live.rows ∙ ap (λ (l : List LiveRow). map held_of l) d.2)))
      is.1

  pub read_in : (m : LiveManifest) → Contains end.manifests m → m.rows ≢ [] → IsReadIn files end has m
  read_in m there some =
      let r = each_back IsLiveOf has.current.manifests end.manifests m has.manifests there in
      let file = each_back (IsManifestOf files has.metadata.location old_columns) has.current.list has.current.manifests r.0 has.current.says.are r.1 in
      read_by m r.0 file.0 file.1 file.2 r.2 some

-- ---- its held rows

born_low : (version : ℕ) (z : ℤ) → z ≤ℤ pos version → pos (born_of z) ≤ℤ pos version
born_low version (pos n) low = low
born_low version (negsuc n) low = omega (arith, ints)

pub inherited_low : (version status : ℕ) (number : Option ℤ) (from n : ℤ) → ((i : ℤ) → number ≡ Some i → i ≤ℤ pos version) → from ≤ℤ pos version → IsInherited status number from n → n ≤ℤ pos version
inherited_low version status number from n own low (inl is) = own n is
inherited_low version status number from n own low (inr (none, added, is)) = subst (λ (i : ℤ). i ≤ℤ pos version) (sym is) low

-- A held row has a path, and was added by no version past this one.
pub record IsHeldRow (version : ℕ) (h : Held) : Type 0 where
  pub path : IsPath h.row.path
  pub born : pos h.born ≤ℤ pos version

module _ (files : Files) (end : TableEnd) (has : HasEnd files end) (m : LiveManifest) (is : IsReadIn files end has m) where
  live_held : (e : EntryData) (r : LiveRow) → Contains is.entries e → IsRowOf has.metadata.location is.file.info e r → IsHeldRow end.version (held_of r)
  live_held e r held row = record {
    path = row.path;
    born = born_low end.version r.snapshot (inherited_low end.version e.status e.snapshot is.file.info.added_snapshot_id r.snapshot (λ i of. is.low.each e i held of) is.low.added_in row.snapshot);
  }

  read_held : (h : Held) → Contains m.rows h → IsHeldRow end.version h
  read_held h there =
      let at = of_map held_of is.rows h (subst (λ (l : List Held). Contains l h) is.held there) in
      let e = each_back (IsRowOf has.metadata.location is.file.info) (filter is_live is.entries) is.rows at.0 is.live at.1 in
      subst (IsHeldRow end.version) at.2 (live_held e.0 at.0 (Contains-filter is_live is.entries e.0 e.1).0 e.2)

some_held : (rows : List Held) (h : Held) → Contains rows h → rows ≢ []
some_held rows h there none = Contains-none h (subst (λ (l : List Held). Contains l h) none there)

pub held_row : (files : Files) (id location : List ℕ) (end : TableEnd) → IsFirstEnd files id location end ⊎ HasEnd files end → (m : LiveManifest) (h : Held) → Contains end.manifests m → Contains m.rows h → IsHeldRow end.version h
held_row files id location end (inl first) m h there within = absurd (Contains-none m (subst (λ (l : List LiveManifest). Contains l m) first.manifests there))
held_row files id location end (inr has) m h there within = read_held files end has m (read_in files end has m there (some_held m.rows h within)) h within

-- ---- placed in the new list

-- The list names the manifest at this path, and reading it gives these entries and live rows.
pub record IsPlaced (after : Files) (again : Metadata) (columns : List PartColumn) (listed : LiveManifest) : Type 0 where
  pub file : ManifestFile
  pub info : file.info ≡ listed.info
  pub row : IsListed again listed.info file
  pub of_data : listed.info.content ≡ pos 0
  pub entries : List EntryData
  pub says : SaysManifest after columns file.path entries
  pub rows : List LiveRow
  pub live : AreLiveRows again.location listed.info entries rows
  pub held : listed.rows ≡ map held_of rows

-- A manifest that stays was reached before, and has the numbers of versions before. A new one has the entries that were written, under a name of this version.
abbrev pub IsFrom : Files → ℕ → ℕ → NextManifest → ManifestInfo → List ℕ → List EntryData → Type 0
IsFrom files n count (stays m) info path entries = IsReached files path × HasLowNumbers n info.added_snapshot_id entries
IsFrom files n count (new es rows) info path entries = (entries ≡ es) × (info.added_snapshot_id ≡ pos (n + 1)) × ((number : ℕ) × (number < count) × (path ≡ path_of (manifest_name (n + 1) number)))

pub record IsPlacedNext (files after : Files) (n count : ℕ) (again : Metadata) (columns : List PartColumn) (next : NextManifest) (listed : LiveManifest) : Type 0 where
  pub placed : IsPlaced after again columns listed
  pub made : IsFrom files n count next listed.info placed.file.path placed.entries

row_moved : (a b : List ℕ) (info other : ManifestInfo) (e : EntryData) (r : LiveRow) → a ≡ b → other.added_snapshot_id ≡ info.added_snapshot_id → other.sequence_number ≡ info.sequence_number → IsRowOf a info e r → IsRowOf b other e r
row_moved a b info other e r same added sequence row = record {
  live = row.live;
  place = row.place ∙ ap (λ (l : List ℕ). front_of l ++ r.row.path) same;
  path = row.path;
  values = row.values;
  count = row.count;
  size = row.size;
  snapshot = subst (λ (i : ℤ). IsInherited e.status e.snapshot i r.snapshot) (sym added) row.snapshot;
  sequence = subst (λ (i : ℤ). IsInherited e.status e.sequence i r.sequence) (sym sequence) row.sequence;
  file_sequence = (row.file_sequence.0, subst (λ (i : ℤ). IsInherited e.status e.file_sequence i row.file_sequence.0) (sym sequence) row.file_sequence.1);
}

rows_moved : (a b : List ℕ) (info other : ManifestInfo) (es : List EntryData) (rs : List LiveRow) → a ≡ b → other.added_snapshot_id ≡ info.added_snapshot_id → other.sequence_number ≡ info.sequence_number → AreEach (IsRowOf a info) es rs → AreEach (IsRowOf b other) es rs
rows_moved a b info other [] [] same added sequence are = tt
rows_moved a b info other [] (r ∷ rs) same added sequence are = absurd are
rows_moved a b info other (e ∷ es) [] same added sequence are = absurd are
rows_moved a b info other (e ∷ es) (r ∷ rs) same added sequence are = (row_moved a b info other e r same added sequence are.0, rows_moved a b info other es rs same added sequence are.1)

module _ (files after : Files) (id location : List ℕ) (rows : List Row) (end : TableEnd) (origin : Origin) (now : ℕ) (commit : Commit) (h : HasCommitted files after id location rows end origin now commit) where
  abbrev again : Metadata
  again = version.again files after id location rows end origin now commit h

  abbrev columns : List PartColumn
  columns = h.writes.is.columns

  abbrev count : ℕ
  count = length h.writes.written.texts

  abbrev Placed : NextManifest → LiveManifest → Type 0
  Placed next listed = IsPlacedNext files after end.version count again columns next listed

  abbrev Made : NextManifest → Type 0
  Made next = IsMade (front_in end) (end.version + 1) commit.change.removed end.manifests h.writes.is.manifests.next_are.parts next

  new_location : again.location ≡ end.metadata.location
  new_location = (version.new files after id location rows end origin now commit h).location

  old_location : (has : HasEnd files end) → has.metadata.location ≡ again.location
  old_location has = ap (λ (m : Metadata). m.location) (sym has.same.others) ∙ sym new_location

  -- ---- one that stays

  kept_placed : (has : HasEnd files end) (m : LiveManifest) (k : ℕ) → IsReadIn files end has m → Placed (stays m) (record m { info = with_place m.info k })
  kept_placed has m k is =
      let named = each_back (IsListed has.metadata) has.current.says.says.infos has.current.list is.file has.current.says.says.listed is.named in
      let row = named.2 in
      let info : m.info ≡ named.0 = is.info ∙ row.row in
      let reached = manifest_reached files end.version has.metadata has.newest.there has.says has.current.snapshot (current_in has.metadata has.current.snapshot has.current.current) has.current.plan has.current.list is.file has.current.says.planned has.current.says.says is.named in
      let same = reached_stays files after end.version count h.start.free h.writes.others is.file.path reached in
      let zero_content : m.info.content ≡ pos 0 = ap (λ (i : ManifestInfo). i.content) is.info ∙ is.of_data in
      let default : has.metadata.default_spec ≡ again.default_spec = has.form.spec.id ∙ sym (version.new files after id location rows end origin now commit h).default_spec in
      let says = manifest_at files after (part_columns has.current.plan.columns) is.file.path is.entries same is.says in
      record {
        placed = record {
          file = record { path = is.file.path; info = with_place m.info k };
          info = refl;
          row = record {
            path = record {
              place = ap (λ (i : ManifestInfo). i.manifest_path) info ∙ row.path.place ∙ ap (λ (l : List ℕ). front_of l ++ is.file.path) (old_location has);
              form = row.path.form;
              within = row.path.within;
            };
            row = refl;
            spec = ap (λ (i : ManifestInfo). i.partition_spec_id) info ∙ row.spec ∙ default;
            deletes = λ d. d.0 zero_content;
          };
          of_data = zero_content;
          entries = is.entries;
          says = subst (λ (cs : List PartColumn). SaysManifest after cs is.file.path is.entries) (version.old_columns files after id location rows end origin now commit h has) says;
          rows = is.rows;
          live = rows_moved has.metadata.location again.location is.file.info (with_place m.info k) (filter is_live is.entries) is.rows (old_location has) (ap (λ (i : ManifestInfo). i.added_snapshot_id) is.info) (ap (λ (i : ManifestInfo). i.sequence_number) is.info) is.live;
          held = is.held;
        };
        made = (reached, subst (λ (i : ManifestInfo). HasLowNumbers end.version i.added_snapshot_id is.entries) (sym is.info) is.low);
      }

  none_stays : IsFirstEnd files id location end → (m : LiveManifest) → Contains end.manifests m → ⊥
  none_stays first m there = Contains-none m (subst (λ (l : List LiveManifest). Contains l m) first.manifests there)

  stays_placed : (m : LiveManifest) (k : ℕ) → Contains end.manifests m → m.rows ≢ [] → Placed (stays m) (record m { info = with_place m.info k })
  stays_placed m k there some = by h.start.base
    where
      by : IsFirstEnd files id location end ⊎ HasEnd files end → Placed (stays m) (record m { info = with_place m.info k })
      by (inl first) = absurd (none_stays first m there)
      by (inr has) = kept_placed has m k (read_in files end has m there some)

  -- ---- a new one

  -- its live rows
  abbrev NewRows : ManifestInfo → List EntryData → List Held → Type 0
  NewRows info es rs = (live : List LiveRow) × AreLiveRows again.location info es live × (rs ≡ map held_of live)

  in_left : (removed : List (List ℕ)) (xs : List Held) (x : Held) → Contains (left removed xs) x → Contains xs x
  in_left removed xs x there = (Contains-filter _ xs x there).0

  anew_rows : (info : ManifestInfo) (m : LiveManifest) → Contains end.manifests m → NewRows info (rewritten_entries (front_in end) (end.version + 1) commit.change.removed m.rows) (left commit.change.removed m.rows)
  anew_rows info m there =
      let removed = commit.change.removed in
      let paths : (x : Held) → Contains (left removed m.rows) x → IsPath x.row.path = λ x within. (held_row files id location end h.start.base m x there (in_left removed m.rows x within)).path in
      let live = rewritten_live end.metadata.location (end.version + 1) info (left removed m.rows) (lost removed m.rows) paths in (
        map live_of (left removed m.rows),
        subst (λ (l : List ℕ). AreLiveRows l info (rewritten_entries (front_in end) (end.version + 1) removed m.rows) (map live_of (left removed m.rows))) (sym new_location) live,
        held_again (left removed m.rows),
      )

  part_paths : (part : List Row) → Contains h.writes.is.manifests.next_are.parts part → (row : Row) → Contains part row → IsPath row.path
  part_paths part there row within =
      let next = h.writes.is.manifests.next_are in
      let joined = in_joined next.parts part row there within in
      h.paths row ((next.rows row).1 (subst (λ (l : List Row). Contains l row) (parts_joined MAX_MANIFEST_ENTRIES next.added next.parts next.cut) joined))

  added_rows : (info : ManifestInfo) → info.sequence_number ≡ pos (end.version + 1) → (part : List Row) → Contains h.writes.is.manifests.next_are.parts part → NewRows info (map (added_entry (front_in end) (end.version + 1)) part) (map (born_at (end.version + 1)) part)
  added_rows info sequence part there =
      let live = added_live end.metadata.location (end.version + 1) info sequence part (part_paths part there) in (
        map (new_live (end.version + 1)) part,
        subst (λ (l : List ℕ). AreLiveRows l info (map (added_entry (front_in end) (end.version + 1)) part) (map (new_live (end.version + 1)) part)) (sym new_location) live,
        born_again (end.version + 1) part,
      )

  same_new : (es fs : List EntryData) (rs qs : List Held) → new es rs ≡ new fs qs → (fs ≡ es) × (qs ≡ rs)
  same_new es fs rs qs is = (cc is, cc is)

  never_new : (m : LiveManifest) (es : List EntryData) (rs : List Held) → new es rs ≡ stays m → ⊥
  never_new m es rs is = cc is

  same_rows : (info : ManifestInfo) (es fs : List EntryData) (rs qs : List Held) → new es rs ≡ new fs qs → NewRows info fs qs → NewRows info es rs
  same_rows info es fs rs qs is found =
      let same = same_new es fs rs qs is in
      subst (λ (l : List EntryData). NewRows info l rs) same.0 (subst (λ (l : List Held). NewRows info fs l) same.1 found)

  -- the rows of what was made new
  made_rows : (info : ManifestInfo) → info.sequence_number ≡ pos (end.version + 1) → (es : List EntryData) (rs : List Held) → Made (new es rs) → NewRows info es rs
  made_rows info sequence es rs (IsMade.kept m is there some none) = absurd (never_new m es rs is)
  made_rows info sequence es rs (IsMade.anew m is there) = same_rows info es (rewritten_entries (front_in end) (end.version + 1) commit.change.removed m.rows) rs (left commit.change.removed m.rows) is (anew_rows info m there)
  made_rows info sequence es rs (IsMade.adds part is there) = same_rows info es (map (added_entry (front_in end) (end.version + 1)) part) rs (map (born_at (end.version + 1)) part) is (added_rows info sequence part there)

  module _ (number k : ℕ) (es : List EntryData) (rs : List Held) (bytes : List ℕ) (listed : LiveManifest) where
    new_placed : Made (new es rs) → number < count → count < 2 ^ 64 → listed.rows ≡ rs → IsInfoOf (front_in end) (end.version + 1) number es bytes k listed.info → AreEntries columns bytes es → HoldsFile after (path_of (manifest_name (end.version + 1) number)) bytes → Placed (new es rs) listed
    new_placed made under few same info are holds =
        let is = info.2 in
        let at : listed.info.manifest_path ≡ front_in end ++ path_of (manifest_name (end.version + 1) number) = ap (λ (i : ManifestInfo). i.manifest_path) is in
        let sequence : listed.info.sequence_number ≡ pos (end.version + 1) = ap (λ (i : ManifestInfo). i.sequence_number) is in
        let live = made_rows listed.info sequence es rs made in
        let zero_content : listed.info.content ≡ pos 0 = ap (λ (i : ManifestInfo). i.content) is in
        let within = version.within files after id location rows end origin now commit h in
        record {
          placed = record {
            file = record { path = path_of (manifest_name (end.version + 1) number); info = listed.info };
            info = refl;
            row = record {
              path = record {
                place = at ∙ ap (λ (l : List ℕ). front_of l ++ path_of (manifest_name (end.version + 1) number)) (sym new_location);
                form = manifest_path (end.version + 1) number (omega (arith, within)) (omega (arith, under, few));
                within = (manifest_name (end.version + 1) number, refl);
              };
              row = refl;
              spec = ap (λ (i : ManifestInfo). i.partition_spec_id) is ∙ sym (version.new files after id location rows end origin now commit h).default_spec;
              deletes = λ d. d.0 zero_content;
            };
            of_data = zero_content;
            entries = es;
            says = record { bytes = bytes; holds = holds; are = are };
            rows = live.0;
            live = live.1;
            held = same ∙ live.2;
          };
          made = (refl, ap (λ (i : ManifestInfo). i.added_snapshot_id) is, (number, under, refl));
        }

  -- ---- all of them

  same_stays : (m x : LiveManifest) → stays m ≡ stays x → x ≡ m
  same_stays m x is = cc is

  never_stays : (m : LiveManifest) (es : List EntryData) (rs : List Held) → stays m ≡ new es rs → ⊥
  never_stays m es rs is = cc is

  still_placed : (m : LiveManifest) (k : ℕ) → Made (stays m) → Placed (stays m) (record m { info = with_place m.info k })
  still_placed m k (IsMade.kept x is there some none) =
      let same = same_stays m x is in
      stays_placed m k (subst (Contains end.manifests) same there) (subst (λ (y : LiveManifest). y.rows ≢ []) same some)
  still_placed m k (IsMade.anew x is there) = absurd (never_stays m _ _ is)
  still_placed m k (IsMade.adds part is there) = absurd (never_stays m _ _ is)

  -- the texts from this number on stand in their files
  abbrev AreHeld : ℕ → List (List ℕ) → Type 0
  AreHeld number texts = (i : ℕ) → i < length texts → map.get after (path_of (manifest_name (end.version + 1) (number + i))) ≡ slice_get texts i

  next_held : (number : ℕ) (bytes : List ℕ) (texts : List (List ℕ)) → AreHeld number (bytes ∷ texts) → AreHeld (number + 1) texts
  next_held number bytes texts held i under =
      let same : number + 1 + i ≡ number + suc i = omega arith in
      ap (λ (j : ℕ). map.get after (path_of (manifest_name (end.version + 1) j))) same ∙ held (suc i) (omega (arith, under))

  pub place_all : (k number : ℕ) (next : List NextManifest) (texts : List (List ℕ)) (listed : List LiveManifest) → count < 2 ^ 64 → number + length texts ≤ count → AllByRecursion Made next → AreListed (front_in end) (end.version + 1) k number next texts listed
      → AreEach (λ entries bytes. AreEntries columns bytes entries) (new_entries next) texts → AreHeld number texts → AreEach Placed next listed
  place_all k number [] [] [] few within made are read held = tt
  place_all k number [] [] (l ∷ ls) few within made are read held = absurd are
  place_all k number [] (t ∷ ts) ls few within made are read held = absurd are
  place_all k number (stays m ∷ next) texts [] few within made are read held = absurd are
  place_all k number (stays m ∷ next) texts (l ∷ ls) few within made are read held =
      (subst (Placed (stays m)) (sym are.0) (still_placed m k made.0), place_all (k + 1) number next texts ls few within made.1 are.1 read held)
  place_all k number (new es rs ∷ next) [] ls few within made are read held = absurd are
  place_all k number (new es rs ∷ next) (t ∷ ts) [] few within made are read held = absurd are
  place_all k number (new es rs ∷ next) (t ∷ ts) (l ∷ ls) few within made are read held =
      let plain : number + 0 ≡ number = omega arith in
      let holds : HoldsFile after (path_of (manifest_name (end.version + 1) number)) t = ap (λ (j : ℕ). map.get after (path_of (manifest_name (end.version + 1) j))) (sym plain) ∙ held 0 (omega arith) in
      (new_placed number k es rs t l made.0 (omega (arith, within)) few are.0 are.1 read.0 holds, place_all (k + 1) (number + 1) next ts ls few (omega (arith, within)) made.1 are.2 read.1 (next_held number t ts held))
