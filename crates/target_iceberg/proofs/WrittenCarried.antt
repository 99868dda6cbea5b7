-- The new version carries the change and the mark.
use Rattle.std.proofs.Common.{◌≡◌, ◌⊎◌, inl, inr, ⊎_elim, ℕ, zero, suc, ℤ, pos, ◌+◌, List, [], ◌∷◌, ◌++◌, map, length, Bool, true, cond, Contains, Some, refl, sym, ap, subst, ◌∙◌, arith}
use Rattle.std.specs.Prelude.{◌≤ℤ◌, flat_map, nat_lt}
use Rattle.std.specs.FinMap as map
use Rattle.std.specs.List.{filter, list_any}
use Rattle.std.proofs.lemmas.Bool.Decides.{nat_tests}
use Rattle.std.proofs.lemmas.Int.{ints}
use Rattle.std.proofs.lemmas.List.{append_cancel_left}
use Rattle.std.proofs.lemmas.List.Elements.{Contains-append_cases, Contains-append_left, Contains-append_right}
use Rattle.lake_basics.specs.declared.limits.TheConstants.{MAX_MANIFEST_ENTRIES}
use Rattle.lake_basics.proofs.Texts.{any_there}
use Rattle.lake_store.specs.Disk.{Files}
use Rattle.table_history.specs.Row.{Row}
use Rattle.table_history.specs.declared.table.Commit.{Commit}
use Rattle.table_history.proofs.RowListLemmas.{Contains-filter, Contains-head, Contains-none, Contains-tail, filter_contains}
use Rattle.file_links.specs.declared.slots.Held.{Held}
use Rattle.iceberg_manifest.specs.Entry.{EntryData}
use Rattle.iceberg_live.specs.Live.{IsRowOf}
use Rattle.iceberg_metadata.specs.Location.{front_of}
use Rattle.iceberg_manifest.specs.declared.info.ManifestInfo.{ManifestInfo}
use Rattle.iceberg_live.specs.declared.live.LiveRow.{LiveRow}
use Rattle.iceberg_manifest.specs.declared.partition.PartColumn.{PartColumn}
use Rattle.iceberg_metadata.specs.declared.metadata.Metadata.{Metadata}
use Rattle.iceberg_metadata.proofs.ListLemmas.{any_from}
use Rattle.iceberg_table.specs.Files.{SaysMetadata}
use Rattle.iceberg_table.specs.Folder.{HasVersion}
use Rattle.iceberg_table.specs.Manifests.{SaysManifest}
use Rattle.iceberg_table.specs.declared.list.ManifestFile.{ManifestFile}
use Rattle.iceberg_version.specs.Manifests.{LiveManifest, NextManifest, added_entry, added_manifest, born_at, carried, deleted_entry, existing_entry, has_rows, is_lost, left, lost, new, rewritten_entries, stays}
use Rattle.iceberg_version.specs.Writing.{TableEnd, front_in}
use Rattle.iceberg_version.proofs.ListLemmas.{parts_joined}
use Rattle.iceberg_version.proofs.Shared.{in_map, of_map}
use Rattle.target_core.specs.Views.{Origin, standing_at}
use Rattle.target_iceberg.specs.Reached.{IsReached}
use Rattle.target_iceberg.specs.Reading.{Adds, Deletes, IsCarried, IsEntryIn, KeepsId}
use Rattle.target_iceberg.proofs.WrittenFiles.{metadata_too, reached_stays, version_at, version_stays}
use Rattle.target_iceberg.proofs.WrittenManifests.{IsPlacedNext, inherited_low}
use Rattle.target_iceberg.proofs.WrittenNext.{IsMade, in_joined}
use Rattle.target_iceberg.specs.OnceLemmas.{manifest_says_once}
use Rattle.target_iceberg.proofs.WrittenOwn.{made_of}
use Rattle.target_iceberg.proofs.WrittenRows.{removed_any}
use Rattle.target_iceberg.proofs.WrittenStart.{HasEnd, IsFirstEnd, live_rows, rows_held}
use Rattle.target_iceberg.proofs.WrittenCurrent as written
use Rattle.target_iceberg.proofs.WrittenVersion as version
use Rattle.target_iceberg.proofs.WrittenVersion.{HasCommitted}

-- ---- lists

part_with : (parts : List (List Row)) (row : Row) → Contains (flat_map (λ p. p) parts) row → (part : List Row) × Contains parts part × Contains part row
part_with [] row there = absurd (Contains-none row there)
part_with (p ∷ ps) row there =
    ⊎_elim (λ here. (p, Contains-head p ps, here)) (λ later. let rest = part_with ps row later in (rest.0, Contains-tail p ps rest.0 rest.1, rest.2)) (Contains-append_cases p (flat_map (λ q. q) ps) row there)

-- a live row's manifest
manifest_with : (ms : List LiveManifest) (row : Row) → Contains (live_rows ms) row → (m : LiveManifest) × (x : Held) × Contains ms m × Contains m.rows x × (x.row ≡ row)
manifest_with [] row there = absurd (Contains-none row there)
manifest_with (m ∷ ms) row there =
    ⊎_elim
    (λ (here : Contains (rows_held m.rows) row). let x = of_map (λ (y : Held). y.row) m.rows row here in (m, x.0, Contains-head m ms, x.1, x.2))
    (λ later. let rest = manifest_with ms row later in (rest.0, rest.1, Contains-tail m ms rest.0 rest.2, rest.3, rest.4))
    (Contains-append_cases (rows_held m.rows) (live_rows ms) row there)

filled : (rows : List Held) (x : Held) → Contains rows x → nat_lt 0 (length rows) ≡ true
filled [] x there = absurd (Contains-none x there)
filled (y ∷ rows) x there = grind (arith, nat_tests)

late : (n : ℕ) → pos (n + 1) ≤ℤ pos n → ⊥
late n low = omega (arith, ints, low)

module _ (files after : Files) (id location : List ℕ) (rows : List Row) (end : TableEnd) (origin : Origin) (now : ℕ) (commit : Commit) (h : HasCommitted files after id location rows end origin now commit) where
  abbrev again : Metadata
  again = version.again files after id location rows end origin now commit h

  abbrev count : ℕ
  count = length h.writes.written.texts

  abbrev number : ℕ
  number = end.version + 1

  abbrev front : List ℕ
  front = front_in end

  abbrev removed : List (List ℕ)
  removed = commit.change.removed

  abbrev next : List NextManifest
  next = h.writes.is.manifests.next

  abbrev parts : List (List Row)
  parts = h.writes.is.manifests.next_are.parts

  abbrev Made : NextManifest → Type 0
  Made nx = IsMade front number removed end.manifests parts nx

  abbrev Placed : NextManifest → LiveManifest → Type 0
  Placed nx l = IsPlacedNext files after end.version count again h.writes.is.columns nx l

  abbrev In : ManifestInfo → EntryData → Type 0
  In info entry = IsEntryIn after (version.plan files after id location rows end origin now commit h) (written.list files after id location rows end origin now commit h) info entry

  front_is : front ≡ front_of again.location
  front_is = ap front_of (sym (version.new files after id location rows end origin now commit h).location)

  -- ---- entries of the new list

  -- an entry of what was made so, in its file
  entry_in : (nx : NextManifest) → Contains next nx → (es : List EntryData) (rs : List Held) → nx ≡ new es rs → (e : EntryData) → Contains es e → (info : ManifestInfo) × In info e
  entry_in nx there es rs is e held =
      let found = (written.gathered files after id location rows end origin now commit h).of (new es rs) (subst (Contains next) is there) in
      let placed = found.1.placed in
      let entries : Contains placed.entries e = subst (λ (l : List EntryData). Contains l e) (sym found.1.made.0) held in (
        placed.file.info,
        record {
          file = placed.file;
          named = found.2;
          row = refl;
          of_data = ap (λ (i : ManifestInfo). i.content) placed.info ∙ placed.of_data;
          entries = placed.entries;
          says = written.says_planned files after id location rows end origin now commit h placed.file.path placed.entries placed.says;
          held = entries;
        },
      )

  -- What an entry of the list is: one of a manifest that stays, which has the numbers of versions before, or one that was written.
  data IsEntry (info : ManifestInfo) (e : EntryData) : Type 0 where
    old : info.added_snapshot_id ≤ℤ pos end.version → ((s : ℤ) → e.snapshot ≡ Some s → s ≤ℤ pos end.version) → IsEntry info e
    existing : (m : LiveManifest) (x : Held) → e ≡ existing_entry front x → IsEntry info e
    deleted : (m : LiveManifest) (x : Held) → Contains (lost removed m.rows) x → e ≡ deleted_entry front number x → IsEntry info e
    fresh : (part : List Row) (row : Row) → Contains parts part → Contains part row → e ≡ added_entry front number row → IsEntry info e

  rewritten_entry : (info : ManifestInfo) (m : LiveManifest) (e : EntryData) → Contains (rewritten_entries front number removed m.rows) e → IsEntry info e
  rewritten_entry info m e within =
      ⊎_elim
      (λ (kept : Contains (map (existing_entry front) (left removed m.rows)) e). let x = of_map (existing_entry front) (left removed m.rows) e kept in IsEntry.existing m x.0 (sym x.2))
      (λ (gone : Contains (map (deleted_entry front number) (lost removed m.rows)) e). let x = of_map (deleted_entry front number) (lost removed m.rows) e gone in IsEntry.deleted m x.0 x.1 (sym x.2))
      (Contains-append_cases (map (existing_entry front) (left removed m.rows)) (map (deleted_entry front number) (lost removed m.rows)) e within)

  same_entries : (es fs : List EntryData) (rs qs : List Held) → new es rs ≡ new fs qs → es ≡ fs
  same_entries es fs rs qs is = cc is

  never_stays : (m : LiveManifest) (es : List EntryData) (rs : List Held) → new es rs ≡ stays m → ⊥
  never_stays m es rs is = cc is

  new_entry : (info : ManifestInfo) (es : List EntryData) (rs : List Held) (e : EntryData) → Made (new es rs) → Contains es e → IsEntry info e
  new_entry info es rs e (IsMade.kept m is there some none) within = absurd (never_stays m es rs is)
  new_entry info es rs e (IsMade.anew m is there) within = rewritten_entry info m e (subst (λ (l : List EntryData). Contains l e) (same_entries es (rewritten_entries front number removed m.rows) rs (left removed m.rows) is) within)
  new_entry info es rs e (IsMade.adds part is there) within =
      let row = of_map (added_entry front number) part e (subst (λ (l : List EntryData). Contains l e) (same_entries es (map (added_entry front number) part) rs (map (born_at number) part) is) within) in
      IsEntry.fresh part row.0 there row.1 (sym row.2)

  placed_entry : (nx : NextManifest) (l : LiveManifest) (p : Placed nx l) (e : EntryData) → Made nx → Contains p.placed.entries e → IsEntry p.placed.file.info e
  placed_entry (stays m) l p e made within = IsEntry.old (subst (λ (i : ManifestInfo). i.added_snapshot_id ≤ℤ pos end.version) (sym p.placed.info) p.made.1.added_in) (λ s is. p.made.1.each e s within is)
  placed_entry (new es rs) l p e made within = new_entry p.placed.file.info es rs e made (subst (λ (l : List EntryData). Contains l e) p.made.0 within)

  entry_of : (info : ManifestInfo) (e : EntryData) → In info e → IsEntry info e
  entry_of info e is =
      let found = (written.gathered files after id location rows end origin now commit h).each is.file is.named in
      let placed = found.2.placed in
      let says = subst (λ (cs : List PartColumn). SaysManifest after cs is.file.path is.entries) (version.part_columns_are files after id location rows end origin now commit h) is.says in
      let mine = subst (λ (f : ManifestFile). SaysManifest after h.writes.is.columns f.path placed.entries) found.4 placed.says in
      let same = manifest_says_once after h.writes.is.columns is.file.path is.entries placed.entries says mine in
      let within : Contains placed.entries e = subst (λ (l : List EntryData). Contains l e) same is.held in
      subst (λ (i : ManifestInfo). IsEntry i e) (ap (λ (f : ManifestFile). f.info) found.4 ∙ is.row) (placed_entry found.0 found.1 found.2 e (made_of files after id location rows end origin now commit h found.0 found.3) within)

  -- ---- added rows

  abbrev AddsIn : Row → Type 0
  AddsIn row = (info : ManifestInfo) × (e : EntryData) × In info e × Adds again.location number info e row

  added_in : (row : Row) → Contains commit.change.added row → AddsIn row
  added_in row there =
      let next_are = h.writes.is.manifests.next_are in
      let joined = parts_joined MAX_MANIFEST_ENTRIES next_are.added parts next_are.cut in
      let part = part_with parts row (subst (λ (l : List Row). Contains l row) (sym joined) ((next_are.rows row).0 there)) in
      let nx = added_manifest front number part.0 in
      let in_next : Contains next nx = subst (λ (l : List NextManifest). Contains l nx) (sym next_are.is) (Contains-append_right (map (carried front number removed) (filter has_rows end.manifests)) (map (added_manifest front number) parts) nx (in_map (added_manifest front number) parts part.0 part.1)) in
      let entry = entry_in nx in_next (map (added_entry front number) part.0) (map (born_at number) part.0) refl (added_entry front number row) (in_map (added_entry front number) part.0 row part.2) in (
        entry.0,
        added_entry front number row,
        entry.1,
        record {
          status = refl;
          live = record { row = row; snapshot = pos number; sequence = entry.0.sequence_number };
          is = record {
            live = omega arith;
            place = ap (λ (l : List ℕ). l ++ row.path) front_is;
            path = h.paths row there;
            values = refl;
            count = refl;
            size = refl;
            snapshot = inl refl;
            sequence = inr (refl, refl, refl {a = entry.0.sequence_number});
            file_sequence = (entry.0.sequence_number, inr (refl, refl, refl {a = entry.0.sequence_number}));
          };
          snapshot = refl;
          same = refl;
        },
      )

  one_row : (a b : Row) (e : EntryData) (info : ManifestInfo) (live : LiveRow) → e ≡ added_entry front number a → IsRowOf again.location info e live → live.row ≡ b → a ≡ b
  one_row a b e info live is row same =
      let place : front_of again.location ++ live.row.path ≡ front_of again.location ++ a.path = sym row.place ∙ ap (λ (x : EntryData). x.path) is ∙ ap (λ (l : List ℕ). l ++ a.path) front_is in
      let path : live.row.path ≡ a.path = append_cancel_left (front_of again.location) live.row.path a.path place in
      let values : live.row.values ≡ a.values = row.values ∙ ap (λ (x : EntryData). x.values) is in
      let total : live.row.count ≡ a.count = row.count ∙ ap (λ (x : EntryData). x.count) is in
      let size : live.row.size ≡ a.size = row.size ∙ ap (λ (x : EntryData). x.size) is in
      let whole : live.row ≡ a = λ i. record { path = path i; values = values i; count = total i; size = size i } in
      sym whole ∙ same

  status_is : (e : EntryData) (a b : ℕ) (f : EntryData) → e.status ≡ a → e ≡ f → f.status ≡ b → a ≡ b
  status_is e a b f is same other = sym is ∙ ap (λ (x : EntryData). x.status) same ∙ other

  in_added : (row : Row) (info : ManifestInfo) (e : EntryData) → IsEntry info e → Adds again.location number info e row → Contains commit.change.added row
  in_added row info e (IsEntry.old low each) adds =
      let under = inherited_low end.version e.status e.snapshot info.added_snapshot_id adds.live.snapshot each low adds.is.snapshot in
      absurd (late end.version (subst (λ (i : ℤ). i ≤ℤ pos end.version) adds.snapshot under))
  in_added row info e (IsEntry.existing m x is) adds = let other : 1 ≡ 0 = status_is e 1 0 (existing_entry front x) adds.status is refl in absurd (omega (arith, other))
  in_added row info e (IsEntry.deleted m x gone is) adds = let other : 1 ≡ 2 = status_is e 1 2 (deleted_entry front number x) adds.status is refl in absurd (omega (arith, other))
  in_added row info e (IsEntry.fresh part r there within is) adds =
      let next_are = h.writes.is.manifests.next_are in
      let same = one_row r row e info adds.live is adds.is adds.same in
      let joined = parts_joined MAX_MANIFEST_ENTRIES next_are.added parts next_are.cut in
      subst (Contains commit.change.added) same ((next_are.rows r).1 (subst (λ (l : List Row). Contains l r) joined (in_joined parts part r there within)))

  -- ---- removed paths

  abbrev DeletesIn : List ℕ → Type 0
  DeletesIn path = (info : ManifestInfo) × (e : EntryData) × In info e × Deletes again.location number e path

  carried_anew : (m : LiveManifest) → list_any (is_lost removed) m.rows ≡ true → carried front number removed m ≡ new (rewritten_entries front number removed m.rows) (left removed m.rows)
  carried_anew m is = ap (λ (b : Bool). cond b (new (rewritten_entries front number removed m.rows) (left removed m.rows)) (stays m)) is

  removed_in : (path : List ℕ) → Contains removed path → DeletesIn path
  removed_in path there =
      let held = h.removed_there path there in
      let at = manifest_with end.manifests held.0 ((h.start.rows_are held.0).0 held.1) in
      let x = at.1 in
      let same : x.row.path ≡ path = ap (λ (r : Row). r.path) at.4 ∙ held.2 in
      let gone : is_lost removed x ≡ true = any_there removed x.row.path (subst (Contains removed) (sym same) there) in
      let any = any_from (is_lost removed) at.0.rows x at.3 gone in
      let of_list = in_map (carried front number removed) (filter has_rows end.manifests) at.0 (filter_contains has_rows end.manifests at.0 at.2 (filled at.0.rows x at.3)) in
      let in_next : Contains next (carried front number removed at.0) = subst (λ (l : List NextManifest). Contains l (carried front number removed at.0)) (sym h.writes.is.manifests.next_are.is) (Contains-append_left (map (carried front number removed) (filter has_rows end.manifests)) (map (added_manifest front number) parts) (carried front number removed at.0) of_list) in
      let within = Contains-append_right (map (existing_entry front) (left removed at.0.rows)) (map (deleted_entry front number) (lost removed at.0.rows)) (deleted_entry front number x) (in_map (deleted_entry front number) (lost removed at.0.rows) x (filter_contains (is_lost removed) at.0.rows x at.3 gone)) in
      let entry = entry_in (carried front number removed at.0) in_next (rewritten_entries front number removed at.0.rows) (left removed at.0.rows) (carried_anew at.0 any) (deleted_entry front number x) within in (
        entry.0,
        deleted_entry front number x,
        entry.1,
        record { status = refl; snapshot = refl; place = (λ i. front_is i ++ same i) },
      )

  in_removed : (path : List ℕ) (info : ManifestInfo) (e : EntryData) → IsEntry info e → Deletes again.location number e path → Contains removed path
  in_removed path info e (IsEntry.old low each) deletes = absurd (late end.version (each (pos number) deletes.snapshot))
  in_removed path info e (IsEntry.existing m x is) deletes = let other : 2 ≡ 0 = status_is e 2 0 (existing_entry front x) deletes.status is refl in absurd (omega (arith, other))
  in_removed path info e (IsEntry.fresh part r there within is) deletes = let other : 2 ≡ 1 = status_is e 2 1 (added_entry front number r) deletes.status is refl in absurd (omega (arith, other))
  in_removed path info e (IsEntry.deleted m x gone is) deletes =
      let place : front ++ x.row.path ≡ front ++ path = sym (ap (λ (y : EntryData). y.path) is) ∙ deletes.place ∙ ap (λ (l : List ℕ). l ++ path) (sym front_is) in
      let same : x.row.path ≡ path = append_cancel_left front x.row.path path place in
      subst (Contains removed) same (removed_any removed x.row.path (Contains-filter (is_lost removed) m.rows x gone).1)

  -- ---- the id

  uuid_is : again.uuid ≡ end.metadata.uuid
  uuid_is = (version.new files after id location rows end origin now commit h).uuid

  stay : (path : List ℕ) → IsReached files path → map.get after path ≡ map.get files path
  stay path is = reached_stays files after end.version count h.start.free h.writes.others path is

  keeps_by : (n : ℕ) → end.version ≡ n → IsFirstEnd files id location end ⊎ HasEnd files end → KeepsId id after number again.uuid
  keeps_by zero is (inl first) =
      let one : 1 ≡ number = omega (arith, is) in
      subst (λ (k : ℕ). KeepsId id after k again.uuid) one (uuid_is ∙ ap (λ (m : Metadata). m.uuid) first.metadata)
  keeps_by zero is (inr has) = let some = has.first in absurd (omega (arith, some, is))
  keeps_by (suc v) is (inl first) = let none = first.version in absurd (omega (arith, none, is))
  keeps_by (suc v) is (inr has) =
      let two : suc (suc v) ≡ number = omega (arith, is) in
      let there = version_at files after end.version (version_stays files after stay end.version has.newest.there) has.newest.there in
      let says = metadata_too files after stay end.version has.newest.there has.metadata has.says in
      subst (λ (k : ℕ). KeepsId id after k again.uuid) two (
        has.metadata,
        subst (HasVersion after) is there,
        subst (λ (k : ℕ). SaysMetadata after k has.metadata) is says,
        uuid_is ∙ ap (λ (m : Metadata). m.uuid) has.same.others,
      )

  pub carries : IsCarried id after number commit.change (standing_at origin commit.position)
  carries = record {
    there = version.there files after id location rows end origin now commit h;
    metadata = again;
    says = version.said files after id location rows end origin now commit h;
    id = keeps_by end.version refl h.start.base;
    marked = version.marked files after id location rows end origin now commit h;
    current = written.current files after id location rows end origin now commit h;
    adds = λ row. (added_in row, λ found. in_added row found.0 found.1 (entry_of found.0 found.1 found.2) found.3);
    removes = λ path. (removed_in path, λ found. in_removed path found.0 found.1 (entry_of found.0 found.1 found.2) found.3);
  }
