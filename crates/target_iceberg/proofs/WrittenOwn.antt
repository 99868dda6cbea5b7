-- The entries behind a commit: none is of a later snapshot, and those of the new snapshot carry the change.
use Rattle.std.proofs.Common.{◌≡◌, ◌⊎◌, inl, inr, ⊎_elim, ℕ, ℤ, pos, ◌+◌, ◌≤◌, List, [], ◌∷◌, map, length, Bool, true, false, not, cond, Contains, Some, refl, sym, ap, subst, ◌∙◌, arith}
use Rattle.std.specs.Prelude.{◌≤ℤ◌}
use Rattle.std.specs.List.{filter}
use Rattle.std.proofs.lemmas.Int.{ints}
use Rattle.std.proofs.lemmas.List.{length-append, length-map}
use Rattle.std.proofs.lemmas.List.Elements.{Contains-append_cases}
use Rattle.lake_basics.specs.declared.limits.TheConstants.{MAX_MANIFEST_ENTRIES}
use Rattle.lake_basics.proofs.Options.{some_once}
use Rattle.lake_store.specs.Disk.{Files}
use Rattle.table_history.specs.Row.{Row}
use Rattle.table_history.specs.declared.table.Commit.{Commit}
use Rattle.table_history.proofs.RowListLemmas.{Contains-filter, Contains-none, all_at}
use Rattle.file_links.specs.declared.slots.Held.{Held}
use Rattle.iceberg_manifest.specs.Entry.{EntryData}
use Rattle.iceberg_manifest.specs.Entry.{is_live}
use Rattle.iceberg_manifest.specs.declared.info.ManifestInfo.{ManifestInfo}
use Rattle.iceberg_manifest.specs.declared.partition.PartColumn.{PartColumn}
use Rattle.iceberg_metadata.specs.declared.metadata.Metadata.{Metadata}
use Rattle.iceberg_table.specs.Manifests.{SaysManifest}
use Rattle.iceberg_table.specs.Plan.{part_columns}
use Rattle.iceberg_table.specs.declared.list.ManifestFile.{ManifestFile}
use Rattle.iceberg_version.specs.Manifests.{LiveManifest, NextManifest, added_entry, deleted_entry, existing_entry, is_lost, left, lost, new, rewritten_entries, stays}
use Rattle.iceberg_version.specs.Writing.{TableEnd, front_in}
use Rattle.iceberg_version.proofs.Shared.{each_length, of_map}
use Rattle.target_core.specs.Views.{Origin}
use Rattle.target_iceberg.specs.Kept.{held_of}
use Rattle.target_iceberg.specs.Reached.{CanGoOn, HasOwnEntries}
use Rattle.target_iceberg.specs.Reading.{SaysCurrent}
use Rattle.target_iceberg.proofs.WrittenManifests.{IsPlacedNext, held_row, read_in}
use Rattle.target_iceberg.proofs.WrittenNext.{IsMade}
use Rattle.target_iceberg.specs.OnceLemmas.{manifest_says_once, metadata_once, says_once}
use Rattle.iceberg_table.specs.declared.plan.Plan.{Plan}
use Rattle.iceberg_commit.proofs.MadeLemmas.{part_short}
use Rattle.target_iceberg.proofs.WrittenNew.{raised}
use Rattle.target_iceberg.proofs.WrittenStart.{HasEnd, IsFirstEnd}
use Rattle.target_iceberg.proofs.WrittenCurrent as written
use Rattle.target_iceberg.proofs.WrittenReached.{leaves}
use Rattle.target_iceberg.proofs.WrittenVersion as version
use Rattle.target_iceberg.proofs.WrittenVersion.{HasCommitted}

-- ---- how many entries there are

two_parts : (removed : List (List ℕ)) (rows : List Held) → length (left removed rows) + length (lost removed rows) ≡ length rows
two_parts removed [] = omega arith
two_parts removed (h ∷ rows) = by (is_lost removed h) (two_parts removed rows)
  where
    by : (b : Bool) → length (left removed rows) + length (lost removed rows) ≡ length rows → length (cond (not b) (h ∷ left removed rows) (left removed rows)) + length (cond b (h ∷ lost removed rows) (lost removed rows)) ≡ length (h ∷ rows)
    by true rest = omega (arith, rest)
    by false rest = omega (arith, rest)

filter_few : (es : List EntryData) → length (filter is_live es) ≤ length es
filter_few [] = omega arith
filter_few (e ∷ es) = by (is_live e) (filter_few es)
  where
    by : (b : Bool) → length (filter is_live es) ≤ length es → length (cond b (e ∷ filter is_live es) (filter is_live es)) ≤ length (e ∷ es)
    by true rest = omega (arith, rest)
    by false rest = omega (arith, rest)

at_most : (n : ℕ) (i : ℤ) → i ≡ pos n → i ≤ℤ pos n
at_most n i is = omega (arith, ints, is)

past : (n : ℕ) (i : ℤ) → i ≡ pos (n + 1) → i ≤ℤ pos n → ⊥
past n i is low = let bad : pos (n + 1) ≤ℤ pos n = subst (λ (j : ℤ). j ≤ℤ pos n) is low in omega (arith, ints, bad)

module _ (files after : Files) (id location : List ℕ) (rows : List Row) (end : TableEnd) (origin : Origin) (now : ℕ) (commit : Commit) (h : HasCommitted files after id location rows end origin now commit) where
  abbrev again : Metadata
  again = version.again files after id location rows end origin now commit h

  abbrev count : ℕ
  count = length h.writes.written.texts

  abbrev number : ℕ
  number = end.version + 1

  abbrev front : List ℕ
  front = front_in end

  abbrev removed : List (List ℕ)
  removed = commit.change.removed

  abbrev Made : NextManifest → Type 0
  Made nx = IsMade front number removed end.manifests h.writes.is.manifests.next_are.parts nx

  abbrev Placed : NextManifest → LiveManifest → Type 0
  Placed nx l = IsPlacedNext files after end.version count again h.writes.is.columns nx l

  pub made_of : (nx : NextManifest) → Contains h.writes.is.manifests.next nx → Made nx
  made_of nx there = all_at Made h.writes.is.manifests.next nx (written.made_all files after id location rows end origin now commit h) there

  -- ---- the entries of a new manifest

  few_held : (m : LiveManifest) → Contains end.manifests m → length m.rows ≤ MAX_MANIFEST_ENTRIES
  few_held m there = by m.rows refl h.start.base
    where
      by : (hs : List Held) → m.rows ≡ hs → IsFirstEnd files id location end ⊎ HasEnd files end → length m.rows ≤ MAX_MANIFEST_ENTRIES
      by [] is base = let none = ap length is in omega (arith, none)
      by (x ∷ hs) is (inl first) = absurd (Contains-none m (subst (λ (l : List LiveManifest). Contains l m) first.manifests there))
      by (x ∷ hs) is (inr has) =
          let read = read_in files end has m there (λ none. let lengths = ap length (sym none ∙ is) in absurd (omega (arith, lengths))) in
          let one = each_length _ (filter is_live read.entries) read.rows read.live in
          let live = filter_few read.entries in
          let all = read.low.few in
          let held = ap length read.held in
          let mapped = length-map read.rows held_of in
          omega (arith, one, live, all, held, mapped)

  abbrev IsOwn : List EntryData → Type 0
  IsOwn es = (length es ≤ MAX_MANIFEST_ENTRIES) × ((e : EntryData) (s : ℤ) → Contains es e → e.snapshot ≡ Some s → s ≤ℤ pos number)

  rewritten_low : (m : LiveManifest) → Contains end.manifests m → (e : EntryData) (s : ℤ) → Contains (rewritten_entries front number removed m.rows) e → e.snapshot ≡ Some s → s ≤ℤ pos number
  rewritten_low m there e s within is =
      ⊎_elim
      (λ (old : Contains (map (existing_entry front) (left removed m.rows)) e).
      let held = of_map (existing_entry front) (left removed m.rows) e old in
      let same : pos held.0.born ≡ s = some_once e.snapshot (pos held.0.born) s (ap (λ (x : EntryData). x.snapshot) (sym held.2)) is in
      raised end.version s (subst (λ (i : ℤ). i ≤ℤ pos end.version) same (held_row files id location end h.start.base m held.0 there (Contains-filter _ m.rows held.0 held.1).0).born))
      (λ (gone : Contains (map (deleted_entry front number) (lost removed m.rows)) e).
      let held = of_map (deleted_entry front number) (lost removed m.rows) e gone in
      at_most number s (some_once e.snapshot s (pos number) is (ap (λ (x : EntryData). x.snapshot) (sym held.2))))
      (Contains-append_cases (map (existing_entry front) (left removed m.rows)) (map (deleted_entry front number) (lost removed m.rows)) e within)

  rewritten_few : (m : LiveManifest) → Contains end.manifests m → length (rewritten_entries front number removed m.rows) ≤ MAX_MANIFEST_ENTRIES
  rewritten_few m there =
      let both = length-append (map (existing_entry front) (left removed m.rows)) (map (deleted_entry front number) (lost removed m.rows)) in
      let one = length-map (left removed m.rows) (existing_entry front) in
      let other = length-map (lost removed m.rows) (deleted_entry front number) in
      let parts = two_parts removed m.rows in
      let few = few_held m there in
      omega (arith, both, one, other, parts, few)

  added_low : (part : List Row) (e : EntryData) (s : ℤ) → Contains (map (added_entry front number) part) e → e.snapshot ≡ Some s → s ≤ℤ pos number
  added_low part e s within is =
      let row = of_map (added_entry front number) part e within in
      at_most number s (some_once e.snapshot s (pos number) is (ap (λ (x : EntryData). x.snapshot) (sym row.2)))

  added_few : (part : List Row) → Contains h.writes.is.manifests.next_are.parts part → length (map (added_entry front number) part) ≤ MAX_MANIFEST_ENTRIES
  added_few part there =
      let next_are = h.writes.is.manifests.next_are in
      let few = part_short MAX_MANIFEST_ENTRIES next_are.added next_are.parts part next_are.cut there in
      let same = length-map part (added_entry front number) in
      omega (arith, few, same)

  same_entries : (es fs : List EntryData) (rs qs : List Held) → new es rs ≡ new fs qs → fs ≡ es
  same_entries es fs rs qs is = cc is

  never_stays : (m : LiveManifest) (es : List EntryData) (rs : List Held) → new es rs ≡ stays m → ⊥
  never_stays m es rs is = cc is

  own_new : (es : List EntryData) (rs : List Held) → Made (new es rs) → IsOwn es
  own_new es rs (IsMade.kept m is there some none) = absurd (never_stays m es rs is)
  own_new es rs (IsMade.anew m is there) = subst IsOwn (same_entries es _ rs _ is) (rewritten_few m there, rewritten_low m there)
  own_new es rs (IsMade.adds part is there) = subst IsOwn (same_entries es _ rs _ is) (added_few part there, added_low part)

  -- ---- the entries of all manifests

  own_of : (nx : NextManifest) (l : LiveManifest) (p : Placed nx l) → Made nx → (p.placed.file.info.added_snapshot_id ≤ℤ pos number) × IsOwn p.placed.entries
  own_of (stays m) l p made =
      let low = p.made.1 in (
        subst (λ (i : ManifestInfo). i.added_snapshot_id ≤ℤ pos number) (sym p.placed.info) (raised end.version l.info.added_snapshot_id low.added_in),
        (low.few, λ e s held is. raised end.version s (low.each e s held is)),
      )
  own_of (new es rs) l p made = (
    subst (λ (i : ManifestInfo). i.added_snapshot_id ≤ℤ pos number) (sym p.placed.info) (at_most number l.info.added_snapshot_id p.made.1),
    subst IsOwn (sym p.made.0) (own_new es rs made),
  )

  pub own_file : (file : ManifestFile) → Contains (written.list files after id location rows end origin now commit h) file → (file.info.added_snapshot_id ≤ℤ pos number) × ((entries : List EntryData) → SaysManifest after h.writes.is.columns file.path entries → IsOwn entries)
  own_file file there =
      let gathered = written.gathered files after id location rows end origin now commit h in
      let found = gathered.each file there in
      let own = own_of found.0 found.1 found.2 (made_of found.0 found.3) in (
        subst (λ (f : ManifestFile). f.info.added_snapshot_id ≤ℤ pos number) found.4 own.0,
        λ entries says.
            let placed = found.2.placed in
            let mine = subst (λ (f : ManifestFile). SaysManifest after h.writes.is.columns f.path placed.entries) found.4 placed.says in
            subst IsOwn (manifest_says_once after h.writes.is.columns file.path placed.entries entries mine says) own.1,
      )

  own_entries : (current : SaysCurrent after again) → HasOwnEntries after number again current
  own_entries current =
      let same = says_once after again current (written.current files after id location rows end origin now commit h) in
      let listed : (file : ManifestFile) → Contains current.list file → Contains (written.list files after id location rows end origin now commit h) file = λ file there. subst (λ (l : List ManifestFile). Contains l file) same.list there in
      let columns : part_columns current.plan.columns ≡ h.writes.is.columns = ap (λ (p : Plan). part_columns p.columns) same.plan ∙ version.part_columns_are files after id location rows end origin now commit h in
      let said : (path : List ℕ) (entries : List EntryData) → SaysManifest after (part_columns current.plan.columns) path entries → SaysManifest after h.writes.is.columns path entries = λ path entries says. subst (λ (cs : List PartColumn). SaysManifest after cs path entries) columns says in
      record {
        rows = λ file there. (own_file file (listed file there)).0;
        entries = λ file entries e s there says held is. ((own_file file (listed file there)).1 entries (said file.path entries says)).1 e s held is;
        few = λ file entries there says. ((own_file file (listed file there)).1 entries (said file.path entries says)).0;
      }

  pub goes_on : CanGoOn after number
  goes_on = record {
    names = leaves files after id location rows end origin now commit h;
    entries = λ m says.
        subst (λ (x : Metadata). (current : SaysCurrent after x) → HasOwnEntries after number x current)
        (metadata_once after number again m (version.said files after id location rows end origin now commit h) says) own_entries;
  }
