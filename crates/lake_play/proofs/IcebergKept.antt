-- What is kept of an Iceberg target of a drill.
use Rattle.std.proofs.Common.{◌≡◌, ◌⊎◌, ⊎_elim, inl, inr, ℕ, zero, suc, ◌+◌, ◌≤◌, ◌<◌, Bool, true, false, cond, List, [], ◌∷◌, ◌++◌, length, map, Contains, Option, refl, sym, ap, subst, ◌∙◌, codes, arith}
use Rattle.std.specs.List.{filter}
use Rattle.std.specs.Prelude.{unwrap_or}
use Rattle.std.proofs.lemmas.Bool.Decides.{nat_tests}
use Rattle.std.proofs.lemmas.List.{length-append, length-map}
use Rattle.std.proofs.lemmas.List.Elements.{Contains-append_left}
use Rattle.lake_store.specs.Disk.{Files}
use Rattle.file_links.specs.Rows.{Entry, OwnedRows}
use Rattle.file_links.specs.declared.slots.Held.{Held}
use Rattle.conformance.proofs.Bounds.{drill_history}
use Rattle.iceberg_live.specs.declared.live.LiveRow.{LiveRow}
use Rattle.iceberg_manifest.specs.Lists.{AreEach}
use Rattle.iceberg_manifest.specs.declared.info.ManifestInfo.{ManifestInfo}
use Rattle.iceberg_metadata.specs.Location.{front_of}
use Rattle.iceberg_metadata.specs.declared.metadata.Metadata.{Metadata}
use Rattle.iceberg_table.specs.Lists.{IsListed}
use Rattle.iceberg_table.specs.Manifests.{IsManifestOf}
use Rattle.iceberg_table.specs.Plan.{part_columns}
use Rattle.iceberg_table.specs.Tables.{rows_in, rows_of}
use Rattle.iceberg_table.specs.declared.list.ManifestFile.{ManifestFile}
use Rattle.iceberg_table.specs.declared.manifest.Manifest.{Manifest}
use Rattle.iceberg_table.proofs.EachLaws.{each_back}
use Rattle.iceberg_version.specs.KeptEnd.{end_of, live_manifest, manifests_of, view_of}
use Rattle.iceberg_version.specs.Manifests.{LiveManifest, has_rows}
use Rattle.iceberg_version.specs.declared.kept.IcebergKept.{IcebergKept}
use Rattle.iceberg_version.specs.declared.kept.KeptManifest.{KeptManifest}
use Rattle.iceberg_version.proofs.Shared.{in_flat, in_map, slice_there}
use Rattle.source_core.specs.Histories.{ShowsTable}
use Rattle.table_history.specs.History.{History}
use Rattle.table_history.specs.Row.{Row}
use Rattle.table_history.specs.declared.kind.Kind.TheVariants.{Delta}
use Rattle.table_history.specs.declared.table.Table.{Table}
use Rattle.table_history.proofs.RowListLemmas.{Contains-cases, Contains-head, Contains-none, Contains-tail}
use Rattle.target_core.specs.Views.{IsUnpublished, View}
use Rattle.target_iceberg.proofs.WrittenLive.{live_are}
use Rattle.target_iceberg.specs.AlikeLemmas.{held_ours}
use Rattle.target_iceberg.specs.Kept.{HoldsEnd, IsFirst, IsKeptOf, StandsFor, held_of}
use Rattle.target_iceberg.specs.OnceLemmas.{metadata_once, says_once}
use Rattle.target_iceberg.specs.Reading.{IsOurs, SaysCurrent}
use Rattle.target_iceberg.proofs.KeptLemmas.{rows_within}
use Rattle.lake_play.specs.Standing.{meaning_of_iceberg}
use Rattle.lake_play.proofs.DrillRows.{IsDrillRow, entry_in, entry_row, few_rows}
use Rattle.lake_play.proofs.IcebergTexts.{IsDrillEnd, small_row}
use Rattle.lake_play.proofs.ManifestTexts.{AreSmallManifests, IsSmallManifest, IsSmallRow, all_mapped}
use Rattle.lake_play.proofs.MetadataTexts.{IsDrillMetadata}

-- ---- manifests that are read

-- The manifest has a short name, few live rows, and small ones.
record IsSmallRead (r : Manifest) : Type 0 where
  path : length r.file.info.manifest_path ≤ 600
  few : length r.rows ≤ 20000
  rows : (live : LiveRow) → Contains r.rows live → IsSmallRow live.row

-- What is kept of them is small, and no more of it has a live row than there are rows.
record AreKeptSmall (links : OwnedRows) (manifests : List Manifest) (kept : List KeptManifest) : Type 0 where
  each : (m : LiveManifest) → Contains (map (live_manifest links) kept) m → IsSmallManifest m
  count : length (filter has_rows (map (live_manifest links) kept)) ≤ length (rows_of manifests)

one_small : (links : OwnedRows) (r : Manifest) (k : KeptManifest) → IsKeptOf links r k → IsSmallRead r → IsSmallManifest (live_manifest links k) × ((live_manifest links k).rows ≡ map held_of r.rows)
one_small links r k is small =
    let rows : (live_manifest links k).rows ≡ map held_of r.rows = ap (λ (o : Option (List Entry)). map (λ e. e.held) (unwrap_or o [])) is.owned ∙ is.same in
    let count : length (live_manifest links k).rows ≡ length r.rows = ap (λ (l : List Held). length l) rows ∙ length-map r.rows held_of in
    let path : length k.info.manifest_path ≡ length r.file.info.manifest_path = ap (λ (i : ManifestInfo). length i.manifest_path) is.info in (
      record {
        path = let short = small.path in omega (arith, path, short);
        few = let few = small.few in omega (arith, count, few);
        rows = λ held there. all_mapped held_of (λ h. IsSmallRow h.row) r.rows small.rows held (subst (λ (l : List Held). Contains l held) rows there);
      },
      rows,
    )

filter_count : (m : LiveManifest) (ms : List LiveManifest) (n : ℕ) → length m.rows ≡ n → length (filter has_rows (m ∷ ms)) ≤ n + length (filter has_rows ms)
filter_count m ms n count = by (has_rows m) refl
  where
    by : (b : Bool) → has_rows m ≡ b → length (cond b (m ∷ filter has_rows ms) (filter has_rows ms)) ≤ n + length (filter has_rows ms)
    by true is = let some : 0 < length m.rows = grind (arith, nat_tests) in omega (arith, some, count)
    by false is = omega arith

kept_small : (links : OwnedRows) (manifests : List Manifest) (kept : List KeptManifest) → AreEach (IsKeptOf links) manifests kept → ((r : Manifest) → Contains manifests r → IsSmallRead r) → AreKeptSmall links manifests kept
kept_small links [] [] are small = record { each = λ m there. absurd (Contains-none m there); count = omega arith }
kept_small links [] (k ∷ kept) are small = absurd are
kept_small links (r ∷ manifests) [] are small = absurd are
kept_small links (r ∷ manifests) (k ∷ kept) are small =
    let first = one_small links r k are.0 (small r (Contains-head r manifests)) in
    let rest = kept_small links manifests kept are.1 (λ s there. small s (Contains-tail r manifests s there)) in
    let rows : length (live_manifest links k).rows ≡ length r.rows = ap (λ (l : List Held). length l) first.1 ∙ length-map r.rows held_of in
    let more = filter_count (live_manifest links k) (map (live_manifest links) kept) (length r.rows) rows in
    let both = length-append (rows_in r.rows) (rows_of manifests) in
    let own = length-map r.rows (λ (live : LiveRow). live.row) in
    let others = rest.count in
    record {
      each = λ m there. ⊎_elim (λ (here : live_manifest links k ≡ m). subst IsSmallManifest here first.0) (rest.each m) (Contains-cases (live_manifest links k) (map (live_manifest links) kept) m there);
      count = omega (arith, more, both, own, others);
    }

in_rows : (manifests : List Manifest) (r : Manifest) (live : LiveRow) → Contains manifests r → Contains r.rows live → Contains (rows_of manifests) live.row
in_rows manifests r live there inside = in_flat (λ (s : Manifest). rows_in s.rows) manifests r live.row there (in_map (λ (l : LiveRow). l.row) r.rows live inside)

-- ---- what is kept of a drill's target

module _ (number : ℕ) (id location : List ℕ) (kept : IcebergKept) (files : Files) (stands : StandsFor id location kept files) (front rest : History) (split : drill_history number 200 ≡ front ++ rest) (j : ℕ) (shows : ShowsTable Delta meaning_of_iceberg.image front j (view_of kept)) where
  in_front : (entry : List ℕ × Table) → Contains front entry → Contains (drill_history number 200) entry
  in_front entry there = subst (λ (h : History). Contains h entry) (sym split) (Contains-append_left front rest entry there)

  row_by : (n : ℕ) → ShowsTable Delta meaning_of_iceberg.image front n (view_of kept) → (row : Row) → Contains kept.table.rows row → IsDrillRow number row
  row_by zero none row there = absurd (Contains-none row (subst (λ (v : View). Contains v.table.rows row) none there))
  row_by (suc k) (entry, at, shown) row there = entry_row number entry row (entry_in number entry (in_front entry (slice_there front k entry at))) ((shown.rows row).0 there)

  partition_by : (n : ℕ) → ShowsTable Delta meaning_of_iceberg.image front n (view_of kept) → (partition : List (List ℕ)) → partition ≡ codes "d" ∷ [] → (IsUnpublished (view_of kept) → kept.table.partition ≡ partition) → kept.table.partition ≡ codes "d" ∷ []
  partition_by zero none partition is begins = begins none ∙ is
  partition_by (suc k) (entry, at, shown) partition is begins =
      let of = entry_in number entry (in_front entry (slice_there front k entry at)) in
      shown.partition ∙ sym (ap (λ (e : List ℕ × Table). e.1.partition) of.2)

  -- ---- its manifests

  module _ (h : HoldsEnd files kept) (drill : IsDrillMetadata h.metadata) where
    ours : IsOurs files (view_of kept)
    ours = held_ours files kept h stands.reads

    one_manifests : (m n : Metadata) (current : SaysCurrent files m) (now : SaysCurrent files n) → m ≡ n → current.manifests ≡ now.manifests
    one_manifests m n current now same = subst (λ (x : Metadata). (c : SaysCurrent files x) → current.manifests ≡ c.manifests) same (λ c. (says_once files m current c).manifests) now

    same_manifests : h.current.manifests ≡ ours.current.manifests
    same_manifests = one_manifests h.metadata ours.metadata h.current ours.current (metadata_once files kept.version h.metadata ours.metadata h.says ours.says)

    all_rows : (row : Row) → Contains (rows_of h.current.manifests) row → IsDrillRow number row
    all_rows row there =
        let live = (live_are files ours.metadata ours.current row).0 (subst (λ (ms : List Manifest). Contains (rows_of ms) row) same_manifests there) in
        row_by j shows row ((ours.table.rows row).1 live)

    count : length (rows_of h.current.manifests) ≤ 10000
    count = few_rows number (rows_of h.current.manifests) h.current.says.distinct all_rows

    path_small : (r : Manifest) → Contains h.current.manifests r → length r.file.info.manifest_path ≤ 600
    path_small r there =
        let file = each_back (IsManifestOf files h.metadata.location (part_columns h.current.plan.columns)) h.current.list h.current.manifests r h.current.says.are there in
        let listed = each_back (IsListed h.metadata) h.current.says.says.infos h.current.list file.0 h.current.says.says.listed file.1 in
        let named = listed.2.path in
        let both = length-append (front_of h.metadata.location) file.0.path in
        let front_short = ap (λ (l : List ℕ). length (front_of l)) drill.location in
        let short = named.form.short in
        let whole = ap (λ (l : List ℕ). length l) named.place in
        let same = ap (λ (f : ManifestFile). length f.info.manifest_path) file.2.0 in
        let row = ap (λ (i : ManifestInfo). length i.manifest_path) listed.2.row in
        omega (arith, both, front_short, short, whole, same, row)

    each_read : (r : Manifest) → Contains h.current.manifests r → IsSmallRead r
    each_read r there = record {
      path = path_small r there;
      few = let all = count in let part = rows_within h.current.manifests r there in omega (arith, all, part);
      rows = λ live inside. small_row number live.row (all_rows live.row (in_rows h.current.manifests r live there inside));
    }

    held_small : AreSmallManifests 10000 (manifests_of kept)
    held_small =
        let all = kept_small kept.links h.current.manifests kept.manifests h.manifests each_read in
        record { each = all.each; count = let some = all.count in let few = count in omega (arith, some, few) }

  none_small : (links : OwnedRows) (manifests : List KeptManifest) → ((m : KeptManifest) → ¬ Contains manifests m) → AreSmallManifests 10000 (map (live_manifest links) manifests)
  none_small links [] none = record { each = λ m there. absurd (Contains-none m there); count = omega arith }
  none_small links (m ∷ manifests) none = absurd (none m (Contains-head m manifests))

  small_by : (end : IsFirst files id location kept ⊎ HoldsEnd files kept) → ((h : HoldsEnd files kept) → IsDrillMetadata h.metadata) → AreSmallManifests 10000 (manifests_of kept)
  small_by (inl h) drill = none_small kept.links kept.manifests h.manifests
  small_by (inr h) drill = held_small h (drill h)

  -- What commits go on from is a drill's.
  pub end_is : IsDrillMetadata kept.metadata → ((h : HoldsEnd files kept) → IsDrillMetadata h.metadata) → (partition : List (List ℕ)) → partition ≡ codes "d" ∷ [] → (IsUnpublished (view_of kept) → kept.table.partition ≡ partition) → IsDrillEnd 10000 (end_of kept)
  end_is metadata drill partition is begins = record {
    metadata = metadata;
    partition = partition_by j shows partition is begins;
    manifests = small_by stands.end drill;
  }
