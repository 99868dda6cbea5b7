-- Each new manifest of a version can be written.
use Rattle.std.proofs.Common.{◌≡◌, ⊎_elim, ℕ, suc, ◌+◌, ◌≤◌, List, [], ◌∷◌, map, length, drop, Bool, true, false, not, cond, Contains, refl, sym, ap, subst, ◌∙◌, arith}
use Rattle.std.specs.List.{AllByRecursion, filter}
use Rattle.std.proofs.Math.Logic.{∥∥₁_elim}
use Rattle.std.proofs.lemmas.List.{length-append, length-map}
use Rattle.lake_basics.specs.declared.limits.TheConstants.{MAX_AVRO_VALUES, MAX_LIVE_FILES, MAX_MANIFEST_ENTRIES}
use Rattle.lake_basics.proofs.Lists.{all_append}
use Rattle.file_links.specs.declared.slots.Held.{Held}
use Rattle.partition_map.specs.Columns.{column_kind}
use Rattle.table_history.specs.History.{IsSoundTable}
use Rattle.table_history.specs.Row.{Row}
use Rattle.table_history.specs.TypeTree.{ColumnTrees}
use Rattle.table_history.specs.declared.table.Commit.{Commit}
use Rattle.table_history.proofs.RowListLemmas.{Contains-cases, Contains-filter, Contains-head, Contains-none, Contains-tail}
use Rattle.target_core.specs.Conditions.{CanPublish}
use Rattle.iceberg_manifest.specs.Entry.{EntryData}
use Rattle.iceberg_manifest.specs.ManifestWriting.{HasValues, IsWritableManifest}
use Rattle.iceberg_version.specs.KeptEnd.{held_rows, view_of}
use Rattle.iceberg_version.specs.Manifests.{AreParts, added_entry, deleted_entry, existing_entry, is_lost, left, lost, rewritten_entries}
use Rattle.iceberg_commit.specs.NewVersion.{ChangesKinds, IsLayoutOf, schema_behind}
use Rattle.iceberg_version.specs.Sound.{AreRowsOf}
use Rattle.iceberg_commit.specs.Texts.{IsWritableIn}
use Rattle.iceberg_version.specs.declared.kept.IcebergKept.{IcebergKept}
use Rattle.iceberg_version.specs.declared.kept.KeptManifest.{KeptManifest}
use Rattle.iceberg_version.specs.declared.layout.Layout.{Layout}
use Rattle.iceberg_version.proofs.BehindLemmas.{wide_kind}
use Rattle.iceberg_version.proofs.Shared.{in_drop, in_take, short_take}
use Rattle.iceberg_commit.proofs.NewListLemmas.{added_fit, few_columns, held_owned, kinds_kept, own_columns, rows_few}
use Rattle.iceberg_commit.proofs.WritableLemmas.{can_write, entries_prop, values_of_kinds}

-- ---- lists

filter_split : {X : Type 0} (p : X → Bool) (xs : List X) → length (filter (λ x. not (p x)) xs) + length (filter p xs) ≡ length xs
filter_split p [] = omega arith
filter_split p (x ∷ xs) = by (p x) (filter_split p xs)
  where
    by : (b : Bool) → length (filter (λ y. not (p y)) xs) + length (filter p xs) ≡ length xs → length (cond (not b) (x ∷ filter (λ y. not (p y)) xs) (filter (λ y. not (p y)) xs)) + length (cond b (x ∷ filter p xs) (filter p xs)) ≡ suc (length xs)
    by true rest = omega (arith, rest)
    by false rest = omega (arith, rest)

all_mapped : {X Y : Type 0} (P : Y → Type 0) (f : X → Y) (xs : List X) → ((x : X) → Contains xs x → P (f x)) → AllByRecursion P (map f xs)
all_mapped P f [] each = tt
all_mapped P f (x ∷ xs) each = (each x (Contains-head x xs), all_mapped P f xs (λ y there. each y (Contains-tail x xs y there)))

pub part_row : {A : Type 0} (size : ℕ) (xs : List A) (parts : List (List A)) (part : List A) (x : A) → AreParts size xs parts → Contains parts part → Contains part x → Contains xs x
part_row size xs [] part x cut there here = absurd (Contains-none part there)
part_row size xs (p ∷ parts) part x cut there here =
    ⊎_elim
    (λ same. in_take size xs x (subst (λ l. Contains l x) (sym same ∙ cut.1) here))
    (λ later. in_drop size xs x (part_row size (drop size xs) parts part x cut.2 later here))
    (Contains-cases p parts part there)

pub part_short : {A : Type 0} (size : ℕ) (xs : List A) (parts : List (List A)) (part : List A) → AreParts size xs parts → Contains parts part → length part ≤ size
part_short size xs [] part cut there = absurd (Contains-none part there)
part_short size xs (p ∷ parts) part cut there =
    ⊎_elim
    (λ same. let few = short_take size xs in let len = ap length (sym same ∙ cut.1) in omega (arith, few, len))
    (λ later. part_short size (drop size xs) parts part cut.2 later)
    (Contains-cases p parts part there)

-- ---- entries

module _ (kept : IcebergKept) (commit : Commit) (can : CanPublish (view_of kept) commit) (same : ChangesKinds kept commit.change → ⊥) (layout : Layout) (is : IsLayoutOf kept.table commit.change layout) where
  abbrev image : ColumnTrees
  image = layout.schema.now.1

  image_kind : (name : List ℕ) → column_kind image name ≡ column_kind (schema_behind kept.table commit.change) name
  image_kind name = ap (λ (cs : ColumnTrees). column_kind cs name) is.image ∙ wide_kind (schema_behind kept.table commit.change) name

  can_be : (entries : List EntryData) → AllByRecursion (HasValues layout.columns.items) entries → length entries ≤ MAX_LIVE_FILES → IsWritableIn layout entries
  can_be entries values few = record {
    manifest = subst (λ (names : List (List ℕ)). IsWritableManifest MAX_AVRO_VALUES layout.columns.items names entries) (sym is.partition) (can_write layout.schema.now image kept.table.partition layout.fields.now layout.columns.items entries is.fields is.columns (few_columns kept commit can same) (own_columns kept commit can same) values few);
    few = few;
  }

  -- the rows of a manifest before
  module _ (m : KeptManifest) (in_list : Contains kept.manifests m) where
    abbrev rows : List Held
    rows = held_rows kept.links m.owner

    held_values : IsSoundTable kept.table → AreRowsOf kept.table.rows kept.links → (front : List ℕ) (e : EntryData) (held : Held) → Contains rows held → e.values ≡ held.row.values → HasValues layout.columns.items e
    held_values sound linked front e held is_held values =
        let owned = held_owned kept commit can same m held in_list is_held in
        let row : Contains kept.table.rows held.row = subst (λ (h : Held). Contains kept.table.rows h.row) owned.2 (linked m.owner owned.0 owned.1) in
        subst (λ vs. HasValues layout.columns.items (record e { values = vs })) (sym values)
        (values_of_kinds image kept.table.schema kept.table.partition layout.fields.now layout.columns.items held.row.values is.columns (λ name named. kinds_kept kept commit can same m in_list name named ∙ sym (image_kind name)) (sound.values held.row row))

    anew_values : (front : List ℕ) (version : ℕ) → AllByRecursion (HasValues layout.columns.items) (rewritten_entries front version commit.change.removed rows)
    anew_values front version =
        let removed = commit.change.removed in
        let entries = rewritten_entries front version removed rows in
        ∥∥₁_elim kept.table_sound (entries_prop layout.columns.items entries) (λ (sound : IsSoundTable kept.table).
        ∥∥₁_elim kept.rows_linked (entries_prop layout.columns.items entries) (λ (linked : AreRowsOf kept.table.rows kept.links).
        all_append (HasValues layout.columns.items) (map (existing_entry front) (left removed rows)) (map (deleted_entry front version) (lost removed rows))
        (all_mapped (HasValues layout.columns.items) (existing_entry front) (left removed rows) (λ held there. held_values sound linked front (existing_entry front held) held (Contains-filter (λ (h : Held). not (is_lost removed h)) rows held there).0 refl))
        (all_mapped (HasValues layout.columns.items) (deleted_entry front version) (lost removed rows) (λ held there. held_values sound linked front (deleted_entry front version held) held (Contains-filter (is_lost removed) rows held there).0 refl))))

    anew_few : (front : List ℕ) (version : ℕ) → length (rewritten_entries front version commit.change.removed rows) ≤ MAX_LIVE_FILES
    anew_few front version =
        let removed = commit.change.removed in
        let both = length-append (map (existing_entry front) (left removed rows)) (map (deleted_entry front version) (lost removed rows)) in
        let one = length-map (left removed rows) (existing_entry front) in
        let two = length-map (lost removed rows) (deleted_entry front version) in
        let all = filter_split (is_lost removed) rows in
        let few = rows_few kept commit can same m in_list in
        omega (arith, both, one, two, all, few)

    pub anew_written : (front : List ℕ) (version : ℕ) → IsWritableIn layout (rewritten_entries front version commit.change.removed rows)
    anew_written front version = can_be (rewritten_entries front version commit.change.removed rows) (anew_values front version) (anew_few front version)

  pub added_written : (front : List ℕ) (version : ℕ) (part : List Row) → ((row : Row) → Contains part row → Contains commit.change.added row) → length part ≤ MAX_MANIFEST_ENTRIES → IsWritableIn layout (map (added_entry front version) part)
  added_written front version part among few =
      let len = length-map part (added_entry front version) in
      can_be (map (added_entry front version) part)
      (all_mapped (HasValues layout.columns.items) (added_entry front version) part (λ row there.
      values_of_kinds image (schema_behind kept.table commit.change) kept.table.partition layout.fields.now layout.columns.items row.values is.columns (λ name named. sym (image_kind name)) (added_fit kept commit can same row (among row there))))
      (omega (arith, len, few))
