-- What holds of all that is kept behind a commit.
use Rattle.std.proofs.Common.{◌≡◌, Bor, inl, inr, ⊎_elim, ℕ, ◌<◌, ◌≤◌, ◌^◌, ◌&&◌, Bool, true, false, cond, nat_eq, nat_le, List, [], ◌∷◌, ◌++◌, map, filter, length, not, Contains, Option, Some, None, IsSome, refl, sym, ap, subst, ◌∙◌, arith}
use Rattle.std.specs.Prelude.{is_some, slice_get, unwrap_or}
use Rattle.std.specs.List.{IsDistinct, list_all, list_any}
use Rattle.std.specs.Str.{bytes_eq}
use Rattle.std.proofs.Math.Logic.{∥∥₁_elim, ∥∥₁_map}
use Rattle.std.proofs.lemmas.List.{length-map}
use Rattle.std.proofs.lemmas.List.Elements.{Contains-append_cases}
use Rattle.std.proofs.lemmas.List.Folds.{list_all-map}
use Rattle.std.proofs.lemmas.Map.Keys.{IsDistinct-prop}
use Rattle.std.proofs.lemmas.Option.{slice_get-get_or}
use Rattle.std.proofs.lemmas.Slice.Eq.{bytes_eq-Decides}
use Rattle.std.proofs.lemmas.Bool.{and_from, and_parts}
use Rattle.lake_basics.specs.declared.limits.TheConstants.{MAX_LIVE_FILES, MAX_MANIFEST_ENTRIES}
use Rattle.lake_basics.proofs.Numbers.{le_by, le_test}
use Rattle.schema_map.specs.Image.{wide_columns}
use Rattle.schema_map.proofs.ImageTwice.{columns_twice}
use Rattle.table_history.specs.History.{FitColumns, IsSoundTable}
use Rattle.table_history.specs.Row.{Row}
use Rattle.table_history.specs.Rows.{HasDistinctPaths, HasPath}
use Rattle.table_history.specs.Tables.{IsAfter}
use Rattle.table_history.specs.TypeEqLaws.{columns_eq-Decides}
use Rattle.table_history.specs.TypeTree.{ColumnTrees}
use Rattle.table_history.specs.declared.table.Change.{Change}
use Rattle.table_history.specs.declared.table.Commit.{Commit}
use Rattle.table_history.specs.declared.table.Table.{Table}
use Rattle.table_history.proofs.RowListLemmas.{Contains-filter}
use Rattle.table_history.proofs.TableLemmas.{distinct_order}
use Rattle.file_links.specs.Rows.{Entry, HoldsPath, OwnedRows, Owns, joined, rows_of}
use Rattle.file_links.specs.declared.slots.Held.{Held}
use Rattle.iceberg_manifest.specs.declared.info.ManifestInfo.{ManifestInfo}
use Rattle.iceberg_metadata.proofs.ListLemmas.{all_from, any_from, any_to}
use Rattle.target_core.specs.Conditions.{CanPublish, IsPublishable}
use Rattle.target_core.specs.Held.{are_held}
use Rattle.target_core.proofs.HeldRows.{held_of}
use Rattle.iceberg_version.specs.Advance.{Advances, HoldsJustBehind, IsPlaced, added_rows, live_rows}
use Rattle.iceberg_commit.specs.Behind.{AreAddedParts, IsTableBehind}
use Rattle.iceberg_version.specs.Carrying.{IsNextList, parts_at, rows_at}
use Rattle.iceberg_version.specs.KeptEnd.{held_rows, live_manifest, manifests_of, view_of}
use Rattle.iceberg_version.specs.Manifests.{LiveManifest, NextManifest, added_manifest, born_at, carried, has_rows, is_lost, left, new, rewritten_entries, stays}
use Rattle.iceberg_version.specs.Sound.{AreRowsOf, are_of, has_content, is_born, is_of, is_own_image, is_sound_owner}
use Rattle.iceberg_version.specs.declared.carrying.Next.{Next}
use Rattle.iceberg_version.specs.declared.kept.IcebergKept.{IcebergKept}
use Rattle.iceberg_version.specs.declared.kept.KeptManifest.{KeptManifest}
use Rattle.iceberg_version.proofs.ListLemmas.{next_added, next_placed, parts_joined}
use Rattle.iceberg_version.proofs.NextLemmas.{all_next}
use Rattle.iceberg_version.proofs.Shared.{all_tested, in_map, lt_by, lt_test, of_map, slice_there}
use Rattle.iceberg_commit.proofs.MadeLemmas.{part_short}
use Rattle.iceberg_commit.proofs.WideLemmas.{values_fit}

-- ---- the table

module _ (old table : Table) (change : Change) (behind : IsTableBehind old change table) (can : (t : Table) → IsAfter old change t → IsPublishable t) where
  stated : Table
  stated = record { schema = unwrap_or change.schema old.schema; partition = old.partition; rows = table.rows }

  stated_after : IsAfter old change stated
  unfolding stated
  stated_after = record { rows = behind.rows; distinct = behind.distinct; schema = refl; partition = refl }

  pub rows_held : are_held table.rows ≡ true
  unfolding stated
  rows_held = held_of stated (can stated stated_after)

  pub own_image : is_own_image table.schema ≡ true
  own_image = (columns_eq-Decides (wide_columns table.schema) table.schema).1 (ap wide_columns behind.schema ∙ columns_twice (unwrap_or change.schema old.schema) ∙ sym behind.schema)

-- ---- rows by owner

owner_there : (o : Option (Option (List Entry))) (rows : List Entry) → joined o ≡ Some rows → o ≡ Some (Some rows)
owner_there None rows is = absurd (cc)
owner_there (Some o) rows is = ap (λ (p : Option (List Entry)). Some p) is

-- each held row has the path of one of these rows
pub of_path : (rows : List Row) (links : OwnedRows) → are_of rows links ≡ true → (owner : ℕ) (e : Entry) → Owns links owner e → HasPath rows e.held.row.path
of_path rows links are owner e owns =
    let at = slice_there links.owners owner (Some owns.0) (owner_there (slice_get links.owners owner) owns.0 owns.1) in
    let here = all_from (λ (owned : Option (List Entry)). list_all (is_of rows) (unwrap_or owned [])) links.owners (Some owns.0) are at in
    let found = any_to (λ (row : Row). bytes_eq row.path e.held.row.path) rows (all_from (is_of rows) owns.0 e here owns.2) in
    (found.0, found.1, (bytes_eq-Decides found.0.path e.held.row.path).0 found.2)

paths_by : (rows : List Row) (links : OwnedRows) → ((owner : ℕ) (e : Entry) → Owns links owner e → HasPath rows e.held.row.path) → (owned : Option (List Entry)) → Contains links.owners owned → list_all (is_of rows) (unwrap_or owned []) ≡ true
paths_by rows links all None there = refl
paths_by rows links all (Some entries) there =
    let at : rows_of links there.0 ≡ Some entries = ap joined (slice_get-get_or links.owners there.0 (Some entries) there.1 ∙ ap (λ (o : Option (List Entry)). Some o) there.2) in
    all_tested (is_of rows) entries (λ e within.
    let path = all there.0 e (entries, at, within) in
    any_from (λ (row : Row). bytes_eq row.path e.held.row.path) rows path.0 path.1 ((bytes_eq-Decides path.0.path e.held.row.path).1 path.2))

pub of_all : (rows : List Row) (links : OwnedRows) → ((owner : ℕ) (e : Entry) → Owns links owner e → HasPath rows e.held.row.path) → are_of rows links ≡ true
of_all rows links all = all_tested (λ (owned : Option (List Entry)). list_all (is_of rows) (unwrap_or owned [])) links.owners (paths_by rows links all)

-- ---- sound owners

-- They are no more than a table may have, and each was added by some version.
record AreFew (rows : List Held) : Type 0 where
  pub count : length rows ≤ MAX_LIVE_FILES
  pub born : (h : Held) → Contains rows h → h.born < 2 ^ 63

few_by : (o : Option (List Entry)) → (is_some o && (nat_le (length (unwrap_or o [])) MAX_LIVE_FILES && list_all is_born (unwrap_or o []))) ≡ true → AreFew (map (λ e. e.held) (unwrap_or o []))
few_by o is =
    let rest = (and_parts (is_some o) _ is).1 in
    let parts = and_parts (nat_le (length (unwrap_or o [])) MAX_LIVE_FILES) (list_all is_born (unwrap_or o [])) rest in
    record {
      count = let long = length-map (unwrap_or o []) (λ (e : Entry). e.held) in let few = le_by (length (unwrap_or o [])) MAX_LIVE_FILES parts.0 in omega (arith, long, few);
      born = λ h there. let e = of_map (λ (x : Entry). x.held) (unwrap_or o []) h there in subst (λ (x : Held). x.born < 2 ^ 63) e.2 (lt_by e.0.held.born (2 ^ 63) (all_from is_born (unwrap_or o []) e.0 parts.1 e.1));
    }

sound_by : (o : Option (List Entry)) → IsSome o → AreFew (map (λ e. e.held) (unwrap_or o [])) → (is_some o && (nat_le (length (unwrap_or o [])) MAX_LIVE_FILES && list_all is_born (unwrap_or o []))) ≡ true
sound_by o some few =
    let long = length-map (unwrap_or o []) (λ (e : Entry). e.held) in
    let count = few.count in
    and_from (is_some o) _ some (and_from (nat_le (length (unwrap_or o [])) MAX_LIVE_FILES) (list_all is_born (unwrap_or o [])) (le_test (length (unwrap_or o [])) MAX_LIVE_FILES (omega (arith, long, count)))
    (all_tested is_born (unwrap_or o []) (λ e there. lt_test e.held.born (2 ^ 63) (few.born e.held (in_map (λ (x : Entry). x.held) (unwrap_or o []) e there)))))

filter_few : (p : Held → Bool) (rows : List Held) → length (filter p rows) ≤ length rows
filter_few p [] = omega arith
filter_few p (h ∷ rows) = by (p h) (filter_few p rows)
  where
    by : (b : Bool) → length (filter p rows) ≤ length rows → length (cond b (h ∷ filter p rows) (filter p rows)) ≤ length (h ∷ rows)
    by true rest = omega (arith, rest)
    by false rest = omega (arith, rest)

left_few : (removed : List (List ℕ)) (rows : List Held) → AreFew rows → AreFew (left removed rows)
left_few removed rows few = record {
  count = let less = filter_few (λ h. not (is_lost removed h)) rows in let count = few.count in omega (arith, less, count);
  born = λ h there. few.born h (Contains-filter (λ (x : Held). not (is_lost removed x)) rows h there).0;
}

carried_few : (front : List ℕ) (version : ℕ) (removed : List (List ℕ)) (m : LiveManifest) → AreFew m.rows → AreFew (live_rows (carried front version removed m))
carried_few front version removed m few = by (list_any (is_lost removed) m.rows)
  where
    by : (b : Bool) → AreFew (live_rows (cond b (new (rewritten_entries front version removed m.rows) (left removed m.rows)) (stays m)))
    by true = left_few removed m.rows few
    by false = few

born_few : (version : ℕ) (part : List Row) → version < 2 ^ 63 → length part ≤ MAX_MANIFEST_ENTRIES → AreFew (map (born_at version) part)
born_few version part small few = record {
  count = let long = length-map part (born_at version) in omega (arith, long, few);
  born = λ h there. let r = of_map (born_at version) part h there in subst (λ (x : Held). x.born < 2 ^ 63) r.2 small;
}

-- ---- what is kept

module _ (kept : IcebergKept) (commit : Commit) (can : CanPublish (view_of kept) commit) (parts : List (List Row)) (added : AreAddedParts commit.change parts) (next : List Next) (list : IsNextList commit.change.removed (manifests_of kept) (length parts) next) where
  sound_owner : (m : KeptManifest) → Contains kept.manifests m → is_sound_owner kept.links m.owner ≡ true
  sound_owner m is = all_from (λ (k : KeptManifest). is_sound_owner kept.links k.owner) kept.manifests m kept.owners is

  pub owner_there_before : (m : KeptManifest) → Contains kept.manifests m → IsSome (rows_of kept.links m.owner)
  owner_there_before m is = (and_parts (is_some (rows_of kept.links m.owner)) _ (sound_owner m is)).0

  pub owners_apart : IsDistinct nat_eq (map (λ (m : KeptManifest). m.owner) kept.manifests)
  owners_apart = ∥∥₁_elim kept.own_owners (IsDistinct-prop nat_eq (map (λ (m : KeptManifest). m.owner) kept.manifests)) (λ d. d)

  added_are : added_rows parts next ≡ added.added
  added_are = next_added commit.change.removed (manifests_of kept) parts next list ∙ parts_joined MAX_MANIFEST_ENTRIES added.added parts added.cut

  pub added_distinct : HasDistinctPaths (added_rows parts next)
  added_distinct = subst HasDistinctPaths (sym added_are) (distinct_order (map (λ (r : Row). r.path) added.added) added.order)

  in_change : (row : Row) → Contains (added_rows parts next) row → Contains commit.change.added row
  in_change row is = (added.rows row).1 (subst (λ (l : List Row). Contains l row) added_are is)

  pub added_unheld : (row : Row) → Contains (added_rows parts next) row → HoldsPath kept.links row.path → Contains commit.change.removed row.path
  added_unheld row is held =
      let path = of_path kept.table.rows kept.links kept.linked held.2.0 (record { slot = held.0; held = held.1 }) held.2.1 in
      can.change.added_new row (in_change row is) (path.0, path.1, path.2 ∙ held.3)

  module _ (table : Table) (behind : IsTableBehind kept.table commit.change table) where
    stated_behind : Table
    stated_behind = record { schema = unwrap_or commit.change.schema kept.table.schema; partition = kept.table.partition; rows = table.rows }

    may : IsPublishable stated_behind
    unfolding stated_behind
    may = can.after stated_behind (record { rows = behind.rows; distinct = behind.distinct; schema = refl; partition = refl })

    sound : IsSoundTable table
    unfolding stated_behind
    sound = record {
      distinct = behind.distinct;
      values = λ row there.
          let wide : FitColumns (wide_columns (unwrap_or commit.change.schema kept.table.schema)) kept.table.partition row.values = values_fit (unwrap_or commit.change.schema kept.table.schema) kept.table.partition row.values (may.sound.values row there) in
          subst (λ (names : List (List ℕ)). FitColumns table.schema names row.values) (sym behind.partition) (subst (λ (cs : ColumnTrees). FitColumns cs kept.table.partition row.values) (sym behind.schema) wide);
    }

    pub table_sound : ∥ IsSoundTable table ∥₁
    table_sound = ∣ sound ∣₁

    pub table_held : are_held table.rows ≡ true
    table_held = rows_held kept.table table commit.change behind can.after

    pub table_image : is_own_image table.schema ≡ true
    table_image = own_image kept.table table commit.change behind can.after

    module _ (links : OwnedRows) (holds : HoldsJustBehind commit.change.removed kept.version (added_rows parts next) kept.links links) where
      row_behind : AreRowsOf kept.table.rows kept.links → AreRowsOf table.rows links
      row_behind linked owner e owns =
          ⊎_elim
          (λ old. (behind.rows e.held.row).1 (inr (linked old.0.1.0 (record { slot = old.0.0; held = e.held }) old.0.1.1, old.1)))
          (λ new. (behind.rows e.held.row).1 (inl (subst (λ (h : Held). Contains commit.change.added h.row) (sym new.2) (in_change new.0 new.1))))
          (holds e.held (e.slot, (owner, owns)))

      pub rows_linked : ∥ AreRowsOf table.rows links ∥₁
      rows_linked = ∥∥₁_map kept.rows_linked row_behind

      path_behind : (owner : ℕ) (e : Entry) → Owns links owner e → HasPath table.rows e.held.row.path
      path_behind owner e owns =
          ⊎_elim
          (λ old.
          let path = of_path kept.table.rows kept.links kept.linked old.0.1.0 (record { slot = old.0.0; held = e.held }) old.0.1.1 in
          (path.0, (behind.rows path.0).1 (inr (path.1, λ gone. old.1 (subst (Contains commit.change.removed) path.2 gone))), path.2))
          (λ new. (new.0, (behind.rows new.0).1 (inl (in_change new.0 new.1)), ap (λ (h : Held). h.row.path) (sym new.2)))
          (holds e.held (e.slot, (owner, owns)))

      pub paths_linked : are_of table.rows links ≡ true
      paths_linked = of_all table.rows links path_behind

  module _ (links : OwnedRows) (ks : List KeptManifest) (advances : Advances commit.change.removed kept.version kept.manifests parts next kept.links links ks) (small : kept.version < 2 ^ 63) where
    abbrev made : List NextManifest
    made = map (carried [] kept.version commit.change.removed) (filter has_rows (manifests_of kept)) ++ map (added_manifest [] kept.version) parts

    rows_are : map (λ m. held_rows links m.owner) ks ≡ map live_rows made
    rows_are = advances.rows [] made (all_next [] kept.version commit.change.removed (manifests_of kept) parts next list)

    few_made : (n : NextManifest) → Contains made n → AreFew (live_rows n)
    few_made n there =
        ⊎_elim
        (λ old.
        let m = of_map (carried [] kept.version commit.change.removed) (filter has_rows (manifests_of kept)) n old in
        let k = of_map (live_manifest kept.links) kept.manifests m.0 (Contains-filter has_rows (manifests_of kept) m.0 m.1).0 in
        let few : AreFew m.0.rows = subst (λ (x : LiveManifest). AreFew x.rows) k.2 (few_by (rows_of kept.links k.0.owner) (sound_owner k.0 k.1)) in
        subst (λ (x : NextManifest). AreFew (live_rows x)) m.2 (carried_few [] kept.version commit.change.removed m.0 few))
        (λ added_part.
        let part = of_map (added_manifest [] kept.version) parts n added_part in
        subst (λ (x : NextManifest). AreFew (live_rows x)) part.2 (born_few kept.version part.0 small (part_short MAX_MANIFEST_ENTRIES added.added parts part.0 added.cut part.1)))
        (Contains-append_cases (map (carried [] kept.version commit.change.removed) (filter has_rows (manifests_of kept))) (map (added_manifest [] kept.version) parts) n there)

    few_kept : (k : KeptManifest) → Contains ks k → AreFew (held_rows links k.owner)
    few_kept k is =
        let there = in_map (λ (m : KeptManifest). held_rows links m.owner) ks k is in
        let n = of_map live_rows made (held_rows links k.owner) (subst (λ (l : List (List Held)). Contains l (held_rows links k.owner)) rows_are there) in
        subst AreFew n.2 (few_made n.0 n.1)

    pub owners_sound : list_all (λ m. is_sound_owner links m.owner) ks ≡ true
    owners_sound = all_tested (λ (k : KeptManifest). is_sound_owner links k.owner) ks (λ k is. sound_by (rows_of links k.owner) (advances.there k is) (few_kept k is))

pub contents_kept : (ks : List KeptManifest) (infos : List ManifestInfo) → map (λ m. m.info) ks ≡ infos → list_all has_content infos ≡ true → list_all (λ m. has_content m.info) ks ≡ true
contents_kept ks infos same all = sym (list_all-map has_content (λ (m : KeptManifest). m.info) ks) ∙ ap (list_all has_content) same ∙ all

-- ---- the parts as they are borrowed

module _ (kept : IcebergKept) (change : Change) (parts : List (Bor (List (Bor Row)))) (next : List Next) (list : IsNextList change.removed (manifests_of kept) (length parts) next) where
  parts_count : length (parts_at parts) ≡ length parts
  parts_count = length-map parts rows_at

  pub list_at : IsNextList change.removed (manifests_of kept) (length (parts_at parts)) next
  list_at = subst (λ (count : ℕ). IsNextList change.removed (manifests_of kept) count next) (sym parts_count) list

  pub places_at : (manifests : List KeptManifest) → manifests ≡ kept.manifests → (one : Next) → Contains next one → IsPlaced (length manifests) (length parts) one
  places_at manifests is one there = subst (λ (ms : List KeptManifest). IsPlaced (length ms) (length parts) one) (sym is) (next_placed change.removed kept.links kept.manifests (length parts) next one list there)

  -- as it is said of the lists that are read of what is kept and of the change
  pub advances_from : (removed : List (List ℕ)) (manifests ks : List KeptManifest) (links : OwnedRows) → removed ≡ change.removed → manifests ≡ kept.manifests
      → (IsNextList removed (map (live_manifest kept.links) manifests) (length parts) next → Advances removed kept.version manifests (parts_at parts) next kept.links links ks)
      → Advances change.removed kept.version kept.manifests (parts_at parts) next kept.links links ks
  advances_from removed manifests ks links removed_is manifests_is advances =
      let from_kept = subst (λ (ms : List KeptManifest). IsNextList removed (map (live_manifest kept.links) ms) (length parts) next → Advances removed kept.version ms (parts_at parts) next kept.links links ks) manifests_is advances in
      subst (λ (r : List (List ℕ)). IsNextList r (manifests_of kept) (length parts) next → Advances r kept.version kept.manifests (parts_at parts) next kept.links links ks) removed_is from_kept list
