-- The write stats of rows are read back as these rows.
use Rattle.std.proofs.Common.{◌≡◌, ⊎_elim, ℕ, ◌^◌, ◌-◌, ◌<◌, not, ◌&&◌, ◌||◌, true, false, nat_eq, nat_le, nat_lt, List, [], ◌∷◌, ◌++◌, length, take, map, Contains, Ok, None, Some, Less, Greater, refl, sym, ap, subst, ◌∙◌, arith, length-append}
use Rattle.std.specs.Prelude.{is_some}
use Rattle.std.specs.List.{AllByRecursion, ends_with, list_any}
use Rattle.std.specs.List.Sorted.{IsStrictlySortedBy}
use Rattle.std.specs.Ordering.{ordering_reverse}
use Rattle.std.specs.Str.{bytes_eq}
use Rattle.std.proofs.Math.Seq.{take-append_seam}
use Rattle.std.proofs.lemmas.Bool.{and_from, and_parts, cond-false, cond-true, false_from_ne_true, false≢true, lt-ltb}
use Rattle.std.proofs.lemmas.Bool.Decides.{Decides-eqb}
use Rattle.std.proofs.lemmas.Map.Keys.{IsDistinct-cons, IsDistinct-head, IsDistinct-tail, sorted_head, sorted_tail}
use Rattle.std.proofs.lemmas.Slice.Eq.{bytes_eq-Decides, ends_is}
use Rattle.lake_basics.specs.Outcome.{◌>>=◌, each}
use Rattle.lake_basics.specs.declared.limits.TheConstants.{MAX_PATH_BYTES}
use Rattle.lake_basics.proofs.Texts.{bytes_itself}
use Rattle.table_history.specs.Path.{IsPath, is_path_of_any_length}
use Rattle.table_history.specs.Row.{Row}
use Rattle.table_history.specs.Rows.{HasDistinctPaths, paths_of, row_at}
use Rattle.table_history.proofs.PathTests.{path_decided}
use Rattle.table_history.proofs.RowListLemmas.{Contains-cases, Contains-head, Contains-none, Contains-tail, all_at, row_at-itself}
use Rattle.partition_map.specs.declared.folder.FolderStyle.{FolderStyle}
use Rattle.partition_map.specs.declared.kind.PartKind.{PartKind}
use Rattle.hudi_files.specs.Stats.{bare_row, has_other_id, has_sound_numbers, has_sound_path, is_external, is_other_file, name_fault}
use Rattle.hudi_groups.specs.Files.{group_name, suffix_of, without_end}
use Rattle.hudi_groups.specs.Group.{file_name_of, folder_of}
use Rattle.hudi_instant.specs.InstantText.{stat_cmp}
use Rattle.hudi_groups.specs.GroupSets.{IsNewestOfGroup}
use Rattle.hudi_files.specs.Values.{HasValues, HaveValues, are_in_folders, is_in_folder}
use Rattle.hudi_groups.specs.declared.form.Form.TheVariants.{External}
use Rattle.hudi_instant.specs.declared.instant.Stat.{Stat}
use Rattle.hudi_groups.proofs.GroupChangeLemmas.{at_path, distinct_none}
use Rattle.target_hudi.specs.Writing.{stat_of}
use Rattle.target_hudi.proofs.CarriedLemmas.{bare_of}
use Rattle.target_hudi.proofs.OrderLemmas.{stat_total}
use Rattle.target_hudi.proofs.ReplacedLemmas.{path_whole}
use Rattle.target_hudi.proofs.StatLemmas.{stat_there}

-- two rows of one path are one
pub same_row : (rows : List Row) → HasDistinctPaths rows → (r s : Row) → Contains rows r → Contains rows s → r.path ≡ s.path → r ≡ s
same_row rows distinct r s has_r has_s e =
    let same : Some r ≡ Some s = sym (row_at-itself rows r distinct has_r) ∙ ap (row_at rows) e ∙ row_at-itself rows s distinct has_s in cc

-- a row with a path, whose numbers can be written
pub record IsSoundRow (row : Row) : Type 0 where
  pub path : IsPath row.path
  pub count : row.count < 2 ^ 63
  pub size : row.size < 2 ^ 63

any_length : (path : List ℕ) → IsPath path → is_path_of_any_length path ≡ true
any_length path is = (and_parts (nat_le (length path) MAX_PATH_BYTES) (is_path_of_any_length path) ((path_decided path).1 is)).1

apart_paths : (path : List ℕ) (rows : List Row) → ((row : Row) → Contains rows row → path ≡ row.path → ⊥) → AllByRecursion (λ p. bytes_eq path p ≡ false) (paths_of rows)
apart_paths path [] none = tt
apart_paths path (r ∷ rows) none = (
  false_from_ne_true (bytes_eq path r.path) (λ same. none r (Contains-head r rows) ((bytes_eq-Decides path r.path).0 same)),
  apart_paths path rows (λ row there. none row (Contains-tail r rows row there)),
)

module _ (time : List ℕ) where
  abbrev pub suffix : List ℕ
  suffix = suffix_of (External time)

  -- ---- one stat

  pub own_path : (path : List ℕ) → without_end suffix (path ++ suffix) ≡ path
  own_path path =
      let front : length (path ++ suffix) - length suffix ≡ length path = omega (arith, length-append path suffix) in
      ap (λ n. take n (path ++ suffix)) front ∙ take-append_seam path suffix

  has_suffix : (path : List ℕ) → ends_with nat_eq (path ++ suffix) suffix ≡ true
  has_suffix path = (ends_is Decides-eqb (path ++ suffix) suffix (ends_with nat_eq (path ++ suffix) suffix) refl).1 path refl

  one_bare : (row : Row) → IsSoundRow row → bare_row suffix (stat_of time row) ≡ Ok (bare_of row)
  one_bare row sound =
      let s = stat_of time row in
      let path : has_sound_path suffix s ≡ true = and_from (ends_with nat_eq s.path suffix) (is_path_of_any_length (without_end suffix s.path)) (has_suffix row.path) (ap is_path_of_any_length (own_path row.path) ∙ any_length row.path sound.path) in
      let numbers : has_sound_numbers s ≡ true = and_from (nat_lt row.count (2 ^ 63)) (nat_lt row.size (2 ^ 63)) (lt-ltb row.count (2 ^ 63) sound.count) (lt-ltb row.size (2 ^ 63) sound.size) in
      cond-true (has_sound_path suffix s) _ _ path ∙ cond-true (has_sound_numbers s) _ _ numbers
      ∙ ap (λ (p : List ℕ). Ok (record { path = p; values = []; count = row.count; size = row.size })) (own_path row.path)

  own_id : (row : Row) → has_other_id (External time) suffix (stat_of time row) ≡ false
  own_id row =
      ap (λ (p : List ℕ). not (bytes_eq (folder_of p) (folder_of row.path) && bytes_eq (file_name_of p) (file_name_of row.path))) (own_path row.path)
      ∙ (λ i. not (bytes_itself (folder_of row.path) i && bytes_itself (file_name_of row.path) i))

  -- ---- all stats

  pub each_bare : (rows : List Row) → ((row : Row) → Contains rows row → IsSoundRow row) → each (bare_row suffix) (map (stat_of time) rows) ≡ Ok (map bare_of rows)
  each_bare [] sound = refl
  each_bare (r ∷ rows) sound =
      let first = one_bare r (sound r (Contains-head r rows)) in
      let rest = each_bare rows (λ row there. sound row (Contains-tail r rows row there)) in
      λ i. first i >>= λ y. rest i >>= λ ys. Ok (y ∷ ys)

  none_external : (rows : List Row) → list_any (is_external (External time)) (map (stat_of time) rows) ≡ false
  none_external [] = refl
  none_external (r ∷ rows) = none_external rows

  none_other_id : (rows : List Row) → list_any (has_other_id (External time) suffix) (map (stat_of time) rows) ≡ false
  none_other_id [] = refl
  none_other_id (r ∷ rows) = ap (λ b. b || list_any (has_other_id (External time) suffix) (map (stat_of time) rows)) (own_id r) ∙ none_other_id rows

  none_other_file : (rows : List Row) → list_any (is_other_file (External time)) (map (stat_of time) rows) ≡ false
  none_other_file [] = refl
  none_other_file (r ∷ rows) = none_other_file rows

  pub no_name_fault : (rows : List Row) → name_fault (External time) suffix (map (stat_of time) rows) ≡ None
  no_name_fault rows =
      cond-false (list_any (is_external (External time)) (map (stat_of time) rows)) _ _ (none_external rows)
      ∙ cond-false (list_any (has_other_id (External time) suffix) (map (stat_of time) rows)) _ _ (none_other_id rows)
      ∙ cond-false (list_any (is_other_file (External time)) (map (stat_of time) rows)) _ _ (none_other_file rows)

  -- ---- the rows of the stats

  pub record AreOf (added : List Row) (stats : List Stat) : Type 0 where
    pub rows : List Row
    pub are : stats ≡ map (stat_of time) rows
    pub there : (row : Row) → Contains rows row → Contains added row

  pub rows_from : (added : List Row) (stats : List Stat) → ((s : Stat) → Contains stats s → (row : Row) × Contains added row × (s ≡ stat_of time row)) → AreOf added stats
  rows_from added [] from = record { rows = []; are = refl; there = λ row none. absurd (Contains-none row none) }
  rows_from added (s ∷ stats) from =
      let first = from s (Contains-head s stats) in
      let rest = rows_from added stats (λ t there. from t (Contains-tail s stats t there)) in
      record {
        rows = first.0 ∷ rest.rows;
        are = λ i. first.2 i ∷ rest.are i;
        there = λ row inside.
            ⊎_elim (λ (here : first.0 ≡ row). subst (Contains added) here first.1) (λ later. rest.there row later) (Contains-cases first.0 rest.rows row inside);
      }

  module _ (added : List Row) (distinct : HasDistinctPaths added) where
    -- stats that rise are of rows with distinct paths
    pub distinct_rows : (rows : List Row) → ((row : Row) → Contains rows row → Contains added row) → IsStrictlySortedBy stat_cmp (map (stat_of time) rows) → HasDistinctPaths rows
    distinct_rows [] there up = distinct_none
    distinct_rows (r ∷ rows) there up =
        IsDistinct-cons bytes_eq r.path (paths_of rows)
        (apart_paths r.path rows (λ s inside same.
        let is : r ≡ s = same_row added distinct r s (there r (Contains-head r rows)) (there s (Contains-tail r rows s inside)) same in
        let less : stat_cmp (stat_of time r) (stat_of time s) ≡ Less = all_at (λ y. stat_cmp (stat_of time r) y ≡ Less) (map (stat_of time) rows) (stat_of time s) (sorted_head stat_cmp (stat_of time r) (map (stat_of time) rows) up) (stat_there time rows s inside) in
        let tied : stat_cmp (stat_of time s) (stat_of time s) ≡ Less = subst (λ (x : Row). stat_cmp (stat_of time x) (stat_of time s) ≡ Less) is less in
        let wrong : Less ≡ Greater = sym tied ∙ stat_total.antisymm (stat_of time s) (stat_of time s) ∙ ap ordering_reverse tied in
        absurd (cc)))
        (distinct_rows rows (λ row inside. there row (Contains-tail r rows row inside)) (sorted_tail stat_cmp (stat_of time r) (map (stat_of time) rows) up))

  -- A file that isn't Hudi's is a group of its own, so that each row is its group's newest.
  pub own_group : (path : List ℕ) → IsPath path → group_name (External time) path ≡ path
  own_group path is = path_whole path is

  pub newest : (rows : List Row) → HasDistinctPaths rows → ((row : Row) → Contains rows row → IsPath row.path) → (row : Row) → Contains rows row → IsNewestOfGroup (External time) rows row
  newest [] distinct paths row there = absurd (Contains-none row there)
  newest (r ∷ rows) distinct paths row there =
      ⊎_elim
      (λ (here : r ≡ row). record {
        before = [];
        after = rows;
        split = ap (λ x. x ∷ rows) here;
        last = λ later behind same.
            let path : r.path ≡ later.path = sym (own_group r.path (paths r (Contains-head r rows))) ∙ ap (λ (x : Row). group_name (External time) x.path) here ∙ same ∙ own_group later.path (paths later (Contains-tail r rows later behind)) in
            let apart = at_path (λ p. bytes_eq r.path p ≡ false) rows later (IsDistinct-head bytes_eq r.path (paths_of rows) distinct) behind in
            false≢true (sym apart ∙ (bytes_eq-Decides r.path later.path).1 path);
      })
      (λ later.
      let rest = newest rows (IsDistinct-tail bytes_eq r.path (paths_of rows) distinct) (λ x inside. paths x (Contains-tail r rows x inside)) row later in
      record { before = r ∷ rest.before; after = rest.after; split = ap (λ l. r ∷ l) rest.split; last = rest.last })
      (Contains-cases r rows row there)

-- ---- the values

module _ (style : FolderStyle) (names : List (List ℕ)) (kinds : List PartKind) where
  pub have_all : (rows : List Row) → ((row : Row) → Contains rows row → HasValues style names kinds (bare_of row) row) → HaveValues style names kinds (map bare_of rows) rows
  have_all [] has = refl
  have_all (r ∷ rows) has = (r, rows, has r (Contains-head r rows), have_all rows (λ row there. has row (Contains-tail r rows row there)), refl)

  pub all_inside : (rows : List Row) → ((row : Row) → Contains rows row → HasValues style names kinds (bare_of row) row) → are_in_folders style names (map bare_of rows) ≡ true
  all_inside [] has = refl
  all_inside (r ∷ rows) has =
      and_from (is_in_folder style names (bare_of r)) (are_in_folders style names (map bare_of rows)) (ap is_some (has r (Contains-head r rows)).spelled)
      (all_inside rows (λ row there. has row (Contains-tail r rows row there)))
