-- What the part of a store has at a path.
use Rattle.std.proofs.Common.{◌≡◌, ℕ, false, ◌||◌, cond, List, [], ◌∷◌, ◌++◌, filter_map, refl, sym, ◌∙◌, ap}
use Rattle.std.specs.Prelude.{Option, Some, None}
use Rattle.std.specs.Option.{option_map}
use Rattle.std.specs.List.{cons_option, list_any}
use Rattle.std.specs.Ordering.{nat_cmp, is_eq}
use Rattle.std.specs.Cmp.Lexicographic.{slice_cmp, nat_list_cmp_total}
use Rattle.std.specs.FinMap as map
use Rattle.std.specs.FinMap.Entries.{find}
use Rattle.std.specs.FinSet as set
use Rattle.lake_store.specs.Disk.{Disk, Files, IsClean, MayLeave, Paths, behind, front_of}
use Rattle.lake_store.proofs.DiskLaws.{is_path, path_other}
use Rattle.lake_store.proofs.NameLaws.{behind_front, behind_splits}
use Rattle.lake_store.proofs.OrderLaws.{same_front}
use Rattle.lake_batch.specs.Part.{part_disk, part_files, part_paths, path_in}

module _ (front : List ℕ) where
  abbrev pub taken : List ℕ × List ℕ → Option (List ℕ × List ℕ)
  taken e = option_map (λ rest. (rest, e.1)) (behind front e.0)

  -- behind a common front two paths are one where the rests are
  tied : (q rest path : List ℕ) → path ≡ front ++ rest → is_path q rest ≡ is_path (front ++ q) path
  tied q rest path is = ap is_eq (sym (same_front front q rest)) ∙ ap (is_path (front ++ q)) (sym is)

  not_here : (q path : List ℕ) → behind front path ≡ None → is_path (front ++ q) path ≡ false
  not_here q path none = path_other (front ++ q) path (λ same.
      let both : Some q ≡ None = sym (behind_front front q) ∙ ap (behind front) same ∙ none in absurd (cc both))

  found_behind : (es : List (List ℕ × List ℕ)) (q : List ℕ) → find (slice_cmp nat_cmp) q (filter_map taken es) ≡ find (slice_cmp nat_cmp) (front ++ q) es
  found_behind [] q = refl
  found_behind (e ∷ es) q =
      let rest = found_behind es q in
      elim (behind front e.0) as (λ o. behind front e.0 ≡ o → find (slice_cmp nat_cmp) q (cons_option (option_map (λ r. (r, e.1)) o) (filter_map taken es)) ≡ find (slice_cmp nat_cmp) (front ++ q) (e ∷ es)) [
        | None ↦ λ none. rest ∙ sym (ap (λ b. cond b (Some e.1) (find (slice_cmp nat_cmp) (front ++ q) es)) (not_here q e.0 none))
        | Some r ↦ λ some. ap (cond (is_path q r) (Some e.1)) rest ∙ ap (λ b. cond b (Some e.1) (find (slice_cmp nat_cmp) (front ++ q) es)) (tied q r e.0 (behind_splits front e.0 r some))
      ] refl

  any_behind : (ks : List (List ℕ)) (q : List ℕ) → list_any (is_path q) (filter_map (behind front) ks) ≡ list_any (is_path (front ++ q)) ks
  any_behind [] q = refl
  any_behind (k ∷ ks) q =
      let rest = any_behind ks q in
      elim (behind front k) as (λ o. behind front k ≡ o → list_any (is_path q) (cons_option o (filter_map (behind front) ks)) ≡ list_any (is_path (front ++ q)) (k ∷ ks)) [
        | None ↦ λ none. rest ∙ sym (ap (λ b. b || list_any (is_path (front ++ q)) ks) (not_here q k none))
        | Some r ↦ λ some. (λ i. tied q r k (behind_splits front k r some) i || rest i)
      ] refl

module _ (folder : List ℕ) where
  -- what the part has at a path
  pub get-part : (files : Files) (q : List ℕ) → map.get (part_files folder files) q ≡ map.get files (path_in folder q)
  unfolding part_files
  get-part files q =
      map.get-from_entries nat_list_cmp_total (filter_map (taken (front_of folder)) (map.entries files)) q ∙ found_behind (front_of folder) (map.entries files) q
      ∙ sym (map.get-entries files (path_in folder q))

  pub contains-part : (paths : Paths) (q : List ℕ) → set.contains (part_paths folder paths) q ≡ set.contains paths (path_in folder q)
  unfolding part_paths
  contains-part paths q =
      set.contains-from_list nat_list_cmp_total (filter_map (behind (front_of folder)) (set.items paths)) q ∙ any_behind (front_of folder) (set.items paths) q
      ∙ sym (set.contains-items paths (path_in folder q))

  pub here : (q p : List ℕ) → is_path (path_in folder q) (path_in folder p) ≡ is_path q p
  here q p = sym (tied (front_of folder) q p (path_in folder p) refl)

  pub part-clean : (d : Disk) (q : List ℕ) → IsClean d (path_in folder q) → IsClean (part_disk folder d) q
  part-clean d q clean = contains-part d.dirty q ∙ clean

  pub clean-part : (d : Disk) (q : List ℕ) → IsClean (part_disk folder d) q → IsClean d (path_in folder q)
  clean-part d q clean = sym (contains-part d.dirty q) ∙ clean

  -- what a crash may leave of the whole, it may leave of the part
  pub part-may : (d : Disk) (image : Files) → MayLeave d image → MayLeave (part_disk folder d) (part_files folder image)
  part-may d image may = λ q clean. get-part image q ∙ may (path_in folder q) (clean-part d q clean) ∙ sym (get-part d.files q)
