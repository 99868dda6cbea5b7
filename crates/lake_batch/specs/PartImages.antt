-- Each image of a part is the part of an image of the whole. So the moments of the whole are those of the part.
use Rattle.std.proofs.Common.{◌≡◌, ◌⊎◌, inl, inr, ⊎_elim, ℕ, Bool, true, not, cond, List, [], ◌∷◌, refl, sym, ◌∙◌, ap, subst}
use Rattle.std.specs.Prelude.{Option, Some, None, is_some}
use Rattle.std.specs.Ordering.{nat_cmp}
use Rattle.std.specs.Cmp.Lexicographic.{slice_cmp, nat_list_cmp_total}
use Rattle.std.specs.FinMap as map
use Rattle.std.specs.FinMap.{slice_cmp-IsAntisymmetric, nat_cmp-IsAntisymmetric}
use Rattle.std.specs.FinMap.Entries.{find}
use Rattle.std.specs.declared.cmp.Ordering.TheVariants.{Equal}
use Rattle.lake_store.specs.Disk.{Disk, Files, IsClean, MayLeave, behind, front_of}
use Rattle.lake_store.specs.Moments.{Elapses}
use Rattle.lake_store.proofs.DiskLaws.{path_other}
use Rattle.lake_store.proofs.NameLaws.{behind_front, behind_splits}
use Rattle.source_core.proofs.Files.{same_files}
use Rattle.lake_batch.specs.Part.{IsBeside, part_disk, part_files, part_left_since, path_in}
use Rattle.lake_batch.specs.PartAt.{get-part, here, part-clean, part-may}

module _ (folder : List ℕ) where
  -- a path is one of the part, or it isn't
  pub in_or_beside : (q : List ℕ) → ((rest : List ℕ) × (q ≡ path_in folder rest)) ⊎ IsBeside folder q
  in_or_beside q =
      elim (behind (front_of folder) q) as (λ o. behind (front_of folder) q ≡ o → ((rest : List ℕ) × (q ≡ path_in folder rest)) ⊎ IsBeside folder q) [
        | Some rest ↦ λ some. inl (rest, behind_splits (front_of folder) q rest some)
        | None ↦ λ none. inr (λ rest same. let both : Some rest ≡ None = sym (behind_front (front_of folder) rest) ∙ ap (behind (front_of folder)) (sym same) ∙ none in absurd (cc both))
      ] refl

  abbrev is_beside : List ℕ → Bool
  is_beside q = not (is_some (behind (front_of folder) q))

  beside_alike : (q x : List ℕ) → slice_cmp nat_cmp q x ≡ Equal → is_beside x ≡ is_beside q
  beside_alike q x tied = ap is_beside (sym (slice_cmp-IsAntisymmetric nat_cmp-IsAntisymmetric q x tied))

  -- the files beside the part, and on them those of an image of the part
  abbrev beside : Files → Files
  beside files = map.retain_keys files is_beside

  abbrev laid_on : Files → List (List ℕ × List ℕ) → Files
  laid_on files [] = files
  laid_on files (e ∷ es) = map.insert (laid_on files es) (path_in folder e.0) e.1

  get_beside : (files : Files) (q : List ℕ) → map.get (beside files) q ≡ cond (is_beside q) (map.get files q) None
  get_beside files q = map.get-retain_keys files is_beside q (beside_alike q)

  none_inside : (files : Files) (rest : List ℕ) → map.get (beside files) (path_in folder rest) ≡ None
  none_inside files rest =
      get_beside files (path_in folder rest)
      ∙ ap (λ (o : Option (List ℕ)). cond (not (is_some o)) (map.get files (path_in folder rest)) None) (behind_front (front_of folder) rest)

  beside_true : (q : List ℕ) → IsBeside folder q → is_beside q ≡ true
  beside_true q outside =
      elim (behind (front_of folder) q) as (λ o. behind (front_of folder) q ≡ o → not (is_some o) ≡ true) [
        | Some rest ↦ λ some. absurd (outside rest (behind_splits (front_of folder) q rest some))
        | None ↦ λ none. refl
      ] refl

  laid_beside : (files : Files) (es : List (List ℕ × List ℕ)) (q : List ℕ) → IsBeside folder q → map.get (laid_on files es) q ≡ map.get files q
  laid_beside files [] q outside = refl
  laid_beside files (e ∷ es) q outside =
      map.get-insert nat_list_cmp_total (laid_on files es) (path_in folder e.0) e.1 q
      ∙ (λ i. cond (path_other q (path_in folder e.0) (outside e.0) i) (Some e.1) (laid_beside files es q outside i))

  laid_inside : (files : Files) (es : List (List ℕ × List ℕ)) (rest : List ℕ) → map.get files (path_in folder rest) ≡ None → map.get (laid_on files es) (path_in folder rest) ≡ find (slice_cmp nat_cmp) rest es
  laid_inside files [] rest none = none
  laid_inside files (e ∷ es) rest none =
      map.get-insert nat_list_cmp_total (laid_on files es) (path_in folder e.0) e.1 (path_in folder rest)
      ∙ (λ i. cond (here folder rest e.0 i) (Some e.1) (laid_inside files es rest none i))

  abbrev pub whole_of : Files → Files → Files
  whole_of files image = laid_on (beside files) (map.entries image)

  whole_inside : (files image : Files) (rest : List ℕ) → map.get (whole_of files image) (path_in folder rest) ≡ map.get image rest
  whole_inside files image rest = laid_inside (beside files) (map.entries image) rest (none_inside files rest) ∙ sym (map.get-entries image rest)

  whole_beside : (files image : Files) (q : List ℕ) → IsBeside folder q → map.get (whole_of files image) q ≡ map.get files q
  whole_beside files image q outside =
      laid_beside (beside files) (map.entries image) q outside ∙ get_beside files q ∙ ap (λ b. cond b (map.get files q) None) (beside_true q outside)

  -- an image of the part is the part of an image of the whole
  pub part_of_whole : (files image : Files) → image ≡ part_files folder (whole_of files image)
  part_of_whole files image = same_files _ _ (λ q. sym (whole_inside files image q) ∙ sym (get-part folder (whole_of files image) q))

  pub whole_may : (d : Disk) (image : Files) → MayLeave (part_disk folder d) image → MayLeave d (whole_of d.files image)
  whole_may d image may = λ q clean. ⊎_elim
      (λ (inside : (rest : List ℕ) × (q ≡ path_in folder rest)).
      ap (map.get (whole_of d.files image)) inside.1 ∙ whole_inside d.files image inside.0
      ∙ may inside.0 (part-clean folder d inside.0 (subst (IsClean d) inside.1 clean))
      ∙ get-part folder d.files inside.0 ∙ ap (map.get d.files) (sym inside.1))
      (λ (outside : IsBeside folder q). whole_beside d.files image q outside)
      (in_or_beside q)

  module _ {S : Type 0} (tells : Type 0) (disk : S → Disk) (time : S → ℕ) (left_since : S → ℕ → Files → Type 0) where
    -- the laws of a store's moments hold of a part where they hold of the whole
    pub part_now : (told : tells) (s : S) (t : ℕ) → ((image : Files) → MayLeave (disk s) image → left_since s t image) → (image : Files) → MayLeave (part_disk folder (disk s)) image → part_left_since left_since folder s t image
    part_now told s t now image may = (whole_of (disk s).files image, now (whole_of (disk s).files image) (whole_may (disk s) image may), part_of_whole (disk s).files image)

    pub part_only_now : (s : S) → ((image : Files) → left_since s (time s) image → MayLeave (disk s) image) → (image : Files) → part_left_since left_since folder s (time s) image → MayLeave (part_disk folder (disk s)) image
    part_only_now s only image left = subst (MayLeave (part_disk folder (disk s))) (sym left.2) (part-may folder (disk s) left.0 (only left.0 left.1))

    pub part_elapses : (old new : S) → Elapses disk time left_since old new → Elapses (λ (s : S). part_disk folder (disk s)) time (part_left_since left_since folder) old new
    part_elapses old new call = record {
      later = call.later;
      nothing_else = λ t image le left. ⊎_elim
          (λ (before : left_since old t left.0). inl (left.0, before, left.2))
          (λ (may : MayLeave (disk new) left.0). inr (subst (MayLeave (part_disk folder (disk new))) (sym left.2) (part-may folder (disk new) left.0 may)))
          (call.nothing_else t left.0 le left.1);
      keeps = λ t image le left. (left.0, call.keeps t left.0 le left.1, left.2);
    }
