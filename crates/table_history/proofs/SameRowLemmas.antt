-- Two lists of the same rows, of distinct paths each, have them in another order at most.
use Rattle.std.proofs.Common.{◌≡◌, false, List, [], ◌∷◌, Contains, sym, ap, ◌∙◌, ⊎_elim}
use Rattle.std.specs.List.{remove}
use Rattle.std.specs.List.Sorted.{IsPermutation}
use Rattle.std.specs.Str.{bytes_eq}
use Rattle.std.proofs.lemmas.Bool.{false≢true}
use Rattle.std.proofs.lemmas.Cmp.{nat_list_eq_equiv}
use Rattle.std.proofs.lemmas.List.Sorted.{IsPermutation-refl, IsPermutation-sym, IsPermutation-trans, IsPermutation-cons, IsPermutation-map, IsPermutation-remove, Contains-permutation}
use Rattle.std.proofs.lemmas.Map.Keys.{IsDistinct-IsPermutation, IsDistinct-head, IsDistinct-tail}
use Rattle.std.proofs.lemmas.Slice.Eq.{bytes_eq-Decides}
use Rattle.table_history.specs.Row.{Row}
use Rattle.table_history.specs.Rows.{HasDistinctPaths, SameRows, paths_of}
use Rattle.table_history.proofs.RowListLemmas.{Contains-none, Contains-head, Contains-tail, Contains-cases, Contains-paths, all_at}

not_again : (x : Row) (xs : List Row) (row : Row) → HasDistinctPaths (x ∷ xs) → x ≡ row → Contains xs row → ⊥
not_again x xs row distinct is h =
    let apart : bytes_eq x.path row.path ≡ false = all_at (λ y. bytes_eq x.path y ≡ false) (paths_of xs) row.path (IsDistinct-head bytes_eq x.path (paths_of xs) distinct) (Contains-paths xs row h) in
    false≢true (sym apart ∙ (bytes_eq-Decides x.path row.path).1 (ap (λ r. r.path) is))

pub permuted : (xs ys : List Row) → HasDistinctPaths xs → HasDistinctPaths ys → SameRows xs ys → IsPermutation xs ys
permuted [] [] distinct distinct' same = IsPermutation-refl []
permuted [] (y ∷ ys) distinct distinct' same = absurd (Contains-none y ((same y).1 (Contains-head y ys)))
permuted (x ∷ xs) ys distinct distinct' same =
    let there = (same x).0 (Contains-head x xs) in
    let rest = remove ys there.0 in
    let front : IsPermutation ys (x ∷ rest) = IsPermutation-remove ys there.0 x there.1 (sym there.2) in
    let apart : HasDistinctPaths (x ∷ rest) = IsDistinct-IsPermutation bytes_eq nat_list_eq_equiv.symm _ _ (IsPermutation-map (λ (r : Row). r.path) ys (x ∷ rest) front) distinct' in
    let same_rest : SameRows xs rest = λ row. (
      λ h.
          ⊎_elim
          (λ is. absurd (not_again x xs row distinct is h))
          (λ later. later)
          (Contains-cases x rest row (Contains-permutation ys (x ∷ rest) row front ((same row).0 (Contains-tail x xs row h)))),
      λ h.
          ⊎_elim
          (λ is. absurd (not_again x rest row apart is h))
          (λ later. later)
          (Contains-cases x xs row ((same row).1 (Contains-permutation (x ∷ rest) ys row (IsPermutation-sym ys (x ∷ rest) front) (Contains-tail x rest row h)))),
    ) in
    let others = permuted xs rest (IsDistinct-tail bytes_eq x.path (paths_of xs) distinct) (IsDistinct-tail bytes_eq x.path (paths_of rest) apart) same_rest in
    IsPermutation-trans (x ∷ xs) (x ∷ rest) ys (IsPermutation-cons x xs rest others) (IsPermutation-sym ys (x ∷ rest) front)
