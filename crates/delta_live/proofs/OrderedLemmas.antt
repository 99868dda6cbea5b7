-- Sorted texts that are distinct rise.
use Rattle.std.proofs.Common.{◌≡◌, ℕ, ◌+◌, Bool, false, List, [], get_or, is_lt, is_eq, nat_cmp, Contains, sym, ap, ◌∙◌, arith}
use Rattle.std.specs.Cmp.{IsStrictWeakOrder}
use Rattle.std.specs.Cmp.Lexicographic.{slice_cmp, texts_ties}
use Rattle.std.specs.List.{IsDistinct}
use Rattle.std.specs.List.Sorted.{IsSortedBy, IsPermutation}
use Rattle.std.specs.Ordering.{ordering_reverse}
use Rattle.std.specs.Str.{bytes_eq}
use Rattle.std.proofs.lemmas.Cmp.{nat_list_eq_equiv, nat_list_cmp_total}
use Rattle.std.proofs.lemmas.List.Sorted.{ranks_by, IsPermutation-sym, Contains-permutation}
use Rattle.std.proofs.lemmas.Map.Keys.{IsDistinct-IsPermutation, apart_from_distinct, sorted_from_all_adjacent}
use Rattle.table_history.specs.Rows.{IsInByteOrder}
use Rattle.lake_basics.proofs.Truth.{rising}

abbrev pub text_below : List ℕ → List ℕ → Bool
text_below x y = is_lt (slice_cmp nat_cmp x y)

pub text_below-order : IsStrictWeakOrder text_below
text_below-order = ranks_by nat_list_cmp_total (λ (t : List ℕ). t)

pub same_members : {X : Type 0} (old new : List X) → IsPermutation old new → (x : X) → (Contains new x → Contains old x) × (Contains old x → Contains new x)
same_members old new moved x = (Contains-permutation _ _ x (IsPermutation-sym _ _ moved), Contains-permutation _ _ x moved)

pub texts_rise : (old new : List (List ℕ)) → IsPermutation old new → IsDistinct bytes_eq old → IsSortedBy text_below new → IsInByteOrder new
texts_rise old new moved distinct up =
    let apart = IsDistinct-IsPermutation bytes_eq nat_list_eq_equiv.symm _ _ moved distinct in
    sorted_from_all_adjacent nat_list_cmp_total new [] (λ k within.
    let x = get_or new k [] in
    let y = get_or new (k + 1) [] in
    let not_tied : is_eq (slice_cmp nat_cmp x y) ≡ false = sym (texts_ties x y) ∙ apart_from_distinct bytes_eq new k (k + 1) [] apart (omega arith) within in
    let not_back : is_lt (ordering_reverse (slice_cmp nat_cmp x y)) ≡ false = ap is_lt (sym (nat_list_cmp_total.antisymm y x)) ∙ up k [] (omega arith) within in
    rising (slice_cmp nat_cmp x y) not_back not_tied)
