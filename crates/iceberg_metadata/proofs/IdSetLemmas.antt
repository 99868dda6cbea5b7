-- Ids that have been seen, from the last to the first.
use Rattle.std.proofs.Common.{◌≡◌, ℕ, zero, suc, ◌-◌, ◌<◌, ◌≤◌, ℤ, pos, List, [], ◌∷◌, Bool, true, false, not, ◌&&◌, ◌||◌, drop, get_or, length, sym, ap, subst, ◌∙◌, drop-cons}
use Rattle.std.specs.BTreeSet as sorted
use Rattle.std.specs.BTreeSet.{BTreeSet}
use Rattle.std.specs.Ordering.{int_cmp, int_eq}
use Rattle.std.proofs.lemmas.Cmp.{int_eq_equiv}
use Rattle.std.proofs.lemmas.Bool.{and_right, not-false, not-true}
use Rattle.iceberg_metadata.specs.IdSets.{HoldsIds}
use Rattle.iceberg_metadata.specs.Judging.{is_among, are_distinct}
use Rattle.lake_basics.proofs.Truth.{cond_or}
use Rattle.lake_basics.proofs.Numbers.{before_less, suc_before}

behind_false : (ids : List ℤ) (i : ℕ) → are_distinct (drop i ids) ≡ false → are_distinct ids ≡ false
behind_false ids zero e = e
behind_false [] (suc i) e = e
behind_false (x ∷ xs) (suc i) e = and_right (not (is_among xs x)) (are_distinct xs) (behind_false xs i e)

module _ (ids : List ℤ) (place : ℕ) (x : ℤ) (set : BTreeSet ℤ) (added : Bool) (some : 0 < place) (within : place ≤ length ids) (at : get_or ids (place - 1) (pos 0) ≡ x)
    (held : HoldsIds set (drop place ids)) (is : added ≡ not (sorted.contains int_cmp set x)) where
  here : drop (place - 1) ids ≡ x ∷ drop place ids
  here = drop-cons ids (place - 1) (pos 0) (before_less place (length ids) some within) ∙ (λ i. at i ∷ drop (suc_before place some i) ids)

  pub held_here : (new : BTreeSet ℤ) → sorted.UpdatesBy int_cmp (int_cmp x) set new true → HoldsIds new (drop (place - 1) ids)
  held_here new updates =
      subst (λ l. HoldsIds new l) (sym here)
      (λ q. updates.0 q ∙ cond_or (int_eq x q) (sorted.contains int_cmp set q) ∙ (λ i. int_eq_equiv.symm x q i || held q i))

  pub own_here : added ≡ true → are_distinct (drop place ids) ≡ true → are_distinct (drop (place - 1) ids) ≡ true
  own_here fresh own =
      let new : is_among (drop place ids) x ≡ false = sym (held x) ∙ not-true (sorted.contains int_cmp set x) (sym is ∙ fresh) in
      ap are_distinct here ∙ (λ i. not (new i) && own i)

  pub twice_here : added ≡ false → are_distinct ids ≡ false
  twice_here old =
      let seen : is_among (drop place ids) x ≡ true = sym (held x) ∙ not-false (sorted.contains int_cmp set x) (sym is ∙ old) in
      behind_false ids (place - 1) (ap are_distinct here ∙ (λ i. not (seen i) && are_distinct (drop place ids)))
