-- Pairs in the order of their names are the same pairs.
use Rattle.std.proofs.Common.{◌≡◌, ℕ, List, [], ◌∷◌, ◌++◌, map, Bool, true, false, Ordering, Less, Equal, Greater, refl, sym, ap, subst, ◌∙◌, nat_cmp, is_eq}
use Rattle.std.proofs.lemmas.Bool.{or_from, or_parts, true≢false}
use Rattle.std.proofs.lemmas.List.{append-nil}
use Rattle.std.proofs.lemmas.Slice.Eq.{bytes_eq-Decides}
use Rattle.std.proofs.lemmas.List.Sorted.{IsPermutation-cons, IsPermutation-refl, IsPermutation-trans}
use Rattle.std.proofs.lemmas.Map.Text.{is_eq-slice_cmp}
use Rattle.std.proofs.lemmas.Map.Keys.{IsDistinct-head, IsDistinct-tail}
use Rattle.std.specs.BTreeMap.{insert_entry}
use Rattle.std.specs.Cmp.Lexicographic.{slice_cmp}
use Rattle.std.specs.List.{AllByRecursion, list_any}
use Rattle.std.specs.List.Sorted.{IsPermutation}
use Rattle.std.specs.Ordering.{match_ordering}
use Rattle.std.specs.Str.{bytes_eq}
use Rattle.delta_text.specs.Writing.{pairs_with, sorted_pairs}
use Rattle.delta_log.specs.Sound.{HaveDistinctNames}
use Rattle.lake_basics.proofs.Lists.{front_two, moved_back, permuted_behind}

-- whether one of these has the name
abbrev is_named : {A : Type 0} → List ℕ → List (List ℕ × A) → Bool
is_named name ps = list_any (λ p. bytes_eq name p.0) ps

abbrev HaveOwnNames : {A : Type 0} → List (List ℕ × A) → Type 0
HaveOwnNames [] = Unit {0}
HaveOwnNames (p ∷ ps) = (is_named p.0 ps ≡ false) × HaveOwnNames ps

other_way : (a b : List ℕ) (r : Bool) → bytes_eq b a ≡ r → bytes_eq a b ≡ false → r ≡ false
other_way a b true is not_same = let same : b ≡ a = (bytes_eq-Decides b a).0 is in sym is ∙ ap (λ x. bytes_eq b x) (sym same) ∙ ap (λ x. bytes_eq x b) same ∙ not_same
other_way a b false is not_same = refl

module _ {A : Type 0} where
  placed : (o : Ordering) (k : List ℕ) (v : A) (e : List ℕ × A) (es : List (List ℕ × A)) → slice_cmp nat_cmp k e.0 ≡ o → bytes_eq k e.0 ≡ false → IsPermutation ((k, v) ∷ es) (insert_entry (slice_cmp nat_cmp) es k v)
      → IsPermutation ((k, v) ∷ e ∷ es) (match_ordering o ((k, v) ∷ e ∷ es) ((e.0, v) ∷ es) (e ∷ insert_entry (slice_cmp nat_cmp) es k v))
  placed Less k v e es is new later = IsPermutation-refl _
  placed Equal k v e es is new later = absurd (true≢false (sym (ap is_eq is) ∙ is_eq-slice_cmp k e.0 ∙ new))
  placed Greater k v e es is new later = IsPermutation-trans _ _ _ (front_two (k, v) e es) (IsPermutation-cons e _ _ later)

  insert_new : (k : List ℕ) (v : A) (es : List (List ℕ × A)) → is_named k es ≡ false → IsPermutation ((k, v) ∷ es) (insert_entry (slice_cmp nat_cmp) es k v)
  insert_new k v [] new = IsPermutation-refl _
  insert_new k v (e ∷ es) new = let parts = or_parts _ _ new in placed _ k v e es refl parts.0 (insert_new k v es parts.1)

  named_at : (o : Ordering) (q k : List ℕ) (v : A) (e : List ℕ × A) (es : List (List ℕ × A)) → bytes_eq q k ≡ false → bytes_eq q e.0 ≡ false → is_named q es ≡ false → is_named q (insert_entry (slice_cmp nat_cmp) es k v) ≡ false
      → is_named q (match_ordering o ((k, v) ∷ e ∷ es) ((e.0, v) ∷ es) (e ∷ insert_entry (slice_cmp nat_cmp) es k v)) ≡ false
  named_at Less q k v e es other first rest later = or_from _ _ other (or_from _ _ first rest)
  named_at Equal q k v e es other first rest later = or_from _ _ first rest
  named_at Greater q k v e es other first rest later = or_from _ _ first later

  is_named-insert : (q k : List ℕ) (v : A) (es : List (List ℕ × A)) → is_named q es ≡ false → bytes_eq q k ≡ false → is_named q (insert_entry (slice_cmp nat_cmp) es k v) ≡ false
  is_named-insert q k v [] new other = or_from _ _ other refl
  is_named-insert q k v (e ∷ es) new other = let parts = or_parts _ _ new in named_at (slice_cmp nat_cmp k e.0) q k v e es other parts.0 parts.1 (is_named-insert q k v es parts.1 other)

  New : List (List ℕ × A) → List (List ℕ × A) → Type 0
  New found ps = AllByRecursion (λ p. is_named p.0 found ≡ false) ps

  still_new : (p : List ℕ × A) (found ps : List (List ℕ × A)) → is_named p.0 ps ≡ false → New found ps → New (insert_entry (slice_cmp nat_cmp) found p.0 p.1) ps
  unfolding New
  still_new p found [] apart new = tt
  still_new p found (q ∷ ps) apart new =
      let parts = or_parts _ _ apart in
      (is_named-insert q.0 p.0 p.1 found new.0 (other_way p.0 q.0 (bytes_eq q.0 p.0) refl parts.0), still_new p found ps parts.1 new.1)

  pairs_with_all : (ps found : List (List ℕ × A)) → HaveOwnNames ps → New found ps → IsPermutation (ps ++ found) (pairs_with ps found)
  unfolding New
  pairs_with_all [] found own new = IsPermutation-refl _
  pairs_with_all (p ∷ ps) found own new =
      IsPermutation-trans _ _ _ (moved_back p ps found)
      (IsPermutation-trans _ _ _ (permuted_behind ps _ _ (insert_new p.0 p.1 found new.0)) (pairs_with_all ps _ own.1 (still_new p found ps own.0 new.1)))

  none_named : (ps : List (List ℕ × A)) → New [] ps
  unfolding New
  none_named [] = tt
  none_named (p ∷ ps) = (refl, none_named ps)

  pub in_order_all : (ps : List (List ℕ × A)) → HaveOwnNames ps → IsPermutation ps (sorted_pairs ps)
  in_order_all ps own = let P : List (List ℕ × A) → Type 0 = λ l. IsPermutation l (sorted_pairs ps) in subst P (append-nil ps) (pairs_with_all ps [] own (none_named ps))

  none_named_so : (name : List ℕ) (ps : List (List ℕ × A)) → AllByRecursion (λ other. bytes_eq name other ≡ false) (map (λ p. p.0) ps) → is_named name ps ≡ false
  none_named_so name [] all = refl
  none_named_so name (p ∷ ps) all = or_from _ _ all.0 (none_named_so name ps all.1)

  own_names : (ps : List (List ℕ × A)) → HaveDistinctNames ps → HaveOwnNames ps
  own_names [] distinct = tt
  own_names (p ∷ ps) distinct = (none_named_so p.0 ps (IsDistinct-head bytes_eq p.0 (map (λ q. q.0) ps) distinct), own_names ps (IsDistinct-tail bytes_eq p.0 (map (λ q. q.0) ps) distinct))

  -- Pairs of distinct names, in the order of these, are the same pairs.
  pub sorted_pairs_same : (ps : List (List ℕ × A)) → HaveDistinctNames ps → IsPermutation ps (sorted_pairs ps)
  sorted_pairs_same ps distinct = in_order_all ps (own_names ps distinct)
