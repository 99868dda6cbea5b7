-- Which pairs are kept of those that are put into a map one after another.
use Rattle.std.proofs.Common.{◌≡◌, ◌⊎◌, inl, inr, ⊎_elim, ℕ, List, [], ◌∷◌, ◌++◌, Equal, Less, Greater, Ordering, Contains, refl, sym, ap, subst, ◌∙◌}
use Rattle.std.specs.BTreeMap.{insert_entry}
use Rattle.std.specs.Cmp.Lexicographic.{slice_cmp}
use Rattle.std.specs.List.{AllByRecursion}
use Rattle.std.specs.List.Sorted.{IsStrictlySortedBy}
use Rattle.std.specs.Map.{keys_of}
use Rattle.std.specs.Ordering.{match_ordering, nat_cmp, ordering_reverse}
use Rattle.std.proofs.lemmas.Cmp.{nat_list_cmp_total, tied_itself}
use Rattle.std.proofs.lemmas.Map.Keys.{sorted_head, sorted_tail}
use Rattle.std.proofs.lemmas.Map.Lookups.{exact_bytes}
use Rattle.table_history.proofs.RowListLemmas.{Contains-none, Contains-head, Contains-tail, Contains-cases}
use Rattle.hudi_properties.specs.Grammar.{AreLastOfKeys, IsLastOfKey}
use Rattle.hudi_properties.specs.Pairs.{in_order, pairs_with}

abbrev Entries : Type 0
Entries = List (List ℕ × List ℕ)

abbrev order : List ℕ → List ℕ → Ordering
order = slice_cmp nat_cmp

-- ---- orders

not_itself : (k : List ℕ) → order k k ≡ Less → ⊥
not_itself k less = let same = tied_itself nat_list_cmp_total k in absurd (cc)

not_less : (k q : List ℕ) → k ≡ q → order k q ≡ Less → ⊥
not_less k q same less = not_itself k (subst (λ x. order k x ≡ Less) (sym same) less)

not_greater : (k q : List ℕ) → k ≡ q → order k q ≡ Greater → ⊥
not_greater k q same greater = let tied = tied_itself nat_list_cmp_total k in absurd (cc (subst (λ x. order k x ≡ Greater) (sym same) greater))

turned : (k q : List ℕ) → order k q ≡ Greater → order q k ≡ Less
turned k q greater = nat_list_cmp_total.antisymm q k ∙ ap ordering_reverse greater

-- ---- keys that are greater

abbrev Above : List ℕ → Entries → Type 0
Above k es = AllByRecursion (λ q. order k q ≡ Less) (keys_of es)

above_further : (k q : List ℕ) (es : Entries) → order k q ≡ Less → Above q es → Above k es
above_further k q [] less above = tt
above_further k q (e ∷ es) less above = (nat_list_cmp_total.trans k q e.0 less above.0, above_further k q es less above.1)

above_put : (low k : List ℕ) (v : List ℕ) (es : Entries) → order low k ≡ Less → Above low es → Above low (insert_entry order es k v)
above_put low k v [] less above = (less, tt)
above_put low k v (e ∷ es) less above = by (order k e.0) (above_put low k v es less above.1)
  where
    by : (o : Ordering) → Above low (insert_entry order es k v) → Above low (match_ordering o ((k, v) ∷ e ∷ es) ((e.0, v) ∷ es) (e ∷ insert_entry order es k v))
    by Less more = (less, above)
    by Equal more = (above.0, above.1)
    by Greater more = (above.0, more)

-- a key that an entry has is above what all of them are above
above_contained : (k q : List ℕ) (w : List ℕ) (es : Entries) → Above k es → Contains es (q, w) → order k q ≡ Less
above_contained k q w [] above there = absurd (Contains-none (q, w) there)
above_contained k q w (e ∷ es) above there = ⊎_elim
    (λ here. ap (λ x. order k x) (ap (λ (x : List ℕ × List ℕ). x.0) (sym here)) ∙ above.0)
    (above_contained k q w es above.1) (Contains-cases e es (q, w) there)

-- ---- one more line

abbrev Sorted : Entries → Type 0
Sorted es = IsStrictlySortedBy order (keys_of es)

head_above : (e : List ℕ × List ℕ) (es : Entries) → Sorted (e ∷ es) → Above e.0 es
head_above e es sorted = sorted_head order e.0 (keys_of es) sorted

tail_sorted : (e : List ℕ × List ℕ) (es : Entries) → Sorted (e ∷ es) → Sorted es
tail_sorted e es sorted = sorted_tail order e.0 (keys_of es) sorted

sorted_cons : (k : List ℕ) (v : List ℕ) (es : Entries) → Above k es → Sorted es → Sorted ((k, v) ∷ es)
unfolding IsStrictlySortedBy
sorted_cons k v es above sorted = (above, sorted)

sorted_put : (k : List ℕ) (v : List ℕ) (es : Entries) → Sorted es → Sorted (insert_entry order es k v)
sorted_put k v [] sorted = sorted_cons k v [] tt sorted
sorted_put k v (e ∷ es) sorted = by (order k e.0) refl (sorted_put k v es (tail_sorted e es sorted))
  where
    by : (o : Ordering) → order k e.0 ≡ o → Sorted (insert_entry order es k v) → Sorted (match_ordering o ((k, v) ∷ e ∷ es) ((e.0, v) ∷ es) (e ∷ insert_entry order es k v))
    by Less is more = sorted_cons k v (e ∷ es) (is, above_further k e.0 es is (head_above e es sorted)) sorted
    by Equal is more = sorted_cons e.0 v es (head_above e es sorted) (tail_sorted e es sorted)
    by Greater is more = sorted_cons e.0 e.1 (insert_entry order es k v) (above_put e.0 k v es (turned k e.0 is) (head_above e es sorted)) more

-- the entry is the new one, or it is an old one of another key
abbrev IsPut : List ℕ → List ℕ → Entries → List ℕ → List ℕ → Type 0
IsPut k v es q w = ((q ≡ k) × (w ≡ v)) ⊎ (Contains es (q, w) × (q ≡ k → ⊥))

key_of : {q r : List ℕ} {w u : List ℕ} → ◌≡◌ {A = List ℕ × List ℕ} (q, w) (r, u) → q ≡ r
key_of same = ap (λ (x : List ℕ × List ℕ). x.0) same

line_of : {q r : List ℕ} {w u : List ℕ} → ◌≡◌ {A = List ℕ × List ℕ} (q, w) (r, u) → w ≡ u
line_of same = ap (λ (x : List ℕ × List ℕ). x.1) same

put_first : (k : List ℕ) (v : List ℕ) (es : Entries) (q : List ℕ) (w : List ℕ) → Above k es → Contains ((k, v) ∷ es) (q, w) → IsPut k v es q w
put_first k v es q w above there = ⊎_elim
    (λ here. inl (sym (key_of here), sym (line_of here)))
    (λ old. inr (old, λ same. not_less k q (sym same) (above_contained k q w es above old)))
    (Contains-cases (k, v) es (q, w) there)

put_is : (k : List ℕ) (v : List ℕ) (es : Entries) → Sorted es → (q : List ℕ) (w : List ℕ) → Contains (insert_entry order es k v) (q, w) → IsPut k v es q w
put_is k v [] sorted q w there = put_first k v [] q w tt there
put_is k v (e ∷ es) sorted q w there = by (order k e.0) refl (put_is k v es (tail_sorted e es sorted) q w) there
  where
    wider : IsPut k v es q w → IsPut k v (e ∷ es) q w
    wider (inl new) = inl new
    wider (inr old) = inr (Contains-tail e es (q, w) old.0, old.1)

    by : (o : Ordering) → order k e.0 ≡ o → (Contains (insert_entry order es k v) (q, w) → IsPut k v es q w) → Contains (match_ordering o ((k, v) ∷ e ∷ es) ((e.0, v) ∷ es) (e ∷ insert_entry order es k v)) (q, w) → IsPut k v (e ∷ es) q w
    by Less is more there = put_first k v (e ∷ es) q w (is, above_further k e.0 es is (head_above e es sorted)) there
    by Equal is more there =
        let same : k ≡ e.0 = exact_bytes k e.0 is in
        wider (put_first k v es q w (subst (λ x. Above x es) (sym same) (head_above e es sorted)) (subst (λ x. Contains ((x, v) ∷ es) (q, w)) (sym same) there))
    by Greater is more there = ⊎_elim
        (λ here. inr (subst (Contains (e ∷ es)) here (Contains-head e es), λ same. not_greater k q (sym same) (ap (λ x. order k x) (sym (ap (λ (x : List ℕ × List ℕ). x.0) here)) ∙ is)))
        (λ later. wider (more later))
        (Contains-cases e (insert_entry order es k v) (q, w) there)

put_new : (k : List ℕ) (v : List ℕ) (es : Entries) → Contains (insert_entry order es k v) (k, v)
put_new k v [] = Contains-head (k, v) []
put_new k v (e ∷ es) = by (order k e.0) refl (put_new k v es)
  where
    by : (o : Ordering) → order k e.0 ≡ o → Contains (insert_entry order es k v) (k, v) → Contains (match_ordering o ((k, v) ∷ e ∷ es) ((e.0, v) ∷ es) (e ∷ insert_entry order es k v)) (k, v)
    by Less is more = Contains-head (k, v) (e ∷ es)
    by Equal is more = subst (λ x. Contains ((x, v) ∷ es) (k, v)) (exact_bytes k e.0 is) (Contains-head (k, v) es)
    by Greater is more = Contains-tail e (insert_entry order es k v) (k, v) more

put_old : (k : List ℕ) (v : List ℕ) (es : Entries) (q : List ℕ) (w : List ℕ) → (q ≡ k → ⊥) → Contains es (q, w) → Contains (insert_entry order es k v) (q, w)
put_old k v [] q w other there = absurd (Contains-none (q, w) there)
put_old k v (e ∷ es) q w other there = by (order k e.0) refl (put_old k v es q w other)
  where
    by : (o : Ordering) → order k e.0 ≡ o → (Contains es (q, w) → Contains (insert_entry order es k v) (q, w))
        → Contains (match_ordering o ((k, v) ∷ e ∷ es) ((e.0, v) ∷ es) (e ∷ insert_entry order es k v)) (q, w)
    by Less is more = Contains-tail (k, v) (e ∷ es) (q, w) there
    by Equal is more = ⊎_elim
        (λ here. absurd (other (sym (exact_bytes k e.0 is ∙ ap (λ (x : List ℕ × List ℕ). x.0) here))))
        (λ later. Contains-tail (e.0, v) es (q, w) later) (Contains-cases e es (q, w) there)
    by Greater is more = ⊎_elim
        (λ here. subst (Contains (e ∷ insert_entry order es k v)) here (Contains-head e _))
        (λ later. Contains-tail e _ (q, w) (more later)) (Contains-cases e es (q, w) there)

-- ---- pairs one after another

-- none of the pairs has the key
abbrev HasNone : Entries → List ℕ → Type 0
HasNone given k = (v : List ℕ) → ¬ Contains given (k, v)

-- the pair is the last given of its key, or it stood before and none is given
abbrev IsHeld : Entries → Entries → List ℕ × List ℕ → Type 0
IsHeld given es pair = IsLastOfKey given pair ⊎ (Contains es pair × HasNone given pair.0)

last_behind : (p : List ℕ × List ℕ) (given : Entries) (pair : List ℕ × List ℕ) → IsLastOfKey given pair → IsLastOfKey (p ∷ given) pair
last_behind p given pair is = record { front = p ∷ is.front; rest = is.rest; split = ap (λ (ps : Entries). p ∷ ps) is.split; last = is.last }

last_here : (p : List ℕ × List ℕ) (given : Entries) (pair : List ℕ × List ℕ) → p ≡ pair → HasNone given pair.0 → IsLastOfKey (p ∷ given) pair
last_here p given pair is none = record { front = []; rest = given; split = ap (λ (x : List ℕ × List ℕ). x ∷ given) is; last = none }

one_pair : (p pair : List ℕ × List ℕ) → pair.0 ≡ p.0 → pair.1 ≡ p.1 → p ≡ pair
one_pair (k, v) (q, w) key value = rw (key, value) refl

held_by : (p : List ℕ × List ℕ) (given es : Entries) (pair : List ℕ × List ℕ) → Sorted es → IsHeld given (insert_entry order es p.0 p.1) pair → IsHeld (p ∷ given) es pair
held_by p given es pair sorted (inl last) = inl (last_behind p given pair last)
held_by p given es pair sorted (inr old) = ⊎_elim
    (λ (new : (pair.0 ≡ p.0) × (pair.1 ≡ p.1)). inl (last_here p given pair (one_pair p pair new.0 new.1) old.1))
    (λ (there : Contains es pair × (pair.0 ≡ p.0 → ⊥)). inr (
      there.0,
      λ v has. ⊎_elim
          (λ (here : p ≡ (pair.0, v)). there.1 (sym (ap (λ (x : List ℕ × List ℕ). x.0) here)))
          (λ later. old.1 v later)
          (Contains-cases p given (pair.0, v) has),
    ))
    (put_is p.0 p.1 es sorted pair.0 pair.1 old.0)

holds : (given es : Entries) (pair : List ℕ × List ℕ) → Sorted es → Contains (pairs_with given es) pair → IsHeld given es pair
holds [] es pair sorted there = inr (there, λ v has. Contains-none (pair.0, v) has)
holds (p ∷ given) es pair sorted there =
    held_by p given es pair sorted (holds given (insert_entry order es p.0 p.1) pair (sorted_put p.0 p.1 es sorted) there)

not_split : (front : Entries) (pair : List ℕ × List ℕ) (rest : Entries) → [] ≡ front ++ pair ∷ rest → ⊥
not_split [] pair rest is = absurd (cc)
not_split (p ∷ front) pair rest is = absurd (cc)

-- what is held with one pair more is held behind it
held_on : (p : List ℕ × List ℕ) (given es : Entries) (pair : List ℕ × List ℕ) (front rest : Entries) → p ∷ given ≡ front ++ pair ∷ rest → HasNone rest pair.0 → IsHeld given (insert_entry order es p.0 p.1) pair
held_on p given es pair [] rest is none =
    let same : p ≡ pair = cc in
    let behind : given ≡ rest = cc in
    inr (subst (λ (x : List ℕ × List ℕ). Contains (insert_entry order es p.0 p.1) x) same (put_new p.0 p.1 es), subst (λ (ps : Entries). HasNone ps pair.0) (sym behind) none)
held_on p given es pair (f ∷ front) rest is none =
    let behind : given ≡ front ++ pair ∷ rest = cc in
    inl (record { front = front; rest = rest; split = behind; last = none })

held : (given es : Entries) (pair : List ℕ × List ℕ) → IsHeld given es pair → Contains (pairs_with given es) pair
held [] es pair (inl last) = absurd (not_split last.front pair last.rest last.split)
held [] es pair (inr old) = old.0
held (p ∷ given) es pair (inl last) = held given (insert_entry order es p.0 p.1) pair (held_on p given es pair last.front last.rest last.split last.last)
held (p ∷ given) es pair (inr old) = held given (insert_entry order es p.0 p.1) pair (inr (
  put_old p.0 p.1 es pair.0 pair.1 (λ same. old.1 p.1 (subst (λ (k : List ℕ). Contains (p ∷ given) (k, p.1)) (sym same) (Contains-head p given))) old.0,
  λ v there. old.1 v (Contains-tail p given (pair.0, v) there),
))

sorted_with : (given es : Entries) → Sorted es → Sorted (pairs_with given es)
sorted_with [] es sorted = sorted
sorted_with (p ∷ given) es sorted = sorted_with given (insert_entry order es p.0 p.1) (sorted_put p.0 p.1 es sorted)

none_sorted : Sorted []
unfolding IsStrictlySortedBy
none_sorted = tt

-- What a map keeps of the pairs are the last of each key.
pub kept_last : (given : Entries) → AreLastOfKeys given (in_order given)
kept_last given = record {
  order = sorted_with given [] none_sorted;
  are = λ pair. (λ there. ⊎_elim (λ last. last) (λ (old : Contains [] pair × HasNone given pair.0). absurd (Contains-none pair old.0)) (holds given [] pair none_sorted there), λ last. held given [] pair (inl last));
}

-- ---- the last of each key, once

-- an entry of one list, which is the head or behind it, is the head where the other list's head is no less
same_head : (e f : List ℕ × List ℕ) (es fs : Entries) → Sorted (e ∷ es) → Sorted (f ∷ fs) → Contains (f ∷ fs) e → Contains (e ∷ es) f → e ≡ f
same_head e f es fs first second there back = ⊎_elim
    (λ here. sym here)
    (λ later. ⊎_elim
    (λ here. here)
    (λ behind. absurd (not_less e.0 e.0 refl (nat_list_cmp_total.trans e.0 f.0 e.0 (above_contained e.0 f.0 f.1 es (head_above e es first) behind) (above_contained f.0 e.0 e.1 fs (head_above f fs second) later))))
    (Contains-cases e es f back))
    (Contains-cases f fs e there)

-- what is behind the head of one list is behind that of the other
same_tail : (e f : List ℕ × List ℕ) (es fs : Entries) → Sorted (e ∷ es) → e ≡ f → ((p : List ℕ × List ℕ) → Contains (e ∷ es) p → Contains (f ∷ fs) p) → (p : List ℕ × List ℕ) → Contains es p → Contains fs p
same_tail e f es fs first same there p has = ⊎_elim
    (λ (here : f ≡ p). absurd (not_less e.0 p.0 (ap (λ (x : List ℕ × List ℕ). x.0) (same ∙ here)) (above_contained e.0 p.0 p.1 es (head_above e es first) has)))
    (λ behind. behind)
    (Contains-cases f fs p (there p (Contains-tail e es p has)))

-- Lists in order with the same entries are one.
one_list : (es fs : Entries) → Sorted es → Sorted fs → ((p : List ℕ × List ℕ) → Contains es p → Contains fs p) → ((p : List ℕ × List ℕ) → Contains fs p → Contains es p) → es ≡ fs
one_list [] [] first second there back = refl
one_list [] (f ∷ fs) first second there back = absurd (Contains-none f (back f (Contains-head f fs)))
one_list (e ∷ es) [] first second there back = absurd (Contains-none e (there e (Contains-head e es)))
one_list (e ∷ es) (f ∷ fs) first second there back =
    let same : e ≡ f = same_head e f es fs first second (there e (Contains-head e es)) (back f (Contains-head f fs)) in
    let behind : es ≡ fs = one_list es fs (tail_sorted e es first) (tail_sorted f fs second) (same_tail e f es fs first same there) (same_tail f e fs es second (sym same) back) in
    rw (same, behind) refl

-- The last of each key are what a map keeps.
pub last_kept : (given pairs : Entries) → AreLastOfKeys given pairs → pairs ≡ in_order given
last_kept given pairs are =
    let kept = kept_last given in
    one_list pairs (in_order given) are.order kept.order
    (λ p there. (kept.are p).1 ((are.are p).0 there))
    (λ p there. (are.are p).1 ((kept.are p).0 there))
