-- Which entries there are behind lines that are put in one after another.
use Rattle.std.proofs.Common.{◌≡◌, ◌⊎◌, inl, inr, ⊎_elim, ℕ, List, [], ◌∷◌, Equal, Less, Greater, Ordering, Contains, refl, sym, ap, subst, ◌∙◌}
use Rattle.std.specs.BTreeMap.{insert_entry}
use Rattle.std.specs.List.{AllByRecursion}
use Rattle.std.specs.List.Sorted.{IsStrictlySortedBy}
use Rattle.std.specs.Map.{keys_of}
use Rattle.std.specs.Ordering.{match_ordering, ordering_reverse}
use Rattle.std.proofs.lemmas.Cmp.{tied_itself}
use Rattle.std.proofs.lemmas.Map.Keys.{sorted_head, sorted_tail}
use Rattle.table_history.proofs.RowListLemmas.{Contains-none, Contains-head, Contains-tail, Contains-cases}
use Rattle.delta_compaction.specs.declared.key.LineKey.{LineKey}
use Rattle.delta_compaction.specs.declared.kind.LineKind.{LineKind}
use Rattle.delta_compaction.specs.declared.kind.LineKind.TheVariants as kind
use Rattle.delta_compaction.specs.Lines.{key_order}
use Rattle.delta_compaction.specs.Kinds.{put_line}
use Rattle.delta_compaction.proofs.KeyLemmas.{key_total, key_exact}

abbrev Entries : Type 0
Entries = List (LineKey × List ℕ)

-- ---- orders

not_itself : (k : LineKey) → key_order k k ≡ Less → ⊥
not_itself k less = let same = tied_itself key_total k in absurd (cc)

not_less : (k q : LineKey) → k ≡ q → key_order k q ≡ Less → ⊥
not_less k q same less = not_itself k (subst (λ x. key_order k x ≡ Less) (sym same) less)

not_greater : (k q : LineKey) → k ≡ q → key_order k q ≡ Greater → ⊥
not_greater k q same greater = let tied = tied_itself key_total k in absurd (cc (subst (λ x. key_order k x ≡ Greater) (sym same) greater))

turned : (k q : LineKey) → key_order k q ≡ Greater → key_order q k ≡ Less
turned k q greater = key_total.antisymm q k ∙ ap ordering_reverse greater

-- ---- keys that are greater

abbrev Above : LineKey → Entries → Type 0
Above k es = AllByRecursion (λ q. key_order k q ≡ Less) (keys_of es)

above_further : (k q : LineKey) (es : Entries) → key_order k q ≡ Less → Above q es → Above k es
above_further k q [] less above = tt
above_further k q (e ∷ es) less above = (key_total.trans k q e.0 less above.0, above_further k q es less above.1)

above_put : (low k : LineKey) (v : List ℕ) (es : Entries) → key_order low k ≡ Less → Above low es → Above low (insert_entry key_order es k v)
above_put low k v [] less above = (less, tt)
above_put low k v (e ∷ es) less above = by (key_order k e.0) (above_put low k v es less above.1)
  where
    by : (o : Ordering) → Above low (insert_entry key_order es k v) → Above low (match_ordering o ((k, v) ∷ e ∷ es) ((e.0, v) ∷ es) (e ∷ insert_entry key_order es k v))
    by Less more = (less, above)
    by Equal more = (above.0, above.1)
    by Greater more = (above.0, more)

-- a key that an entry has is above what all of them are above
above_contained : (k q : LineKey) (w : List ℕ) (es : Entries) → Above k es → Contains es (q, w) → key_order k q ≡ Less
above_contained k q w [] above there = absurd (Contains-none (q, w) there)
above_contained k q w (e ∷ es) above there = ⊎_elim
    (λ here. ap (λ x. key_order k x) (ap (λ (x : LineKey × List ℕ). x.0) (sym here)) ∙ above.0)
    (above_contained k q w es above.1) (Contains-cases e es (q, w) there)

-- ---- one more line

abbrev Sorted : Entries → Type 0
Sorted es = IsStrictlySortedBy key_order (keys_of es)

head_above : (e : LineKey × List ℕ) (es : Entries) → Sorted (e ∷ es) → Above e.0 es
head_above e es sorted = sorted_head key_order e.0 (keys_of es) sorted

tail_sorted : (e : LineKey × List ℕ) (es : Entries) → Sorted (e ∷ es) → Sorted es
tail_sorted e es sorted = sorted_tail key_order e.0 (keys_of es) sorted

sorted_cons : (k : LineKey) (v : List ℕ) (es : Entries) → Above k es → Sorted es → Sorted ((k, v) ∷ es)
unfolding IsStrictlySortedBy
sorted_cons k v es above sorted = (above, sorted)

sorted_put : (k : LineKey) (v : List ℕ) (es : Entries) → Sorted es → Sorted (insert_entry key_order es k v)
sorted_put k v [] sorted = sorted_cons k v [] tt sorted
sorted_put k v (e ∷ es) sorted = by (key_order k e.0) refl (sorted_put k v es (tail_sorted e es sorted))
  where
    by : (o : Ordering) → key_order k e.0 ≡ o → Sorted (insert_entry key_order es k v) → Sorted (match_ordering o ((k, v) ∷ e ∷ es) ((e.0, v) ∷ es) (e ∷ insert_entry key_order es k v))
    by Less is more = sorted_cons k v (e ∷ es) (is, above_further k e.0 es is (head_above e es sorted)) sorted
    by Equal is more = sorted_cons e.0 v es (head_above e es sorted) (tail_sorted e es sorted)
    by Greater is more = sorted_cons e.0 e.1 (insert_entry key_order es k v) (above_put e.0 k v es (turned k e.0 is) (head_above e es sorted)) more

-- the entry is the new one, or it is an old one of another key
abbrev IsPut : LineKey → List ℕ → Entries → LineKey → List ℕ → Type 0
IsPut k v es q w = ((q ≡ k) × (w ≡ v)) ⊎ (Contains es (q, w) × (q ≡ k → ⊥))

key_of : {q r : LineKey} {w u : List ℕ} → ◌≡◌ {A = LineKey × List ℕ} (q, w) (r, u) → q ≡ r
key_of same = ap (λ (x : LineKey × List ℕ). x.0) same

line_of : {q r : LineKey} {w u : List ℕ} → ◌≡◌ {A = LineKey × List ℕ} (q, w) (r, u) → w ≡ u
line_of same = ap (λ (x : LineKey × List ℕ). x.1) same

put_first : (k : LineKey) (v : List ℕ) (es : Entries) (q : LineKey) (w : List ℕ) → Above k es → Contains ((k, v) ∷ es) (q, w) → IsPut k v es q w
put_first k v es q w above there = ⊎_elim
    (λ here. inl (sym (key_of here), sym (line_of here)))
    (λ old. inr (old, λ same. not_less k q (sym same) (above_contained k q w es above old)))
    (Contains-cases (k, v) es (q, w) there)

put_is : (k : LineKey) (v : List ℕ) (es : Entries) → Sorted es → (q : LineKey) (w : List ℕ) → Contains (insert_entry key_order es k v) (q, w) → IsPut k v es q w
put_is k v [] sorted q w there = put_first k v [] q w tt there
put_is k v (e ∷ es) sorted q w there = by (key_order k e.0) refl (put_is k v es (tail_sorted e es sorted) q w) there
  where
    wider : IsPut k v es q w → IsPut k v (e ∷ es) q w
    wider (inl new) = inl new
    wider (inr old) = inr (Contains-tail e es (q, w) old.0, old.1)

    by : (o : Ordering) → key_order k e.0 ≡ o → (Contains (insert_entry key_order es k v) (q, w) → IsPut k v es q w) → Contains (match_ordering o ((k, v) ∷ e ∷ es) ((e.0, v) ∷ es) (e ∷ insert_entry key_order es k v)) (q, w) → IsPut k v (e ∷ es) q w
    by Less is more there = put_first k v (e ∷ es) q w (is, above_further k e.0 es is (head_above e es sorted)) there
    by Equal is more there =
        let same : k ≡ e.0 = key_exact k e.0 is in
        wider (put_first k v es q w (subst (λ x. Above x es) (sym same) (head_above e es sorted)) (subst (λ x. Contains ((x, v) ∷ es) (q, w)) (sym same) there))
    by Greater is more there = ⊎_elim
        (λ here. inr (subst (Contains (e ∷ es)) here (Contains-head e es), λ same. not_greater k q (sym same) (ap (λ x. key_order k x) (sym (ap (λ (x : LineKey × List ℕ). x.0) here)) ∙ is)))
        (λ later. wider (more later))
        (Contains-cases e (insert_entry key_order es k v) (q, w) there)

put_new : (k : LineKey) (v : List ℕ) (es : Entries) → Contains (insert_entry key_order es k v) (k, v)
put_new k v [] = Contains-head (k, v) []
put_new k v (e ∷ es) = by (key_order k e.0) refl (put_new k v es)
  where
    by : (o : Ordering) → key_order k e.0 ≡ o → Contains (insert_entry key_order es k v) (k, v) → Contains (match_ordering o ((k, v) ∷ e ∷ es) ((e.0, v) ∷ es) (e ∷ insert_entry key_order es k v)) (k, v)
    by Less is more = Contains-head (k, v) (e ∷ es)
    by Equal is more = subst (λ x. Contains ((x, v) ∷ es) (k, v)) (key_exact k e.0 is) (Contains-head (k, v) es)
    by Greater is more = Contains-tail e (insert_entry key_order es k v) (k, v) more

put_old : (k : LineKey) (v : List ℕ) (es : Entries) (q : LineKey) (w : List ℕ) → (q ≡ k → ⊥) → Contains es (q, w) → Contains (insert_entry key_order es k v) (q, w)
put_old k v [] q w other there = absurd (Contains-none (q, w) there)
put_old k v (e ∷ es) q w other there = by (key_order k e.0) refl (put_old k v es q w other)
  where
    by : (o : Ordering) → key_order k e.0 ≡ o → (Contains es (q, w) → Contains (insert_entry key_order es k v) (q, w))
        → Contains (match_ordering o ((k, v) ∷ e ∷ es) ((e.0, v) ∷ es) (e ∷ insert_entry key_order es k v)) (q, w)
    by Less is more = Contains-tail (k, v) (e ∷ es) (q, w) there
    by Equal is more = ⊎_elim
        (λ here. absurd (other (sym (key_exact k e.0 is ∙ ap (λ (x : LineKey × List ℕ). x.0) here))))
        (λ later. Contains-tail (e.0, v) es (q, w) later) (Contains-cases e es (q, w) there)
    by Greater is more = ⊎_elim
        (λ here. subst (Contains (e ∷ insert_entry key_order es k v)) here (Contains-head e _))
        (λ later. Contains-tail e _ (q, w) (more later)) (Contains-cases e es (q, w) there)

-- ---- lines one after another, each of a kind

module _ (kind_of : List ℕ → LineKind) where
  abbrev pub put_all : List (List ℕ) → Entries → Entries
  put_all [] es = es
  put_all (line ∷ lines) es = put_all lines (put_line line (kind_of line) es)

  -- No line is kept as one about this.
  abbrev pub KeepsNone : List (List ℕ) → LineKey → Type 0
  KeepsNone [] k = Unit {0}
  KeepsNone (line ∷ lines) k = (kind_of line ≡ kind.Kept k → ⊥) × KeepsNone lines k

  -- The last line that is kept as one about this is w.
  abbrev pub KeepsLast : List (List ℕ) → LineKey → List ℕ → Type 0
  KeepsLast [] k w = ⊥
  KeepsLast (line ∷ lines) k w = KeepsLast lines k w ⊎ ((kind_of line ≡ kind.Kept k) × (w ≡ line) × KeepsNone lines k)

  sorted_line : (line : List ℕ) (is : LineKind) (es : Entries) → Sorted es → Sorted (put_line line is es)
  sorted_line line kind.Stray es sorted = sorted
  sorted_line line kind.Dropped es sorted = sorted
  sorted_line line (kind.Kept k) es sorted = sorted_put k line es sorted

  sorted_all : (lines : List (List ℕ)) (es : Entries) → Sorted es → Sorted (put_all lines es)
  sorted_all [] es sorted = sorted
  sorted_all (line ∷ lines) es sorted = sorted_all lines _ (sorted_line line (kind_of line) es sorted)

  abbrev Held : List (List ℕ) → Entries → LineKey → List ℕ → Type 0
  Held lines es k w = KeepsLast lines k w ⊎ (Contains es (k, w) × KeepsNone lines k)

  held_more : (line : List ℕ) (lines : List (List ℕ)) (is : LineKind) (es : Entries) (k : LineKey) (w : List ℕ) → Sorted es → kind_of line ≡ is → Held lines (put_line line is es) k w → Held (line ∷ lines) es k w
  held_more line lines is es k w sorted e (inl last) = inl (inl last)
  held_more line lines kind.Stray es k w sorted e (inr old) = inr (old.0, (λ kept. absurd (cc), old.1))
  held_more line lines kind.Dropped es k w sorted e (inr old) = inr (old.0, (λ kept. absurd (cc), old.1))
  held_more line lines (kind.Kept q) es k w sorted e (inr old) = ⊎_elim
      (λ (new : (k ≡ q) × (w ≡ line)). inl (inr (e ∙ ap (λ x. kind.Kept x) (sym new.0), new.1, old.1)))
      (λ (there : Contains es (k, w) × (k ≡ q → ⊥)). inr (there.0, (λ kept. there.1 (cc), old.1)))
      (put_is q line es sorted k w old.0)

  held_less : (line : List ℕ) (lines : List (List ℕ)) (is : LineKind) (es : Entries) (k : LineKey) (w : List ℕ) → kind_of line ≡ is → Held (line ∷ lines) es k w → Held lines (put_line line is es) k w
  held_less line lines is es k w e (inl (inl last)) = inl last
  held_less line lines kind.Stray es k w e (inl (inr here)) = absurd (cc here.0)
  held_less line lines kind.Dropped es k w e (inl (inr here)) = absurd (cc here.0)
  held_less line lines (kind.Kept q) es k w e (inl (inr here)) =
      let same : q ≡ k = cc (here.0) in
      inr (subst (λ x. Contains (insert_entry key_order es q line) (x, w)) same (subst (λ x. Contains (insert_entry key_order es q line) (q, x)) (sym here.1) (put_new q line es)), here.2)
  held_less line lines kind.Stray es k w e (inr old) = inr (old.0, old.1.1)
  held_less line lines kind.Dropped es k w e (inr old) = inr (old.0, old.1.1)
  held_less line lines (kind.Kept q) es k w e (inr old) = inr (put_old q line es k w (λ same. old.1.0 (e ∙ ap (λ x. kind.Kept x) (sym same))) old.0, old.1.1)

  holds_last : (lines : List (List ℕ)) (es : Entries) (k : LineKey) (w : List ℕ) → Sorted es → Contains (put_all lines es) (k, w) → KeepsLast lines k w ⊎ (Contains es (k, w) × KeepsNone lines k)
  holds_last [] es k w sorted there = inr (there, tt)
  holds_last (line ∷ lines) es k w sorted there =
      held_more line lines (kind_of line) es k w sorted refl (holds_last lines (put_line line (kind_of line) es) k w (sorted_line line (kind_of line) es sorted) there)

  last_held : (lines : List (List ℕ)) (es : Entries) (k : LineKey) (w : List ℕ) → Sorted es → KeepsLast lines k w ⊎ (Contains es (k, w) × KeepsNone lines k) → Contains (put_all lines es) (k, w)
  last_held [] es k w sorted (inl last) = absurd last
  last_held [] es k w sorted (inr old) = old.0
  last_held (line ∷ lines) es k w sorted held =
      last_held lines (put_line line (kind_of line) es) k w (sorted_line line (kind_of line) es sorted) (held_less line lines (kind_of line) es k w refl held)

  -- ---- over no entry

  none_sorted : Sorted []
  unfolding IsStrictlySortedBy
  none_sorted = tt

  pub keys_rise : (lines : List (List ℕ)) → IsStrictlySortedBy key_order (keys_of (put_all lines []))
  keys_rise lines = sorted_all lines [] none_sorted

  pub entry_last : (lines : List (List ℕ)) (k : LineKey) (w : List ℕ) → Contains (put_all lines []) (k, w) → KeepsLast lines k w
  entry_last lines k w there = ⊎_elim (λ last. last) (λ (old : Contains [] (k, w) × KeepsNone lines k). absurd (Contains-none (k, w) old.0)) (holds_last lines [] k w none_sorted there)

  pub last_entry : (lines : List (List ℕ)) (k : LineKey) (w : List ℕ) → KeepsLast lines k w → Contains (put_all lines []) (k, w)
  last_entry lines k w last = last_held lines [] k w none_sorted (inl last)
