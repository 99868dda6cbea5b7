-- Chains that grow by a chain or a slot at a time.
use Rattle.std.proofs.Common.{◌≡◌, ◌+◌, ◌<◌, ◌≤◌, ℕ, zero, suc, List, [], ◌∷◌, ◌++◌, length, refl, sym, ◌∙◌, ap, subst, inl, inr, arith, slice_index, slice_get, Option, None, Some, replicate, cond, nat_eq}
use Rattle.std.proofs.lemmas.Bool.{cases_eq, cases_lt}
use Rattle.std.proofs.lemmas.List.{length-append, length-replicate}
use Rattle.std.proofs.Math.ListN.{get_or-eq_default}
use Rattle.file_links.specs.declared.chains.Chains.{Chains}
use Rattle.file_links.specs.Chains.{chain_count, slot_count, chain_of, slots_in, AreSound, AddsChain, AddsSlot, Grows}
use Rattle.std.proofs.lemmas.Option.{same_Some, slice_get_past, slice_get_within}
use Rattle.file_links.specs.declared.slots.Held.{Held}
use Rattle.file_links.specs.declared.slots.Links.TheInside.{Inside}
use Rattle.file_links.specs.Linked.{Has}
use Rattle.file_links.specs.Hash.{bucket_of}
use Rattle.file_links.specs.Buckets.{AreBuckets}
use Rattle.file_links.specs.Rows.{OwnedRows, rows_of, Reserves}
use Rattle.file_links.specs.Slots.{with_entry, entries, tabulate, view_of, AreLinks}
use Rattle.file_links.proofs.ChainLemmas.{counted}
use Rattle.file_links.proofs.SlotLemmas.{slot_within, in_use_within, rows_at, rows_in_use, no_rows}

pub free_kept : (v v' : Chains) → AreSound v → AddsChain v v' → length (slots_in v' 0) ≡ length (slots_in v 0)
free_kept v v' sound a =
    elim (cases_lt 0 (chain_count v)) [
      | inl h ↦ ap length (a.lists 0 h)
      | inr h ↦ (let d = get_or-eq_default v.count.items 0 {n = 0} (let k = sound.links.count_length in omega arith) in
          let e = counted v 0 in
          let none : chain_count v ≡ 0 = omega arith in
          let f = ap length (ap (slots_in v') (sym none) ∙ a.added) in omega (arith, d, e, f))
    ]

pub grown_chain : (w v v' : Chains) (n m : ℕ) → AreSound v → Grows w v n m → AddsChain v v' → n ≤ chain_count v → Grows w v' (n + 1) m
grown_chain w v v' n m sound g a enough = record {
  chains_enough = (let e = a.chains in omega (arith, e, enough));
  chains_kept = (let e = a.chains in let f = g.chains_kept in omega (arith, e, f));
  slots = a.slots ∙ g.slots;
  free = free_kept v v' sound a ∙ g.free;
  lists = λ c n h. a.lists c (let f = g.chains_kept in omega (arith, h, f)) ∙ g.lists c n h;
  marks = λ s h. ap (λ l. slice_index l s) a.marks ∙ g.marks s h;
  new_marks = λ s h k. ap (λ l. slice_index l s) a.marks ∙ g.new_marks s h (let e = a.slots in omega (arith, k, e));
}

pub grown_slot : (w v v' : Chains) (n m : ℕ) → Grows w v n m → AddsSlot v v' → Grows w v' n (m + 1)
grown_slot w v v' n m g a = record {
  chains_enough = (let e = a.chains in let f = g.chains_enough in omega (arith, e, f));
  chains_kept = (let e = a.chains in let f = g.chains_kept in omega (arith, e, f));
  slots = (let e = a.slots in let f = g.slots in omega (arith, e, f));
  free = (let e = ap length a.free ∙ length-append (slots_in v 0) (slot_count v ∷ []) in let f = g.free in omega (arith, e, f));
  lists = λ c n h. a.lists c (let f = g.chains_kept in omega (arith, h, f)) n ∙ g.lists c n h;
  marks = λ s h. a.marks s (let f = g.slots in omega (arith, h, f)) ∙ g.marks s h;
  new_marks = λ s h k. elim (cases_lt s (slot_count v)) [
    | inl l ↦ a.marks s l ∙ g.new_marks s h l
    | inr l ↦ (let same : s ≡ slot_count v = (let e = a.slots in omega (arith, l, k, e)) in ap (chain_of v') same ∙ a.mark)
  ];
}

pub past_none : (xs : List (Option Held)) (n t : ℕ) (v : Option Held) → length xs ≤ t → slice_get (xs ++ replicate n None) t ≡ Some v → v ≡ None
past_none [] zero t v h e = absurd (let f : None ≡ Some v = sym (slice_get_past [] t (omega arith)) ∙ e in let z : ⊥ = cc in z)
past_none [] (suc n) zero v h e = sym (same_Some None v e)
past_none [] (suc n) (suc t) v h e = past_none [] n t v (omega arith) e
past_none (x ∷ xs) n zero v h e = absurd (let z : ⊥ = omega arith in z)
past_none (x ∷ xs) n (suc t) v h e = past_none xs n t v (omega arith) e

pub get_kept : (xs ys : List (Option Held)) (t : ℕ) → t < length xs → slice_get (xs ++ ys) t ≡ slice_get xs t
get_kept [] ys t h = absurd (let z : ⊥ = omega arith in z)
get_kept (x ∷ xs) ys zero h = refl
get_kept (x ∷ xs) ys (suc t) h = get_kept xs ys t (omega arith)

pub entries_same : (held held' : List (Option Held)) (xs : List ℕ) → ((s : ℕ) → Has xs s → slice_get held' s ≡ slice_get held s) → entries held' xs ≡ entries held xs
entries_same held held' [] same = refl
entries_same held held' (x ∷ xs) same =
    ap (λ o. with_entry x o (entries held' xs)) (same x (inl refl)) ∙ ap (with_entry x (slice_get held x)) (entries_same held held' xs (λ s m. same s (inr m)))

-- what `reserve` makes
pub record IsGrowth (a a' : Inside) (mo mr : ℕ) : Type 0 where
  pub owners_sound : AreSound a'.owners
  pub owners : Grows a.owners a'.owners 2 mo
  pub rows_sound : AreSound a'.rows
  pub rows : Grows a.rows a'.rows (slot_count a'.owners + 1) mr
  pub buckets_sound : AreSound a'.buckets
  pub bucket_slots : slot_count a'.buckets ≡ slot_count a'.rows
  pub buckets : AreBuckets a.held.items a'.buckets
  pub held : a'.held.items ≡ a.held.items ++ replicate mr None

pub growth_longer : (a a' : Inside) (mo mr : ℕ) → IsGrowth a a' mo mr → length a'.held.items ≡ length a.held.items + mr
growth_longer a a' mo mr i = ap length i.held ∙ length-append a.held.items (replicate mr None) ∙ ap (λ n. length a.held.items + n) (length-replicate mr None)

pub growth_kept : (a a' : Inside) (mo mr : ℕ) → IsGrowth a a' mo mr → (t : ℕ) → t < length a.held.items → slice_get a'.held.items t ≡ slice_get a.held.items t
growth_kept a a' mo mr i t h = ap (λ l. slice_get l t) i.held ∙ get_kept a.held.items (replicate mr None) t h

pub growth_new : (a a' : Inside) (mo mr : ℕ) → IsGrowth a a' mo mr → (t : ℕ) (k : Held) → length a.held.items ≤ t → slice_get a'.held.items t ≡ Some (Some k) → ⊥
growth_new a a' mo mr i t k h e =
    let f : Some k ≡ None = past_none a.held.items mr t (Some k) h (sym (ap (λ l. slice_get l t) i.held) ∙ e) in let z : ⊥ = cc in z

pub growth_was : (a a' : Inside) (mo mr : ℕ) → IsGrowth a a' mo mr → (t : ℕ) (k : Held) → slice_get a'.held.items t ≡ Some (Some k) → slice_get a.held.items t ≡ Some (Some k)
growth_was a a' mo mr i t k e =
    elim (cases_lt t (length a.held.items)) [
      | inl h ↦ sym (growth_kept a a' mo mr i t h) ∙ e
      | inr h ↦ absurd (growth_new a a' mo mr i t k h e)
    ]

pub growth_links : (a a' : Inside) (mo mr : ℕ) → AreLinks a → IsGrowth a a' mo mr → AreLinks a'
growth_links a a' mo mr links i = record {
  rows = i.rows_sound;
  buckets = i.buckets_sound;
  owners = i.owners_sound;
  owner_chains = λ k. i.owners.chains_enough;
  owner_marks = λ o k. elim (cases_lt o (slot_count a.owners)) [
    | inl h ↦ (let e = i.owners.marks o h in let r = links.owner_marks o h in omega (arith, e, r))
    | inr h ↦ (let e = i.owners.new_marks o h k in omega (arith, e))
  ];
  row_chains = λ o k. (let e = i.rows.chains_enough in omega (arith, e, k));
  row_chain = λ k. (let e = i.rows.chains_enough in omega (arith, e));
  row_slots = row_slots';
  bucket_slots = i.bucket_slots ∙ row_slots';
  bucket_chains = λ k. (let e = i.buckets.chains in omega (arith, e));
  bucket_fit = (let e = i.buckets.chains in let f = i.buckets_sound.links.slots_fit in omega (arith, e, f));
  free_row = λ t e. elim (cases_lt t (length a.held.items)) [
    | inl h ↦ i.rows.marks t (let r = links.row_slots in omega (arith, h, r)) ∙ links.free_row t (sym (growth_kept a a' mo mr i t h) ∙ e)
    | inr h ↦ i.rows.new_marks t (let r = links.row_slots in omega (arith, h, r)) (let w = slice_get_within a'.held.items t None e in let r = row_slots' in omega (arith, w, r))
  ];
  free_bucket = λ t e. elim (cases_lt t (length a.held.items)) [
    | inl h ↦ i.buckets.free t (sym (growth_kept a a' mo mr i t h) ∙ e)
    | inr h ↦ i.buckets.new t h (let w = slice_get_within a'.held.items t None e in let r = row_slots' in let b = i.bucket_slots in omega (arith, w, r, b))
  ];
  owned = λ t k e. (let was = growth_was a a' mo mr i t k e in let r = links.owned t k was in
      (r.0, i.rows.marks t (slot_within a links t (Some k) was) ∙ r.1, i.owners.marks r.0 (in_use_within a links r.0 r.2) ∙ r.2));
  bucket = λ t k e. i.buckets.row t k (growth_was a a' mo mr i t k e);
  distinct = λ t u k l e f same. links.distinct t u k l (growth_was a a' mo mr i t k e) (growth_was a a' mo mr i u l f) same;
}
  where
    row_slots' : slot_count a'.rows ≡ length a'.held.items
    row_slots' = let e = i.rows.slots in let f = growth_longer a a' mo mr i in let g = links.row_slots in omega (arith, e, f, g)

pub growth_rows : (a a' : Inside) (mo mr : ℕ) → AreLinks a → IsGrowth a a' mo mr → (o : ℕ) → rows_of (view_of a') o ≡ rows_of (view_of a) o
growth_rows a a' mo mr links i o =
    elim (cases_eq (chain_of a.owners o) 1) [
      | inl u ↦ (let h = in_use_within a links o u in let hc = links.row_chains o h in
          rows_at a' links' o ∙ rows_in_use a' o (i.owners.marks o h ∙ u)
          ∙ ap (λ l. Some (entries a'.held.items l)) (i.rows.lists (o + 1) (λ e. (let z : ⊥ = omega arith in z)) hc)
          ∙ ap Some (entries_same a.held.items a'.held.items (slots_in a.rows (o + 1)) (λ s m. growth_kept a a' mo mr i s
          (let w = links.rows.links.within (o + 1) s hc m in let r = links.row_slots in omega (arith, w, r))))
          ∙ sym (rows_in_use a o u) ∙ sym (rows_at a links o))
      | inr n ↦ no_rows a' links' o (λ u. n (elim (cases_lt o (slot_count a.owners)) [
        | inl h ↦ sym (i.owners.marks o h) ∙ u
        | inr h ↦ absurd (let e = i.owners.new_marks o h (in_use_within a' links' o u) in let z : ⊥ = omega (arith, e, u) in z)
      ])) ∙ sym (no_rows a links o n)
    ]
  where
    links' : AreLinks a'
    links' = growth_links a a' mo mr links i

pub growth : (a a' : Inside) (mo mr wo wr : ℕ) → AreLinks a → IsGrowth a a' mo mr
    → (wo ≤ length (slots_in a.owners 0) → mo ≡ 0) → wo ≤ mo + length (slots_in a.owners 0)
    → (wr ≤ length (slots_in a.rows 0) → mr ≡ 0) → wr ≤ mr + length (slots_in a.rows 0)
    → Reserves (view_of a) (view_of a') wo wr
growth a a' mo mr wo wr links i eo ho er hr = record {
  same = growth_rows a a' mo mr links i;
  owner_room = (let e = i.owners.free in omega (arith, e, ho));
  owner_room_kept = (let e = i.owners.free in omega (arith, e));
  owner_room_enough = λ h. (let e = i.owners.free in let f = eo h in omega (arith, e, f));
  room = (let e = i.rows.free in omega (arith, e, hr));
  room_kept = (let e = i.rows.free in omega (arith, e));
  room_enough = λ h. (let e = i.rows.free in let f = er h in omega (arith, e, f));
}

-- the same slots in other memory
pub held_links : (a a' : Inside) → AreLinks a → a'.rows ≡ a.rows → a'.buckets ≡ a.buckets → a'.owners ≡ a.owners → a'.held.items ≡ a.held.items → AreLinks a'
held_links a a' links er eb eo eh = record {
  rows = (let P : Chains → Type 0 = λ w. AreSound w in subst P (sym er) links.rows);
  buckets = (let P : Chains → Type 0 = λ w. AreSound w in subst P (sym eb) links.buckets);
  owners = (let P : Chains → Type 0 = λ w. AreSound w in subst P (sym eo) links.owners);
  owner_chains = (let P : Chains → Type 0 = λ w. 0 < slot_count w → 2 ≤ chain_count w in subst P (sym eo) links.owner_chains);
  owner_marks = (let P : Chains → Type 0 = λ w. (o : ℕ) → o < slot_count w → chain_of w o ≤ 1 in subst P (sym eo) links.owner_marks);
  row_chains = λ o k. (let e = ap slot_count eo in let r = links.row_chains o (omega (arith, k, e)) in let f = ap chain_count er in omega (arith, r, f));
  row_chain = (let P : Chains → Type 0 = λ w. 0 < slot_count w → 0 < chain_count w in subst P (sym er) links.row_chain);
  row_slots = ap slot_count er ∙ links.row_slots ∙ sym (ap length eh);
  bucket_slots = ap slot_count eb ∙ links.bucket_slots ∙ sym (ap length eh);
  bucket_chains = (let P : Chains → Type 0 = λ w. 0 < slot_count w → slot_count w < chain_count w in subst P (sym eb) links.bucket_chains);
  bucket_fit = (let e = ap chain_count eb in let r = links.bucket_fit in omega (arith, e, r));
  free_row = λ t e. ap (λ w. chain_of w t) er ∙ links.free_row t (sym (ap (λ l. slice_get l t) eh) ∙ e);
  free_bucket = λ t e. ap (λ w. chain_of w t) eb ∙ links.free_bucket t (sym (ap (λ l. slice_get l t) eh) ∙ e);
  owned = λ t k e. (let r = links.owned t k (sym (ap (λ l. slice_get l t) eh) ∙ e) in (r.0, ap (λ w. chain_of w t) er ∙ r.1, ap (λ w. chain_of w r.0) eo ∙ r.2));
  bucket = λ t k e. ap (λ w. chain_of w t) eb ∙ links.bucket t k (sym (ap (λ l. slice_get l t) eh) ∙ e) ∙ ap (λ n. bucket_of n k.row.path) (sym (ap chain_count eb));
  distinct = λ t u k l e f same. links.distinct t u k l (sym (ap (λ x. slice_get x t) eh) ∙ e) (sym (ap (λ x. slice_get x u) eh) ∙ f) same;
}

abbrev pub view_by : Chains → Chains → List (Option Held) → OwnedRows
view_by rows owners held = record {
  owners = tabulate (λ o. cond (nat_eq (chain_of owners o) 1) (Some (entries held (slots_in rows (o + 1)))) None) 0 (slot_count owners);
  owner_room = length (slots_in owners 0);
  room = length (slots_in rows 0);
}

pub held_view : (a a' : Inside) → a'.rows ≡ a.rows → a'.owners ≡ a.owners → a'.held.items ≡ a.held.items → view_of a' ≡ view_of a
held_view a a' er eo eh =
    ap (λ w. view_by w a'.owners a'.held.items) er ∙ ap (λ w. view_by a.rows w a'.held.items) eo ∙ ap (view_by a.rows a.owners) eh
