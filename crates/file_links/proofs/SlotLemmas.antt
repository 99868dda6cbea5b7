-- Laws of rows in slots.
use Rattle.std.proofs.Common.{◌≡◌, ◌≢◌, ◌⊎◌, ◌+◌, ◌<◌, ◌≤◌, ℕ, zero, suc, List, [], ◌∷◌, ◌++◌, length, Option, None, Some, cond, nat_eq, slice_get, slice_set, slice_index, option_map, refl, sym, ◌∙◌, ap, subst, inl, inr, arith, get_or, IsSome, add-zero, not, Contains, slice_index_or}
use Rattle.std.proofs.lemmas.Bool.{eq-eqb, ne_eqb, cases_eq, cases_lt}
use Rattle.std.proofs.lemmas.List.{get_or-set_same, get_or-set_other, length-set, length-append}
use Rattle.std.proofs.lemmas.Option.{same_Some, slice_get-get_or, slice_get_past, slice_get_within}
use Rattle.std.proofs.Math.ListN.{get_or-eq_default}
use Rattle.file_links.specs.declared.slots.Held.{Held}
use Rattle.file_links.specs.declared.slots.Links.TheInside.{Inside}
use Rattle.file_links.specs.declared.chains.Chains.{Chains}
use Rattle.file_links.specs.Linked.{Has, without, after, Linked, END}
use Rattle.file_links.specs.Chains.{chain_count, slot_count, chain_of, next_in, previous_in, slots_in, AreSound, Moves}
use Rattle.file_links.specs.Hash.{bucket_of}
use Rattle.file_links.specs.Rows.{Entry, OwnedRows, joined, rows_of, Owns, Holds, IsHeld, HoldsPath, without_slot, slot_at, AddsOwner, Inserts, Unlinks, DropsOwner}
use Rattle.file_links.specs.Slots.{with_entry, entries, owner_rows, tabulate, view_of, AreLinks, FREE}
use Rattle.file_links.proofs.LinkedLemmas.{without-absent, without-same, without-other, length-without, first-linked, after-linked}
use Rattle.file_links.proofs.ChainLemmas.{end_absent, counted, has-some}

pub get_set_same : {X : Type 0} (xs : List X) (i : ℕ) (v : X) → i < length xs → slice_get (slice_set xs i v) i ≡ Some v
get_set_same xs i v h = slice_get-get_or (slice_set xs i v) i v (let e = length-set xs i v in omega arith) ∙ ap Some (get_or-set_same xs i v v h)

pub get_set_other : {X : Type 0} (xs : List X) (i j : ℕ) (v : X) → j ≢ i → slice_get (slice_set xs i v) j ≡ slice_get xs j
get_set_other xs i j v n =
    elim (cases_lt j (length xs)) [
      | inl h ↦ slice_get-get_or (slice_set xs i v) j v (let e = length-set xs i v in omega arith) ∙ ap Some (get_or-set_other xs i j v v n) ∙ sym (slice_get-get_or xs j v h)
      | inr h ↦ slice_get_past (slice_set xs i v) j (let e = length-set xs i v in omega arith) ∙ sym (slice_get_past xs j h)
    ]

-- an entry is in a list, by recursion
abbrev pub HasEntry : List Entry → Entry → Type 0
HasEntry [] e = ⊥
HasEntry (x ∷ xs) e = (x ≡ e) ⊎ HasEntry xs e

pub has-contains : (rows : List Entry) (e : Entry) → HasEntry rows e → Contains rows e
has-contains [] e m = absurd m
has-contains (x ∷ xs) e m =
    elim m [
      | inl f ↦ (0, omega arith, f)
      | inr t ↦ (let r = has-contains xs e t in (suc r.0, (let h = r.1 in omega (arith, h)), r.2))
    ]

pub has_entry_at : (rows : List Entry) (k : ℕ) (e : Entry) → k < length rows → slice_index_or rows k e ≡ e → HasEntry rows e
has_entry_at [] k e h f = absurd (let z : ⊥ = omega arith in z)
has_entry_at (x ∷ xs) zero e h f = inl f
has_entry_at (x ∷ xs) (suc k) e h f = inr (has_entry_at xs k e (omega arith) f)

pub contains-has : (rows : List Entry) (e : Entry) → Contains rows e → HasEntry rows e
contains-has rows e m = has_entry_at rows m.0 e m.1 m.2

pub with_entry_keeps : (x : ℕ) (o : Option (Option Held)) (rest : List Entry) (e : Entry) → HasEntry rest e → HasEntry (with_entry x o rest) e
with_entry_keeps x None rest e h = h
with_entry_keeps x (Some None) rest e h = h
with_entry_keeps x (Some (Some held)) rest e h = inr h

pub entry_here : (held : List (Option Held)) (x : ℕ) (xs : List ℕ) (h : Held) → slice_get held x ≡ Some (Some h) → entries held (x ∷ xs) ≡ record { slot = x; held = h } ∷ entries held xs
entry_here held x xs h e = ap (λ o. with_entry x o (entries held xs)) e

pub entries_has : (held : List (Option Held)) (xs : List ℕ) (s : ℕ) (h : Held) → Has xs s → slice_get held s ≡ Some (Some h) → HasEntry (entries held xs) (record { slot = s; held = h })
entries_has held [] s h m e = absurd m
entries_has held (x ∷ xs) s h m e =
    elim m [
      | inl f ↦ (let P : ℕ → Type 0 = λ v. HasEntry (entries held (v ∷ xs)) (record { slot = s; held = h }) in subst P (sym f)
          (let Q : List Entry → Type 0 = λ l. HasEntry l (record { slot = s; held = h }) in subst Q (sym (entry_here held s xs h e)) (inl refl)))
      | inr t ↦ with_entry_keeps x (slice_get held x) (entries held xs) (record { slot = s; held = h }) (entries_has held xs s h t e)
    ]

pub with_entry_found : (held : List (Option Held)) (x : ℕ) (rest : List Entry) (e : Entry) (o : Option (Option Held)) → slice_get held x ≡ o → HasEntry (with_entry x o rest) e
    → ((x ≡ e.slot) × (slice_get held e.slot ≡ Some (Some e.held))) ⊎ HasEntry rest e
with_entry_found held x rest e None f m = inr m
with_entry_found held x rest e (Some None) f m = inr m
with_entry_found held x rest e (Some (Some h)) f m =
    elim m [
      | inl g ↦ inl (ap (λ r. r.slot) g, (let P : Entry → Type 0 = λ r. slice_get held r.slot ≡ Some (Some r.held) in subst P g f))
      | inr t ↦ inr t
    ]

pub entries_found : (held : List (Option Held)) (xs : List ℕ) (e : Entry) → HasEntry (entries held xs) e → Has xs e.slot × (slice_get held e.slot ≡ Some (Some e.held))
entries_found held [] e m = absurd m
entries_found held (x ∷ xs) e m =
    elim (with_entry_found held x (entries held xs) e (slice_get held x) refl m) [
      | inl f ↦ (inl f.0, f.1)
      | inr t ↦ (let r = entries_found held xs e t in (inr r.0, r.1))
    ]

-- a write to a slot that isn't among these
pub entries_other : (held : List (Option Held)) (s : ℕ) (v : Option Held) (xs : List ℕ) → (Has xs s → ⊥) → entries (slice_set held s v) xs ≡ entries held xs
entries_other held s v [] gone = refl
entries_other held s v (x ∷ xs) gone =
    ap (λ o. with_entry x o (entries (slice_set held s v) xs)) (get_set_other held s x v (λ e. gone (inl e)))
    ∙ ap (with_entry x (slice_get held x)) (entries_other held s v xs (λ t. gone (inr t)))

pub with_entry-append : (x : ℕ) (o : Option (Option Held)) (ys zs : List Entry) → with_entry x o (ys ++ zs) ≡ with_entry x o ys ++ zs
with_entry-append x None ys zs = refl
with_entry-append x (Some None) ys zs = refl
with_entry-append x (Some (Some h)) ys zs = refl

pub entries-append : (held : List (Option Held)) (xs ys : List ℕ) → entries held (xs ++ ys) ≡ entries held xs ++ entries held ys
entries-append held [] ys = refl
entries-append held (x ∷ xs) ys = ap (with_entry x (slice_get held x)) (entries-append held xs ys) ∙ with_entry-append x (slice_get held x) (entries held xs) (entries held ys)

pub without_entry_here : (s x : ℕ) (o : Option (Option Held)) (rest : List Entry) → x ≡ s → without_slot s (with_entry x o rest) ≡ without_slot s rest
without_entry_here s x None rest e = refl
without_entry_here s x (Some None) rest e = refl
without_entry_here s x (Some (Some h)) rest e = ap (λ b. cond (not b) (record { slot = x; held = h } ∷ without_slot s rest) (without_slot s rest)) (eq-eqb x s e)

pub without_entry_other : (s x : ℕ) (o : Option (Option Held)) (rest : List Entry) → x ≢ s → without_slot s (with_entry x o rest) ≡ with_entry x o (without_slot s rest)
without_entry_other s x None rest e = refl
without_entry_other s x (Some None) rest e = refl
without_entry_other s x (Some (Some h)) rest e = ap (λ b. cond (not b) (record { slot = x; held = h } ∷ without_slot s rest) (without_slot s rest)) (ne_eqb x s e)

-- a slot's row is gone
pub entries_without : (held : List (Option Held)) (s : ℕ) (v : Option Held) (xs : List ℕ) → entries (slice_set held s v) (without s xs) ≡ without_slot s (entries held xs)
entries_without held s v [] = refl
entries_without held s v (x ∷ xs) =
    elim (cases_eq x s) [
      | inl e ↦ ap (entries (slice_set held s v)) (without-same s x xs e) ∙ entries_without held s v xs ∙ sym (without_entry_here s x (slice_get held x) (entries held xs) e)
      | inr n ↦ ap (entries (slice_set held s v)) (without-other s x xs n)
          ∙ ap (λ o. with_entry x o (entries (slice_set held s v) (without s xs))) (get_set_other held s x v n)
          ∙ ap (with_entry x (slice_get held x)) (entries_without held s v xs)
          ∙ sym (without_entry_other s x (slice_get held x) (entries held xs) n)
    ]

-- each of these slots holds a row
abbrev pub AllHeld : List (Option Held) → List ℕ → Type 0
AllHeld held xs = (s : ℕ) → Has xs s → (h : Held) × (slice_get held s ≡ Some (Some h))

-- an owner's rows stand in the order of its slots
pub slot_entry : (held : List (Option Held)) (xs : List ℕ) (k : ℕ) → AllHeld held xs → slot_at (entries held xs) k ≡ slice_get xs k
slot_entry held [] k all = ap (option_map (λ e. e.slot)) (slice_get_past (entries held []) k (omega arith)) ∙ sym (slice_get_past [] k (omega arith))
slot_entry held (x ∷ xs) zero all = let r = all x (inl refl) in ap (λ l. slot_at l 0) (entry_here held x xs r.0 r.1)
slot_entry held (x ∷ xs) (suc k) all =
    let r = all x (inl refl) in ap (λ l. slot_at l (suc k)) (entry_here held x xs r.0 r.1) ∙ slot_entry held xs k (λ t m. all t (inr m))

pub length-entries : (held : List (Option Held)) (xs : List ℕ) → AllHeld held xs → length (entries held xs) ≡ length xs
length-entries held [] all = refl
length-entries held (x ∷ xs) all =
    let r = all x (inl refl) in ap length (entry_here held x xs r.0 r.1) ∙ ap suc (length-entries held xs (λ t m. all t (inr m)))

-- the owners
pub length-tabulate : (f : ℕ → Option (List Entry)) (start n : ℕ) → length (tabulate f start n) ≡ n
length-tabulate f start zero = refl
length-tabulate f start (suc n) = ap suc (length-tabulate f (suc start) n)

pub get-tabulate : (f : ℕ → Option (List Entry)) (start n i : ℕ) → i < n → slice_get (tabulate f start n) i ≡ Some (f (start + i))
get-tabulate f start zero i h = absurd (let z : ⊥ = omega arith in z)
get-tabulate f start (suc n) zero h = ap (λ k. Some (f k)) (sym (add-zero start))
get-tabulate f start (suc n) (suc i) h = get-tabulate f (suc start) n i (omega arith) ∙ ap (λ k. Some (f k)) (omega arith)

pub in_use_within : (a : Inside) → AreLinks a → (o : ℕ) → chain_of a.owners o ≡ 1 → o < slot_count a.owners
in_use_within a links o e =
    elim (cases_lt o (slot_count a.owners)) [
      | inl h ↦ h
      | inr h ↦ absurd (let d = get_or-eq_default a.owners.chain.items 0 {n = o} (let k = links.owners.links.chain_length in omega arith) in let z : ⊥ = omega arith in z)
    ]

pub rows_in_use : (a : Inside) (o : ℕ) → chain_of a.owners o ≡ 1 → owner_rows a o ≡ Some (entries a.held.items (slots_in a.rows (o + 1)))
rows_in_use a o e = ap (λ b. cond b (Some (entries a.held.items (slots_in a.rows (o + 1)))) None) (eq-eqb (chain_of a.owners o) 1 e)

pub rows_unused : (a : Inside) (o : ℕ) → chain_of a.owners o ≢ 1 → owner_rows a o ≡ None
rows_unused a o n = ap (λ b. cond b (Some (entries a.held.items (slots_in a.rows (o + 1)))) None) (ne_eqb (chain_of a.owners o) 1 n)

pub owner_at : (a : Inside) (o : ℕ) → o < slot_count a.owners → slice_get (view_of a).owners o ≡ Some (owner_rows a o)
owner_at a o h = get-tabulate (owner_rows a) 0 (slot_count a.owners) o h ∙ ap (λ k. Some (owner_rows a k)) (let z : 0 + o ≡ o = omega arith in z)

pub rows_at : (a : Inside) → AreLinks a → (o : ℕ) → rows_of (view_of a) o ≡ owner_rows a o
rows_at a links o =
    elim (cases_lt o (slot_count a.owners)) [
      | inl h ↦ ap joined (owner_at a o h)
      | inr h ↦ ap joined (slice_get_past (view_of a).owners o (let e = length-tabulate (owner_rows a) 0 (slot_count a.owners) in omega arith))
          ∙ sym (rows_unused a o (λ e. (let k = in_use_within a links o e in let z : ⊥ = omega arith in z)))
    ]

pub some_rows : (a : Inside) → AreLinks a → (o : ℕ) (rows : List Entry) → rows_of (view_of a) o ≡ Some rows → (chain_of a.owners o ≡ 1) × (entries a.held.items (slots_in a.rows (o + 1)) ≡ rows)
some_rows a links o rows e =
    elim (cases_eq (chain_of a.owners o) 1) [
      | inl u ↦ (u, same_Some _ _ (sym (rows_in_use a o u) ∙ sym (rows_at a links o) ∙ e))
      | inr n ↦ absurd (let f : None ≡ Some rows = sym (rows_unused a o n) ∙ sym (rows_at a links o) ∙ e in let z : ⊥ = cc in z)
    ]

pub is_owner : (a : Inside) → AreLinks a → (o : ℕ) → IsSome (rows_of (view_of a) o) → chain_of a.owners o ≡ 1
is_owner a links o h =
    elim (cases_eq (chain_of a.owners o) 1) [
      | inl u ↦ u
      | inr n ↦ absurd (let P : Option (List Entry) → Type 0 = λ v. IsSome v in let none : Option (List Entry) = None in let k : IsSome none = subst P (rows_at a links o ∙ rows_unused a o n) h in let z : ⊥ = cc in z)
    ]

-- a slot holds a row where its owner has it
pub holds_slot : (a : Inside) → AreLinks a → (o s : ℕ) (h : Held) → Owns (view_of a) o (record { slot = s; held = h }) → Has (slots_in a.rows (o + 1)) s × (slice_get a.held.items s ≡ Some (Some h)) × (chain_of a.owners o ≡ 1)
holds_slot a links o s h w =
    let r = some_rows a links o w.0 w.1 in
    let P : List Entry → Type 0 = λ l. HasEntry l (record { slot = s; held = h }) in
    let f = entries_found a.held.items (slots_in a.rows (o + 1)) (record { slot = s; held = h }) (subst P (sym r.1) (contains-has w.0 (record { slot = s; held = h }) w.2)) in
    (f.0, f.1, r.0)

pub slot_within : (a : Inside) → AreLinks a → (s : ℕ) (v : Option Held) → slice_get a.held.items s ≡ Some v → s < slot_count a.rows
slot_within a links s v e = let h = slice_get_within a.held.items s v e in let k = links.row_slots in omega arith

pub slot_owned : (a : Inside) → AreLinks a → (o s : ℕ) (h : Held) → slice_get a.held.items s ≡ Some (Some h) → chain_of a.rows s ≡ o + 1 → chain_of a.owners o ≡ 1 → Owns (view_of a) o (record { slot = s; held = h })
slot_owned a links o s h e m u = (
  entries a.held.items (slots_in a.rows (o + 1)),
  rows_at a links o ∙ rows_in_use a o u,
  has-contains (entries a.held.items (slots_in a.rows (o + 1))) (record { slot = s; held = h }) (entries_has a.held.items (slots_in a.rows (o + 1)) s h
      (let P : ℕ → Type 0 = λ c. Has (slots_in a.rows c) s in subst P m (links.rows.placed s (slot_within a links s (Some h) e))) e),
)

pub slot_holds : (a : Inside) → AreLinks a → (s : ℕ) (h : Held) → slice_get a.held.items s ≡ Some (Some h) → Holds (view_of a) s h
slot_holds a links s h e = let r = links.owned s h e in (r.0, slot_owned a links r.0 s h e r.1 r.2)

-- a slot that is in no free chain holds a row
pub held_of : (a : Inside) → AreLinks a → (s : ℕ) → s < slot_count a.rows → chain_of a.rows s ≢ 0 → (h : Held) × (slice_get a.held.items s ≡ Some (Some h))
held_of a links s hs n = split (get_or a.held.items s None) (slice_get-get_or a.held.items s None (let k = links.row_slots in omega arith))
  where
    split : (o : Option Held) → slice_get a.held.items s ≡ Some o → (h : Held) × (slice_get a.held.items s ≡ Some (Some h))
    split None e = absurd (n (links.free_row s e))
    split (Some h) e = (h, e)

pub all_held : (a : Inside) → AreLinks a → (o : ℕ) → o < slot_count a.owners → AllHeld a.held.items (slots_in a.rows (o + 1))
all_held a links o ho s m =
    let hc = links.row_chains o ho in
    held_of a links s (links.rows.links.within (o + 1) s hc m) (λ z. (let k = links.rows.links.marked (o + 1) s hc m in let y : ⊥ = omega arith in y))

-- where a moved slot is, and where the others are
pub mark_here : (w w' : Chains) (s ch : ℕ) → AreSound w → s < slot_count w → Moves w w' s ch → chain_of w' s ≡ ch
mark_here w w' s ch sound h m = ap (λ l. slice_index l s) m.marks ∙ get_or-set_same w.chain.items s ch 0 (let e = sound.links.chain_length in omega arith)

pub mark_away : (w w' : Chains) (s ch : ℕ) → Moves w w' s ch → (y : ℕ) → y ≢ s → chain_of w' y ≡ chain_of w y
mark_away w w' s ch m y n = ap (λ l. slice_index l y) m.marks ∙ get_or-set_other w.chain.items s y ch 0 n

pub option_map_rows : (a : Inside) → AreLinks a → (f : List Entry → List Entry) (o : ℕ) → chain_of a.owners o ≡ 1
    → option_map f (rows_of (view_of a) o) ≡ Some (f (entries a.held.items (slots_in a.rows (o + 1))))
option_map_rows a links f o u = ap (option_map f) (rows_at a links o ∙ rows_in_use a o u)

pub no_rows : (a : Inside) → AreLinks a → (o : ℕ) → chain_of a.owners o ≢ 1 → rows_of (view_of a) o ≡ None
no_rows a links o n = rows_at a links o ∙ rows_unused a o n

-- a chain is one shorter without a slot of it
pub one_less : (w : Chains) → AreSound w → (s c : ℕ) → s < slot_count w → chain_of w s ≡ c → length (without s (slots_in w c)) + 1 ≡ length (slots_in w c)
one_less w sound s c h e =
    length-without (next_in w c) (previous_in w c) s END (slots_in w c) END (sound.links.linked c there) (end_absent w sound.links c there)
    (let P : ℕ → Type 0 = λ k. Has (slots_in w k) s in subst P e (sound.placed s h))
  where
    there : c < chain_count w
    there = let r = sound.range s h in omega (arith, r, e)

-- what `insert` makes
pub record IsInsertion (a a' : Inside) (o s : ℕ) (h : Held) : Type 0 where
  pub slot : s < slot_count a.rows
  pub free : chain_of a.rows s ≡ 0
  pub owner : chain_of a.owners o ≡ 1
  pub fresh : HoldsPath (view_of a) h.row.path → ⊥
  pub rows_sound : AreSound a'.rows
  pub rows : Moves a.rows a'.rows s (o + 1)
  pub buckets_sound : AreSound a'.buckets
  pub buckets : Moves a.buckets a'.buckets s (bucket_of (chain_count a.buckets) h.row.path)
  pub owners : a'.owners ≡ a.owners
  pub held : a'.held.items ≡ slice_set a.held.items s (Some h)

pub insertion_links : (a a' : Inside) (o s : ℕ) (h : Held) → AreLinks a → IsInsertion a a' o s h → AreLinks a'
insertion_links a a' o s h links i = record {
  rows = i.rows_sound;
  buckets = i.buckets_sound;
  owners = (let P : Chains → Type 0 = λ w. AreSound w in subst P (sym i.owners) links.owners);
  owner_chains = λ k. (let e = ap slot_count i.owners in let f = ap chain_count i.owners in let r = links.owner_chains (omega (arith, k, e)) in omega (arith, r, f));
  owner_marks = λ o' k. (let e = ap slot_count i.owners in let f = ap (λ w. chain_of w o') i.owners in let r = links.owner_marks o' (omega (arith, k, e)) in omega (arith, r, f));
  row_chains = λ p k. (let e = ap slot_count i.owners in let r = links.row_chains p (omega arith) in let f = i.rows.chains in omega arith);
  row_chain = λ k. (let r = links.row_chain (let f = i.rows.slots in omega arith) in let f = i.rows.chains in omega arith);
  row_slots = i.rows.slots ∙ links.row_slots ∙ sym longer;
  bucket_slots = i.buckets.slots ∙ links.bucket_slots ∙ sym longer;
  bucket_chains = λ k. (let r = links.bucket_chains (let f = i.buckets.slots in omega arith) in let f = i.buckets.slots in let g = i.buckets.chains in omega arith);
  bucket_fit = (let r = links.bucket_fit in let g = i.buckets.chains in omega arith);
  free_row = λ t e. elim (cases_eq t s) [
    | inl f ↦ absurd (not_free t f e)
    | inr n ↦ mark_away a.rows a'.rows s (o + 1) i.rows t n ∙ links.free_row t (was t n (None) e)
  ];
  free_bucket = λ t e. elim (cases_eq t s) [
    | inl f ↦ absurd (not_free t f e)
    | inr n ↦ mark_away a.buckets a'.buckets s (bucket_of (chain_count a.buckets) h.row.path) i.buckets t n ∙ links.free_bucket t (was t n None e)
  ];
  owned = λ t k e. elim (cases_eq t s) [
    | inl f ↦ (o, ap (chain_of a'.rows) f ∙ mark_here a.rows a'.rows s (o + 1) links.rows i.slot i.rows, ap (λ w. chain_of w o) i.owners ∙ i.owner)
    | inr n ↦ (let r = links.owned t k (was t n (Some k) e) in (r.0, mark_away a.rows a'.rows s (o + 1) i.rows t n ∙ r.1, ap (λ w. chain_of w r.0) i.owners ∙ r.2))
  ];
  bucket = λ t k e. elim (cases_eq t s) [
    | inl f ↦ (ap (chain_of a'.buckets) f ∙ mark_here a.buckets a'.buckets s (bucket_of (chain_count a.buckets) h.row.path) links.buckets bucket_slot i.buckets
        ∙ ap (λ q. bucket_of (chain_count a.buckets) q.row.path) (now t k f e) ∙ ap (λ n. bucket_of n k.row.path) (sym i.buckets.chains))
    | inr n ↦ mark_away a.buckets a'.buckets s (bucket_of (chain_count a.buckets) h.row.path) i.buckets t n ∙ links.bucket t k (was t n (Some k) e) ∙ ap (λ n. bucket_of n k.row.path) (sym i.buckets.chains)
  ];
  distinct = λ t u k l e f same. elim (cases_eq t s) [
    | inl ts ↦ (elim (cases_eq u s) [
      | inl us ↦ ts ∙ sym us
      | inr un ↦ absurd (i.fresh (u, l, slot_holds a links u l (was u un (Some l) f), sym same ∙ ap (λ q. q.row.path) (sym (now t k ts e))))
    ])
    | inr tn ↦ (elim (cases_eq u s) [
      | inl us ↦ absurd (i.fresh (t, k, slot_holds a links t k (was t tn (Some k) e), same ∙ ap (λ q. q.row.path) (sym (now u l us f))))
      | inr un ↦ links.distinct t u k l (was t tn (Some k) e) (was u un (Some l) f) same
    ])
  ];
}
  where
    longer : length a'.held.items ≡ length a.held.items
    longer = ap length i.held ∙ length-set a.held.items s (Some h)

    bucket_slot : s < slot_count a.buckets
    bucket_slot = let e = links.row_slots in let f = links.bucket_slots in let k = i.slot in omega arith

    was : (t : ℕ) → t ≢ s → (v : Option Held) → slice_get a'.held.items t ≡ Some v → slice_get a.held.items t ≡ Some v
    was t n v e = sym (get_set_other a.held.items s t (Some h) n) ∙ sym (ap (λ l. slice_get l t) i.held) ∙ e

    set_here : slice_get a'.held.items s ≡ Some (Some h)
    set_here = ap (λ l. slice_get l s) i.held ∙ get_set_same a.held.items s (Some h) (let e = links.row_slots in let k = i.slot in omega arith)

    now : (t : ℕ) (k : Held) → t ≡ s → slice_get a'.held.items t ≡ Some (Some k) → h ≡ k
    now t k f e = same_Some h k (same_Some (Some h) (Some k) (sym set_here ∙ ap (slice_get a'.held.items) (sym f) ∙ e))

    not_free : (t : ℕ) → t ≡ s → slice_get a'.held.items t ≡ Some None → ⊥
    not_free t f e = let g : Some h ≡ None = same_Some (Some h) None (sym set_here ∙ ap (slice_get a'.held.items) (sym f) ∙ e) in cc

pub insertion : (a a' : Inside) (o s : ℕ) (h : Held) → AreLinks a → IsInsertion a a' o s h → Inserts (view_of a) (view_of a') o s h
insertion a a' o s h links i = record {
  free = λ w. (let r = holds_slot a links w.1.0 s w.0 w.1.1 in
      let e = links.rows.links.marked (w.1.0 + 1) s (links.row_chains w.1.0 (in_use_within a links w.1.0 r.2)) r.0 in let f = i.free in let z : ⊥ = omega arith in z);
  here = rows_at a' links' o ∙ rows_in_use a' o (ap (λ w. chain_of w o) i.owners ∙ i.owner)
      ∙ ap (λ l. Some (entries a'.held.items l)) (i.rows.here ∙ ap (λ l. l ++ s ∷ []) (without-absent s (slots_in a.rows (o + 1)) (not_in o i.owner)))
      ∙ ap Some (entries-append a'.held.items (slots_in a.rows (o + 1)) (s ∷ []) ∙ ap (λ l. l ++ entries a'.held.items (s ∷ [])) (kept o i.owner) ∙ ap (λ l. entries a.held.items (slots_in a.rows (o + 1)) ++ l) (entry_here a'.held.items s [] h set_here))
      ∙ sym (option_map_rows a links (λ rows. rows ++ record { slot = s; held = h } ∷ []) o i.owner);
  others = λ p n. elim (cases_eq (chain_of a.owners p) 1) [
    | inl u ↦ (rows_at a' links' p ∙ rows_in_use a' p (ap (λ w. chain_of w p) i.owners ∙ u)
        ∙ ap (λ l. Some (entries a'.held.items l)) (i.rows.others (p + 1) (links.row_chains p (in_use_within a links p u)) (λ e. n (omega arith)) ∙ without-absent s (slots_in a.rows (p + 1)) (not_in p u))
        ∙ ap Some (kept p u)
        ∙ sym (rows_in_use a p u) ∙ sym (rows_at a links p))
    | inr m ↦ no_rows a' links' p (λ e. m (sym (ap (λ w. chain_of w p) i.owners) ∙ e)) ∙ sym (no_rows a links p m)
  ];
  owner_room = ap (λ w. length (slots_in w FREE)) i.owners;
  room = ap (λ l. length l + 1) (i.rows.others 0 some_chain (λ e. (let z : ⊥ = omega arith in z)))
      ∙ one_less a.rows links.rows s 0 i.slot i.free;
}
  where
    links' : AreLinks a'
    links' = insertion_links a a' o s h links i

    some_chain : 0 < chain_count a.rows
    some_chain = links.row_chain (let k = i.slot in omega arith)

    not_in : (p : ℕ) → chain_of a.owners p ≡ 1 → Has (slots_in a.rows (p + 1)) s → ⊥
    not_in p u m = let e = links.rows.links.marked (p + 1) s (links.row_chains p (in_use_within a links p u)) m in let f = i.free in let z : ⊥ = omega arith in z

    kept : (p : ℕ) → chain_of a.owners p ≡ 1 → entries a'.held.items (slots_in a.rows (p + 1)) ≡ entries a.held.items (slots_in a.rows (p + 1))
    kept p u = ap (λ l. entries l (slots_in a.rows (p + 1))) i.held ∙ entries_other a.held.items s (Some h) (slots_in a.rows (p + 1)) (not_in p u)

    set_here : slice_get a'.held.items s ≡ Some (Some h)
    set_here = ap (λ l. slice_get l s) i.held ∙ get_set_same a.held.items s (Some h) (let e = links.row_slots in let k = i.slot in omega arith)

pub has_at : (xs : List ℕ) (k s : ℕ) → slice_get xs k ≡ Some s → Has xs s
has_at [] k s e = absurd (let f : None ≡ Some s = sym (slice_get_past [] k (omega arith)) ∙ e in let z : ⊥ = cc in z)
has_at (x ∷ xs) zero s e = inl (same_Some x s e)
has_at (x ∷ xs) (suc k) s e = inr (has_at xs k s e)

pub place_of : (xs : List ℕ) (s : ℕ) → Has xs s → (i : ℕ) × (i < length xs) × (slice_get xs i ≡ Some s)
place_of [] s m = absurd m
place_of (x ∷ xs) s m =
    elim m [
      | inl e ↦ (0, omega arith, ap Some e)
      | inr t ↦ (let r = place_of xs s t in (suc r.0, (let h = r.1 in omega (arith, h)), r.2))
    ]

-- the number at the next place of a chain is where the link leads
pub linked-at : (next previous : ℕ → ℕ) (start : ℕ) (xs : List ℕ) (end k s : ℕ) → Linked next previous start xs end → (Has xs end → ⊥) → slice_get xs k ≡ Some s
    → slice_get xs (k + 1) ≡ cond (nat_eq (next s) end) None (Some (next s))
linked-at next previous start [] end k s h gone e = absurd (let f : None ≡ Some s = sym (slice_get_past [] k (omega arith)) ∙ e in let z : ⊥ = cc in z)
linked-at next previous start (x ∷ xs) end zero s h gone e =
    ap (slice_get (x ∷ xs)) (let f : 0 + 1 ≡ suc 0 = omega arith in f) ∙ first-linked next previous x xs end h.2 (λ m. gone (inr m)) ∙ ap (λ v. cond (nat_eq (next v) end) None (Some (next v))) (same_Some x s e)
linked-at next previous start (x ∷ xs) end (suc k) s h gone e =
    ap (slice_get (x ∷ xs)) (let f : suc k + 1 ≡ suc (k + 1) = omega arith in f) ∙ linked-at next previous x xs end k s h.2 (λ m. gone (inr m)) e

-- what a caller knows of a slot, in terms of the fields
pub known_held : (a : Inside) (v : OwnedRows) → view_of a ≡ v → AreLinks a → (s : ℕ) → IsHeld v s → (h : Held) × (slice_get a.held.items s ≡ Some (Some h))
known_held a v e links s w =
    let P : OwnedRows → Type 0 = λ x. IsHeld x s in let w' = subst P (sym e) w in
    let r = holds_slot a links w'.1.0 s w'.0 w'.1.1 in (w'.0, r.1)

pub known_holds : (a : Inside) (v : OwnedRows) → view_of a ≡ v → AreLinks a → (s : ℕ) (h : Held) → slice_get a.held.items s ≡ Some (Some h) → Holds v s h
known_holds a v e links s h k = let P : OwnedRows → Type 0 = λ x. Holds x s h in subst P e (slot_holds a links s h k)

-- what `unlink` makes
pub record IsRemoval (a a' : Inside) (s : ℕ) : Type 0 where
  pub held_here : IsHeld (view_of a) s
  pub rows_sound : AreSound a'.rows
  pub rows : Moves a.rows a'.rows s 0
  pub buckets_sound : AreSound a'.buckets
  pub buckets : Moves a.buckets a'.buckets s 0
  pub owners : a'.owners ≡ a.owners
  pub held : a'.held.items ≡ slice_set a.held.items s None

pub removal_links : (a a' : Inside) (s : ℕ) → AreLinks a → IsRemoval a a' s → AreLinks a'
removal_links a a' s links i = record {
  rows = i.rows_sound;
  buckets = i.buckets_sound;
  owners = (let P : Chains → Type 0 = λ w. AreSound w in subst P (sym i.owners) links.owners);
  owner_chains = λ k. (let e = ap slot_count i.owners in let f = ap chain_count i.owners in let r = links.owner_chains (omega (arith, k, e)) in omega (arith, r, f));
  owner_marks = λ o' k. (let e = ap slot_count i.owners in let f = ap (λ w. chain_of w o') i.owners in let r = links.owner_marks o' (omega (arith, k, e)) in omega (arith, r, f));
  row_chains = λ p k. (let e = ap slot_count i.owners in let r = links.row_chains p (omega arith) in let f = i.rows.chains in omega arith);
  row_chain = λ k. (let r = links.row_chain (let f = i.rows.slots in omega arith) in let f = i.rows.chains in omega arith);
  row_slots = i.rows.slots ∙ links.row_slots ∙ sym longer;
  bucket_slots = i.buckets.slots ∙ links.bucket_slots ∙ sym longer;
  bucket_chains = λ k. (let r = links.bucket_chains (let f = i.buckets.slots in omega arith) in let f = i.buckets.slots in let g = i.buckets.chains in omega arith);
  bucket_fit = (let r = links.bucket_fit in let g = i.buckets.chains in omega arith);
  free_row = λ t e. elim (cases_eq t s) [
    | inl f ↦ ap (chain_of a'.rows) f ∙ mark_here a.rows a'.rows s 0 links.rows slot i.rows
    | inr n ↦ mark_away a.rows a'.rows s 0 i.rows t n ∙ links.free_row t (was t n (None) e)
  ];
  free_bucket = λ t e. elim (cases_eq t s) [
    | inl f ↦ ap (chain_of a'.buckets) f ∙ mark_here a.buckets a'.buckets s 0 links.buckets (let e = links.row_slots in let g = links.bucket_slots in let k = slot in omega arith) i.buckets
    | inr n ↦ mark_away a.buckets a'.buckets s 0 i.buckets t n ∙ links.free_bucket t (was t n None e)
  ];
  owned = λ t k e. elim (cases_eq t s) [
    | inl f ↦ absurd (emptied t k f e)
    | inr n ↦ (let r = links.owned t k (was t n (Some k) e) in (r.0, mark_away a.rows a'.rows s 0 i.rows t n ∙ r.1, ap (λ w. chain_of w r.0) i.owners ∙ r.2))
  ];
  bucket = λ t k e. elim (cases_eq t s) [
    | inl f ↦ absurd (emptied t k f e)
    | inr n ↦ mark_away a.buckets a'.buckets s 0 i.buckets t n ∙ links.bucket t k (was t n (Some k) e) ∙ ap (λ n. bucket_of n k.row.path) (sym i.buckets.chains)
  ];
  distinct = λ t u k l e f same. elim (cases_eq t s) [
    | inl ts ↦ absurd (emptied t k ts e)
    | inr tn ↦ (elim (cases_eq u s) [
      | inl us ↦ absurd (emptied u l us f)
      | inr un ↦ links.distinct t u k l (was t tn (Some k) e) (was u un (Some l) f) same
    ])
  ];
}
  where
    held_now : (h : Held) × (slice_get a.held.items s ≡ Some (Some h))
    held_now = known_held a (view_of a) refl links s i.held_here

    slot : s < slot_count a.rows
    slot = slot_within a links s (Some held_now.0) held_now.1

    longer : length a'.held.items ≡ length a.held.items
    longer = ap length i.held ∙ length-set a.held.items s None

    was : (t : ℕ) → t ≢ s → (v : Option Held) → slice_get a'.held.items t ≡ Some v → slice_get a.held.items t ≡ Some v
    was t n v e = sym (get_set_other a.held.items s t None n) ∙ sym (ap (λ l. slice_get l t) i.held) ∙ e

    set_here : slice_get a'.held.items s ≡ Some None
    set_here = ap (λ l. slice_get l s) i.held ∙ get_set_same a.held.items s None (slice_get_within a.held.items s (Some held_now.0) held_now.1)

    emptied : (t : ℕ) (k : Held) → t ≡ s → slice_get a'.held.items t ≡ Some (Some k) → ⊥
    emptied t k f e = let g : None ≡ Some k = same_Some None (Some k) (sym set_here ∙ ap (slice_get a'.held.items) (sym f) ∙ e) in cc

pub removal : (a a' : Inside) (s : ℕ) → AreLinks a → IsRemoval a a' s → Unlinks (view_of a) (view_of a') s
removal a a' s links i = record {
  rows = λ p. elim (cases_eq (chain_of a.owners p) 1) [
    | inl u ↦ (rows_at a' links' p ∙ rows_in_use a' p (ap (λ w. chain_of w p) i.owners ∙ u)
        ∙ ap (λ l. Some (entries a'.held.items l)) (i.rows.others (p + 1) (links.row_chains p (in_use_within a links p u)) (λ e. (let z : ⊥ = omega arith in z)))
        ∙ ap (λ l. Some (entries l (without s (slots_in a.rows (p + 1))))) i.held
        ∙ ap Some (entries_without a.held.items s None (slots_in a.rows (p + 1)))
        ∙ sym (option_map_rows a links (without_slot s) p u))
    | inr m ↦ no_rows a' links' p (λ e. m (sym (ap (λ w. chain_of w p) i.owners) ∙ e)) ∙ sym (ap (option_map (without_slot s)) (no_rows a links p m))
  ];
  room = ap length i.rows.here ∙ length-append (without s (slots_in a.rows 0)) (s ∷ [])
      ∙ ap (λ l. length l + 1) (without-absent s (slots_in a.rows 0) absent);
  others = λ owner o h w n. elim (cases_eq (chain_of a.owners o) 1) [
    | inl u ↦ (let r = holds_slot a links owner s h w in
        let e = links.rows.links.marked (owner + 1) s (links.row_chains owner (in_use_within a links owner r.2)) r.0 in
        let away : Has (slots_in a.rows (o + 1)) s → ⊥ = λ m. (let f = links.rows.links.marked (o + 1) s (links.row_chains o (in_use_within a links o u)) m in n (omega arith)) in
        rows_at a' links' o ∙ rows_in_use a' o (ap (λ w. chain_of w o) i.owners ∙ u)
        ∙ ap (λ l. Some (entries a'.held.items l)) (i.rows.others (o + 1) (links.row_chains o (in_use_within a links o u)) (λ e. (let z : ⊥ = omega arith in z)) ∙ without-absent s (slots_in a.rows (o + 1)) away)
        ∙ ap (λ l. Some (entries l (slots_in a.rows (o + 1)))) i.held
        ∙ ap Some (entries_other a.held.items s None (slots_in a.rows (o + 1)) away)
        ∙ sym (rows_in_use a o u) ∙ sym (rows_at a links o))
    | inr m ↦ no_rows a' links' o (λ e. m (sym (ap (λ w. chain_of w o) i.owners) ∙ e)) ∙ sym (no_rows a links o m)
  ];
  owner_room = ap (λ w. length (slots_in w FREE)) i.owners;
  fewer = λ owner rows h e m. (let r = holds_slot a links owner s h (rows, e, m) in
      let q = some_rows a links owner rows e in
      let within = in_use_within a links owner r.2 in
      let chain = links.row_chains owner within in
      let one = length-without (next_in a.rows (owner + 1)) (previous_in a.rows (owner + 1)) s END (slots_in a.rows (owner + 1)) END (links.rows.links.linked (owner + 1) chain) (end_absent a.rows links.rows.links (owner + 1) chain) r.0 in
      let before = length-entries a.held.items (slots_in a.rows (owner + 1)) (all_held a links owner within) in
      let same = ap length q.1 in
      let after' = length-entries a'.held.items (slots_in a'.rows (owner + 1)) (all_held a' links' owner (let f = ap slot_count i.owners in omega (arith, within, f))) in
      let moved' = ap length (i.rows.others (owner + 1) chain (λ e. (let z : ⊥ = omega arith in z))) in
      let list : entries a'.held.items (slots_in a'.rows (owner + 1)) ≡ without_slot s rows =
      ap (entries a'.held.items) (i.rows.others (owner + 1) chain (λ e. (let z : ⊥ = omega arith in z)))
      ∙ ap (λ l. entries l (without s (slots_in a.rows (owner + 1)))) i.held
      ∙ entries_without a.held.items s None (slots_in a.rows (owner + 1))
      ∙ ap (without_slot s) q.1 in
      let list' = ap length list in
      omega (arith, one, before, same, after', moved', list'));
}
  where
    links' : AreLinks a'
    links' = removal_links a a' s links i

    held_now : (h : Held) × (slice_get a.held.items s ≡ Some (Some h))
    held_now = known_held a (view_of a) refl links s i.held_here

    absent : Has (slots_in a.rows 0) s → ⊥
    absent m =
        let slot = slot_within a links s (Some held_now.0) held_now.1 in
        let e = links.rows.links.marked 0 s (links.row_chain (let k = slot in omega arith)) m in
        let r = links.owned s held_now.0 held_now.1 in
        let f = r.1 in let z : ⊥ = omega arith in z

-- what changes the owners' chains alone
pub record IsOwnerMove (a a' : Inside) (o ch : ℕ) : Type 0 where
  pub within : o < slot_count a.owners
  pub is_mark : ch ≤ 1
  pub empty : slots_in a.rows (o + 1) ≡ []
  pub owners_sound : AreSound a'.owners
  pub owners : Moves a.owners a'.owners o ch
  pub rows : a'.rows ≡ a.rows
  pub buckets : a'.buckets ≡ a.buckets
  pub held : a'.held ≡ a.held

pub owner_links : (a a' : Inside) (o ch : ℕ) → AreLinks a → IsOwnerMove a a' o ch → AreLinks a'
owner_links a a' o ch links i = record {
  rows = (let P : Chains → Type 0 = λ w. AreSound w in subst P (sym i.rows) links.rows);
  buckets = (let P : Chains → Type 0 = λ w. AreSound w in subst P (sym i.buckets) links.buckets);
  owners = i.owners_sound;
  owner_chains = λ k. (let e = i.owners.slots in let f = i.owners.chains in let r = links.owner_chains (omega (arith, k, e)) in omega (arith, r, f));
  owner_marks = λ p k. elim (cases_eq p o) [
    | inl f ↦ (let e = ap (chain_of a'.owners) f ∙ mark_here a.owners a'.owners o ch links.owners i.within i.owners in let g = i.is_mark in omega (arith, e, g))
    | inr n ↦ (let e = i.owners.slots in let f = mark_away a.owners a'.owners o ch i.owners p n in let r = links.owner_marks p (omega (arith, k, e)) in omega (arith, r, f))
  ];
  row_chains = λ p k. (let e = i.owners.slots in let r = links.row_chains p (omega arith) in let f = ap chain_count i.rows in omega arith);
  row_chain = λ k. (let r = links.row_chain (let f = ap slot_count i.rows in omega arith) in let f = ap chain_count i.rows in omega arith);
  row_slots = ap slot_count i.rows ∙ links.row_slots ∙ sym (ap (λ v. length v.items) i.held);
  bucket_slots = ap slot_count i.buckets ∙ links.bucket_slots ∙ sym (ap (λ v. length v.items) i.held);
  bucket_chains = λ k. (let r = links.bucket_chains (let f = ap slot_count i.buckets in omega arith) in let f = ap slot_count i.buckets in let g = ap chain_count i.buckets in omega arith);
  bucket_fit = (let r = links.bucket_fit in let g = ap chain_count i.buckets in omega arith);
  free_row = λ t e. ap (λ w. chain_of w t) i.rows ∙ links.free_row t (was t None e);
  free_bucket = λ t e. ap (λ w. chain_of w t) i.buckets ∙ links.free_bucket t (was t None e);
  owned = λ t k e. (let r = links.owned t k (was t (Some k) e) in
      (r.0, ap (λ w. chain_of w t) i.rows ∙ r.1, mark_away a.owners a'.owners o ch i.owners r.0 (λ f. filled t k (was t (Some k) e) (r.1 ∙ ap (λ x. x + 1) f)) ∙ r.2));
  bucket = λ t k e. ap (λ w. chain_of w t) i.buckets ∙ links.bucket t k (was t (Some k) e) ∙ ap (λ n. bucket_of n k.row.path) (sym (ap chain_count i.buckets));
  distinct = λ t u k l e f same. links.distinct t u k l (was t (Some k) e) (was u (Some l) f) same;
}
  where
    was : (t : ℕ) (v : Option Held) → slice_get a'.held.items t ≡ Some v → slice_get a.held.items t ≡ Some v
    was t v e = sym (ap (λ w. slice_get w.items t) i.held) ∙ e

    filled : (t : ℕ) (k : Held) → slice_get a.held.items t ≡ Some (Some k) → chain_of a.rows t ≡ o + 1 → ⊥
    filled t k e m =
        let P : List ℕ → Type 0 = λ l. Has l t in
        let Q : ℕ → Type 0 = λ c. Has (slots_in a.rows c) t in
        subst P i.empty (subst Q m (links.rows.placed t (slot_within a links t (Some k) e)))

-- the rows of the other owners are as they were
pub owner_others : (a a' : Inside) (o ch : ℕ) → AreLinks a → IsOwnerMove a a' o ch → (p : ℕ) → p ≢ o → rows_of (view_of a') p ≡ rows_of (view_of a) p
owner_others a a' o ch links i p n =
    rows_at a' (owner_links a a' o ch links i) p
    ∙ ap (λ k. cond (nat_eq k 1) (Some (entries a'.held.items (slots_in a'.rows (p + 1)))) None) (mark_away a.owners a'.owners o ch i.owners p n)
    ∙ ap (λ w. cond (nat_eq (chain_of a.owners p) 1) (Some (entries a'.held.items (slots_in w (p + 1)))) None) i.rows
    ∙ ap (λ v. cond (nat_eq (chain_of a.owners p) 1) (Some (entries v.items (slots_in a.rows (p + 1)))) None) i.held
    ∙ sym (rows_at a links p)

pub owner_begun : (a a' : Inside) (o : ℕ) → AreLinks a → IsOwnerMove a a' o 1 → chain_of a.owners o ≡ 0 → AddsOwner (view_of a) (view_of a') o
owner_begun a a' o links i free = record {
  free = no_rows a links o (λ e. (let z : ⊥ = omega arith in z));
  owner_room = ap (λ l. length l + 1) (i.owners.others 0 (let r = links.owners.range o i.within in omega (arith, r, free)) (λ e. (let z : ⊥ = omega arith in z)))
      ∙ one_less a.owners links.owners o 0 i.within free;
  here = rows_at a' (owner_links a a' o 1 links i) o ∙ rows_in_use a' o (mark_here a.owners a'.owners o 1 links.owners i.within i.owners)
      ∙ ap (λ w. Some (entries a'.held.items (slots_in w (o + 1)))) i.rows ∙ ap (λ l. Some (entries a'.held.items l)) i.empty;
  others = owner_others a a' o 1 links i;
  room = ap (λ w. length (slots_in w 0)) i.rows;
}

-- an owner that isn't in use has no row
pub unused_empty : (a : Inside) → AreLinks a → (o : ℕ) → o < slot_count a.owners → chain_of a.owners o ≢ 1 → slots_in a.rows (o + 1) ≡ []
unused_empty a links o h n = split (slots_in a.rows (o + 1)) refl
  where
    split : (xs : List ℕ) → slots_in a.rows (o + 1) ≡ xs → slots_in a.rows (o + 1) ≡ []
    split [] e = e
    split (x ∷ xs) e =
        let P : List ℕ → Type 0 = λ l. Has l x in
        let m : Has (slots_in a.rows (o + 1)) x = subst P (sym e) (inl refl) in
        let mark = links.rows.links.marked (o + 1) x (links.row_chains o h) m in
        let k = held_of a links x (links.rows.links.within (o + 1) x (links.row_chains o h) m) (λ z. (let y : ⊥ = omega arith in y)) in
        let r = links.owned x k.0 k.1 in
        let same : r.0 ≡ o = (let f = r.1 in omega arith) in
        absurd (n (sym (ap (chain_of a.owners) same) ∙ r.2))

-- a chain that has a slot is there
pub nonempty_chain : (w : Chains) → AreSound w → (c s : ℕ) → Has (slots_in w c) s → c < chain_count w
nonempty_chain w sound c s m =
    elim (cases_lt c (chain_count w)) [
      | inl h ↦ h
      | inr h ↦ absurd (let d = get_or-eq_default w.count.items 0 {n = c} (let k = sound.links.count_length in omega arith) in
          let e = counted w c in let f = has-some (slots_in w c) s m in let z : ⊥ = omega arith in z)
    ]

pub first_has : (xs : List ℕ) (s : ℕ) → slice_get xs 0 ≡ Some s → Has xs s
first_has [] s e = absurd (let f : None ≡ Some s = e in let z : ⊥ = cc in z)
first_has (x ∷ xs) s e = inl (same_Some x s e)

-- the first slot of a chain is a slot, and in this chain
pub first_slot : (w : Chains) → AreSound w → (c s : ℕ) → slice_get (slots_in w c) 0 ≡ Some s → (s < slot_count w) × (chain_of w s ≡ c) × (c < chain_count w)
first_slot w sound c s e =
    let m = first_has (slots_in w c) s e in
    let h = nonempty_chain w sound c s m in
    (sound.links.within c s h m, sound.links.marked c s h m, h)

pub some_first : (xs : List ℕ) (s : ℕ) → Has xs s → IsSome (slice_get xs 0)
some_first [] s m = absurd m
some_first (x ∷ xs) s m = refl

-- the slot that `first` gives is that of a row of the owner
pub first_row : (v : OwnedRows) (o s : ℕ) (rows : List Entry) → rows_of v o ≡ Some rows → Some s ≡ slot_at rows 0 → (h : Held) × Owns v o (record { slot = s; held = h })
first_row v o s rows e f = split rows e f
  where
    split : (rows : List Entry) → rows_of v o ≡ Some rows → Some s ≡ slot_at rows 0 → (h : Held) × Owns v o (record { slot = s; held = h })
    split [] e f = absurd (let g : Some s ≡ None = f in let z : ⊥ = cc in z)
    split (x ∷ xs) e f = (
      x.held,
      (
        x ∷ xs,
        e,
        has-contains (x ∷ xs) (record { slot = s; held = x.held })
            (inl (let g : s ≡ x.slot = same_Some s x.slot f in ap (λ k. record { slot = k; held = x.held }) (sym g))),
      ),
    )

pub the_rows : (o : Option (List Entry)) → IsSome o → (rows : List Entry) × (o ≡ Some rows)
the_rows None h = absurd (let none : Option (List Entry) = None in let k : IsSome none = h in let z : ⊥ = cc in z)
the_rows (Some rows) h = (rows, refl)

-- an owner whose first row isn't there has none
pub no_first : (rows : List Entry) → slot_at rows 0 ≡ None → rows ≡ []
no_first [] e = refl
no_first (x ∷ xs) e = absurd (let f : Some x.slot ≡ None = e in let z : ⊥ = cc in z)

-- how many rows an owner has
abbrev pub row_count : Option (List Entry) → ℕ
row_count None = 0
row_count (Some rows) = length rows

-- some of an owner's rows are gone, and their slots are free
pub record DropsRows (v v' : OwnedRows) (owner : ℕ) : Type 0 where
  pub here : IsSome (rows_of v' owner)
  pub others : (o : ℕ) → o ≢ owner → rows_of v' o ≡ rows_of v o
  pub owner_room : v'.owner_room ≡ v.owner_room
  pub room : v'.room + row_count (rows_of v' owner) ≡ v.room + row_count (rows_of v owner)

pub drops_more : (v w w' : OwnedRows) (o s : ℕ) (rows : List Entry) (h : Held) → DropsRows v w o → rows_of w o ≡ Some rows → Contains rows (record { slot = s; held = h }) → Unlinks w w' s → DropsRows v w' o
drops_more v w w' o s rows h d e m u = record {
  here = (let P : Option (List Entry) → Type 0 = λ x. IsSome x in subst P (sym now) refl);
  others = λ p n. u.others o p h (rows, e, m) n ∙ d.others p n;
  owner_room = u.owner_room ∙ d.owner_room;
  room = (let a = u.room in let b = d.room in let k = ap row_count now in let l = ap row_count e in let j = u.fewer o rows h e m in omega (arith, a, b, k, l, j));
}
  where
    now : rows_of w' o ≡ Some (without_slot s rows)
    now = u.rows o ∙ ap (option_map (without_slot s)) e

pub fewer : (w w' : OwnedRows) (o s : ℕ) (rows : List Entry) (h : Held) → rows_of w o ≡ Some rows → Contains rows (record { slot = s; held = h }) → Unlinks w w' s → row_count (rows_of w' o) < row_count (rows_of w o)
fewer w w' o s rows h e m u =
    let k = ap row_count (u.rows o ∙ ap (option_map (without_slot s)) e) in let l = ap row_count e in let j = u.fewer o rows h e m in omega (arith, k, l, j)

-- an owner of no row has an empty chain
pub empty_chain : (a : Inside) → AreLinks a → (o : ℕ) → rows_of (view_of a) o ≡ Some [] → (chain_of a.owners o ≡ 1) × (slots_in a.rows (o + 1) ≡ [])
empty_chain a links o e =
    let r = some_rows a links o [] e in
    let k = length-entries a.held.items (slots_in a.rows (o + 1)) (all_held a links o (in_use_within a links o r.0)) in
    (r.0, none_left (slots_in a.rows (o + 1)) (sym k ∙ ap length r.1))
  where
    none_left : (xs : List ℕ) → length xs ≡ 0 → xs ≡ []
    none_left [] e = refl
    none_left (x ∷ xs) e = absurd (let z : ⊥ = omega arith in z)

-- the end of an owner of no row
pub owner_ended : (a a' : Inside) (o : ℕ) → AreLinks a → IsOwnerMove a a' o 0 → (v : OwnedRows) → DropsRows v (view_of a) o → rows_of (view_of a) o ≡ Some [] → DropsOwner v (view_of a') o
owner_ended a a' o links i v d e = record {
  here = rows_at a' links' o ∙ rows_unused a' o (λ f. (let g = mark_here a.owners a'.owners o 0 links.owners i.within i.owners in let z : ⊥ = omega arith in z));
  others = λ p n. owner_others a a' o 0 links i p n ∙ d.others p n;
  owner_room = ap length i.owners.here ∙ length-append (without o (slots_in a.owners 0)) (o ∷ []) ∙ ap (λ l. length l + 1) (without-absent o (slots_in a.owners 0) in_use) ∙ ap (λ n. n + 1) d.owner_room;
  room = λ rows f. (let r = d.room in let k = ap row_count e in let l = ap row_count f in let g = ap (λ w. length (slots_in w 0)) i.rows in omega (arith, r, k, l, g));
}
  where
    links' : AreLinks a'
    links' = owner_links a a' o 0 links i

    in_use : Has (slots_in a.owners 0) o → ⊥
    in_use m =
        let u = (empty_chain a links o e).0 in
        let r = links.owners.range o i.within in
        let f = links.owners.links.marked 0 o (omega (arith, r, u)) m in let z : ⊥ = omega (arith, u, f) in z

-- one step of a walk over a chain
pub step : (w : Chains) → AreSound w → (c s k : ℕ) → c < chain_count w → slice_get (slots_in w c) k ≡ Some s → after s (slots_in w (chain_of w s)) ≡ slice_get (slots_in w c) (k + 1)
step w sound c s k h e =
    let m = has_at (slots_in w c) k s e in
    let mark = sound.links.marked c s h m in
    ap (λ x. after s (slots_in w x)) mark
    ∙ after-linked (next_in w c) (previous_in w c) END (slots_in w c) END s (sound.links.linked c h) (end_absent w sound.links c h) m
    ∙ sym (linked-at (next_in w c) (previous_in w c) END (slots_in w c) END k s (sound.links.linked c h) (end_absent w sound.links c h) e)

-- no row has a path that none of its chain has
pub not_found : (a : Inside) → AreLinks a → (path : List ℕ) (n : ℕ) → length (slots_in a.buckets (bucket_of (chain_count a.buckets) path)) ≤ n
    → ((i s : ℕ) (h : Held) → i < n → slice_get (slots_in a.buckets (bucket_of (chain_count a.buckets) path)) i ≡ Some s → slice_get a.held.items s ≡ Some (Some h) → h.row.path ≢ path)
    → HoldsPath (view_of a) path → ⊥
not_found a links path n long all w =
    let r = holds_slot a links w.2.0 w.0 w.1 w.2.1 in
    let b = links.bucket w.0 w.1 r.1 in
    let same : bucket_of (chain_count a.buckets) w.1.row.path ≡ bucket_of (chain_count a.buckets) path = ap (bucket_of (chain_count a.buckets)) w.3 in
    let inside = slot_within a links w.0 (Some w.1) r.1 in
    let P : ℕ → Type 0 = λ c. Has (slots_in a.buckets c) w.0 in
    let m = subst P (b ∙ same) (links.buckets.placed w.0 (let e = links.row_slots in let f = links.bucket_slots in omega (arith, e, f, inside))) in
    let i = place_of (slots_in a.buckets (bucket_of (chain_count a.buckets) path)) w.0 m in
    all i.0 w.0 w.1 (let h = i.1 in omega (arith, h, long)) i.2 r.1 w.3

pub none_past : (xs : List ℕ) (k : ℕ) → slice_get xs k ≡ None → length xs ≤ k
none_past xs k e =
    elim (cases_lt k (length xs)) [
      | inl h ↦ absurd (let f : Some (get_or xs k 0) ≡ None = sym (slice_get-get_or xs k 0 h) ∙ e in let z : ⊥ = cc in z)
      | inr h ↦ h
    ]

pub not_found_at : (a : Inside) (v : OwnedRows) → view_of a ≡ v → AreLinks a → (path : List ℕ) (n b : ℕ) → b ≡ bucket_of (chain_count a.buckets) path → length (slots_in a.buckets b) ≤ n
    → ((i s : ℕ) (h : Held) → i < n → slice_get (slots_in a.buckets b) i ≡ Some s → slice_get a.held.items s ≡ Some (Some h) → h.row.path ≢ path)
    → HoldsPath v path → ⊥
not_found_at a v e links path n b f long all w =
    let P : ℕ → Type 0 = λ c. length (slots_in a.buckets c) ≤ n in
    let Q : ℕ → Type 0 = λ c. (i s : ℕ) (h : Held) → i < n → slice_get (slots_in a.buckets c) i ≡ Some s → slice_get a.held.items s ≡ Some (Some h) → h.row.path ≢ path in
    let R : OwnedRows → Type 0 = λ x. HoldsPath x path in
    not_found a links path n (subst P f long) (subst Q f all) (subst R (sym e) w)

-- a slot of a bucket is a slot
pub bucket_slot : (a : Inside) → AreLinks a → (b k s : ℕ) → b < chain_count a.buckets → slice_get (slots_in a.buckets b) k ≡ Some s → s < length a.held.items
bucket_slot a links b k s h e =
    let r = links.buckets.links.within b s h (has_at (slots_in a.buckets b) k s e) in let f = links.bucket_slots in omega (arith, r, f)

pub none_held : (a : Inside) (v : OwnedRows) → view_of a ≡ v → AreLinks a → (path : List ℕ) → length a.held.items ≡ 0 → HoldsPath v path → ⊥
none_held a v e links path empty w =
    let R : OwnedRows → Type 0 = λ x. HoldsPath x path in
    let w' = subst R (sym e) w in
    let r = holds_slot a links w'.2.0 w'.0 w'.1 w'.2.1 in
    let h = slice_get_within a.held.items w'.0 (Some w'.1) r.1 in omega (arith, h, empty)

-- no two slots hold rows of one path, and a slot holds one row
pub one_path : (a : Inside) (v : OwnedRows) → view_of a ≡ v → AreLinks a → (s t : ℕ) (h k : Held) → Holds v s h → Holds v t k → h.row.path ≡ k.row.path → s ≡ t
one_path a v e links s t h k x y same =
    let P : OwnedRows → Type 0 = λ z. Holds z s h in
    let Q : OwnedRows → Type 0 = λ z. Holds z t k in
    let x' = subst P (sym e) x in
    let y' = subst Q (sym e) y in
    links.distinct s t h k (holds_slot a links x'.0 s h x'.1).1 (holds_slot a links y'.0 t k y'.1).1 same

pub one_row : (a : Inside) (v : OwnedRows) → view_of a ≡ v → AreLinks a → (s : ℕ) (h k : Held) → Holds v s h → slice_get a.held.items s ≡ Some (Some k) → h ≡ k
one_row a v e links s h k x f =
    let P : OwnedRows → Type 0 = λ z. Holds z s h in
    let x' = subst P (sym e) x in
    same_Some h k (same_Some (Some h) (Some k) (sym (holds_slot a links x'.0 s h x'.1).1 ∙ f))
