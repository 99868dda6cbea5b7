-- What the writes to the links make of the chains.
use Rattle.std.proofs.Common.{◌≡◌, ◌≢◌, ◌⊎◌, ◌+◌, ◌-◌, ◌<◌, ◌≤◌, ℕ, List, [], ◌∷◌, ◌++◌, length, cond, nat_eq, refl, sym, ◌∙◌, ap, subst, inl, inr, arith, get_or, set, sum, slice_index, slice_set, slice_get, None, Some}
use Rattle.std.proofs.lemmas.Bool.{eq-eqb, ne_eqb, cases_eq, cases_lt}
use Rattle.std.proofs.lemmas.List.{get_or-set_same, get_or-set_other, length-append, get_or_append_left, get_or-append-add}
use Rattle.std.proofs.lemmas.List.Sums.{sum_by-set, sum_by-append}
use Rattle.file_links.specs.declared.chains.Chains.{Chains}
use Rattle.file_links.specs.Linked.{Has, without, after, Linked, walk, follow, END}
use Rattle.file_links.specs.Chains.{chain_count, slot_count, chain_of, next_in, previous_in, slots_in, AreLinked, AreSound, AreSoundBut, KeepsSize, Detaches, Appends, Moves, AddsChain, AddsSlot, Extends}
use Rattle.file_links.proofs.LinkedLemmas.{walk-linked, length-walk, there_and_back, linked-frame, linked-without, linked-append, round_the_end, last_in, previous_in_chain, next_in_chain, length-without, has-without, without-has, first-linked, after-linked, has-append, has-left, has-last, without-absent}

pub sum-set : (xs : List ℕ) (i y : ℕ) → i < length xs → sum (set xs i y) + get_or xs i 0 ≡ sum xs + y
sum-set xs i y h = sum_by-set (λ x. x) xs i y 0 h

-- a slot's link
pub slot_link : (ends links : List ℕ) (c s : ℕ) → s ≢ END → follow ends links c s ≡ slice_index links s
slot_link ends links c s n = ap (λ b. cond b (slice_index ends c) (slice_index links s)) (ne_eqb s END n)

pub not_end : (w : Chains) → AreLinked w → (s : ℕ) → s < slot_count w → s ≢ END
not_end w links s h e = let f = links.slots_fit in omega arith

-- no chain has the end among its slots
pub end_absent : (w : Chains) → AreLinked w → (c : ℕ) → c < chain_count w → Has (slots_in w c) END → ⊥
end_absent w links c h m = let f = links.slots_fit in let g = links.within c END h m in omega arith

pub previous_place : (w : Chains) → AreSound w → (s : ℕ) → s < slot_count w → (slice_index w.previous.items s ≡ END) ⊎ Has (slots_in w (chain_of w s)) (slice_index w.previous.items s)
previous_place w sound s h =
    let P : ℕ → Type 0 = λ v. (v ≡ END) ⊎ Has (slots_in w (chain_of w s)) v in
    subst P (slot_link w.last.items w.previous.items (chain_of w s) s (not_end w sound.links s h))
    (previous_in_chain (next_in w (chain_of w s)) (previous_in w (chain_of w s)) END (slots_in w (chain_of w s)) END s
    (sound.links.linked (chain_of w s) (sound.range s h)) (sound.placed s h))

pub next_place : (w : Chains) → AreSound w → (s : ℕ) → s < slot_count w → (slice_index w.next.items s ≡ END) ⊎ Has (slots_in w (chain_of w s)) (slice_index w.next.items s)
next_place w sound s h =
    let P : ℕ → Type 0 = λ v. (v ≡ END) ⊎ Has (slots_in w (chain_of w s)) v in
    subst P (slot_link w.first.items w.next.items (chain_of w s) s (not_end w sound.links s h))
    (next_in_chain (next_in w (chain_of w s)) (previous_in w (chain_of w s)) END (slots_in w (chain_of w s)) END s
    (sound.links.linked (chain_of w s) (sound.range s h)) (sound.placed s h))

pub previous_fits : (w : Chains) → AreSound w → (s : ℕ) → s < slot_count w → slice_index w.previous.items s ≢ END → slice_index w.previous.items s < slot_count w
previous_fits w sound s h n =
    elim (previous_place w sound s h) [ inl e ↦ absurd (n e) | inr m ↦ sound.links.within (chain_of w s) (slice_index w.previous.items s) (sound.range s h) m ]

pub next_fits : (w : Chains) → AreSound w → (s : ℕ) → s < slot_count w → slice_index w.next.items s ≢ END → slice_index w.next.items s < slot_count w
next_fits w sound s h n =
    elim (next_place w sound s h) [ inl e ↦ absurd (n e) | inr m ↦ sound.links.within (chain_of w s) (slice_index w.next.items s) (sound.range s h) m ]

-- a chain's count is how many slots it has
pub counted : (w : Chains) (c : ℕ) → length (slots_in w c) ≡ slice_index w.count.items c
counted w c = length-walk (next_in w c) (slice_index w.count.items c) END

pub has-some : (xs : List ℕ) (s : ℕ) → Has xs s → 1 ≤ length xs
has-some [] s m = absurd m
has-some (x ∷ xs) s m = omega arith

pub some_counted : (w : Chains) → AreSound w → (s : ℕ) → s < slot_count w → 1 ≤ slice_index w.count.items (chain_of w s)
some_counted w sound s h =
    let m = has-some (slots_in w (chain_of w s)) s (sound.placed s h) in
    let e = counted w (chain_of w s) in omega arith

-- a chain is the list over which its links lead
pub relisted : (w : Chains) (c : ℕ) (zs : List ℕ) → Linked (next_in w c) (previous_in w c) END zs END → slice_index w.count.items c ≡ length zs → slots_in w c ≡ zs
relisted w c zs l e = ap (λ n. walk (next_in w c) n END) e ∙ walk-linked (next_in w c) (previous_in w c) END zs END l

-- writes at a place of one chain leave the links of another
pub keeps_apart : (w : Chains) → AreLinked w → (c ch p : ℕ) → c < chain_count w → ch < chain_count w → c ≢ ch
    → (p ≡ END) ⊎ Has (slots_in w ch) p → (f f' : ℕ → ℕ)
    → ((x : ℕ) → (x ≡ END) ⊎ Has (slots_in w c) x → x ≢ p → f' x ≡ f x)
    → (p ≡ END → f' END ≡ f END)
    → (x : ℕ) → (x ≡ END) ⊎ Has (slots_in w c) x → f' x ≡ f x
keeps_apart w links c ch p hc hch ne at f f' same apart x m =
    elim (cases_eq x p) [
      | inr n ↦ same x m n
      | inl e ↦ (elim m [
        | inl x_end ↦ (let P : ℕ → Type 0 = λ v. f' v ≡ f v in subst P (sym x_end) (apart (sym e ∙ x_end)))
        | inr k ↦ (elim at [
          | inl p_end ↦ absurd (end_absent w links c hc (let P : ℕ → Type 0 = λ v. Has (slots_in w c) v in subst P (e ∙ p_end) k))
          | inr k' ↦ absurd (ne (sym (links.marked c x hc k) ∙ ap (chain_of w) e ∙ links.marked ch p hch k'))
        ])
      ])
    ]

-- the chains that new links make
pub made_linked : (w w' : Chains) → KeepsSize w w' → AreLinked w → (zs : ℕ → List ℕ)
    → ((c : ℕ) → c < chain_count w → Linked (next_in w' c) (previous_in w' c) END (zs c) END)
    → ((c : ℕ) → c < chain_count w → slots_in w' c ≡ zs c)
    → ((c s : ℕ) → c < chain_count w → Has (zs c) s → s < slot_count w)
    → ((c s : ℕ) → c < chain_count w → Has (zs c) s → chain_of w' s ≡ c)
    → AreLinked w'
made_linked w w' size links zs linked lists within marked = record {
  last_length = size.last_length ∙ links.last_length ∙ sym size.first_length;
  count_length = size.count_length ∙ links.count_length ∙ sym size.first_length;
  previous_length = size.previous_length ∙ links.previous_length ∙ sym size.next_length;
  chain_length = size.chain_length ∙ links.chain_length ∙ sym size.next_length;
  slots_fit = (let a = size.next_length in let b = links.slots_fit in omega arith);
  linked = λ c h. (let hc : c < chain_count w = below c h in
      let P : List ℕ → Type 0 = λ l. Linked (next_in w' c) (previous_in w' c) END l END in
      subst P (sym (lists c hc)) (linked c hc));
  within = λ c s h m. (let hc : c < chain_count w = below c h in
      let r = within c s hc (let P : List ℕ → Type 0 = λ l. Has l s in subst P (lists c hc) m) in
      let a = size.next_length in omega arith);
  marked = λ c s h m. (let hc : c < chain_count w = below c h in
      marked c s hc (let P : List ℕ → Type 0 = λ l. Has l s in subst P (lists c hc) m));
}
  where
    below : (c : ℕ) → c < chain_count w' → c < chain_count w
    below c h = let a = size.first_length in omega arith

-- after `detach` the slot is in no chain, and the chains are otherwise as they were
pub detached_chain : (w w' : Chains) (s : ℕ) → AreSound w → s < slot_count w → Detaches w w' s → (c : ℕ) → c < chain_count w
    → Linked (next_in w' c) (previous_in w' c) END (without s (slots_in w c)) END × (slots_in w' c ≡ without s (slots_in w c))
detached_chain w w' s sound hs u c hc =
    elim (cases_eq c (chain_of w s)) [
      | inl e ↦ (let P : ℕ → Type 0 = λ v. Linked (next_in w' v) (previous_in w' v) END (without s (slots_in w v)) END × (slots_in w' v ≡ without s (slots_in w v)) in
          subst P (sym e) (here, relisted w' ch (without s xs) here count_here))
      | inr n ↦ (let away : Linked (next_in w' c) (previous_in w' c) END (slots_in w c) END =
          linked-frame (next_in w c) (previous_in w c) (next_in w' c) (previous_in w' c) END (slots_in w c) END
          (keeps_apart w sound.links c ch (slice_index w.previous.items s) hc hch n (previous_place w sound s hs) (next_in w c) (next_in w' c) (λ x m k. u.next_same c x k) (u.next_apart c n))
          (keeps_apart w sound.links c ch (slice_index w.next.items s) hc hch n (next_place w sound s hs) (previous_in w c) (previous_in w' c) (λ x m k. u.previous_same c x k) (u.previous_apart c n))
          (sound.links.linked c hc) in
          let gone : without s (slots_in w c) ≡ slots_in w c = without-absent s (slots_in w c) (λ m. n (sym (sound.links.marked c s hc m))) in
          let P : List ℕ → Type 0 = λ l. Linked (next_in w' c) (previous_in w' c) END l END × (slots_in w' c ≡ l) in
          subst P (sym gone) (
            away,
            relisted w' c (slots_in w c) away
                (ap (λ l. slice_index l c) u.count ∙ get_or-set_other w.count.items ch c (slice_index w.count.items ch - 1) 0 n ∙ sym (counted w c)),
          ))
    ]
  where
    ch : ℕ
    ch = chain_of w s

    xs : List ℕ
    xs = slots_in w (chain_of w s)

    hch : chain_of w s < chain_count w
    hch = sound.range s hs

    next_is : next_in w (chain_of w s) s ≡ slice_index w.next.items s
    next_is = slot_link w.first.items w.next.items (chain_of w s) s (not_end w sound.links s hs)

    previous_is : previous_in w (chain_of w s) s ≡ slice_index w.previous.items s
    previous_is = slot_link w.last.items w.previous.items (chain_of w s) s (not_end w sound.links s hs)

    both : (next_in w (chain_of w s) (previous_in w (chain_of w s) s) ≡ s) × (previous_in w (chain_of w s) (next_in w (chain_of w s) s) ≡ s)
    both = there_and_back (next_in w (chain_of w s)) (previous_in w (chain_of w s)) END (slots_in w (chain_of w s)) END s (sound.links.linked (chain_of w s) (sound.range s hs)) (sound.placed s hs)

    here : Linked (next_in w' (chain_of w s)) (previous_in w' (chain_of w s)) END (without s (slots_in w (chain_of w s))) END
    here = linked-without (next_in w (chain_of w s)) (previous_in w (chain_of w s)) (next_in w' (chain_of w s)) (previous_in w' (chain_of w s)) s END (slots_in w (chain_of w s)) END
        (λ x k. u.next_same (chain_of w s) x (λ e. k (ap (next_in w (chain_of w s)) (e ∙ sym previous_is) ∙ both.0)))
        (λ x to from. ap (next_in w' (chain_of w s)) (sym from ∙ previous_is) ∙ u.next_here ∙ sym next_is)
        (λ x k. u.previous_same (chain_of w s) x (λ e. k (ap (previous_in w (chain_of w s)) (e ∙ sym next_is) ∙ both.1)))
        (λ x to from. ap (previous_in w' (chain_of w s)) (sym from ∙ next_is) ∙ u.previous_here ∙ sym previous_is)
        (λ e. not_end w sound.links s hs (sym e)) (λ e. not_end w sound.links s hs (sym e))
        (sound.links.linked (chain_of w s) (sound.range s hs))

    count_here : slice_index w'.count.items (chain_of w s) ≡ length (without s (slots_in w (chain_of w s)))
    count_here =
        let a : slice_index w'.count.items (chain_of w s) ≡ slice_index w.count.items (chain_of w s) - 1 =
        ap (λ l. slice_index l (chain_of w s)) u.count ∙ get_or-set_same w.count.items (chain_of w s) (slice_index w.count.items (chain_of w s) - 1) 0
        (let g = sound.links.count_length in let k = sound.range s hs in omega arith) in
        let b = counted w (chain_of w s) in
        let d = length-without (next_in w (chain_of w s)) (previous_in w (chain_of w s)) s END (slots_in w (chain_of w s)) END (sound.links.linked (chain_of w s) (sound.range s hs))
        (end_absent w sound.links (chain_of w s) (sound.range s hs)) (sound.placed s hs) in
        omega arith

pub detached_sound : (w w' : Chains) (s : ℕ) → AreSound w → s < slot_count w → Detaches w w' s → AreSoundBut w' s
detached_sound w w' s sound hs u = record {
  links = made_linked w w' u.size sound.links (λ c. without s (slots_in w c))
      (λ c hc. (detached_chain w w' s sound hs u c hc).0)
      (λ c hc. (detached_chain w w' s sound hs u c hc).1)
      (λ c y hc m. sound.links.within c y hc (has-without s y (slots_in w c) m).0)
      (λ c y hc m. ap (λ l. slice_index l y) u.chain ∙ sound.links.marked c y hc (has-without s y (slots_in w c) m).0);
  range = λ y hy. (let a = u.size.first_length in
      let b = sound.range y (known y hy) in
      let e = ap (λ l. slice_index l y) u.chain in omega arith);
  placed = λ y hy n. (let m = without-has s y (slots_in w (chain_of w y)) (sound.placed y (known y hy)) n in
      let P : List ℕ → Type 0 = λ l. Has l y in
      let m' = subst P (sym (detached_chain w w' s sound hs u (chain_of w y) (sound.range y (known y hy))).1) m in
      let Q : ℕ → Type 0 = λ v. Has (slots_in w' v) y in
      subst Q (sym (ap (λ l. slice_index l y) u.chain)) m');
  absent = λ c hc m. (let hc' : c < chain_count w = (let a = u.size.first_length in omega arith) in
      let P : List ℕ → Type 0 = λ l. Has l s in
      (has-without s s (slots_in w c) (subst P (detached_chain w w' s sound hs u c hc').1 m)).1 refl);
  total = (let a = sum-set w.count.items (chain_of w s) (slice_index w.count.items (chain_of w s) - 1)
      (let g = sound.links.count_length in let k = sound.range s hs in omega arith) in
      let b = ap sum u.count in let d = sound.total in let e = some_counted w sound s hs in let f = u.size.next_length in
      omega (arith, a, b, d, e, f));
}
  where
    known : (y : ℕ) → y < slot_count w' → y < slot_count w
    known y hy = let a = u.size.next_length in omega arith

-- a place of a chain: its end, or a slot of it
pub last_place : (w : Chains) → AreLinked w → (ch : ℕ) → ch < chain_count w → (slice_index w.last.items ch ≡ END) ⊎ Has (slots_in w ch) (slice_index w.last.items ch)
last_place w links ch hch = last_in (next_in w ch) (previous_in w ch) END (slots_in w ch) END (links.linked ch hch)

pub last_fits : (w : Chains) → AreLinked w → (ch : ℕ) → ch < chain_count w → slice_index w.last.items ch ≢ END → slice_index w.last.items ch < slot_count w
last_fits w links ch hch n =
    elim (last_place w links ch hch) [ inl e ↦ absurd (n e) | inr m ↦ links.within ch (slice_index w.last.items ch) hch m ]

-- the list of a chain after a slot was put behind the last one of `ch`
abbrev pub appended_list : Chains → ℕ → ℕ → ℕ → List ℕ
appended_list w s ch c = cond (nat_eq c ch) (slots_in w c ++ s ∷ []) (slots_in w c)

pub appended_here : (w : Chains) (s ch c : ℕ) → c ≡ ch → appended_list w s ch c ≡ slots_in w c ++ s ∷ []
appended_here w s ch c e = ap (λ b. cond b (slots_in w c ++ s ∷ []) (slots_in w c)) (eq-eqb c ch e)

pub appended_away : (w : Chains) (s ch c : ℕ) → c ≢ ch → appended_list w s ch c ≡ slots_in w c
appended_away w s ch c n = ap (λ b. cond b (slots_in w c ++ s ∷ []) (slots_in w c)) (ne_eqb c ch n)

pub appended_chain : (w w' : Chains) (s ch : ℕ) → AreSoundBut w s → s < slot_count w → ch < chain_count w → Appends w w' s ch → (c : ℕ) → c < chain_count w
    → Linked (next_in w' c) (previous_in w' c) END (appended_list w s ch c) END × (slots_in w' c ≡ appended_list w s ch c)
appended_chain w w' s ch sound hs hch u c hc =
    elim (cases_eq c ch) [
      | inl e ↦ (let P : List ℕ → Type 0 = λ l. Linked (next_in w' c) (previous_in w' c) END l END × (slots_in w' c ≡ l) in
          subst P (sym (appended_here w s ch c e))
          (let Q : ℕ → Type 0 = λ v. Linked (next_in w' v) (previous_in w' v) END (slots_in w v ++ s ∷ []) END × (slots_in w' v ≡ slots_in w v ++ s ∷ []) in
          subst Q (sym e) (here, relisted w' ch (slots_in w ch ++ s ∷ []) here count_here)))
      | inr n ↦ (let away : Linked (next_in w' c) (previous_in w' c) END (slots_in w c) END =
          linked-frame (next_in w c) (previous_in w c) (next_in w' c) (previous_in w' c) END (slots_in w c) END
          (keeps_apart w sound.links c ch (slice_index w.last.items ch) hc hch n (last_place w sound.links ch hch) (next_in w c) (next_in w' c)
          (λ x m k. u.next_same c x (other x m) k) (u.next_apart c n))
          (keeps_apart w sound.links c ch END hc hch n (inl refl) (previous_in w c) (previous_in w' c)
          (λ x m k. u.previous_same c x (other x m) k) (λ e. u.previous_apart c n))
          (sound.links.linked c hc) in
          let P : List ℕ → Type 0 = λ l. Linked (next_in w' c) (previous_in w' c) END l END × (slots_in w' c ≡ l) in
          subst P (sym (appended_away w s ch c n)) (
            away,
            relisted w' c (slots_in w c) away
                (ap (λ l. slice_index l c) u.count ∙ get_or-set_other w.count.items ch c (slice_index w.count.items ch + 1) 0 n ∙ sym (counted w c)),
          ))
    ]
  where
    other : (x : ℕ) → (x ≡ END) ⊎ Has (slots_in w c) x → x ≢ s
    other x m e = elim m [
      | inl f ↦ not_end w sound.links s hs (sym e ∙ f)
      | inr k ↦ sound.absent c hc (let P : ℕ → Type 0 = λ v. Has (slots_in w c) v in subst P e k)
    ]

    here : Linked (next_in w' ch) (previous_in w' ch) END (slots_in w ch ++ s ∷ []) END
    here = linked-append (next_in w ch) (previous_in w ch) (next_in w' ch) (previous_in w' ch) s END (slots_in w ch) END
        u.next_slot u.previous_slot u.next_last u.previous_end (u.next_same ch) (u.previous_same ch)
        (round_the_end (next_in w ch) (previous_in w ch) END (slots_in w ch) END (sound.links.linked ch hch))
        (sound.absent ch hch) (end_absent w sound.links ch hch) (λ e. not_end w sound.links s hs (sym e))
        (sound.links.linked ch hch)

    count_here : slice_index w'.count.items ch ≡ length (slots_in w ch ++ s ∷ [])
    count_here =
        let a : slice_index w'.count.items ch ≡ slice_index w.count.items ch + 1 =
        ap (λ l. slice_index l ch) u.count ∙ get_or-set_same w.count.items ch (slice_index w.count.items ch + 1) 0 (let g = sound.links.count_length in omega arith) in
        let b = counted w ch in
        let d = length-append (slots_in w ch) (s ∷ []) in
        omega arith

pub appended_sound : (w w' : Chains) (s ch : ℕ) → AreSoundBut w s → s < slot_count w → ch < chain_count w → Appends w w' s ch → AreSound w'
appended_sound w w' s ch sound hs hch u = record {
  links = made_linked w w' u.size sound.links (appended_list w s ch)
      (λ c hc. (appended_chain w w' s ch sound hs hch u c hc).0)
      (λ c hc. (appended_chain w w' s ch sound hs hch u c hc).1)
      (λ c y hc m. elim (cases_of c y m) [ inl k ↦ sound.links.within c y hc k | inr k ↦ (let e = k.1 in omega arith) ])
      (λ c y hc m. elim (cases_of c y m) [
        | inl k ↦ ap (λ l. slice_index l y) u.marks ∙ get_or-set_other w.chain.items s y ch 0 (λ e. sound.absent c hc (let P : ℕ → Type 0 = λ v. Has (slots_in w c) v in subst P e k)) ∙ sound.links.marked c y hc k
        | inr k ↦ ap (λ v. slice_index w'.chain.items v) k.1 ∙ mark_here ∙ sym k.0
      ]);
  range = λ y hy. elim (cases_eq y s) [
    | inl e ↦ (let a = ap (λ v. slice_index w'.chain.items v) e ∙ mark_here in let b = u.size.first_length in omega arith)
    | inr n ↦ (let a = mark_away y n in let b = u.size.first_length in let d = sound.range y (known y hy) in omega arith)
  ];
  placed = λ y hy. elim (cases_eq y s) [
    | inl e ↦ (let P : ℕ → Type 0 = λ v. Has (slots_in w' (slice_index w'.chain.items v)) v in
        subst P (sym e) (let Q : ℕ → Type 0 = λ v. Has (slots_in w' v) s in subst Q (sym mark_here)
        (let R : List ℕ → Type 0 = λ l. Has l s in subst R (sym ((appended_chain w w' s ch sound hs hch u ch hch).1 ∙ appended_here w s ch ch refl)) (has-last (slots_in w ch) s))))
    | inr n ↦ (let Q : ℕ → Type 0 = λ v. Has (slots_in w' v) y in subst Q (sym (mark_away y n))
        (let R : List ℕ → Type 0 = λ l. Has l y in
        subst R (sym (appended_chain w w' s ch sound hs hch u (chain_of w y) (sound.range y (known y hy))).1)
        (kept (chain_of w y) y (sound.placed y (known y hy) n))))
  ];
  total = (let a = sum-set w.count.items ch (slice_index w.count.items ch + 1) (let g = sound.links.count_length in omega arith) in
      let b = ap sum u.count in let d = sound.total in let f = u.size.next_length in
      omega (arith, a, b, d, f));
}
  where
    known : (y : ℕ) → y < slot_count w' → y < slot_count w
    known y hy = let a = u.size.next_length in omega arith

    mark_here : slice_index w'.chain.items s ≡ ch
    mark_here = ap (λ l. slice_index l s) u.marks ∙ get_or-set_same w.chain.items s ch 0 (let a = sound.links.chain_length in omega arith)

    mark_away : (y : ℕ) → y ≢ s → slice_index w'.chain.items y ≡ slice_index w.chain.items y
    mark_away y n = ap (λ l. slice_index l y) u.marks ∙ get_or-set_other w.chain.items s y ch 0 n

    kept : (c y : ℕ) → Has (slots_in w c) y → Has (appended_list w s ch c) y
    kept c y m = elim (cases_eq c ch) [
      | inl e ↦ (let R : List ℕ → Type 0 = λ l. Has l y in subst R (sym (appended_here w s ch c e)) (has-left (slots_in w c) (s ∷ []) y m))
      | inr n ↦ (let R : List ℕ → Type 0 = λ l. Has l y in subst R (sym (appended_away w s ch c n)) m)
    ]

    cases_of : (c y : ℕ) → Has (appended_list w s ch c) y → Has (slots_in w c) y ⊎ ((c ≡ ch) × (y ≡ s))
    cases_of c y m = elim (cases_eq c ch) [
      | inl e ↦ (let R : List ℕ → Type 0 = λ l. Has l y in elim (has-append (slots_in w c) (s ∷ []) y (subst R (appended_here w s ch c e) m)) [
        | inl k ↦ inl k
        | inr k ↦ elim k [ inl f ↦ inr (e, sym f) | inr g ↦ absurd g ]
      ])
      | inr n ↦ inl (let R : List ℕ → Type 0 = λ l. Has l y in subst R (appended_away w s ch c n) m)
    ]

-- a slot that left its chain and was put behind the last one of another
pub moved : (w v w' : Chains) (s ch : ℕ) → AreSound w → s < slot_count w → ch < chain_count w → Detaches w v s → Appends v w' s ch → Moves w w' s ch
moved w v w' s ch sound hs hch u a = record {
  chains = a.size.first_length ∙ u.size.first_length;
  slots = a.size.next_length ∙ u.size.next_length;
  here = (appended_chain v w' s ch mid hs' hch' a ch hch').1 ∙ appended_here v s ch ch refl ∙ ap (λ l. l ++ s ∷ []) (detached_chain w v s sound hs u ch hch).1;
  others = λ c hc n. (appended_chain v w' s ch mid hs' hch' a c (still c hc)).1 ∙ appended_away v s ch c n ∙ (detached_chain w v s sound hs u c hc).1;
  marks = a.marks ∙ ap (λ l. slice_set l s ch) u.chain;
}
  where
    mid : AreSoundBut v s
    mid = detached_sound w v s sound hs u

    hs' : s < slot_count v
    hs' = let e = u.size.next_length in omega arith

    hch' : ch < chain_count v
    hch' = let e = u.size.first_length in omega arith

    still : (c : ℕ) → c < chain_count w → c < chain_count v
    still c hc = let e = u.size.first_length in omega arith

-- a slot is not the last one of a chain that it isn't in
pub not_last : (w : Chains) (s ch : ℕ) → AreSoundBut w s → s < slot_count w → ch < chain_count w → s ≢ slice_index w.last.items ch
not_last w s ch sound hs hch e =
    elim (last_place w sound.links ch hch) [
      | inl f ↦ not_end w sound.links s hs (e ∙ f)
      | inr k ↦ sound.absent ch hch (let P : ℕ → Type 0 = λ v. Has (slots_in w ch) v in subst P (sym e) k)
    ]

-- the writes of `append`
pub appends_made : (w w' : Chains) (s ch q : ℕ) (n1 : List ℕ) → AreSoundBut w s → s < slot_count w → ch < chain_count w → KeepsSize w w'
    → q ≡ slice_index w.last.items ch → n1 ≡ slice_set w.next.items s END
    → follow w'.first.items w'.next.items ch q ≡ s
    → ((c x : ℕ) → x ≢ q → follow w'.first.items w'.next.items c x ≡ follow w.first.items n1 c x)
    → ((c : ℕ) → c ≢ ch → q ≡ END → follow w'.first.items w'.next.items c END ≡ follow w.first.items n1 c END)
    → w'.previous.items ≡ slice_set w.previous.items s q
    → w'.last.items ≡ slice_set w.last.items ch s
    → w'.chain.items ≡ slice_set w.chain.items s ch
    → w'.count.items ≡ slice_set w.count.items ch (slice_index w.count.items ch + 1)
    → Appends w w' s ch
appends_made w w' s ch q n1 sound hs hch size q_is n1_is here same apart previous last marks count = record {
  size = size;
  next_slot = same ch s (λ e. not_last w s ch sound hs hch (e ∙ q_is)) ∙ slot_link w.first.items n1 ch s s_end ∙ ap (λ l. slice_index l s) n1_is ∙ get_or-set_same w.next.items s END 0 hs;
  next_last = ap (next_in w' ch) (sym q_is) ∙ here;
  next_same = λ c x m n. same c x (λ e. n (e ∙ q_is)) ∙ ap (λ l. follow w.first.items l c x) n1_is ∙ ap (cond (nat_eq x END) (slice_index w.first.items c)) (get_or-set_other w.next.items s x END 0 m);
  next_apart = λ c n e. apart c n (q_is ∙ e);
  previous_slot = slot_link w'.last.items w'.previous.items ch s s_end ∙ ap (λ l. slice_index l s) previous ∙ get_or-set_same w.previous.items s q 0 (let a = sound.links.previous_length in omega arith) ∙ q_is;
  previous_end = ap (λ l. slice_index l ch) last ∙ get_or-set_same w.last.items ch s 0 (let a = sound.links.last_length in omega arith);
  previous_same = λ c x m n. slot_link w'.last.items w'.previous.items c x n ∙ ap (λ l. slice_index l x) previous ∙ get_or-set_other w.previous.items s x q 0 m ∙ sym (slot_link w.last.items w.previous.items c x n);
  previous_apart = λ c n. ap (λ l. slice_index l c) last ∙ get_or-set_other w.last.items ch c s 0 n;
  marks = marks;
  count = count;
}
  where
    s_end : s ≢ END
    s_end = not_end w sound.links s hs

-- a chain of which each link is as it was
pub kept_chain : (w w' : Chains) → AreLinked w → Extends w w' → (c : ℕ) → c < chain_count w
    → Linked (next_in w' c) (previous_in w' c) END (slots_in w c) END × (slots_in w' c ≡ slots_in w c)
kept_chain w w' links x c hc = (here, relisted w' c (slots_in w c) here (x.count c hc ∙ sym (counted w c)))
  where
    next_kept : (y : ℕ) → (y ≡ END) ⊎ Has (slots_in w c) y → next_in w' c y ≡ next_in w c y
    next_kept y m = elim m [
      | inl e ↦ (let P : ℕ → Type 0 = λ v. next_in w' c v ≡ next_in w c v in subst P (sym e) (x.first c hc))
      | inr k ↦ (let inside = links.within c y hc k in let n = not_end w links y inside in
          slot_link w'.first.items w'.next.items c y n ∙ x.next y inside ∙ sym (slot_link w.first.items w.next.items c y n))
    ]

    previous_kept : (y : ℕ) → (y ≡ END) ⊎ Has (slots_in w c) y → previous_in w' c y ≡ previous_in w c y
    previous_kept y m = elim m [
      | inl e ↦ (let P : ℕ → Type 0 = λ v. previous_in w' c v ≡ previous_in w c v in subst P (sym e) (x.last c hc))
      | inr k ↦ (let inside = links.within c y hc k in let n = not_end w links y inside in
          slot_link w'.last.items w'.previous.items c y n ∙ x.previous y inside ∙ sym (slot_link w.last.items w.previous.items c y n))
    ]

    here : Linked (next_in w' c) (previous_in w' c) END (slots_in w c) END
    here = linked-frame (next_in w c) (previous_in w c) (next_in w' c) (previous_in w' c) END (slots_in w c) END next_kept previous_kept (links.linked c hc)

-- more chains, which are empty, and more slots, which are in no chain
pub extended_linked : (w w' : Chains) → AreLinked w → Extends w w'
    → slot_count w ≤ slot_count w' → slot_count w' ≤ END
    → length w'.last.items ≡ chain_count w' → length w'.count.items ≡ chain_count w'
    → length w'.previous.items ≡ slot_count w' → length w'.chain.items ≡ slot_count w'
    → ((c : ℕ) → chain_count w ≤ c → c < chain_count w' → Linked (next_in w' c) (previous_in w' c) END [] END × (slots_in w' c ≡ []))
    → AreLinked w'
extended_linked w w' links x more fit l1 l2 l3 l4 fresh = record {
  last_length = l1;
  count_length = l2;
  previous_length = l3;
  chain_length = l4;
  slots_fit = fit;
  linked = λ c h. elim (place c) [
    | inl old ↦ (let r = kept_chain w w' links x c old in let P : List ℕ → Type 0 = λ l. Linked (next_in w' c) (previous_in w' c) END l END in subst P (sym r.1) r.0)
    | inr new ↦ (let r = fresh c new h in let P : List ℕ → Type 0 = λ l. Linked (next_in w' c) (previous_in w' c) END l END in subst P (sym r.1) r.0)
  ];
  within = λ c s h m. elim (place c) [
    | inl old ↦ (let k = links.within c s old (was c s old m) in omega (arith, k, more))
    | inr new ↦ absurd (none c s new h m)
  ];
  marked = λ c s h m. elim (place c) [
    | inl old ↦ x.marks s (links.within c s old (was c s old m)) ∙ links.marked c s old (was c s old m)
    | inr new ↦ absurd (none c s new h m)
  ];
}
  where
    place : (c : ℕ) → (c < chain_count w) ⊎ (chain_count w ≤ c)
    place c = cases_lt c (chain_count w)

    was : (c s : ℕ) → c < chain_count w → Has (slots_in w' c) s → Has (slots_in w c) s
    was c s old m = let P : List ℕ → Type 0 = λ l. Has l s in subst P (kept_chain w w' links x c old).1 m

    none : (c s : ℕ) → chain_count w ≤ c → c < chain_count w' → Has (slots_in w' c) s → ⊥
    none c s new h m = let P : List ℕ → Type 0 = λ l. Has l s in subst P (fresh c new h).1 m

-- the element behind a list
pub behind : (xs : List ℕ) (y i : ℕ) → i ≡ length xs → get_or (xs ++ y ∷ []) i 0 ≡ y
behind xs y i e = ap (λ k. get_or (xs ++ y ∷ []) k 0) (let f : i ≡ length xs + 0 = omega arith in f) ∙ get_or-append-add xs (y ∷ []) 0 0

pub sum-push : (xs : List ℕ) (y : ℕ) → sum (xs ++ y ∷ []) ≡ sum xs + y
sum-push xs y = sum_by-append (λ x. x) xs (y ∷ []) ∙ (let P : ℕ → Type 0 = λ v. sum xs + v ≡ sum xs + y in subst P (sym (let f : sum (y ∷ []) ≡ y = sum_one in f)) refl)
  where
    sum_one : sum (y ∷ []) ≡ y
    sum_one = omega arith

pub chain_added_extends : (w w' : Chains) → AreLinked w → w'.first.items ≡ w.first.items ++ END ∷ [] → w'.last.items ≡ w.last.items ++ END ∷ [] → w'.count.items ≡ w.count.items ++ 0 ∷ []
    → w'.next.items ≡ w.next.items → w'.previous.items ≡ w.previous.items → w'.chain.items ≡ w.chain.items → Extends w w'
chain_added_extends w w' links f l k n p m = record {
  first = λ c h. ap (λ xs. slice_index xs c) f ∙ get_or_append_left w.first.items (END ∷ []) 0 c h;
  last = λ c h. ap (λ xs. slice_index xs c) l ∙ get_or_append_left w.last.items (END ∷ []) 0 c (let e = links.last_length in omega arith);
  count = λ c h. ap (λ xs. slice_index xs c) k ∙ get_or_append_left w.count.items (0 ∷ []) 0 c (let e = links.count_length in omega arith);
  next = λ s h. ap (λ xs. slice_index xs s) n;
  previous = λ s h. ap (λ xs. slice_index xs s) p;
  marks = λ s h. ap (λ xs. slice_index xs s) m;
}

pub slot_pushed_extends : (w w' : Chains) → AreLinked w → w'.first.items ≡ w.first.items → w'.last.items ≡ w.last.items → w'.count.items ≡ w.count.items
    → w'.next.items ≡ w.next.items ++ END ∷ [] → w'.previous.items ≡ w.previous.items ++ END ∷ [] → w'.chain.items ≡ w.chain.items ++ 0 ∷ [] → Extends w w'
slot_pushed_extends w w' links f l k n p m = record {
  first = λ c h. ap (λ xs. slice_index xs c) f;
  last = λ c h. ap (λ xs. slice_index xs c) l;
  count = λ c h. ap (λ xs. slice_index xs c) k;
  next = λ s h. ap (λ xs. slice_index xs s) n ∙ get_or_append_left w.next.items (END ∷ []) 0 s h;
  previous = λ s h. ap (λ xs. slice_index xs s) p ∙ get_or_append_left w.previous.items (END ∷ []) 0 s (let e = links.previous_length in omega arith);
  marks = λ s h. ap (λ xs. slice_index xs s) m ∙ get_or_append_left w.chain.items (0 ∷ []) 0 s (let e = links.chain_length in omega arith);
}

-- chains that grew by empty ones, over the same slots
pub grown_sound : (w w' : Chains) → AreSound w → Extends w w' → chain_count w ≤ chain_count w' → slot_count w' ≡ slot_count w
    → length w'.last.items ≡ chain_count w' → length w'.count.items ≡ chain_count w'
    → length w'.previous.items ≡ slot_count w' → length w'.chain.items ≡ slot_count w'
    → ((c : ℕ) → chain_count w ≤ c → c < chain_count w' → Linked (next_in w' c) (previous_in w' c) END [] END × (slots_in w' c ≡ []))
    → sum w'.count.items ≡ sum w.count.items
    → AreSound w'
grown_sound w w' sound x more same l1 l2 l3 l4 fresh total = record {
  links = extended_linked w w' sound.links x (omega arith) (let a = sound.links.slots_fit in omega arith) l1 l2 l3 l4 fresh;
  range = λ s h. (let e = x.marks s (known s h) in let k = sound.range s (known s h) in omega arith);
  placed = λ s h. (let P : ℕ → Type 0 = λ c. Has (slots_in w' c) s in subst P (sym (x.marks s (known s h)))
      (let Q : List ℕ → Type 0 = λ l. Has l s in subst Q (sym (kept_chain w w' sound.links x (chain_of w s) (sound.range s (known s h))).1) (sound.placed s (known s h))));
  total = total ∙ sound.total ∙ sym same;
}
  where
    known : (s : ℕ) → s < slot_count w' → s < slot_count w
    known s h = omega arith

pub chain_added : (w w' : Chains) → AreSound w → w'.first.items ≡ w.first.items ++ END ∷ [] → w'.last.items ≡ w.last.items ++ END ∷ [] → w'.count.items ≡ w.count.items ++ 0 ∷ []
    → w'.next.items ≡ w.next.items → w'.previous.items ≡ w.previous.items → w'.chain.items ≡ w.chain.items → AreSound w' × AddsChain w w'
chain_added w w' sound f l k n p m = (
  grown_sound w w' sound x (omega (arith, longer)) (ap length n)
      (ap length l ∙ length-append w.last.items (END ∷ []) ∙ (let a = sound.links.last_length in omega (arith, longer)))
      (ap length k ∙ length-append w.count.items (0 ∷ []) ∙ (let a = sound.links.count_length in omega (arith, longer)))
      (ap length p ∙ sound.links.previous_length ∙ sym (ap length n)) (ap length m ∙ sound.links.chain_length ∙ sym (ap length n))
      (λ c a b. fresh c (let e = longer in omega arith)) (ap sum k ∙ sum-push w.count.items 0 ∙ omega arith),
  record {
    chains = longer;
    slots = ap length n;
    lists = λ c h. (kept_chain w w' sound.links x c h).1;
    added = (fresh (chain_count w) refl).1;
    marks = m;
  },
)
  where
    x : Extends w w'
    x = chain_added_extends w w' sound.links f l k n p m

    longer : chain_count w' ≡ chain_count w + 1
    longer = ap length f ∙ length-append w.first.items (END ∷ [])

    fresh : (c : ℕ) → c ≡ chain_count w → Linked (next_in w' c) (previous_in w' c) END [] END × (slots_in w' c ≡ [])
    fresh c e =
        let here : Linked (next_in w' c) (previous_in w' c) END [] END = (
          ap (λ xs. slice_index xs c) f ∙ behind w.first.items END c e,
          ap (λ xs. slice_index xs c) l ∙ behind w.last.items END c (let a = sound.links.last_length in omega arith),
        ) in
        (here, relisted w' c [] here (ap (λ xs. slice_index xs c) k ∙ behind w.count.items 0 c (let a = sound.links.count_length in omega arith)))

-- a new slot, which is in no chain yet
pub slot_pushed : (w w' : Chains) → AreSound w → slot_count w < END → 0 < chain_count w → w'.first.items ≡ w.first.items → w'.last.items ≡ w.last.items → w'.count.items ≡ w.count.items
    → w'.next.items ≡ w.next.items ++ END ∷ [] → w'.previous.items ≡ w.previous.items ++ END ∷ [] → w'.chain.items ≡ w.chain.items ++ 0 ∷ [] → AreSoundBut w' (slot_count w)
slot_pushed w w' sound room some f l k n p m = record {
  links = extended_linked w w' sound.links x (omega (arith, longer)) (let e = longer in omega arith)
      (ap length l ∙ sound.links.last_length ∙ sym (ap length f)) (ap length k ∙ sound.links.count_length ∙ sym (ap length f))
      (ap length p ∙ length-append w.previous.items (END ∷ []) ∙ (let a = sound.links.previous_length in omega (arith, longer)))
      (ap length m ∙ length-append w.chain.items (0 ∷ []) ∙ (let a = sound.links.chain_length in omega (arith, longer)))
      (λ c a b. absurd (let e = ap length f in omega arith));
  range = λ s h. elim (cases_eq s (slot_count w)) [
    | inl e ↦ (let g = mark s e in let d = ap length f in omega arith)
    | inr o ↦ (let e = x.marks s (known s h o) in let g = sound.range s (known s h o) in let d = ap length f in omega arith)
  ];
  placed = λ s h o. (let P : ℕ → Type 0 = λ c. Has (slots_in w' c) s in subst P (sym (x.marks s (known s h o)))
      (let Q : List ℕ → Type 0 = λ l. Has l s in subst Q (sym (kept_chain w w' sound.links x (chain_of w s) (sound.range s (known s h o))).1) (sound.placed s (known s h o))));
  absent = λ c h a. (let hc : c < chain_count w = (let d = ap length f in omega arith) in
      let Q : List ℕ → Type 0 = λ l. Has l (slot_count w) in
      let g = sound.links.within c (slot_count w) hc (subst Q (kept_chain w w' sound.links x c hc).1 a) in omega arith);
  total = (let a = ap sum k in let b = sound.total in omega (arith, a, b, longer));
}
  where
    x : Extends w w'
    x = slot_pushed_extends w w' sound.links f l k n p m

    longer : slot_count w' ≡ slot_count w + 1
    longer = ap length n ∙ length-append w.next.items (END ∷ [])

    known : (s : ℕ) → s < slot_count w' → s ≢ slot_count w → s < slot_count w
    known s h o = let e = longer in omega arith

    mark : (s : ℕ) → s ≡ slot_count w → slice_index w'.chain.items s ≡ 0
    mark s e = ap (λ xs. slice_index xs s) m ∙ behind w.chain.items 0 s (let a = sound.links.chain_length in omega arith)

pub slot_added : (w v w' : Chains) → AreSound w → slot_count w < END → 0 < chain_count w → v.first.items ≡ w.first.items → v.last.items ≡ w.last.items → v.count.items ≡ w.count.items
    → v.next.items ≡ w.next.items ++ END ∷ [] → v.previous.items ≡ w.previous.items ++ END ∷ [] → v.chain.items ≡ w.chain.items ++ 0 ∷ []
    → Appends v w' (slot_count w) 0 → AreSound w' × AddsSlot w w'
slot_added w v w' sound room some f l k n p m u = (
  appended_sound v w' (slot_count w) 0 mid in_v some_v u,
  record {
    chains = u.size.first_length ∙ ap length f;
    slots = u.size.next_length ∙ longer;
    free = (appended_chain v w' (slot_count w) 0 mid in_v some_v u 0 some_v).1 ∙ appended_here v (slot_count w) 0 0 refl ∙ ap (λ l. l ++ slot_count w ∷ []) (kept_chain w v sound.links x 0 some).1;
    lists = λ c hc o. (appended_chain v w' (slot_count w) 0 mid in_v some_v u c (still c hc)).1 ∙ appended_away v (slot_count w) 0 c o ∙ (kept_chain w v sound.links x c hc).1;
    marks = λ s hs. ap (λ l. slice_index l s) u.marks ∙ get_or-set_other v.chain.items (slot_count w) s 0 0 (λ e. (let z : ⊥ = omega arith in z)) ∙ x.marks s hs;
    mark = ap (λ l. slice_index l (slot_count w)) u.marks ∙ get_or-set_same v.chain.items (slot_count w) 0 0 (let a = mid.links.chain_length in omega (arith, longer));
  },
)
  where
    x : Extends w v
    x = slot_pushed_extends w v sound.links f l k n p m

    mid : AreSoundBut v (slot_count w)
    mid = slot_pushed w v sound room some f l k n p m

    longer : slot_count v ≡ slot_count w + 1
    longer = ap length n ∙ length-append w.next.items (END ∷ [])

    in_v : slot_count w < slot_count v
    in_v = let e = longer in omega arith

    some_v : 0 < chain_count v
    some_v = let e = ap length f in omega arith

    still : (c : ℕ) → c < chain_count w → c < chain_count v
    still c hc = let e = ap length f in omega arith

pub first_of : (w : Chains) → AreSound w → (c : ℕ) → c < chain_count w → slice_get (slots_in w c) 0 ≡ cond (nat_eq (slice_index w.first.items c) END) None (Some (slice_index w.first.items c))
first_of w sound c h = first-linked (next_in w c) (previous_in w c) END (slots_in w c) END (sound.links.linked c h) (end_absent w sound.links c h)

pub next_of : (w : Chains) → AreSound w → (s : ℕ) → s < slot_count w → after s (slots_in w (chain_of w s)) ≡ cond (nat_eq (slice_index w.next.items s) END) None (Some (slice_index w.next.items s))
next_of w sound s h =
    after-linked (next_in w (chain_of w s)) (previous_in w (chain_of w s)) END (slots_in w (chain_of w s)) END s
    (sound.links.linked (chain_of w s) (sound.range s h)) (end_absent w sound.links (chain_of w s) (sound.range s h)) (sound.placed s h)
    ∙ ap (λ v. cond (nat_eq v END) None (Some v)) (slot_link w.first.items w.next.items (chain_of w s) s (not_end w sound.links s h))

pub slot_pushed_at : (w w' : Chains) (s : ℕ) → s ≡ slot_count w → AreSound w → slot_count w < END → 0 < chain_count w → w'.first.items ≡ w.first.items → w'.last.items ≡ w.last.items → w'.count.items ≡ w.count.items
    → w'.next.items ≡ w.next.items ++ END ∷ [] → w'.previous.items ≡ w.previous.items ++ END ∷ [] → w'.chain.items ≡ w.chain.items ++ 0 ∷ [] → AreSoundBut w' s
slot_pushed_at w w' s e sound room some f l k n p m =
    let P : ℕ → Type 0 = λ v. AreSoundBut w' v in subst P (sym e) (slot_pushed w w' sound room some f l k n p m)

pub slot_added_at : (w v w' : Chains) (s : ℕ) → s ≡ slot_count w → AreSound w → slot_count w < END → 0 < chain_count w → v.first.items ≡ w.first.items → v.last.items ≡ w.last.items → v.count.items ≡ w.count.items
    → v.next.items ≡ w.next.items ++ END ∷ [] → v.previous.items ≡ w.previous.items ++ END ∷ [] → v.chain.items ≡ w.chain.items ++ 0 ∷ []
    → Appends v w' s 0 → AreSound w' × AddsSlot w w'
slot_added_at w v w' s e sound room some f l k n p m u =
    slot_added w v w' sound room some f l k n p m (let P : ℕ → Type 0 = λ y. Appends v w' y 0 in subst P e u)
