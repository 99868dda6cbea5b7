-- A fault behind what is spelled is the fault of the whole.
use Rattle.std.proofs.Common.{◌≡◌, ℕ, zero, suc, ◌+◌, ◌-◌, ◌*◌, ◌/◌, ◌%◌, ◌^◌, ◌<◌, ℤ, pos, neg_ℤ, true, false, List, [], ◌∷◌, ◌++◌, length, Err, refl, sym, ap, ◌∙◌, append_assoc, arith, inl, inr, eqb, eq-eqb, ne_eqb}
use Rattle.std.proofs.lemmas.List.{length-append}
use Rattle.avro_value.specs.declared.fault.FaultAt.{FaultAt}
use Rattle.avro_value.specs.declared.fault.Fault.{Fault}
use Rattle.avro_value.specs.declared.fault.Fault.TheVariants.{BadLength}
use Rattle.avro_value.specs.Varint.{zigzag_value, Long}
use Rattle.avro_value.specs.ValueTree.{total}
use Rattle.avro_value.specs.Spelling.{Spelling, Concatenated}
use Rattle.avro_value.specs.Faults.{LacksItem, LacksVarint, LacksCount, FaultRelation, FaultsAtFront, FaultsInMany, Count, NegativeCount, MisstatesSize, FaultsInBlock, FaultsInBlocks, FaultsInSomeBlock}
use Rattle.avro_value.specs.Reading.{Item, Reader, item_reading, item_at, fault_at, varint_at, many_at, block_at, sized_at, block_ends, one_block_at, blocks_at, all_blocks_at}
use Rattle.avro_value.proofs.NumberLaws.{even_signed}
use Rattle.avro_value.proofs.ReaderLaws.{AgainBy, many_again}
use Rattle.avro_value.proofs.BlockLaws.{number_item_again, eqb_false, double_signed, negative_signed, block_len, one_again}
use Rattle.avro_value.proofs.FaultAgain.{RefusedAgain, number_refused}

abbrev pub FaultAgainBy : {A : Type 0} → Reader A → FaultRelation → Type 0
FaultAgainBy read F = (bytes : List ℕ) (budget : ℕ) (f : FaultAt) → F bytes budget f → read bytes budget ≡ Err f

pub same_fault : (bytes : List ℕ) (r : Fault) (f : FaultAt) → f.fault ≡ r → f.left ≡ length bytes → fault_at bytes r ≡ f
same_fault bytes r f e l = ap (λ (q : Fault). fault_at bytes q) (sym e) ∙ ap (λ (n : ℕ). record { fault = f.fault; left = n }) (sym l)

pub item_refused : {A : Type 0} (read : List ℕ → Item A) (N : LacksItem) → RefusedAgain read N → FaultAgainBy (item_at read) (FaultsAtFront N)
item_refused read N law bytes budget f h = ap (item_reading bytes budget) (law bytes f.fault h.0) ∙ ap Err (same_fault bytes f.fault f refl h.1)

many_refused_at : {A : Type 0} (read : Reader A) (P : Spelling A) (count : A → ℕ) (F : FaultRelation) → AgainBy read P count 0 → FaultAgainBy read F → (xs : List A) (n : ℕ) (front rest : List ℕ) (budget left : ℕ) (f : FaultAt) → length xs < n → Concatenated P xs front → left + total count xs ≡ budget → F rest left f
    → many_at read n (front ++ rest) budget ≡ Err f
unfolding many_at
many_refused_at read P count F again law xs zero front rest budget left f lt p e h = absurd (omega arith)
many_refused_at read P count F again law [] (suc n) front rest budget left f lt p e h =
    let same : budget ≡ left = omega arith in
    rw (p, same, law rest left f h) refl
many_refused_at read P count F again law (x ∷ xs) (suc n) front rest budget left f lt p e h =
    let parts : front ++ rest ≡ p.0 ++ (p.1 ++ rest) = ap (λ (b : List ℕ). b ++ rest) p.2 ∙ append_assoc p.0 p.1 rest in
    let one = again x p.0 (p.1 ++ rest) budget (left + total count xs) p.3 (omega arith) in
    let more = many_refused_at read P count F again law xs n p.1 rest (left + total count xs) left f (omega arith) p.4 refl h in
    rw (parts, one, more) refl

pub many_refused : {A : Type 0} (read : Reader A) (P : Spelling A) (count : A → ℕ) (F : FaultRelation) → AgainBy read P count 0 → FaultAgainBy read F → (n : ℕ) → FaultAgainBy (many_at read n) (FaultsInMany P count F n)
many_refused read P count F again law n bytes budget f m = rw m.4 (many_refused_at read P count F again law m.0 n m.1 m.2 budget m.3 f m.5.0 m.5.1 m.6 m.7)

-- ---- a block

-- what the first number of a block with a negative count is
record IsNegative (z n : ℕ) : Type 0 where
  pub some : eqb z 0 ≡ false
  pub odd : eqb (z % 2) 0 ≡ false
  pub count : z / 2 + 1 ≡ n

is_negative : (z n : ℕ) → 0 < n → neg_ℤ (pos n) ≡ zigzag_value z → IsNegative z n
is_negative z n low e =
    let neg = negative_signed z n low e in
    let odd = eqb_false (z % 2) 0 neg.0 in
    record { some = ne_eqb z 0 (λ h. absurd (odd (omega (arith, h)))); odd = neg.0; count = neg.1 }

not_last : (z n : ℕ) → z / 2 + 1 ≡ n → n < 2 ^ 63 → eqb z (2 ^ 64 - 1) ≡ false
not_last z n e h = ne_eqb z (2 ^ 64 - 1) (λ l. absurd (omega (arith, l, e, h)))

at_count : {A : Type 0} (read : Reader A) (bytes : List ℕ) (budget : ℕ) (f : FaultAt) → FaultsAtFront LacksCount bytes budget f → one_block_at read bytes budget ≡ Err f
unfolding one_block_at block_at
at_count read bytes budget f h = elim h.0 [
  | inl bare ↦ rw (item_refused varint_at LacksVarint number_refused bytes budget f (bare, h.1)) refl
  | inr last ↦
      (let b = last.1 in
      let l = b.3 in
      let neg = is_negative l.0 (2 ^ 63) (omega arith) l.1 in
      let odd = eqb_false (l.0 % 2) 0 neg.odd in
      let c = neg.count in
      let same : eqb l.0 (2 ^ 64 - 1) ≡ true = eq-eqb _ _ (omega (arith, odd, c)) in
      let fault : fault_at (b.0 ++ b.1) BadLength ≡ f = ap (λ (bs : List ℕ). fault_at bs BadLength) (sym b.2) ∙ same_fault bytes BadLength f last.0 h.1 in
      rw (b.2, number_item_again l.0 b.0 b.1 budget budget l.2 (omega arith), neg.some, neg.odd, same) (ap Err fault))
]

in_counted : {A : Type 0} (read : Reader A) (P : Spelling A) (count : A → ℕ) (F : FaultRelation) → AgainBy read P count 0 → FaultAgainBy read F → (n : ℕ) (bytes front rest : List ℕ) (budget : ℕ) (f : FaultAt) → bytes ≡ front ++ rest → Count n front → FaultsInMany P count F n rest budget f → one_block_at read bytes budget ≡ Err f
unfolding one_block_at block_at
in_counted read P count F again law n bytes front rest budget f parts c m =
    let l = c.2 in
    let low = c.0 in
    let even = even_signed l.0 n l.1 in
    let half = even.1 in
    let some : eqb l.0 0 ≡ false = ne_eqb l.0 0 (λ h. absurd (omega (arith, half, low, h))) in
    rw (parts, number_item_again l.0 front rest budget budget l.2 (omega arith), some, even.0, half, many_refused read P count F again law n rest budget f m) refl

at_size : {A : Type 0} (read : Reader A) (n : ℕ) (bytes front rest : List ℕ) (budget : ℕ) (f : FaultAt) → bytes ≡ front ++ rest → NegativeCount n front → FaultsAtFront LacksVarint rest budget f → one_block_at read bytes budget ≡ Err f
unfolding one_block_at block_at sized_at
at_size read n bytes front rest budget f parts c h =
    let l = c.2 in
    let neg = is_negative l.0 n c.0 l.1 in
    rw (parts, number_item_again l.0 front rest budget budget l.2 (omega arith), neg.some, neg.odd, not_last l.0 n neg.count c.1, item_refused varint_at LacksVarint number_refused rest budget f h) refl

in_sized : {A : Type 0} (read : Reader A) (P : Spelling A) (count : A → ℕ) (F : FaultRelation) → AgainBy read P count 0 → FaultAgainBy read F → (n : ℕ) (bytes front sizes rest : List ℕ) (z : ℤ) (budget : ℕ) (f : FaultAt) → bytes ≡ front ++ (sizes ++ rest) → NegativeCount n front → Long z sizes → FaultsInMany P count F n rest budget f → one_block_at read bytes budget ≡ Err f
unfolding one_block_at block_at sized_at
in_sized read P count F again law n bytes front sizes rest z budget f parts c s m =
    let l = c.2 in
    let neg = is_negative l.0 n c.0 l.1 in
    rw (parts, number_item_again l.0 front (sizes ++ rest) budget budget l.2 (omega arith), neg.some, neg.odd, not_last l.0 n neg.count c.1, number_item_again s.0 sizes rest budget budget s.2 (omega arith), neg.count, many_refused read P count F again law n rest budget f m) refl

at_bad_size : {A : Type 0} (read : Reader A) (P : Spelling A) (count : A → ℕ) → AgainBy read P count 0 → (bytes : List ℕ) (budget : ℕ) (f : FaultAt) → MisstatesSize P count bytes budget f → one_block_at read bytes budget ≡ Err f
unfolding one_block_at block_at sized_at block_ends
at_bad_size read P count again bytes budget f b =
    let xs = b.0 in
    let head = b.1 in
    let sizes = b.2 in
    let items = b.3 in
    let rest = b.4 in
    let left = b.6 in
    let c = b.8 in
    let l = c.2 in
    let s = b.9 in
    let neg = is_negative l.0 (length xs) c.0 l.1 in
    let many = many_again read P count again xs items rest budget left b.11 b.12 in
    let other : eqb s.0 (2 * (length (items ++ rest) - length rest)) ≡ false = ne_eqb _ _ (λ h. b.10 (s.1 ∙ sym (double_signed s.0 (length items) (omega (arith, h, length-append items rest))))) in
    let fault : fault_at (sizes ++ (items ++ rest)) BadLength ≡ f = same_fault (sizes ++ (items ++ rest)) BadLength f b.13 b.14 in
    rw (b.7, number_item_again l.0 head (sizes ++ (items ++ rest)) budget budget l.2 (omega arith), neg.some, neg.odd, not_last l.0 (length xs) neg.count c.1, number_item_again s.0 sizes (items ++ rest) budget budget s.2 (omega arith), neg.count, many, other) (ap Err fault)

one_refused : {A : Type 0} (read : Reader A) (P : Spelling A) (count : A → ℕ) (F : FaultRelation) → AgainBy read P count 0 → FaultAgainBy read F → FaultAgainBy (one_block_at read) (FaultsInBlock P count F)
one_refused read P count F again law bytes budget f h = elim h [
  | inl a ↦ at_count read bytes budget f a
  | inr (inl a) ↦ in_counted read P count F again law a.0 bytes a.1 a.2 budget f a.3 a.4 a.5
  | inr (inr (inl a)) ↦ at_size read a.0 bytes a.1 a.2 budget f a.3 a.4 a.5
  | inr (inr (inr (inl a))) ↦ in_sized read P count F again law a.0 bytes a.1 a.2 a.3 a.4 budget f a.5 a.6 a.7 a.8
  | inr (inr (inr (inr a))) ↦ at_bad_size read P count again bytes budget f a
]

blocks_refused : {A : Type 0} (read : Reader A) (P : Spelling A) (count : A → ℕ) (F : FaultRelation) → AgainBy read P count 0 → FaultAgainBy read F → (n fuel : ℕ) (bytes : List ℕ) (budget : ℕ) (f : FaultAt) → length bytes < fuel → FaultsInBlocks P count F n bytes budget f → blocks_at read fuel bytes budget ≡ Err f
unfolding blocks_at
blocks_refused read P count F again law n zero bytes budget f lt h = absurd (omega arith)
blocks_refused read P count F again law zero (suc fuel) bytes budget f lt h = absurd h
blocks_refused read P count F again law (suc n) (suc fuel) bytes budget f lt h = elim h [
  | inl here ↦ rw (one_refused read P count F again law bytes budget f here) refl
  | inr b ↦
      (let some = block_len P b.0 b.1 b.5 in
      let len : length bytes ≡ length b.1 + length b.2 = ap length b.4 ∙ length-append b.1 b.2 in
      let one = one_again read P count again b.0 b.1 b.2 budget b.3 b.5 b.6 in
      let more = blocks_refused read P count F again law n fuel b.2 b.3 f (omega (arith, some, len, lt)) b.7 in
      rw (b.4, one, more) refl)
]

pub all_blocks_refused : {A : Type 0} (read : Reader A) (P : Spelling A) (count : A → ℕ) (F : FaultRelation) → AgainBy read P count 0 → FaultAgainBy read F → FaultAgainBy (all_blocks_at read) (FaultsInSomeBlock P count F)
unfolding all_blocks_at
all_blocks_refused read P count F again law bytes budget f h = blocks_refused read P count F again law h.0 (length bytes + 1) bytes budget f (omega arith) h.1
