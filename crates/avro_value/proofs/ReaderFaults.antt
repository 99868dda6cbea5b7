-- Which item is at fault where several readers in a row refuse.
use Rattle.std.proofs.Common.{◌≡◌, ℕ, zero, suc, ◌+◌, ◌-◌, ◌*◌, ◌/◌, ◌%◌, ◌^◌, ◌<◌, ◌≤◌, pos, neg_ℤ, Bool, true, false, cond, List, [], ◌∷◌, ◌++◌, length, Option, Some, None, Ok, Err, refl, sym, ap, subst, ◌∙◌, append_assoc, arith, inl, inr, eqb}
use Rattle.std.proofs.lemmas.Bool.{eqb-true}
use Rattle.std.proofs.lemmas.List.{length-append}
use Rattle.avro_value.specs.declared.fault.FaultAt.{FaultAt}
use Rattle.avro_value.specs.declared.fault.Fault.TheVariants.{BadLength}
use Rattle.avro_value.specs.declared.input.BlockHead.{BlockHead as Head}
use Rattle.avro_value.specs.declared.input.BlockSize.{BlockSize}
use Rattle.avro_value.specs.Varint.{Varint, zigzag_value, Long}
use Rattle.avro_value.specs.Spelling.{Spelling}
use Rattle.avro_value.specs.Faults.{LacksItem, LacksVarint, FaultRelation, FaultsAtFront, FaultsInMany, FaultsInBlock, FaultsInBlocks, FaultsInSomeBlock}
use Rattle.lake_basics.specs.Outcome.{◌>>=◌}
use Rattle.avro_value.specs.Reading.{Item, Read, Reader, item_reading, item_at, fault_at, map_reading, varint_at, many_at, block_at, sized_at, block_ends, one_block_at, blocks_at, all_blocks_at}
use Rattle.avro_value.proofs.NumberLaws.{even_signed}
use Rattle.avro_value.proofs.ReaderLaws.{TakesBy, many_takes}
use Rattle.avro_value.proofs.BlockLaws.{HeadTaken, after_head, after_block, OneTaken, block_takes, one_takes, eqb_false, odd_signed, number_item, block_len}
use Rattle.avro_value.proofs.FaultLaws.{bind_err, err_is, test_ok, Refuses, number_refuses}

pub record FaultBy (F : FaultRelation) (bytes : List ℕ) (budget : ℕ) (f : FaultAt) : Type 0 where
  pub within : f.left ≤ length bytes
  pub fault : F bytes budget f

abbrev pub FaultsBy : {A : Type 0} → Reader A → FaultRelation → Type 0
FaultsBy read F = (bytes : List ℕ) (budget : ℕ) (f : FaultAt) → read bytes budget ≡ Err f → FaultBy F bytes budget f

placed_faults : {A : Type 0} (read : List ℕ → Item A) (N : LacksItem) → Refuses read N → (bytes : List ℕ) (budget : ℕ) (r : Item A) (f : FaultAt) → read bytes ≡ r → item_reading bytes budget r ≡ Err f → FaultBy (FaultsAtFront N) bytes budget f
placed_faults read N law bytes budget (Ok x) f is e = absurd cc
placed_faults read N law bytes budget (Err r) f is e = subst (λ (g : FaultAt). FaultBy (FaultsAtFront N) bytes budget g) (err_is (fault_at bytes r) f e) (record { within = omega arith; fault = (law bytes r is, refl) })

pub item_faults : {A : Type 0} (read : List ℕ → Item A) (N : LacksItem) → Refuses read N → FaultsBy (item_at read) (FaultsAtFront N)
item_faults read N law bytes budget f e = placed_faults read N law bytes budget (read bytes) f refl e

pub mapped_err : {A B : Type 0} (g : A → B) (r : Read A) (f : FaultAt) → map_reading g r ≡ Err f → r ≡ Err f
mapped_err g (Ok x) f e = absurd cc
mapped_err g (Err c) f e = let h : c ≡ f = cc in ap Err h

-- ---- many

behind_one : {A : Type 0} (P : Spelling A) (count : A → ℕ) (F : FaultRelation) (n : ℕ) (bytes : List ℕ) (budget : ℕ) (x : A) (front rest : List ℕ) (left : ℕ) (f : FaultAt) → bytes ≡ front ++ rest → P x front → left + count x ≡ budget
    → FaultBy (FaultsInMany P count F n) rest left f → FaultBy (FaultsInMany P count F (suc n)) bytes budget f
behind_one P count F n bytes budget x front rest left f parts p c t =
    let m = t.fault in
    let low = t.within in
    let lt = m.5.0 in
    let c1 = m.6 in
    record {
      within = omega (arith, ap length parts, length-append front rest, low);
      fault = (x ∷ m.0, front ++ m.1, m.2, m.3, parts ∙ ap (λ (r : List ℕ). front ++ r) m.4 ∙ sym (append_assoc front m.1 m.2), (omega (arith, lt), (front, m.1, refl, p, m.5.1)), omega (arith, c, c1), m.7);
    }

pub many_faults : {A : Type 0} (read : Reader A) (P : Spelling A) (count : A → ℕ) (F : FaultRelation) → TakesBy read P count 0 → FaultsBy read F → (n : ℕ) → FaultsBy (many_at read n) (FaultsInMany P count F n)
unfolding many_at
many_faults read P count F takes law zero bytes budget f e = absurd cc
many_faults read P count F takes law (suc n) bytes budget f e = elim (bind_err (read bytes budget) (λ y. many_at read n y.1 y.2 >>= λ ys. Ok (y.0 ∷ ys.0, ys.1, ys.2)) f e) [
  | inl failed ↦
      (let h = law bytes budget f failed in
      record { within = h.within; fault = ([], [], bytes, budget, refl, (omega arith, refl), omega arith, h.fault) })
  | inr done ↦
      (let t = takes bytes budget done.0 done.1 in
      let c = t.counted in
      elim (bind_err (many_at read n done.0.1 done.0.2) (λ ys. Ok (done.0.0 ∷ ys.0, ys.1, ys.2)) f done.2) [
        | inl failed ↦ behind_one P count F n bytes budget done.0.0 t.front done.0.1 done.0.2 f t.parts t.spelled (omega (arith, c)) (many_faults read P count F takes law n done.0.1 done.0.2 f failed)
        | inr more ↦ absurd (let m = more.2 in cc)
      ])
]

-- ---- a block

-- the number of 64 bits whose absolute value isn't one
last_signed : (z : ℕ) → z ≡ 2 ^ 64 - 1 → neg_ℤ (pos (2 ^ 63)) ≡ zigzag_value z
last_signed z e = rw e refl

sized_faults : {A : Type 0} (P : Spelling A) (count : A → ℕ) (F : FaultRelation) (z : ℕ) (bytes after front : List ℕ) (budget : ℕ) (f : FaultAt) → bytes ≡ front ++ after → Varint z front → eqb (z % 2) 0 ≡ false → z / 2 + 1 < 2 ^ 63
    → sized_at (z / 2 + 1) after budget ≡ Err f → FaultBy (FaultsInBlock P count F) bytes budget f
unfolding sized_at
sized_faults P count F z bytes after front budget f parts g odd small e =
    let head : ℕ × List ℕ × ℕ → Option Head × List ℕ × ℕ = λ size. (Some (record { count = z / 2 + 1; size = Some (record { spelled = size.0; left = length after; items = length size.1 }) }), size.1, size.2) in
    elim (bind_err (item_at varint_at after budget) (λ size. Ok (head size)) f e) [
      | inl failed ↦
          (let h = item_faults varint_at LacksVarint number_refuses after budget f failed in
          let w = h.within in
          record {
            within = omega (arith, ap length parts, length-append front after, w);
            fault = inr (inr (inl (z / 2 + 1, front, after, parts, (omega arith, small, (z, odd_signed z odd, g)), h.fault)));
          })
      | inr done ↦ absurd (let d = done.2 in cc)
    ]

block_faults_at : {A : Type 0} (P : Spelling A) (count : A → ℕ) (F : FaultRelation) (z : ℕ) (bytes front after : List ℕ) (budget : ℕ) (f : FaultAt) (b0 b1 b2 : Bool) → eqb z 0 ≡ b0 → eqb (z % 2) 0 ≡ b1 → eqb z (2 ^ 64 - 1) ≡ b2 → bytes ≡ front ++ after → Varint z front
    → ◌≡◌ {A = Read (Option Head)} (cond {A = Read (Option Head)} b0 (Ok (None, after, budget)) (cond {A = Read (Option Head)} b1 (Ok (Some (record { count = z / 2; size = None }), after, budget)) (cond {A = Read (Option Head)} b2 (Err (fault_at bytes BadLength)) (sized_at (z / 2 + 1) after budget)))) (Err f)
    → FaultBy (FaultsInBlock P count F) bytes budget f
block_faults_at P count F z bytes front after budget f true b1 b2 h0 h1 h2 parts g e = absurd cc
block_faults_at P count F z bytes front after budget f false true b2 h0 h1 h2 parts g e = absurd cc
block_faults_at P count F z bytes front after budget f false false true h0 h1 h2 parts g e =
    let last : z ≡ 2 ^ 64 - 1 = eqb-true _ _ h2 in
    subst (λ (h : FaultAt). FaultBy (FaultsInBlock P count F) bytes budget h) (err_is (fault_at bytes BadLength) f e)
    (record { within = omega arith; fault = inl (inr (refl, (front, after, parts, (z, last_signed z last, g))), refl) })
block_faults_at P count F z bytes front after budget f false false false h0 h1 h2 parts g e =
    let fits = g.fits in
    let odd = eqb_false (z % 2) 0 h1 in
    let last = eqb_false z (2 ^ 64 - 1) h2 in
    sized_faults P count F z bytes after front budget f parts g h1 (omega (arith, odd, last)) e

block_faults : {A : Type 0} (P : Spelling A) (count : A → ℕ) (F : FaultRelation) (bytes : List ℕ) (budget : ℕ) (f : FaultAt) → block_at bytes budget ≡ Err f → FaultBy (FaultsInBlock P count F) bytes budget f
unfolding block_at
block_faults P count F bytes budget f e = elim (bind_err (item_at varint_at bytes budget) (λ z. cond (eqb z.0 0) (Ok (None, z.1, z.2)) (cond (eqb (z.0 % 2) 0) (Ok (Some (record { count = z.0 / 2; size = None }), z.1, z.2)) (cond (eqb z.0 (2 ^ 64 - 1)) (Err (fault_at bytes BadLength)) (sized_at (z.0 / 2 + 1) z.1 z.2)))) f e) [
  | inl failed ↦
      (let h = item_faults varint_at LacksVarint number_refuses bytes budget f failed in
      record { within = h.within; fault = inl (inl h.fault.0, h.fault.1) })
  | inr done ↦
      (let t = number_item bytes budget done.0 done.1 in
      let c = t.counted in
      let same : done.0.2 ≡ budget = omega (arith, c) in
      subst (λ (r : ℕ). FaultBy (FaultsInBlock P count F) bytes r f) same (block_faults_at P count F done.0.0 bytes t.front done.0.1 done.0.2 f _ _ _ refl refl refl t.parts t.spelled done.2))
]

-- the items, or the size behind them
head_faults_some : {A : Type 0} (read : Reader A) (P : Spelling A) (count : A → ℕ) (F : FaultRelation) → TakesBy read P count 0 → FaultsBy read F → (bytes after : List ℕ) (budget : ℕ) (n : ℕ) (size : Option BlockSize) (f : FaultAt)
    → HeadTaken bytes (Some (record { count = n; size = size })) after
    → ◌≡◌ {A = Read (Option (List A))} (many_at read n after budget >>= λ xs. block_ends (record { count = n; size = size }) xs.1 >>= λ _. Ok (Some xs.0, xs.1, xs.2)) (Err f)
    → FaultBy (FaultsInBlock P count F) bytes budget f
unfolding block_ends
head_faults_some read P count F takes law bytes after budget n None f h e =
    let p = h.2 in
    elim (bind_err (many_at read n after budget) (λ xs. Ok (Some xs.0, xs.1, xs.2)) f e) [
      | inl failed ↦
          (let m = many_faults read P count F takes law n after budget f failed in
          let w = m.within in
          record {
            within = omega (arith, ap length p.1, length-append p.0 after, w);
            fault = inr (inl (n, p.0, after, p.1, (h.0, h.1, p.2), m.fault));
          })
      | inr done ↦ absurd (let d = done.2 in cc)
    ]
head_faults_some read P count F takes law bytes after budget n (Some size) f h e =
    let p = h.2 in
    elim (bind_err (many_at read n after budget) (λ xs. block_ends (record { count = n; size = Some size }) xs.1 >>= λ _. Ok (Some xs.0, xs.1, xs.2)) f e) [
      | inl failed ↦
          (let m = many_faults read P count F takes law n after budget f failed in
          let w = m.within in
          record {
            within = omega (arith, ap length p.2, length-append p.0 (p.1 ++ after), length-append p.1 after, w);
            fault = inr (inr (inr (inl (n, p.0, p.1, after, zigzag_value size.spelled, p.2, (h.0, h.1, p.3), (size.spelled, refl, p.4), m.fault))));
          })
      | inr done ↦
          (let t = many_takes read P count takes n after budget done.0 done.1 in
          let c = t.counted in
          let len = t.spelled.0 in
          let low = h.0 in
          let high = h.1 in
          elim (bind_err (block_ends (record { count = n; size = Some size }) done.0.1) (λ _. Ok (Some done.0.0, done.0.1, done.0.2)) f done.2) [
            | inl failed ↦
                (let g = test_ok (eqb size.spelled (2 * (size.items - length done.0.1))) (record { fault = BadLength; left = size.left }) f tt failed in
                let body : length after ≡ length t.front + length done.0.1 = ap length t.parts ∙ length-append t.front done.0.1 in
                let items_is = p.5 in
                let left_is = p.6 in
                let whole : p.1 ++ after ≡ p.1 ++ (t.front ++ done.0.1) = ap (λ (r : List ℕ). p.1 ++ r) t.parts in
                let other : zigzag_value size.spelled ≡ pos (length t.front) → ⊥ = λ same.
                (let even = even_signed size.spelled (length t.front) (sym same) in
                let bit = eqb-true _ _ even.0 in
                let half = even.1 in
                eqb_false size.spelled (2 * (size.items - length done.0.1)) g.0 (omega (arith, bit, half, body, items_is))) in
                let long : Long (neg_ℤ (pos (length done.0.0))) p.0 = subst (λ (k : ℕ). Long (neg_ℤ (pos k)) p.0) (sym len) p.3 in
                subst (λ (k : FaultAt). FaultBy (FaultsInBlock P count F) bytes budget k) g.1
                (record {
                  within = omega (arith, left_is, ap length p.2, length-append p.0 (p.1 ++ after));
                  fault = inr (inr (inr (inr (done.0.0, p.0, p.1, t.front, done.0.1, zigzag_value size.spelled, done.0.2, p.2 ∙ ap (λ (r : List ℕ). p.0 ++ r) whole, (omega (arith, len), omega (arith, len), long), (size.spelled, refl, p.4), other, t.spelled.1, omega (arith, c), refl, left_is ∙ ap length whole))));
                }))
            | inr ended ↦ absurd (let d = ended.2 in cc)
          ])
    ]

head_faults : {A : Type 0} (read : Reader A) (P : Spelling A) (count : A → ℕ) (F : FaultRelation) → TakesBy read P count 0 → FaultsBy read F → (bytes after : List ℕ) (budget : ℕ) (head : Option Head) (f : FaultAt)
    → HeadTaken bytes head after → after_head read head after budget ≡ Err f → FaultBy (FaultsInBlock P count F) bytes budget f
head_faults read P count F takes law bytes after budget None f h e = absurd cc
head_faults read P count F takes law bytes after budget (Some block) f h e = head_faults_some read P count F takes law bytes after budget block.count block.size f h e

one_faults : {A : Type 0} (read : Reader A) (P : Spelling A) (count : A → ℕ) (F : FaultRelation) → TakesBy read P count 0 → FaultsBy read F → (bytes : List ℕ) (budget : ℕ) (f : FaultAt) → one_block_at read bytes budget ≡ Err f → FaultBy (FaultsInBlock P count F) bytes budget f
unfolding one_block_at
one_faults read P count F takes law bytes budget f e = elim (bind_err (block_at bytes budget) (λ head. after_head read head.0 head.1 head.2) f e) [
  | inl failed ↦ block_faults P count F bytes budget f failed
  | inr done ↦
      (let t = block_takes bytes budget done.0 done.1 in
      subst (λ (r : ℕ). FaultBy (FaultsInBlock P count F) bytes r f) t.room_is (head_faults read P count F takes law bytes done.0.1 done.0.2 done.0.0 f t.taken done.2))
]

-- ---- all blocks

behind_block : {A : Type 0} (read : Reader A) (P : Spelling A) (count : A → ℕ) (F : FaultRelation) (fuel : ℕ)
    → ((bytes : List ℕ) (budget : ℕ) (f : FaultAt) → length bytes < fuel → blocks_at read fuel bytes budget ≡ Err f → FaultBy (FaultsInBlocks P count F fuel) bytes budget f)
    → (bytes after : List ℕ) (budget left : ℕ) (block : Option (List A)) (f : FaultAt) → length bytes < suc fuel → OneTaken P count bytes budget (block, after, left) → after_block read fuel block after left ≡ Err f
    → FaultBy (FaultsInBlocks P count F (suc fuel)) bytes budget f
behind_block read P count F fuel next bytes after budget left None f lt t e = absurd cc
behind_block read P count F fuel next bytes after budget left (Some xs) f lt t e = elim (bind_err (blocks_at read fuel after left) (λ more. Ok (xs ++ more.0, more.1, more.2)) f e) [
  | inl failed ↦
      (let some = block_len P xs t.0 t.2.0 in
      let len : length bytes ≡ length t.0 + length after = ap length t.1 ∙ length-append t.0 after in
      let h = next after left f (omega (arith, some, len, lt)) failed in
      let w = h.within in
      record { within = omega (arith, w, len); fault = inr (xs, t.0, after, left, t.1, t.2.0, t.2.1, h.fault) })
  | inr done ↦ absurd (let d = done.2 in cc)
]

blocks_faults : {A : Type 0} (read : Reader A) (P : Spelling A) (count : A → ℕ) (F : FaultRelation) → TakesBy read P count 0 → FaultsBy read F → (fuel : ℕ) (bytes : List ℕ) (budget : ℕ) (f : FaultAt) → length bytes < fuel → blocks_at read fuel bytes budget ≡ Err f
    → FaultBy (FaultsInBlocks P count F fuel) bytes budget f
unfolding blocks_at
blocks_faults read P count F takes law zero bytes budget f lt e = absurd (omega arith)
blocks_faults read P count F takes law (suc fuel) bytes budget f lt e = elim (bind_err (one_block_at read bytes budget) (λ block. after_block read fuel block.0 block.1 block.2) f e) [
  | inl failed ↦ (let h = one_faults read P count F takes law bytes budget f failed in record { within = h.within; fault = inl h.fault })
  | inr done ↦ behind_block read P count F fuel (blocks_faults read P count F takes law fuel) bytes done.0.1 budget done.0.2 done.0.0 f lt (one_takes read P count takes bytes budget done.0 done.1) done.2
]

pub all_blocks_fault : {A : Type 0} (read : Reader A) (P : Spelling A) (count : A → ℕ) (F : FaultRelation) → TakesBy read P count 0 → FaultsBy read F → FaultsBy (all_blocks_at read) (FaultsInSomeBlock P count F)
unfolding all_blocks_at
all_blocks_fault read P count F takes law bytes budget f e =
    let h = blocks_faults read P count F takes law (length bytes + 1) bytes budget f (omega arith) e in
    record { within = h.within; fault = (length bytes + 1, h.fault) }
