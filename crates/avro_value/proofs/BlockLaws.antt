-- What blocks take, and what is read of them again.
use Rattle.std.proofs.Common.{◌≡◌, ℕ, zero, suc, ◌+◌, ◌-◌, ◌*◌, ◌/◌, ◌%◌, ◌^◌, ◌<◌, ◌≤◌, pos, negsuc, neg_ℤ, Bool, true, false, cond, List, [], ◌∷◌, ◌++◌, length, Option, Some, None, Result, Ok, Err, refl, sym, ap, subst, ◌∙◌, append_assoc, arith, rules, inl, inr, eqb, add-one, eq-eqb, ne_eqb}
use Rattle.std.proofs.lemmas.Bool.{eqb-true}
use Rattle.std.proofs.lemmas.List.{length-append}
use Rattle.avro_value.specs.declared.fault.FaultAt.{FaultAt}
use Rattle.avro_value.specs.declared.fault.Fault.TheVariants.{BadLength}
use Rattle.avro_value.specs.declared.input.BlockHead.{BlockHead as Head}
use Rattle.avro_value.specs.declared.input.BlockSize.{BlockSize}
use Rattle.avro_value.specs.Varint.{Varint, zigzag_value, Long}
use Rattle.avro_value.specs.ValueTree.{total}
use Rattle.avro_value.specs.Spelling.{Spelling, Block, Blocks, SomeBlocks}
use Rattle.lake_basics.specs.Outcome.{◌>>=◌}
use Rattle.avro_value.specs.Reading.{Read, Reader, item_at, fault_at, varint_at, many_at, block_at, sized_at, block_ends, one_block_at, blocks_at, all_blocks_at}
use Rattle.avro_value.proofs.NumberLaws.{bind_ok, ok_is, number_takes, number_again, even_signed}
use Rattle.avro_value.proofs.ReaderLaws.{TakenBy, TakesBy, AgainBy, item_takes, item_again, many_takes, many_again}

pub eqb_false : (a b : ℕ) → eqb a b ≡ false → a ≡ b → ⊥
eqb_false a b h e = let t : eqb a b ≡ true = eq-eqb a b e in cc

-- ---- numbers with signs

pub double_signed : (z n : ℕ) → z ≡ 2 * n → pos n ≡ zigzag_value z
double_signed z n e =
    let even : eqb (z % 2) 0 ≡ true = eq-eqb _ _ (omega arith) in
    let half : z / 2 ≡ n = omega arith in
    rw (even, half) refl

pub odd_signed : (z : ℕ) → eqb (z % 2) 0 ≡ false → neg_ℤ (pos (z / 2 + 1)) ≡ zigzag_value z
odd_signed z h = rw (h, add-one) refl

pub negative_signed : (z n : ℕ) → 0 < n → neg_ℤ (pos n) ≡ zigzag_value z → (eqb (z % 2) 0 ≡ false) × (z / 2 + 1 ≡ n)
negative_signed z zero h e = absurd (omega arith)
negative_signed z (suc n) h e = go (eqb (z % 2) 0) refl
  where
    go : (b : Bool) → eqb (z % 2) 0 ≡ b → (eqb (z % 2) 0 ≡ false) × (z / 2 + 1 ≡ suc n)
    go true f = absurd (let g : negsuc n ≡ pos (z / 2) = rw f at e in cc)
    go false f = (f, let g : negsuc n ≡ negsuc (z / 2) = rw f at e in let k : n ≡ z / 2 = cc in omega arith)

-- ---- what stands before the items

pub number_item : TakesBy (item_at varint_at) Varint (λ z. 0) 0
number_item = item_takes varint_at Varint (λ z. 0) (λ z. refl) number_takes

pub number_item_again : AgainBy (item_at varint_at) Varint (λ z. 0) 0
number_item_again = item_again varint_at Varint (λ z. 0) (λ z. refl) number_again

-- what was taken of the bytes before the items
abbrev pub HeadTaken : List ℕ → Option Head → List ℕ → Type 0
HeadTaken bytes None rest = (front : List ℕ) × (bytes ≡ front ++ rest) × Long (pos 0) front
HeadTaken bytes (Some head) rest = (0 < head.count) × (head.count < 2 ^ 63) × (elim head.size [
  | None ↦ ((front : List ℕ) × (bytes ≡ front ++ rest) × Long (pos head.count) front)
  | Some size ↦ ((front : List ℕ) × (sizes : List ℕ) × (bytes ≡ front ++ (sizes ++ rest)) × Long (neg_ℤ (pos head.count)) front × Varint size.spelled sizes × (size.items ≡ length rest) × (size.left ≡ length (sizes ++ rest)))
])

pub record HeadTakes (bytes : List ℕ) (budget : ℕ) (x : Option Head × List ℕ × ℕ) : Type 0 where
  pub taken : HeadTaken bytes x.0 x.1
  pub room_is : x.2 ≡ budget

sized_takes : (z : ℕ) (bytes after : List ℕ) (front : List ℕ) (budget : ℕ) (x : Option Head × List ℕ × ℕ) → bytes ≡ front ++ after → Varint z front → eqb (z % 2) 0 ≡ false → z / 2 + 1 < 2 ^ 63
    → sized_at (z / 2 + 1) after budget ≡ Ok x → HeadTakes bytes budget x
unfolding sized_at
sized_takes z bytes after front budget x parts g odd small e =
    let head : ℕ × List ℕ × ℕ → Option Head × List ℕ × ℕ = λ size. (Some (record { count = z / 2 + 1; size = Some (record { spelled = size.0; left = length after; items = length size.1 }) }), size.1, size.2) in
    let a = bind_ok (item_at varint_at after budget) (λ size. Ok (head size)) x e in
    let t = number_item after budget a.0 a.1 in
    let c = t.counted in
    subst (λ (y : Option Head × List ℕ × ℕ). HeadTakes bytes budget y) (ok_is (head a.0) x a.2)
    (record {
      taken = (omega arith, small, (front, t.front, parts ∙ ap (λ (r : List ℕ). front ++ r) t.parts, (z, odd_signed z odd, g), t.spelled, refl, ap length t.parts));
      room_is = omega (arith, c);
    })

block_takes_at : (z : ℕ) (bytes front after : List ℕ) (budget : ℕ) (x : Option Head × List ℕ × ℕ) (b0 b1 b2 : Bool) → eqb z 0 ≡ b0 → eqb (z % 2) 0 ≡ b1 → eqb z (2 ^ 64 - 1) ≡ b2 → bytes ≡ front ++ after → Varint z front
    → cond b0 (Ok (None, after, budget)) (cond b1 (Ok (Some (record { count = z / 2; size = None }), after, budget)) (cond b2 (Err (fault_at bytes BadLength)) (sized_at (z / 2 + 1) after budget))) ≡ Ok x
    → HeadTakes bytes budget x
block_takes_at z bytes front after budget x true b1 b2 h0 h1 h2 parts g e =
    let nothing : z ≡ 0 = eqb-true _ _ h0 in
    subst (λ (y : Option Head × List ℕ × ℕ). HeadTakes bytes budget y) (ok_is (None, after, budget) x e)
    (record { taken = (front, parts, (z, double_signed z 0 (omega arith), g)); room_is = refl })
block_takes_at z bytes front after budget x false true b2 h0 h1 h2 parts g e =
    let some = eqb_false z 0 h0 in
    let even : z % 2 ≡ 0 = eqb-true _ _ h1 in
    let fits = g.fits in
    subst (λ (y : Option Head × List ℕ × ℕ). HeadTakes bytes budget y) (ok_is (Some (record { count = z / 2; size = None }), after, budget) x e)
    (record { taken = (omega (arith, some), omega arith, (front, parts, (z, double_signed z (z / 2) (omega arith), g))); room_is = refl })
block_takes_at z bytes front after budget x false false true h0 h1 h2 parts g e = absurd cc
block_takes_at z bytes front after budget x false false false h0 h1 h2 parts g e =
    let fits = g.fits in
    let odd = eqb_false (z % 2) 0 h1 in
    let last = eqb_false z (2 ^ 64 - 1) h2 in
    sized_takes z bytes after front budget x parts g h1 (omega (arith, odd, last)) e

pub block_takes : (bytes : List ℕ) (budget : ℕ) (x : Option Head × List ℕ × ℕ) → block_at bytes budget ≡ Ok x → HeadTakes bytes budget x
unfolding block_at
block_takes bytes budget x e =
    let a = bind_ok (item_at varint_at bytes budget) (λ z. cond (eqb z.0 0) (Ok (None, z.1, z.2)) (cond (eqb (z.0 % 2) 0) (Ok (Some (record { count = z.0 / 2; size = None }), z.1, z.2)) (cond (eqb z.0 (2 ^ 64 - 1)) (Err (fault_at bytes BadLength)) (sized_at (z.0 / 2 + 1) z.1 z.2)))) x e in
    let t = number_item bytes budget a.0 a.1 in
    let c = t.counted in
    let same : a.0.2 ≡ budget = omega (arith, c) in
    subst (λ (r : ℕ). HeadTakes bytes r x) same (block_takes_at a.0.0 bytes t.front a.0.1 a.0.2 x _ _ _ refl refl refl t.parts t.spelled a.2)

-- ---- one block

abbrev pub OneTaken : {A : Type 0} → Spelling A → (A → ℕ) → List ℕ → ℕ → Option (List A) × List ℕ × ℕ → Type 0
OneTaken P count bytes budget x = (front : List ℕ) × (bytes ≡ front ++ x.1) × (elim x.0 [
  | None ↦ (Long (pos 0) front × (x.2 ≡ budget))
  | Some xs ↦ (Block P xs front × (x.2 + total count xs ≡ budget))
])

ended : (size : BlockSize) (rest : List ℕ) (u : Unit {0}) → block_ends (record { count = 0; size = Some size }) rest ≡ Ok u → size.spelled ≡ 2 * (size.items - length rest)
unfolding block_ends
ended size rest u e = go _ refl e
  where
    go : (b : Bool) → eqb size.spelled (2 * (size.items - length rest)) ≡ b → ◌≡◌ {A = Result (Unit {0}) FaultAt} (cond {A = Result (Unit {0}) FaultAt} b (Ok tt) (Err (record { fault = BadLength; left = size.left }))) (Ok u) → size.spelled ≡ 2 * (size.items - length rest)
    go true h f = eqb-true _ _ h
    go false h f = absurd cc

one_takes_some : {A : Type 0} (read : Reader A) (P : Spelling A) (count : A → ℕ) → TakesBy read P count 0 → (bytes after : List ℕ) (budget : ℕ) (n : ℕ) (size : Option BlockSize) (x : Option (List A) × List ℕ × ℕ)
    → HeadTaken bytes (Some (record { count = n; size = size })) after
    → (many_at read n after budget >>= λ xs. block_ends (record { count = n; size = size }) xs.1 >>= λ _. Ok (Some xs.0, xs.1, xs.2)) ≡ Ok x
    → OneTaken P count bytes budget x
unfolding block_ends
one_takes_some read P count law bytes after budget n None x h e =
    let a = bind_ok (many_at read n after budget) (λ xs. Ok (Some xs.0, xs.1, xs.2)) x e in
    let t = many_takes read P count law n after budget a.0 a.1 in
    let c = t.counted in
    let len = t.spelled.0 in
    let f = h.2 in
    let low = h.0 in
    let high = h.1 in
    let long : Long (pos (length a.0.0)) f.0 = subst (λ (k : ℕ). Long (pos k) f.0) (sym len) f.2 in
    subst (λ (y : Option (List _) × List ℕ × ℕ). OneTaken P count bytes budget y) (ok_is (Some a.0.0, a.0.1, a.0.2) x a.2)
    (f.0 ++ t.front, f.1 ∙ ap (λ (r : List ℕ). f.0 ++ r) t.parts ∙ sym (append_assoc f.0 t.front a.0.1), ((omega (arith, len), omega (arith, len), inl (f.0, t.front, refl, long, t.spelled.1)), omega (arith, c)))
one_takes_some read P count law bytes after budget n (Some size) x h e =
    let a = bind_ok (many_at read n after budget) (λ xs. block_ends (record { count = n; size = Some size }) xs.1 >>= λ _. Ok (Some xs.0, xs.1, xs.2)) x e in
    let b = bind_ok (block_ends (record { count = n; size = Some size }) a.0.1) (λ _. Ok (Some a.0.0, a.0.1, a.0.2)) x a.2 in
    let t = many_takes read P count law n after budget a.0 a.1 in
    let c = t.counted in
    let len = t.spelled.0 in
    let low = h.0 in
    let high = h.1 in
    let f = h.2 in
    let total_len : length after ≡ length t.front + length a.0.1 = ap length t.parts ∙ length-append t.front a.0.1 in
    let items_is = f.5 in
    let spelled_is = ended size a.0.1 b.0 b.1 in
    let twice : size.spelled ≡ 2 * length t.front = omega (arith, total_len, items_is, spelled_is) in
    let long : Long (neg_ℤ (pos (length a.0.0))) f.0 = subst (λ (k : ℕ). Long (neg_ℤ (pos k)) f.0) (sym len) f.3 in
    let parts : bytes ≡ (f.0 ++ (f.1 ++ t.front)) ++ a.0.1 = f.2 ∙ ap (λ (r : List ℕ). f.0 ++ (f.1 ++ r)) t.parts ∙ simp append_assoc in
    subst (λ (y : Option (List _) × List ℕ × ℕ). OneTaken P count bytes budget y) (ok_is (Some a.0.0, a.0.1, a.0.2) x b.2)
    (f.0 ++ (f.1 ++ t.front), parts, ((omega (arith, len), omega (arith, len), inr (f.0, f.1, t.front, refl, long, (size.spelled, double_signed size.spelled (length t.front) twice, f.4), t.spelled.1)), omega (arith, c)))

-- what follows a block's head
abbrev pub after_head : {A : Type 0} → Reader A → Option Head → List ℕ → ℕ → Read (Option (List A))
after_head {A = A} read head after budget = elim head as (λ _. Read (Option (List A))) [
  | None ↦ Ok (None, after, budget)
  | Some block ↦ many_at read block.count after budget >>= λ xs. block_ends block xs.1 >>= λ _. Ok (Some xs.0, xs.1, xs.2)
]

one_takes_at : {A : Type 0} (read : Reader A) (P : Spelling A) (count : A → ℕ) → TakesBy read P count 0 → (bytes after : List ℕ) (budget : ℕ) (head : Option Head) (x : Option (List A) × List ℕ × ℕ)
    → HeadTaken bytes head after
    → after_head read head after budget ≡ Ok x
    → OneTaken P count bytes budget x
one_takes_at read P count law bytes after budget None x h e =
    subst (λ (y : Option (List _) × List ℕ × ℕ). OneTaken P count bytes budget y) (ok_is (None, after, budget) x e) (h.0, h.1, (h.2, refl))
one_takes_at read P count law bytes after budget (Some block) x h e = one_takes_some read P count law bytes after budget block.count block.size x h e

pub one_takes : {A : Type 0} (read : Reader A) (P : Spelling A) (count : A → ℕ) → TakesBy read P count 0 → (bytes : List ℕ) (budget : ℕ) (x : Option (List A) × List ℕ × ℕ) → one_block_at read bytes budget ≡ Ok x → OneTaken P count bytes budget x
unfolding one_block_at
one_takes read P count law bytes budget x e =
    let a = bind_ok (block_at bytes budget) (λ head. after_head read head.0 head.1 head.2) x e in
    let t = block_takes bytes budget a.0 a.1 in
    subst (λ (r : ℕ). OneTaken P count bytes r x) t.room_is (one_takes_at read P count law bytes a.0.1 a.0.2 a.0.0 x t.taken a.2)

-- ---- one block again

pub none_again : {A : Type 0} (read : Reader A) (front rest : List ℕ) (budget : ℕ) → Long (pos 0) front → one_block_at read (front ++ rest) budget ≡ Ok (None, rest, budget)
unfolding one_block_at block_at
none_again read front rest budget p =
    let even = even_signed p.0 0 p.1 in
    let bit = eqb-true _ _ even.0 in
    let half = even.1 in
    let nothing : eqb p.0 0 ≡ true = eq-eqb _ _ (omega (arith, bit, half)) in
    let number = number_item_again p.0 front rest budget budget p.2 (omega arith) in
    rw (number, nothing) refl

pub one_again : {A : Type 0} (read : Reader A) (P : Spelling A) (count : A → ℕ) → AgainBy read P count 0 → (xs : List A) (front rest : List ℕ) (budget left : ℕ) → Block P xs front → left + total count xs ≡ budget
    → one_block_at read (front ++ rest) budget ≡ Ok (Some xs, rest, left)
unfolding one_block_at block_at sized_at block_ends
one_again read P count law xs front rest budget left p e = elim p.2 [
  | inl counted ↦
      (let head = counted.0 in
      let body = counted.1 in
      let long = counted.3 in
      let low = p.0 in
      let even = even_signed long.0 (length xs) long.1 in
      let half = even.1 in
      let some : eqb long.0 0 ≡ false = ne_eqb long.0 0 (λ h. absurd (omega (arith, half, low, h))) in
      let parts : front ++ rest ≡ head ++ (body ++ rest) = ap (λ (f : List ℕ). f ++ rest) counted.2 ∙ append_assoc head body rest in
      let number = number_item_again long.0 head (body ++ rest) budget budget long.2 (omega arith) in
      let many = many_again read P count law xs body rest budget left counted.4 e in
      rw (parts, number, some, even.0, half, many) refl)
  | inr sized ↦
      (let head = sized.0 in
      let size = sized.1 in
      let body = sized.2 in
      let long = sized.4 in
      let bytes = sized.5 in
      let low = p.0 in
      let high = p.1 in
      let odd = negative_signed long.0 (length xs) low long.1 in
      let number_is = odd.1 in
      let not_even = eqb_false (long.0 % 2) 0 odd.0 in
      let some : eqb long.0 0 ≡ false = ne_eqb long.0 0 (λ h. absurd (not_even (omega (arith, h)))) in
      let last : eqb long.0 (2 ^ 64 - 1) ≡ false = ne_eqb long.0 (2 ^ 64 - 1) (λ h. absurd (omega (arith, h, number_is, high))) in
      let parts : front ++ rest ≡ head ++ (size ++ (body ++ rest)) = ap (λ (f : List ℕ). f ++ rest) sized.3 ∙ simp append_assoc in
      let number = number_item_again long.0 head (size ++ (body ++ rest)) budget budget long.2 (omega arith) in
      let size_number = number_item_again bytes.0 size (body ++ rest) budget budget bytes.2 (omega arith) in
      let many = many_again read P count law xs body rest budget left sized.6 e in
      let even = even_signed bytes.0 (length body) bytes.1 in
      let bit = eqb-true _ _ even.0 in
      let half = even.1 in
      let ends : eqb bytes.0 (2 * (length (body ++ rest) - length rest)) ≡ true = eq-eqb _ _ (omega (arith, bit, half, length-append body rest)) in
      rw (parts, number, some, odd.0, last, number_is, size_number, many, ends) refl)
]

-- ---- all blocks

pub total-append : {A : Type 0} (count : A → ℕ) (xs ys : List A) → total count (xs ++ ys) ≡ total count xs + total count ys
total-append count [] ys = omega arith
total-append count (x ∷ xs) ys = let h = total-append count xs ys in omega (arith, h)

-- what follows a block
abbrev pub after_block : {A : Type 0} → Reader A → ℕ → Option (List A) → List ℕ → ℕ → Read (List A)
after_block {A = A} read fuel block after left = elim block as (λ _. Read (List A)) [
  | None ↦ Ok ([], after, left)
  | Some xs ↦ blocks_at read fuel after left >>= λ more. Ok (xs ++ more.0, more.1, more.2)
]

blocks_takes_at : {A : Type 0} (read : Reader A) (P : Spelling A) (count : A → ℕ) (fuel : ℕ)
    → ((bytes : List ℕ) (budget : ℕ) (x : List A × List ℕ × ℕ) → blocks_at read fuel bytes budget ≡ Ok x → TakenBy (SomeBlocks P) (total count) 0 bytes budget x)
    → (bytes after : List ℕ) (budget left : ℕ) (block : Option (List A)) (x : List A × List ℕ × ℕ) → OneTaken P count bytes budget (block, after, left)
    → after_block read fuel block after left ≡ Ok x
    → TakenBy (SomeBlocks P) (total count) 0 bytes budget x
blocks_takes_at read P count fuel next bytes after budget left None x t e =
    let c = t.2.1 in
    subst (λ (y : List _ × List ℕ × ℕ). TakenBy (SomeBlocks P) (total count) 0 bytes budget y) (ok_is ([], after, left) x e)
    (record { front = t.0; parts = t.1; spelled = (0, (refl, t.2.0)); counted = omega (arith, c) })
blocks_takes_at read P count fuel next bytes after budget left (Some xs) x t e =
    let a = bind_ok (blocks_at read fuel after left) (λ more. Ok (xs ++ more.0, more.1, more.2)) x e in
    let m = next after left a.0 a.1 in
    let c0 = t.2.1 in
    let c1 = m.counted in
    subst (λ (y : List _ × List ℕ × ℕ). TakenBy (SomeBlocks P) (total count) 0 bytes budget y) (ok_is (xs ++ a.0.0, a.0.1, a.0.2) x a.2)
    (record {
      front = t.0 ++ m.front;
      parts = t.1 ∙ ap (λ (r : List ℕ). t.0 ++ r) m.parts ∙ sym (append_assoc t.0 m.front a.0.1);
      spelled = (suc m.spelled.0, (xs, a.0.0, refl, (t.0, m.front, refl, t.2.0, m.spelled.1)));
      counted = omega (arith, c0, c1, total-append count xs a.0.0);
    })

blocks_takes : {A : Type 0} (read : Reader A) (P : Spelling A) (count : A → ℕ) → TakesBy read P count 0 → (fuel : ℕ) → TakesBy (blocks_at read fuel) (SomeBlocks P) (total count) 0
unfolding blocks_at
blocks_takes read P count law zero bytes budget x e = absurd cc
blocks_takes read P count law (suc fuel) bytes budget x e =
    let a = bind_ok (one_block_at read bytes budget) (λ block. after_block read fuel block.0 block.1 block.2) x e in
    blocks_takes_at read P count fuel (blocks_takes read P count law fuel) bytes a.0.1 budget a.0.2 a.0.0 x (one_takes read P count law bytes budget a.0 a.1) a.2

pub all_blocks_take : {A : Type 0} (read : Reader A) (P : Spelling A) (count : A → ℕ) → TakesBy read P count 0 → TakesBy (all_blocks_at read) (SomeBlocks P) (total count) 0
unfolding all_blocks_at
all_blocks_take read P count law bytes budget x e = blocks_takes read P count law (length bytes + 1) bytes budget x e

blocks_again : {A : Type 0} (read : Reader A) (P : Spelling A) (count : A → ℕ) → AgainBy read P count 0 → (n fuel : ℕ) (xs : List A) (front rest : List ℕ) (budget left : ℕ) → n < fuel → Blocks P n xs front → left + total count xs ≡ budget
    → blocks_at read fuel (front ++ rest) budget ≡ Ok (xs, rest, left)
unfolding blocks_at
blocks_again read P count law n zero xs front rest budget left lt p e = absurd (omega arith)
blocks_again read P count law zero (suc fuel) xs front rest budget left lt p e =
    let nothing = p.0 in
    let c : left + total count [] ≡ budget = subst (λ (ys : List _). left + total count ys ≡ budget) nothing e in
    let same : budget ≡ left = omega (arith, c) in
    rw (none_again read front rest budget p.1, same, nothing) refl
blocks_again read P count law (suc n) (suc fuel) xs front rest budget left lt p e =
    let block = p.0 in
    let more = p.1 in
    let b = p.3 in
    let counted : left + total count (block ++ more) ≡ budget = subst (λ (ys : List _). left + total count ys ≡ budget) p.2 e in
    let parts : front ++ rest ≡ b.0 ++ (b.1 ++ rest) = ap (λ (f : List ℕ). f ++ rest) b.2 ∙ append_assoc b.0 b.1 rest in
    let one = one_again read P count law block b.0 (b.1 ++ rest) budget (left + total count more) b.3 (omega (arith, counted, total-append count block more)) in
    let others = blocks_again read P count law n fuel more b.1 rest (left + total count more) left (omega arith) b.4 refl in
    rw (parts, one, others, p.2) refl

pub number_len : (z : ℕ) (bytes : List ℕ) → Varint z bytes → 1 ≤ length bytes
number_len z [] g = absurd g.number
number_len z (b ∷ bs) g = omega arith

pub block_len : {A : Type 0} (P : Spelling A) (xs : List A) (bytes : List ℕ) → Block P xs bytes → 1 ≤ length bytes
block_len P xs bytes p = elim p.2 [
  | inl c ↦ (let n = number_len _ _ c.3.2 in omega (arith, ap length c.2, length-append c.0 c.1, n))
  | inr s ↦ (let n = number_len _ _ s.4.2 in omega (arith, ap length s.3, length-append s.0 (s.1 ++ s.2), n))
]

blocks_len : {A : Type 0} (P : Spelling A) (n : ℕ) (xs : List A) (bytes : List ℕ) → Blocks P n xs bytes → n + 1 ≤ length bytes
blocks_len P zero xs bytes p = let n = number_len _ _ p.1.2 in omega (arith, n)
blocks_len P (suc n) xs bytes p =
    let b = p.3 in
    let one = block_len P p.0 b.0 b.3 in
    let more = blocks_len P n p.1 b.1 b.4 in
    omega (arith, ap length b.2, length-append b.0 b.1, one, more)

pub all_blocks_again : {A : Type 0} (read : Reader A) (P : Spelling A) (count : A → ℕ) → AgainBy read P count 0 → AgainBy (all_blocks_at read) (SomeBlocks P) (total count) 0
unfolding all_blocks_at
all_blocks_again read P count law xs front rest budget left p e =
    let n = blocks_len P p.0 xs front p.1 in
    blocks_again read P count law p.0 (length (front ++ rest) + 1) xs front rest budget left (omega (arith, n, length-append front rest)) p.1 (omega arith)
