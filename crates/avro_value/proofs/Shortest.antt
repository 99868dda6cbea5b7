-- Writing a number group by group, as the loop does, and that no spelling of it is shorter.
use Rattle.std.proofs.Common.{◌≡◌, ℕ, zero, suc, ◌+◌, ◌-◌, ◌*◌, ◌/◌, ◌%◌, ◌^◌, ◌<◌, ◌≤◌, ℤ, Bool, true, false, eqb, List, [], ◌∷◌, ◌++◌, length, take, set, refl, sym, ap, ◌∙◌, append_assoc, arith, inl, inr, pow-suc}
use Rattle.std.proofs.lemmas.Bool.{cases_lt, le-ltb, lt-ltb, eqb-true}
use Rattle.std.proofs.lemmas.List.{take_more_set, length-take, length-set}
use Rattle.avro_value.specs.Varint.{ContinuesToLast, varint_value, zigzag_value, Long}
use Rattle.avro_value.specs.Writing.{varint_in_groups, varint_of, zigzag_of}
use Rattle.avro_value.proofs.BlockLaws.{eqb_false}

-- What is written in the first len places, before the groups of the rest, is the whole number.
pub record PutSoFar (z : ℕ) (out : List ℕ) (len rest : ℕ) : Type 0 where
  pub more : ℕ
  pub places : len + more ≡ 9
  pub full : length out ≡ 10
  pub small : rest < 2 * 128 ^ more
  pub written : take len out ++ varint_in_groups more rest ≡ varint_of z

pub PutSoFar-start : (z : ℕ) (out : List ℕ) → length out ≡ 10 → z < 2 ^ 64 → PutSoFar z out 0 z
unfolding varint_of
PutSoFar-start z out full h = record { more = 9; places = refl; full = full; small = omega arith; written = refl }

pub PutSoFar-more : (z : ℕ) (out : List ℕ) (len rest : ℕ) → PutSoFar z out len rest → 128 ≤ rest → PutSoFar z (set out len (rest % 128 + 128)) (len + 1) (rest / 128)
unfolding varint_in_groups
PutSoFar-more z out len rest w big = go w.more w.places w.small w.written
  where
    go : (k : ℕ) → len + k ≡ 9 → rest < 2 * 128 ^ k → take len out ++ varint_in_groups k rest ≡ varint_of z → PutSoFar z (set out len (rest % 128 + 128)) (len + 1) (rest / 128)
    go zero places small e = absurd (omega arith)
    go (suc k) places small e =
        let p : 128 ^ suc k ≡ 128 ^ k * 128 = pow-suc 128 k in
        let full = w.full in
        let step : varint_in_groups (suc k) rest ≡ (rest % 128 + 128) ∷ varint_in_groups k (rest / 128) = rw le-ltb refl in
        let put : take (len + 1) (set out len (rest % 128 + 128)) ≡ take len out ++ (rest % 128 + 128) ∷ [] = take_more_set out len (rest % 128 + 128) (omega (arith, full, places)) in
        record {
          more = k;
          places = omega (arith, places);
          full = simp length-set full;
          small = omega (arith, p, small);
          written = ap (λ (front : List ℕ). front ++ varint_in_groups k (rest / 128)) put ∙ append_assoc (take len out) ((rest % 128 + 128) ∷ []) (varint_in_groups k (rest / 128)) ∙ ap (λ (r : List ℕ). take len out ++ r) (sym step) ∙ e;
        }

pub PutSoFar-place : (z : ℕ) (out : List ℕ) (len rest : ℕ) → PutSoFar z out len rest → len < length out
PutSoFar-place z out len rest w = let full = w.full in let places = w.places in omega (arith, full, places)

pub PutSoFar-last : (z : ℕ) (out : List ℕ) (len rest : ℕ) → PutSoFar z out len rest → rest < 128 → take (len + 1) (set out len rest) ≡ varint_of z
unfolding varint_in_groups
PutSoFar-last z out len rest w small = take_more_set out len rest (PutSoFar-place z out len rest w) ∙ go w.more w.written
  where
    go : (k : ℕ) → take len out ++ varint_in_groups k rest ≡ varint_of z → take len out ++ rest ∷ [] ≡ varint_of z
    go zero e = e
    go (suc k) e = let step : varint_in_groups (suc k) rest ≡ rest ∷ [] = rw lt-ltb refl in ap (λ (r : List ℕ). take len out ++ r) (sym step) ∙ e

-- ---- no spelling is shorter

next_groups : (b v z : ℕ) → b % 128 + 128 * v ≡ z → v ≡ z / 128
next_groups b v z e = omega arith

groups_shortest : (k z : ℕ) (bytes : List ℕ) → ContinuesToLast bytes → varint_value bytes ≡ z → length (varint_in_groups k z) ≤ length bytes
unfolding varint_in_groups
groups_shortest k z [] c e = absurd c
groups_shortest zero z (b ∷ bs) c e = omega arith
groups_shortest (suc k) z (b ∷ []) c e =
    let step : varint_in_groups (suc k) z ≡ z ∷ [] = rw (lt-ltb z 128 (omega (arith, e))) refl in
    omega (arith, ap length step)
groups_shortest (suc k) z (b ∷ d ∷ bs) c e = elim (cases_lt z 128) [
  | inl lt ↦ (let step : varint_in_groups (suc k) z ≡ z ∷ [] = rw lt-ltb refl in omega (arith, ap length step))
  | inr ge ↦
      (let step : varint_in_groups (suc k) z ≡ (z % 128 + 128) ∷ varint_in_groups k (z / 128) = rw le-ltb refl in
      let more = groups_shortest k (z / 128) (d ∷ bs) c.1 (next_groups b (varint_value (d ∷ bs)) z e) in
      omega (arith, ap length step, more))
]

zigzag_back : (z : ℕ) → zigzag_of (zigzag_value z) ≡ z
zigzag_back z = go (eqb (z % 2) 0) refl
  where
    go : (b : Bool) → eqb (z % 2) 0 ≡ b → zigzag_of (zigzag_value z) ≡ z
    go true h = rw h (let even : z % 2 ≡ 0 = eqb-true _ _ h in omega (arith, even))
    go false h = rw h (let odd = eqb_false (z % 2) 0 h in omega (arith, odd))

pub put_shortest : (out : List ℕ) (n : ℤ) (len : ℕ) → length out ≡ 10 → len ≤ 10 → take len out ≡ varint_of (zigzag_of n) → (spelling : List ℕ) → Long n spelling → len ≤ length spelling
unfolding varint_of
put_shortest out n len full within exact spelling p =
    let z = p.0 in
    let same : z ≡ zigzag_of n = sym (zigzag_back z) ∙ ap zigzag_of (sym p.1) in
    let short = groups_shortest 9 (zigzag_of n) spelling p.2.number (p.2.value ∙ same) in
    let taken : length (take len out) ≡ length (varint_in_groups 9 (zigzag_of n)) = ap length exact in
    omega (arith, short, taken, full, length-take len out)
