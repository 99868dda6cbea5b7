-- A number that is read is the number that is spelled there, and what is spelled is read, whatever follows.
use Rattle.std.proofs.Common.{◌≡◌, ℕ, zero, suc, ◌+◌, ◌-◌, ◌*◌, ◌/◌, ◌%◌, ◌^◌, ◌<◌, ◌≤◌, pos, negsuc, Bool, true, false, cond, List, [], ◌∷◌, ◌++◌, length, Result, Ok, Err, refl, sym, ap, subst, arith, inl, inr, nat_lt, eqb}
use Rattle.std.proofs.lemmas.Bool.{cases_lt, ltb-true, le-ltb, lt-ltb}
use Rattle.avro_value.specs.declared.fault.Fault.TheVariants.{BadLong}
use Rattle.avro_value.specs.Varint.{ContinuesToLast, Varint, varint_value, zigzag_value}
use Rattle.lake_basics.specs.Outcome.{◌>>=◌}
use Rattle.avro_value.specs.Reading.{varint_in, varint_at}

-- the value of a step that did not fail
pub bind_ok : {A B E : Type 0} (r : Result A E) (f : A → Result B E) (y : B) → (r >>= f) ≡ Ok y → (x : A) × (r ≡ Ok x) × (f x ≡ Ok y)
bind_ok (Ok x) f y e = (x, refl, e)
bind_ok (Err d) f y e = absurd cc

pub ok_is : {A E : Type 0} (x y : A) → ◌≡◌ {A = Result A E} (Ok x) (Ok y) → x ≡ y
ok_is x y e = cc

-- a test that did not fail
pub guard_ok : {A E : Type 0} (b : Bool) (d : E) (x y : A) → cond b (Ok x) (Err d) ≡ Ok y → (b ≡ true) × (x ≡ y)
guard_ok true d x y e = (refl, cc)
guard_ok false d x y e = absurd cc

pub guard_err : {A E : Type 0} (b : Bool) (d : E) (x y : A) → cond b (Err d) (Ok x) ≡ Ok y → (b ≡ false) × (x ≡ y)
guard_err true d x y e = absurd cc
guard_err false d x y e = (refl, cc)

pub ContinuesToLast-cons : (b : ℕ) (bs : List ℕ) → 128 ≤ b → ContinuesToLast bs → ContinuesToLast (b ∷ bs)
ContinuesToLast-cons b [] h n = absurd n
ContinuesToLast-cons b (c ∷ bs) h n = (h, n)

abbrev pub TakesGroups : ℕ → List ℕ → ℕ × List ℕ → Type 0
TakesGroups k bytes x = (front : List ℕ) × (bytes ≡ front ++ x.1) × ContinuesToLast front × (length front ≤ k) × (varint_value front ≡ x.0)

pub groups_take : (k : ℕ) (bytes : List ℕ) (x : ℕ × List ℕ) → varint_in k bytes ≡ Ok x → TakesGroups k bytes x
unfolding varint_in
groups_take zero bytes x e = absurd cc
groups_take (suc k) [] x e = absurd cc
groups_take (suc k) (b ∷ bs) x e = elim (cases_lt b 128) [
  | inl lt ↦
      (let one : Ok (b, bs) ≡ Ok x = rw lt-ltb at e in
      let same : (b, bs) ≡ x = ok_is _ _ one in
      let value : b % 128 + 128 * 0 ≡ b = omega arith in
      subst (λ (y : ℕ × List ℕ). TakesGroups (suc k) (b ∷ bs) y) same (b ∷ [], refl, lt, omega arith, value))
  | inr ge ↦
      (let more : (varint_in k bs >>= λ y. Ok (b % 128 + 128 * y.0, y.1)) ≡ Ok x = rw le-ltb at e in
      let step = bind_ok (varint_in k bs) (λ y. Ok (b % 128 + 128 * y.0, y.1)) x more in
      let rest = groups_take k bs step.0 step.1 in
      subst (λ (y : ℕ × List ℕ). TakesGroups (suc k) (b ∷ bs) y) (ok_is _ _ step.2)
      (b ∷ rest.0, ap (λ (r : List ℕ). b ∷ r) rest.1, ContinuesToLast-cons b rest.0 ge rest.2, omega (arith, rest.3), ap (λ (n : ℕ). b % 128 + 128 * n) rest.4))
]

pub groups_again : (k : ℕ) (front rest : List ℕ) → ContinuesToLast front → length front ≤ k → varint_in k (front ++ rest) ≡ Ok (varint_value front, rest)
unfolding varint_in
groups_again k [] rest n le = absurd n
groups_again zero (b ∷ bs) rest n le = absurd (omega arith)
groups_again (suc k) (b ∷ []) rest n le =
    let value : b ≡ b % 128 + 128 * 0 = omega arith in
    rw lt-ltb (ap (λ (v : ℕ). Ok (v, rest)) value)
groups_again (suc k) (b ∷ c ∷ bs) rest n le =
    let ge = n.0 in
    let more = groups_again k (c ∷ bs) rest n.1 (omega arith) in
    rw (le-ltb b 128 ge, more) refl

pub number_takes : (bytes : List ℕ) (x : ℕ × List ℕ) → varint_at bytes ≡ Ok x → (front : List ℕ) × (bytes ≡ front ++ x.1) × Varint x.0 front
unfolding varint_at
number_takes bytes x e =
    let step = bind_ok (varint_in 10 bytes) (λ z. cond (nat_lt z.0 (2 ^ 64)) (Ok z) (Err BadLong)) x e in
    let g = guard_ok (nat_lt step.0.0 (2 ^ 64)) BadLong step.0 x step.2 in
    let taken = groups_take 10 bytes step.0 step.1 in
    let fits : step.0.0 < 2 ^ 64 = ltb-true _ _ g.0 in
    subst (λ (y : ℕ × List ℕ). (front : List ℕ) × (bytes ≡ front ++ y.1) × Varint y.0 front) g.1
    (taken.0, taken.1, record { number = taken.2; short = taken.3; value = taken.4; fits = fits })

pub number_again : (z : ℕ) (front rest : List ℕ) → Varint z front → varint_at (front ++ rest) ≡ Ok (z, rest)
unfolding varint_at
number_again z front rest g =
    let fits = g.fits in
    rw (groups_again 10 front rest g.number g.short, g.value, lt-ltb z (2 ^ 64) fits) refl

-- ---- signs

pub even_signed : (z n : ℕ) → pos n ≡ zigzag_value z → (eqb (z % 2) 0 ≡ true) × (z / 2 ≡ n)
even_signed z n e = go (eqb (z % 2) 0) refl
  where
    go : (b : Bool) → eqb (z % 2) 0 ≡ b → (eqb (z % 2) 0 ≡ true) × (z / 2 ≡ n)
    go true h = (h, sym (let f : pos n ≡ pos (z / 2) = rw h at e in cc))
    go false h = absurd (let f : pos n ≡ negsuc (z / 2) = rw h at e in cc)
