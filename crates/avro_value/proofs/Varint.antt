-- Reading a number group by group, as the loop does.
use Rattle.std.proofs.Common.{pow-suc, inl, inr, lit<, subst, ◌≡◌, ℕ, suc, ◌+◌, ◌-◌, ◌*◌, ◌%◌, ◌^◌, ◌<◌, ◌≤◌, cond, List, [], ◌∷◌, Ok, Err, refl, sym, ap, ◌∙◌, arith, add-one, nat_lt}
use Rattle.std.proofs.lemmas.Bool.{cases_lt, le-ltb, lt-ltb}
use Rattle.std.proofs.Math.Nat.{pow-le-pow_right, mul-le-mul_left, mul-le-mul_right}
use Rattle.avro_value.specs.declared.fault.Fault.TheVariants.{Short, BadLong}
use Rattle.lake_basics.specs.Outcome.{◌>>=◌}
use Rattle.avro_value.specs.Reading.{Item, varint_in, varint_at}

-- the groups so far, and those still to come
abbrev pub with_low : ℕ → ℕ → Item ℕ → Item ℕ
with_low low unit r = r >>= λ x. Ok (low + unit * x.0, x.1)

-- i groups of bytes were read, and stand for low
pub record Goes (bytes rest : List ℕ) (i low unit : ℕ) : Type 0 where
  pub unit-is : unit ≡ 128 ^ i
  pub below : low < unit
  pub total : with_low low unit (varint_in (10 - i) rest) ≡ varint_in 10 bytes

abbrev within_64 : Item ℕ → Item ℕ
within_64 r = r >>= λ z. cond (nat_lt z.0 (2 ^ 64)) (Ok z) (Err BadLong)

pub unit_small : (i unit : ℕ) → unit ≡ 128 ^ i → i < 9 → unit ≤ 2 ^ 56
unit_small i unit e h = let small : i ≤ 8 = omega arith in let le : 128 ^ i ≤ 128 ^ 8 = pow-le-pow_right (lit< tt) small in omega (arith, le)

pub low_fits : (i low unit group : ℕ) → unit ≡ 128 ^ i → low < unit → i < 9 → group < 128 → low + group * unit < 2 ^ 63
low_fits i low unit group e below h g =
    let le = unit_small i unit e h in
    let m : group * unit ≤ 127 * unit = mul-le-mul_right unit (omega arith) in
    omega (arith, le, m)

pub tenth_fits : (low unit group : ℕ) → unit ≡ 128 ^ 9 → low < unit → group < 2 → low + group * unit < 2 ^ 64
tenth_fits low unit group e below g =
    let m : group * unit ≤ 1 * unit = mul-le-mul_right unit (omega arith) in
    omega (arith, m)

Goes-nil : (bytes : List ℕ) (i low unit : ℕ) → Goes bytes [] i low unit → i < 10 → varint_at bytes ≡ Err Short
unfolding varint_at varint_in
Goes-nil bytes i low unit g small =
    let k : 10 - i ≡ suc (9 - i) = omega arith in
    let e : with_low low unit (varint_in (suc (9 - i)) []) ≡ varint_in 10 bytes = subst (λ (n : ℕ). with_low low unit (varint_in n []) ≡ varint_in 10 bytes) k g.total in
    ap within_64 (sym e)

pub Goes-none : (bytes rest : List ℕ) (i low unit : ℕ) → Goes bytes rest i low unit → i < 10 → rest ≡ [] → varint_at bytes ≡ Err Short
Goes-none bytes rest i low unit g small e = Goes-nil bytes i low unit (subst (λ (r : List ℕ). Goes bytes r i low unit) e g) small

total_here : (bytes rest after : List ℕ) (b i low unit : ℕ) → Goes bytes rest i low unit → i < 10 → rest ≡ b ∷ after → with_low low unit (varint_in (suc (9 - i)) (b ∷ after)) ≡ varint_in 10 bytes
total_here bytes rest after b i low unit g small e =
    let k : 10 - i ≡ suc (9 - i) = omega arith in
    rw (← e, ← k) g.total

pub Goes-last : (bytes rest after : List ℕ) (b i low unit : ℕ) → Goes bytes rest i low unit → i < 10 → rest ≡ b ∷ after → b < 128 → low + b * unit < 2 ^ 64 → varint_at bytes ≡ Ok (low + b * unit, after)
unfolding varint_at varint_in
Goes-last bytes rest after b i low unit g small e last fits =
    let h = total_here bytes rest after b i low unit g small e in
    let t : Ok (low + unit * b, after) ≡ varint_in 10 bytes = rw lt-ltb at h in
    let c : unit * b ≡ b * unit = omega arith in
    ap within_64 (sym t) ∙ rw (c, lt-ltb (low + b * unit) (2 ^ 64) fits) refl

shift : (low unit b d : ℕ) (r : Item ℕ) → b % 128 ≡ d → with_low low unit (r >>= λ x. Ok (b % 128 + 128 * x.0, x.1)) ≡ with_low (low + d * unit) (unit * 128) r
shift low unit b d (Ok x) e =
    let n : low + unit * (d + 128 * x.0) ≡ (low + d * unit) + (unit * 128) * x.0 = omega arith in
    rw (e, n) refl
shift low unit b d (Err r) e = refl

pub Goes-more : (bytes rest after : List ℕ) (b i low unit : ℕ) → Goes bytes rest i low unit → i < 9 → rest ≡ b ∷ after → 128 ≤ b → b < 256 → Goes bytes after (i + 1) (low + (b - 128) * unit) (unit * 128)
unfolding varint_in
Goes-more bytes rest after b i low unit g small e more byte =
    let h = total_here bytes rest after b i low unit g (omega arith) e in
    let d : b % 128 ≡ b - 128 = omega arith in
    let m : (b - 128) * unit ≤ 127 * unit = mul-le-mul_right unit (omega arith) in
    let below = g.below in
    let k : 10 - (i + 1) ≡ 9 - i = omega arith in
    let t : with_low low unit (varint_in (9 - i) after >>= λ x. Ok (b % 128 + 128 * x.0, x.1)) ≡ varint_in 10 bytes = rw le-ltb at h in
    record {
      unit-is = rw (g.unit-is, add-one, pow-suc) refl;
      below = omega (arith, m);
      total = rw k (sym (shift low unit b (b - 128) (varint_in (9 - i) after) d) ∙ t);
    }

pub Goes-past : (bytes rest after : List ℕ) (b low unit : ℕ) → Goes bytes rest 9 low unit → rest ≡ b ∷ after → 2 ≤ b → varint_at bytes ≡ Err BadLong
unfolding varint_at varint_in
Goes-past bytes rest after b low unit g e last =
    let h = total_here bytes rest after b 9 low unit g (lit< tt) e in
    elim (cases_lt b 128) [
      | inl lt ↦
          let t : Ok (low + unit * b, after) ≡ varint_in 10 bytes = rw lt-ltb at h in
          let m : unit * 2 ≤ unit * b = mul-le-mul_left unit last in
          let big : 2 ^ 64 ≤ low + unit * b = omega (arith, m, g.unit-is) in
          ap within_64 (sym t) ∙ rw (le-ltb (low + unit * b) (2 ^ 64) big) refl
      | inr le ↦
          let t : Err BadLong ≡ varint_in 10 bytes = rw le-ltb at h in
          ap within_64 (sym t)
    ]

pub Goes-end : (bytes rest : List ℕ) (i low unit : ℕ) → Goes bytes rest i low unit → 10 ≤ i → varint_at bytes ≡ Err BadLong
unfolding varint_at varint_in
Goes-end bytes rest i low unit g end =
    let k : 10 - i ≡ 0 = omega arith in
    let t : with_low low unit (varint_in 0 rest) ≡ varint_in 10 bytes = subst (λ (n : ℕ). with_low low unit (varint_in n rest) ≡ varint_in 10 bytes) k g.total in
    ap within_64 (sym t)
