-- A precision and a scale that are in range.
use Rattle.std.proofs.Common.{◌≡◌, ℕ, ◌+◌, ◌<◌, ◌≤◌, Bool, true, false, ◌&&◌, Some, None, refl, subst, arith, cond}
use Rattle.std.specs.Prelude.{nat_lt}
use Rattle.std.proofs.lemmas.Bool.{and_parts, ltb-true}
use Rattle.schema_map.specs.Decimal.{decimal_in_range}

-- a precision and a scale in range
abbrev pub IsDecimal : ℕ × ℕ → Type 0
IsDecimal q = (0 < q.0) × (q.0 < 39) × (q.1 ≤ q.0)

range_by : (p s : ℕ) (b : Bool) (q : ℕ × ℕ) → (nat_lt 0 p && (nat_lt p 39 && nat_lt s (p + 1))) ≡ b → cond b (Some (p, s)) None ≡ Some q → IsDecimal q
range_by p s true q is e =
    let tests = and_parts (nat_lt 0 p) (nat_lt p 39 && nat_lt s (p + 1)) is in
    let more = and_parts (nat_lt p 39) (nat_lt s (p + 1)) tests.1 in
    let some = ltb-true 0 p tests.0 in
    let small = ltb-true p 39 more.0 in
    let scale = ltb-true s (p + 1) more.1 in
    let at_most : s ≤ p = omega (arith, scale) in
    let mine : IsDecimal (p, s) = (some, small, at_most) in
    let eq : (p, s) ≡ q = cc in
    subst IsDecimal eq mine
range_by p s false q is e = absurd (cc)

pub range_is : (p s : ℕ) (q : ℕ × ℕ) → decimal_in_range p s ≡ Some q → IsDecimal q
range_is p s q e = range_by p s _ q refl e
