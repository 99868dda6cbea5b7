use Rattle.std.proofs.Common.{◌+◌, ◌*◌, ◌-◌, ◌<◌, ◌^◌, ℕ, arith, rules, inl, inr, subst, ap, ◌∙◌}
use Rattle.avro_value.proofs.Varint.{Goes, unit_small, Goes-none, Goes-last, Goes-more, Goes-end, Goes-past, low_fits, tenth_fits}
use Rattle.avro_value.proofs.item.number_in_groups.Goals as goal
use Rattle.avro_value.proofs.item.number_in_groups.Goals.{Then-group-lt128, Else-group-lt128, else-loop-i-test, then-loop-i-test+in-Some+then-i-eq9+then-group-ge2}

fits : (c : Then-group-lt128) → c.loop-i.low + c.from-group.result * c.loop-i.unit < 2 ^ 64
fits c =
    let inv = c.loop-i.invariant in
    elim c.else-i-eq9.either [
      | inl tenth ↦ tenth_fits _ _ _ (inv.unit-is ∙ ap (λ (n : ℕ). 128 ^ n) tenth.0) inv.below tenth.1
      | inr other ↦ (let h = low_fits c.loop-i.i c.loop-i.low c.loop-i.unit c.from-group.result inv.unit-is inv.below (omega (arith, other)) c.if-group-lt128.true in omega (arith, h))
    ]

-- the tenth group was told apart before
early : (c : Else-group-lt128) → c.loop-i.i < 9
early c = elim c.else-i-eq9.either [ inl tenth ↦ omega (arith, tenth.1) | inr other ↦ omega (arith, other) ]

byte : (c : Else-group-lt128) → c.in-Some.byte < 256
byte c = search rules

grown : (c : Else-group-lt128) → c.loop-i.low + (c.from-group.result - 128) * c.loop-i.unit < 2 ^ 63
grown c = let b = byte c in low_fits c.loop-i.i c.loop-i.low c.loop-i.unit (c.from-group.result - 128) c.loop-i.invariant.unit-is c.loop-i.invariant.below (early c) (omega (arith, b, c.from-group.ensures))

pub returns-in_default : goal.returns-in_default
returns-in_default c = Goes-none _ _ _ _ _ c.loop-i.invariant c.loop-i-test.true c.in_default.ensures

pub overflow_mul-result : goal.overflow_mul-result
overflow_mul-result c = omega (arith, fits c)

pub overflow_add-result : goal.overflow_add-result
overflow_add-result c = omega (arith, fits c)

pub returns-then-group-lt128 : goal.returns-then-group-lt128
returns-then-group-lt128 c =
    let e = c.from-group.ensures in
    Goes-last _ _ _ _ _ _ _ c.loop-i.invariant c.loop-i-test.true (rw e c.in-Some.ensures) c.if-group-lt128.true (fits c)

pub overflow_mul-low : goal.overflow_mul-low
overflow_mul-low c = omega (arith, grown c)

pub overflow_add-low : goal.overflow_add-low
overflow_add-low c = omega (arith, grown c)

pub overflow_mul-unit : goal.overflow_mul-unit
overflow_mul-unit c = omega (arith, unit_small c.loop-i.i c.loop-i.unit c.loop-i.invariant.unit-is (early c))

pub loop-i-preserved : goal.loop-i-preserved
loop-i-preserved c =
    let e = c.from-group.ensures in
    Goes-more _ _ _ _ _ _ _ c.loop-i.invariant (early c) (rw e c.in-Some.ensures) c.if-group-lt128.false (rw e (byte c))

pub returns : goal.returns
returns c = elim c.loop-i-test.branch [
  | else-loop-i-test w ↦ Goes-end _ _ _ _ _ c.loop-i.invariant w.loop-i-test.false
  | then-loop-i-test+in-Some+then-i-eq9+then-group-ge2 w ↦
      (let nine = w.if-i-eq9.true in
      let big = w.if-group-ge2.true in
      Goes-past c.args.bytes.now c.loop-i.rest.now w.in-Some.after.now w.in-Some.byte _ _ (subst (λ (i : ℕ). Goes c.args.bytes.now c.loop-i.rest.now i c.loop-i.low c.loop-i.unit) nine c.loop-i.invariant) w.in-Some.ensures (omega (arith, w.from-group.ensures, big)))
]
