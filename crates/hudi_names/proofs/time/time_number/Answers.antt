use Rattle.std.proofs.Common.{◌≡◌, ◌<◌, ◌+ℤ◌, ◌*ℤ◌, pos, sym, ap, subst, ◌∙◌, arith, to_z, of_z, w16, w64}
use Rattle.std.proofs.lemmas.Bool.{false≢true}
use Rattle.std.proofs.lemmas.Int.{ints, to_z-of_z}
use Rattle.std.specs.Int.{int_div_euclid, int_rem_euclid}
use lib.IntN.{nat_abs}
use Rattle.jiff_core.specs.Calendar.{IsEpochDay}
use Rattle.hudi_names.specs.Time.{IsDay, IsTimeOfDay}
use Rattle.jiff_core.specs.Date.{epoch_day}
use Rattle.hudi_names.proofs.DateLemmas.{no_day_outside, no_day_before, day_of_digits}
use Rattle.hudi_names.proofs.TimeLemmas.{day_in_range, number_of_parts, whole_days, past_outside, not_before}
use Rattle.hudi_names.proofs.time.time_number.Goals as goal

pub returns-in-Err-clause-number : goal.returns-in-Err-clause-number
returns-in-Err-clause-number c = λ n small t.
    let fits = c.ranges.ms in
    let days = day_in_range n c.args.ms t in
    let fit = to_z-of_z w64 c.args.ms fits in
    let divided : c.div_euclid.result ≡ int_div_euclid c.args.ms (pos 86400000) = c.div_euclid.ensures ∙ ap (λ z. int_div_euclid z (pos 86400000)) fit in
    let same : t.days ≡ c.div_euclid.result = days ∙ sym divided in
    let back : to_z w64 (of_z w64 c.div_euclid.result) ≡ c.div_euclid.result = grind (arith, to_z-of_z) in
    no_day_outside _ t.days (λ inside. false≢true (c.in-Err.ensures.succeeds.1 (subst IsEpochDay (same ∙ sym back) inside))) t.day

pub returns-then-date-lt0-clause-number : goal.returns-then-date-lt0-clause-number
returns-then-date-lt0-clause-number c = λ n small t.
    let fits = c.ranges.ms in
    let days = day_in_range n c.args.ms t in
    let fit = to_z-of_z w64 c.args.ms fits in
    let divided : c.div_euclid.result ≡ int_div_euclid c.args.ms (pos 86400000) = c.div_euclid.ensures ∙ ap (λ z. int_div_euclid z (pos 86400000)) fit in
    let same : t.days ≡ c.div_euclid.result = days ∙ sym divided in
    let back : to_z w64 (of_z w64 c.div_euclid.result) ≡ c.div_euclid.result = grind (arith, to_z-of_z) in
    no_day_before c.in-Ok.date _ t.days (c.in-Ok.ensures.value ∙ back ∙ sym same) (grind (arith, ints, c.if-date-lt0.true, c.in-Ok.date.year_in)) t.day

pub returns-clause-number : goal.returns-clause-number
returns-clause-number c =
    let fits = c.ranges.ms in
    let fit = to_z-of_z w64 c.args.ms fits in
    let divided : c.div_euclid.result ≡ int_div_euclid c.args.ms (pos 86400000) = c.div_euclid.ensures ∙ ap (λ z. int_div_euclid z (pos 86400000)) fit in
    let left : c.rem_euclid.result ≡ int_rem_euclid c.args.ms (pos 86400000) = c.rem_euclid.ensures.value ∙ ap (λ z. int_rem_euclid z (pos 86400000)) fit in
    let back : to_z w64 (of_z w64 c.div_euclid.result) ≡ c.div_euclid.result = grind (arith, to_z-of_z) in
    let whole = whole_days c.args.ms in
    let day : epoch_day c.in-Ok.date ≡ c.div_euclid.result = c.in-Ok.ensures.value ∙ back in
    let rest_back : to_z w64 (of_z w64 c.rem_euclid.result) ≡ c.rem_euclid.result = grind (arith, to_z-of_z) in
    let rest : c.rem_euclid.result ≡ pos (nat_abs (to_z w64 (of_z w64 c.rem_euclid.result))) = grind (arith, ints, c.rem_euclid.ensures.lower_bound, rest_back) in
    let year : c.in-Ok.date.year ≡ pos (nat_abs (to_z w16 (of_z w16 c.in-Ok.date.year))) = grind (arith, ints, c.if-date-lt0.false, c.in-Ok.date.year_in) in
    let value : c.args.ms ≡ (c.div_euclid.result *ℤ pos 86400000) +ℤ pos (nat_abs (to_z w64 (of_z w64 c.rem_euclid.result))) = whole ∙ rw (← divided, ← left, ← rest) in
    let day_is : IsDay c.from.result c.div_euclid.result =
    rw c.from.ensures (day_of_digits c.in-Ok.date c.date_digits-day.result _ c.div_euclid.result day year c.date_digits-day.ensures.year c.date_digits-day.ensures.month c.date_digits-day.ensures.day) in
    let time_is : IsTimeOfDay c.from-2.result (nat_abs (to_z w64 (of_z w64 c.rem_euclid.result))) = rw c.from-2.ensures c.time_digits-time.ensures.time in
    let small_day : c.from.result < 100000000 = omega arith in
    let small_time : c.from-2.result < 1000000000 = omega arith in
    (omega (arith, small_day, small_time), number_of_parts c.from.result c.from-2.result c.div_euclid.result c.args.ms _ small_time day_is time_is value)

pub returns-in-Err-clause-past : goal.returns-in-Err-clause-past
returns-in-Err-clause-past c = λ n earlier t before.
    let fits = c.ranges.ms in
    let fit = to_z-of_z w64 c.args.ms fits in
    let divided : c.div_euclid.result ≡ int_div_euclid c.args.ms (pos 86400000) = c.div_euclid.ensures ∙ ap (λ z. int_div_euclid z (pos 86400000)) fit in
    let back : to_z w64 (of_z w64 c.div_euclid.result) ≡ c.div_euclid.result = grind (arith, to_z-of_z) in
    past_outside n earlier c.args.ms t before (λ inside. false≢true (c.in-Err.ensures.succeeds.1 (subst IsEpochDay (sym (back ∙ divided)) inside)))

pub returns-then-date-lt0-clause-past : goal.returns-then-date-lt0-clause-past
returns-then-date-lt0-clause-past c = λ n earlier t before.
    let fits = c.ranges.ms in
    let fit = to_z-of_z w64 c.args.ms fits in
    let divided : c.div_euclid.result ≡ int_div_euclid c.args.ms (pos 86400000) = c.div_euclid.ensures ∙ ap (λ z. int_div_euclid z (pos 86400000)) fit in
    let back : to_z w64 (of_z w64 c.div_euclid.result) ≡ c.div_euclid.result = grind (arith, to_z-of_z) in
    absurd (not_before c.in-Ok.date n earlier c.args.ms t before (c.in-Ok.ensures.value ∙ back ∙ divided) (grind (arith, ints, c.if-date-lt0.true, c.in-Ok.date.year_in)))
