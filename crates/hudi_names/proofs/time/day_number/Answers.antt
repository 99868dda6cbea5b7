use Rattle.std.proofs.Common.{◌≡◌, pos, subst, ◌∙◌, arith, w8, w16, to_z}
use Rattle.std.proofs.lemmas.Bool.{false≢true}
use Rattle.std.proofs.lemmas.Int.{ints}
use Rattle.jiff_core.specs.Calendar.{IsDate}
use Rattle.hudi_names.proofs.DateLemmas.{day_of_date, date_of_civil}
use Rattle.hudi_names.proofs.time.day_number.Goals as goal

pub returns-in-Ok : goal.returns-in-Ok
returns-in-Ok c =
    let h = c.in-Ok.ensures.value in
    let y : to_z w16 c.args.year ≡ pos c.args.year = omega (arith, ints) in
    let m : to_z w8 c.args.month ≡ pos c.args.month = omega (arith, ints) in
    let d : to_z w8 c.args.day ≡ pos c.args.day = omega (arith, ints) in
    let both = day_of_date c.in-Ok.date c.args.year c.args.month c.args.day (h.0 ∙ y) (h.1 ∙ m) (h.2 ∙ d) in
    (both.0, omega (arith, ints, c.to_unix_epoch_day.ensures.value, both.1))

pub returns-in-Err : goal.returns-in-Err
returns-in-Err c = λ civil.
    let y : pos c.args.year ≡ to_z w16 c.args.year = omega (arith, ints) in
    let m : pos c.args.month ≡ to_z w8 c.args.month = omega (arith, ints) in
    let d : pos c.args.day ≡ to_z w8 c.args.day = omega (arith, ints) in
    let is = date_of_civil c.args.year c.args.month c.args.day civil in
    false≢true (c.in-Err.ensures.succeeds.1 (subst (λ k. IsDate (to_z w16 c.args.year) (to_z w8 c.args.month) k) d (subst (λ k. IsDate (to_z w16 c.args.year) k (pos c.args.day)) m (subst (λ k. IsDate k (pos c.args.month) (pos c.args.day)) y is))))
