use Rattle.std.proofs.Common.{◌≡◌, ◌-◌, length, take, drop, ap, subst, ◌∙◌, arith, length-drop}
use Rattle.std.specs.Str.Parse.{digits_value, IsNumeral}
use Rattle.std.proofs.lemmas.List.{take_all}
use Rattle.partition_map.proofs.DateLemmas.{read_day}
use Rattle.partition_map.proofs.date.read_date.Goals as goal

pub returns : goal.returns
returns c =
    let text = c.args.text.now in
    let last : take (length text - 8) (drop 8 text) ≡ drop 8 text = take_all (length text - 8) (drop 8 text) (omega (arith, length-drop 8 text)) in
    read_day text c.in_ok-year.year c.in_ok-month.month c.in_ok-day.day c.if-text-ne10.false c.if-text-ne45.false c.if-text-ne45-2.false
    c.in_ok-year.ensures.numeral.0 c.in_ok-month.ensures.numeral.0 (subst (IsNumeral 10) last c.in_ok-day.ensures.numeral.0)
    c.in_ok-year.ensures.numeral.1 c.in_ok-month.ensures.numeral.1 (c.in_ok-day.ensures.numeral.1 ∙ ap (digits_value 10) last)
    c.day_number.result c.day_number.ensures
