use Rattle.std.proofs.Common.{◌≡◌, ◌+◌, ◌*◌, ◌^◌, ◌<◌, length, take, get_or, sym, ap, ◌∙◌, subst, arith}
use Rattle.std.specs.Char.{digit_value}
use Rattle.std.specs.Int.{IsInRange}
use Rattle.std.specs.Str.Parse.{AllDigits, digits_value}
use Rattle.std.proofs.lemmas.Int.Digits.{digits_value-lt, digits_value_more, digits_more}
use Rattle.std.proofs.lemmas.List.{take_all}
use Rattle.std.proofs.lemmas.Str.{digit_value_digit}
use Rattle.std.proofs.lemmas.Str.Parse.{digit_at}
use Rattle.partition_map.proofs.DigitLemmas.{short_value}
use Rattle.partition_map.proofs.date.read_digits.Goals as goal
use Rattle.partition_map.proofs.date.read_digits.Goals.{Else-not-is_ascii_digit}

small : (c : Else-not-is_ascii_digit) → c.loop-digit.number < 1000
small c = short_value c.args.digits.now c.loop-digit.digit-index c.loop-digit.number c.loop-digit-test.true c.requires c.loop-digit.invariant.digits c.loop-digit.invariant.value

pub returns-then-not-is_ascii_digit-clause-numeral : goal.returns-then-not-is_ascii_digit-clause-numeral
returns-then-not-is_ascii_digit-clause-numeral c = λ h. let at = digit_at c.args.digits.now c.loop-digit.digit-index h.1 c.loop-digit-test.true in absurd (omega (arith, c.if-not-is_ascii_digit.ensures.cases, at))

pub overflow_mul-number : goal.overflow_mul-number
overflow_mul-number c = omega (arith, small c)

pub overflow_add-number : goal.overflow_add-number
overflow_add-number c = omega (arith, small (goal.at.overflow_add-number c).Else-not-is_ascii_digit, c.type_inv.digits c.loop-digit.digit-index)

pub loop-digit-preserved : goal.loop-digit-preserved
loop-digit-preserved c =
    let byte = get_or c.args.digits.now c.loop-digit.digit-index 0 in
    let range : IsInRange 48 57 byte = c.if-not-is_ascii_digit.ensures.cases in
    let value : digit_value byte + 48 ≡ byte = digit_value_digit byte range in
    record {
      digits = digits_more 10 c.args.digits.now c.loop-digit.digit-index c.loop-digit-test.true c.loop-digit.invariant.digits (omega arith);
      value = let more : digits_value 10 (take (c.loop-digit.digit-index + 1) c.args.digits.now) ≡ digits_value 10 (take c.loop-digit.digit-index c.args.digits.now) * 10 + digit_value byte =
          digits_value_more 10 c.args.digits.now c.loop-digit.digit-index c.loop-digit-test.true in omega arith;
    }

pub returns-clause-small : goal.returns-clause-small
returns-clause-small c =
    let all : take c.loop-digit.digit-index c.args.digits.now ≡ c.args.digits.now = take_all c.loop-digit.digit-index c.args.digits.now (omega arith) in
    subst (λ n. n < 10 ^ length c.args.digits.now) (sym (c.loop-digit.invariant.value ∙ ap (digits_value 10) all)) (digits_value-lt 10 c.args.digits.now (subst (AllDigits 10) all c.loop-digit.invariant.digits))
