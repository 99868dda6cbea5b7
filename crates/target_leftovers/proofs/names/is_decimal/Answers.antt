use Rattle.std.proofs.Common.{◌≡◌, ◌<◌, get_or, length, arith}
use Rattle.std.proofs.lemmas.Bool.Decides.{nat_tests}
use Rattle.target_leftovers.proofs.NameLemmas.{decimal_tested}
use Rattle.target_leftovers.proofs.names.is_decimal.Goals.{else-bytes-eq48-via-then-bytes-eq48+else-bytes-ne1, else-bytes-eq48-via-else-bytes-eq48}
use Rattle.target_leftovers.proofs.names.is_decimal.Goals as goal

pub returns : goal.returns
returns c =
    let plain : get_or c.args.bytes.now 0 0 ≡ 48 → length c.args.bytes.now ≡ 1 = elim c.else-bytes-eq48.branch [ else-bytes-eq48-via-then-bytes-eq48+else-bytes-ne1 w ↦ λ e. w.if-bytes-ne1.false | else-bytes-eq48-via-else-bytes-eq48 w ↦ λ e. absurd (w.if-bytes-eq48.false e) ] in
    let some : 0 < length c.args.bytes.now = grind (arith, nat_tests) in
    decimal_tested c.args.bytes.now c.are_digits.result some plain c.are_digits.ensures
