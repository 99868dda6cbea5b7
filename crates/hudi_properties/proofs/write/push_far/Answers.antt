use Rattle.std.proofs.Common.{◌≡◌, ◌∙◌, ◌+◌, ◌-◌, ◌/◌, ◌%◌, ◌++◌, false, nat_lt, ap, append_assoc, arith}
use Rattle.std.proofs.lemmas.Bool.Decides.{nat_tests}
use Rattle.hudi_properties.specs.Written.{escaped_unit}
use Rattle.hudi_properties.proofs.write.push_far.Goals as goal

pub returns : goal.returns
returns c =
    let no : nat_lt c.args.code 65536 ≡ false = grind (arith, nat_tests) in
    let low = escaped_unit (0xDC00 + (c.args.code - 65536) % 1024) in
    rw no (c.in_ok-push_unit-2.ensures ∙ ap (λ xs. xs ++ low) c.in_ok-push_unit.ensures ∙ append_assoc c.args.out.now.items (escaped_unit (0xD800 + (c.args.code - 65536) / 1024)) low)
