use Rattle.std.proofs.Common.{◌≡◌, Some, None, ap, ◌∙◌, arith}
use Rattle.json_scan.specs.Passing.{whole_object}
use Rattle.json_scan.proofs.Whole.{object_read, object_and_more, object_refused, not_object}
use Rattle.json_scan.proofs.counted.whole_in_object.Goals as goal

pub returns-in_err-take_brace : goal.returns-in_err-take_brace
returns-in_err-take_brace c =
    let none : whole_object c.args.reader.now ≡ None = not_object c.args.reader.now c.in_err-take_brace.ensures in
    grind (arith, none)

pub returns-in_err-found : goal.returns-in_err-found
returns-in_err-found c =
    let none : whole_object c.args.reader.now ≡ None = object_refused c.args.reader.now _ c.in_ok-take_brace.ensures c.in_err-found.ensures in
    grind (arith, none)

pub returns-in_err-take_end : goal.returns-in_err-take_end
returns-in_err-take_end c =
    let none : whole_object c.args.reader.now ≡ None =
    object_and_more c.in_ok-found.found c.args.name.now c.args.reader.now _ _ c.in_ok-take_brace.ensures c.in_ok-found.ensures c.in_err-take_end.ensures in
    grind (arith, none)

pub returns : goal.returns
returns c =
    let n = c.in_ok-found.found in
    object_read c.args.name.now n c.args.reader.now _ c.in_ok-take_brace.ensures (c.in_ok-found.ensures ∙ ap (λ s. Some (n, s)) c.in_ok-take_end.ensures)
