use Rattle.std.proofs.Common.{sym, ap, ◌∙◌, drop-cons, add-one, Some}
use Rattle.std.proofs.lemmas.List.{at_drop_all}
use Rattle.hudi_properties.specs.Escapes.{units_from}
use Rattle.hudi_properties.proofs.EscapeLemmas.{with_units, units_step, units_stop, units_open, units_closed}
use Rattle.hudi_properties.proofs.escape.units_of.Goals as goal

pub returns-in_default : goal.returns-in_default
returns-in_default c =
    let rest = drop-cons c.args.bytes.now c.loop-byte.byte-index 0 c.loop-byte-test.true in
    sym (units_stop _ _ _ c.loop-byte.units.items (sym c.in_default.ensures.value))
    ∙ ap (λ bs. with_units c.loop-byte.units.items (units_from c.loop-byte.state bs)) (sym rest) ∙ c.loop-byte.invariant.so_far

pub loop-byte-preserved : goal.loop-byte-preserved
loop-byte-preserved c =
    let rest = drop-cons c.args.bytes.now c.loop-byte.byte-index 0 c.loop-byte-test.true in
    record {
      escape = c.in-Some.ensures.escape;
      so_far = rw (c.in_ok-push_if_any.ensures, add-one)
          (units_step _ c.in-Some.next _ _ c.in-Some.unit c.loop-byte.units.items (sym c.in-Some.ensures.value)
          ∙ ap (λ bs. with_units c.loop-byte.units.items (units_from c.loop-byte.state bs)) (sym rest) ∙ c.loop-byte.invariant.so_far);
    }

pub returns-in-Hex : goal.returns-in-Hex
returns-in-Hex c =
    sym (units_open c.loop-byte.state c.in-Hex.digits c.in-Hex.value c.loop-byte.units.items c.in-Hex.is)
    ∙ sym (at_drop_all (λ bs. with_units c.loop-byte.units.items (units_from c.loop-byte.state bs)) c.args.bytes.now c.loop-byte.byte-index c.loop-byte-test.false)
    ∙ c.loop-byte.invariant.so_far

pub returns : goal.returns
returns c =
    ap Some c.from_vec.ensures ∙ sym (units_closed c.loop-byte.state c.loop-byte.units.items c.in_default-state.not-Hex)
    ∙ sym (at_drop_all (λ bs. with_units c.loop-byte.units.items (units_from c.loop-byte.state bs)) c.args.bytes.now c.loop-byte.byte-index c.loop-byte-test.false)
    ∙ c.loop-byte.invariant.so_far
