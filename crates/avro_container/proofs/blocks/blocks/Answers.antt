use Rattle.avro_container.proofs.BlockRefusals
use Rattle.avro_container.proofs.Headers
use Rattle.std.proofs.Common.{◌≡◌, ◌<◌, true, false, map, length, arith, refl, sym, ap, ◌∙◌}
use Rattle.std.proofs.lemmas.Bool.{eqb-true}
use Rattle.std.proofs.lemmas.Result.{err_from_is_err_and}
use Rattle.avro_value.specs.ValueTree.{value_tree}
use Rattle.avro_value.proofs.BlockLaws.{eqb_false}
use Rattle.avro_container.proofs.ContainerLoops.{loop_begins, loop_goes, loop_fails, loop_done, loop_past}
use Rattle.avro_container.proofs.blocks.blocks.Goals as goal

pub loop-init : goal.loop-init
loop-init c = loop_begins _ _ _ _ _ _ (ap (map value_tree) c.new-found.ensures.items) refl

pub returns-then-is_empty : goal.returns-then-is_empty
returns-then-is_empty c =
    let none : length c.loop.input.rest.now ≡ 0 = eqb-true _ _ (sym c.is_empty.ensures ∙ c.if-is_empty.true) in
    loop_done _ _ _ _ _ _ _ _ c.loop-test.true none c.loop.invariant

pub returns-in_err-block : goal.returns-in_err-block
returns-in_err-block c =
    let none = eqb_false (length c.loop.input.rest.now) 0 (sym c.is_empty.ensures ∙ c.if-is_empty.false) in
    let some : 0 < length c.loop.input.rest.now = omega (arith, none) in
    let p = err_from_is_err_and c.from_residual.result c.from_residual.ensures.1 in
    rw (p.1, p.2) (loop_fails _ _ _ _ _ _ _ _ _ c.loop-test.true some c.in_err-block.ensures c.loop.invariant)

pub loop-preserved : goal.loop-preserved
loop-preserved c =
    let none = eqb_false (length c.loop.input.rest.now) 0 (sym c.is_empty.ensures ∙ c.if-is_empty.false) in
    let some : 0 < length c.loop.input.rest.now = omega (arith, none) in
    loop_goes _ _ _ _ _ _ _ _ _ c.loop-test.true some c.in_ok-block.ensures c.loop.invariant

pub returns : goal.returns
returns c = loop_past _ _ _ _ _ _ _ _ c.loop-test.false c.loop.invariant
