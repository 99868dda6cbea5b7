use Rattle.std.proofs.Common.{◌≡◌, ◌++◌, ◌∷◌, [], map, sym, ◌∙◌}
use Rattle.std.proofs.lemmas.Result.{err_from_is_err_and}
use Rattle.std.proofs.lemmas.List.{map_push}
use Rattle.avro_value.specs.ValueTree.{value_tree}
use Rattle.avro_value.proofs.Loops.{many_goes, many_fails, many_done}
use Rattle.avro_value.proofs.BareValues.{idle_behind}
use Rattle.avro_container.proofs.Objects.{idle_object}
use Rattle.avro_container.proofs.blocks.many.Goals as goal

pub returns-then-is_bare : goal.returns-then-is_bare
returns-then-is_bare c = rw c.fault.ensures (idle_behind _ _ _ _ _ (idle_object _ (sym c.is_bare.ensures ∙ c.if-is_bare.true)) c.if-count-input.true)

pub returns-in_err-object : goal.returns-in_err-object
returns-in_err-object c =
    let p = err_from_is_err_and c.from_residual.result c.from_residual.ensures.1 in
    rw (p.1, p.2) (many_fails _ _ _ _ _ _ _ _ c.loop-test.true c.in_err-object.ensures c.loop.invariant)

pub loop-preserved : goal.loop-preserved
loop-preserved c =
    let n = c.in_ok-object.field-0 in
    let e : map value_tree c.push.new.self.items ≡ map value_tree c.loop.found.items ++ value_tree n ∷ [] = rw c.in_ok-push.ensures.items (map_push _ c.loop.found.items n) in
    rw e (many_goes _ _ _ _ _ _ _ _ c.loop-test.true c.in_ok-object.ensures c.loop.invariant)

pub returns : goal.returns
returns c = many_done _ _ _ _ _ _ _ c.loop-test.false c.loop.invariant
