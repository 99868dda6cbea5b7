use Rattle.std.proofs.Common.{map, refl, arith}
use Rattle.avro_schema.specs.Tree.{tree_of}
use Rattle.avro_value.specs.ValueTree.{value_tree}
use Rattle.avro_feeding.specs.Views.{trees_found}
use Rattle.avro_feeding.proofs.RunLemmas.{fresh_block, goes_so, stops_so}
use Rattle.avro_feeding.proofs.blocks.read_blocks.Goals as goal

pub loop-preserved : goal.loop-preserved
loop-preserved c =
    goes_so _ (record { schema = tree_of c.args.schema.now; marker = c.args.marker.now; offset = c.loop.offset; rest = c.loop.rest.now; budget = c.loop.budget }) _ _ (trees_found c.loop.found) _
    (map value_tree c.block.new.found.items, c.block.new.input.rest.now, c.block.new.input.budget) _ c.loop.invariant (omega (arith, c.loop-test.true))
    (fresh_block c.new-values.result.items _ _ c.new-values.ensures.items c.in-Ok.ensures) (omega (arith, c.saturating_add-offset.ensures, c.saturating_sub.ensures)) c.in_ok-found-in-Ok.ensures

pub returns-in-Err-Fault : goal.returns-in-Err-Fault
returns-in-Err-Fault c =
    let failed = rw c.in-Err-Fault.field-0-is at c.in-Err-Fault.ensures in
    let refused = rw c.in-Err-Fault.field-0-is at c.refusal.ensures in
    stops_so _ (record { schema = tree_of c.args.schema.now; marker = c.args.marker.now; offset = c.loop.offset; rest = c.loop.rest.now; budget = c.loop.budget }) _ (trees_found c.loop.found) c.in-Err-Fault.fault c.refusal.result c.loop.invariant
    (omega (arith, c.loop-test.true)) (fresh_block c.new-values.result.items _ _ c.new-values.ensures.items failed) (refused c.loop.rest.now refl)
