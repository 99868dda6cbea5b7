use Rattle.std.proofs.Common.{◌+◌, ◌-◌, length}
use Rattle.avro_schema.specs.Tree.{tree_of}
use Rattle.avro_feeding.specs.Views.{trees_found}
use Rattle.avro_feeding.proofs.RunLemmas.{Along}
use Rattle.avro_feeding.proofs.blocks.read_blocks.Given as goal

abbrev pub invariant-loop : goal.invariant-loop
invariant-loop l =
    Along (record { schema = tree_of l.schema; marker = l.marker; offset = l.fn.offset; rest = l.fn.bytes; budget = l.fn.budget }) (length l.fn.bytes + 1 - l.counter)
    (record { schema = tree_of l.schema; marker = l.marker; offset = l.offset; rest = l.rest; budget = l.budget }) (trees_found l.found)
