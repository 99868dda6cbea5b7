use Rattle.std.proofs.Common.{◌≡◌, take}
use Rattle.hudi_properties.proofs.TableLemmas.{names_of_parts}
use Rattle.hudi_properties.proofs.table.names_of.Given as goal

abbrev pub invariant-loop-part : goal.invariant-loop-part
invariant-loop-part l = l.names ≡ names_of_parts (take l.part-index l.part-items)
