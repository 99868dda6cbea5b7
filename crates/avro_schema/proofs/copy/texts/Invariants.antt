use Rattle.std.proofs.Common.{◌≡◌, ◌++◌, drop}
use Rattle.avro_schema.proofs.copy.texts.Given as goal

abbrev pub invariant-loop-one : goal.invariant-loop-one
invariant-loop-one l = l.copies.items ++ drop l.one-index l.found.items ≡ l.found.items
