use Rattle.std.proofs.Common.{◌≡◌, ◌++◌, drop}
use Rattle.avro_container.specs.Writing.{pairs_text, ArePairs}
use Rattle.avro_container.proofs.write.push_pairs.Given as goal

abbrev pub invariant-loop-pair : goal.invariant-loop-pair
invariant-loop-pair l = record {
  text : l.out.items ++ pairs_text (drop l.pair-index l.pairs) ≡ l.fn.out.items ++ pairs_text l.pairs;
  are : ArePairs (drop l.pair-index l.pairs) → ArePairs l.pairs;
}
