use Rattle.std.proofs.Common.{◌≡◌, true, map, take}
use Rattle.avro_schema.specs.Names.{are_distinct}
use Rattle.avro_schema.proofs.distinct.texts_are_distinct.Given as goal

abbrev pub invariant-loop-text : goal.invariant-loop-text
invariant-loop-text l = record {
  read : map (λ s. s.now) l.seen.keys ≡ take l.text-index l.texts.items;
  distinct : are_distinct (take l.text-index l.texts.items) ≡ true;
}
