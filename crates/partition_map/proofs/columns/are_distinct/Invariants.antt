use Rattle.std.proofs.Common.{◌≡◌, true, map, take}
use Rattle.avro_schema.specs.Names.{are_distinct}
use Rattle.partition_map.proofs.columns.are_distinct.Given as goal

abbrev pub invariant-loop-name : goal.invariant-loop-name
invariant-loop-name l = record {
  read : map (λ s. s.now) l.seen.keys ≡ take l.name-index l.names;
  distinct : are_distinct (take l.name-index l.names) ≡ true;
}
