use Rattle.std.proofs.Common.{◌≡◌, true, map, take}
use Rattle.avro_schema.specs.Names.{are_distinct}
use Rattle.lake_batch.specs.Batch.{folder_of}
use Rattle.lake_batch.proofs.batch.distinct_folders.Given as goal

abbrev pub invariant-loop-item : goal.invariant-loop-item
invariant-loop-item l = record {
  read : map (λ s. s.now) l.seen.keys ≡ take l.item-index (map folder_of l.tables);
  distinct : are_distinct (take l.item-index (map folder_of l.tables)) ≡ true;
}
