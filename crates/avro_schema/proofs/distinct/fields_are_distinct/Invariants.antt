use Rattle.std.proofs.Common.{◌≡◌, true, map, take}
use Rattle.avro_schema.specs.Tree.{field_of}
use Rattle.avro_schema.specs.Names.{are_distinct}
use Rattle.avro_schema.specs.Reading.{field_name}
use Rattle.avro_schema.proofs.distinct.fields_are_distinct.Given as goal

abbrev pub invariant-loop-field : goal.invariant-loop-field
invariant-loop-field l = record {
  read : map (λ s. s.now) l.seen.keys ≡ take l.field-index (map field_name (map field_of l.fields.items));
  distinct : are_distinct (take l.field-index (map field_name (map field_of l.fields.items))) ≡ true;
}
