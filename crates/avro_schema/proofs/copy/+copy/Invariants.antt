use Rattle.std.proofs.Common.{◌≡◌, ◌++◌, drop, map}
use Rattle.avro_schema.specs.Tree.{tree_of, field_of}
use Rattle.avro_schema.proofs.copy.+copy.Given as goal

abbrev pub invariant-schemas-loop-one : goal.invariant-schemas-loop-one
invariant-schemas-loop-one l = map tree_of l.copies.items ++ map tree_of (drop l.one-index l.found.items) ≡ map tree_of l.found.items

abbrev pub invariant-field_list-loop-one : goal.invariant-field_list-loop-one
invariant-field_list-loop-one l = map field_of l.copies.items ++ map field_of (drop l.one-index l.found.items) ≡ map field_of l.found.items
