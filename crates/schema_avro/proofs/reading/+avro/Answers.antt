use Rattle.std.proofs.Common.{◌≡◌, Some, None, map, rules}
use Rattle.avro_schema.specs.declared.schema.Schema.{the_lemmas}
use Rattle.avro_schema.specs.Tree.{tree_of, branches_of}
use Rattle.schema_avro.proofs.AvroFields.{union_in, union_read, plain_read}
use Rattle.schema_avro.proofs.reading.+avro.Goals as goal

pub part_of-returns-in-Union : goal.part_of-returns-in-Union
part_of-returns-in-Union t c =
    let some : union_in (tree_of c.args.schema.now) ≡ Some (branches_of (map tree_of c.in-Union.branches.items)) = search (rules, the_lemmas, c.in-Union.is) in
    rw (union_read (tree_of c.args.schema.now) _ some, ← c.as_slice.ensures.value) c.union_of.ensures

pub part_of-returns-in_default : goal.part_of-returns-in_default
part_of-returns-in_default t c =
    let none : union_in (tree_of c.args.schema.now) ≡ None = search (rules, the_lemmas, c.in_default.not-Union) in
    rw (plain_read (tree_of c.args.schema.now) none) c.branch_of.ensures
