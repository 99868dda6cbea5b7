-- The tree of a field.
use Rattle.std.proofs.Common.{◌≡◌, rules}
use Rattle.avro_schema.specs.declared.schema.Schema.{the_lemmas}
use Rattle.avro_schema.specs.declared.schema.Field.{Field}
use Rattle.avro_schema.specs.Tree.{FieldTree, tree_of, field_of}

pub field_is : (f : Field) → ◌≡◌ {A = FieldTree} (field_of f) (f.name, tree_of f.schema, f.field_id)
field_is f = search (rules, the_lemmas)
