use Rattle.avro_value.proofs.Layouts.{lay, shape-Fields}
use Rattle.avro_value.proofs.bare.+bare.Goals as goal

pub is_bare-returns-in-Fields : goal.is_bare-returns-in-Fields
is_bare-returns-in-Fields t c = rw (lay c.args.schema.now _ c.in-Fields.is, shape-Fields) c.fields_are_bare.ensures
