use Rattle.avro_feeding.proofs.ResumeLemmas.{magic_is, begins}
use Rattle.avro_feeding.proofs.metadata.begin.Goals as goal

pub returns : goal.returns
returns c = begins c.args.bytes.now c.in-Ok.front.now c.in-Ok.field-0-1.now c.in-Ok.ensures (magic_is c.in-Ok.front.now c.as_slice.result.now c.ne.result c.ne.ensures c.if-ne.false c.as_slice.ensures)
