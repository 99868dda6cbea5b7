use Rattle.avro_feeding.proofs.CallLemmas.{header_goes, header_stops}
use Rattle.avro_feeding.proofs.header.read.Goals as goal

pub returns-in-Ok-Some : goal.returns-in-Ok-Some
returns-in-Ok-Some c =
    let opening = rw c.in-Ok-Some.field-0-is at c.in-Ok-Some.ensures in
    header_goes c.args.bytes.items c.as_slice.result.now c.in-Ok-Some.opened _ c.as_slice.ensures.value opening c.read_behind.ensures

pub returns-in-Err : goal.returns-in-Err
returns-in-Err c = header_stops c.args.bytes.items c.as_slice.result.now c.in-Err.refused c.as_slice.ensures.value c.in-Err.ensures
