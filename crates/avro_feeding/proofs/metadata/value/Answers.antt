use Rattle.avro_feeding.proofs.ResumeLemmas.{behind_value, stops_at_value}
use Rattle.avro_feeding.proofs.metadata.value.Goals as goal

pub returns-in-Ok : goal.returns-in-Ok
returns-in-Ok c =
    behind_value c.args.bytes.now c.args.place c.args.budget c.args.left c.in-Ok.field-0.now c.blob.new.input.rest.now c.blob.new.input.budget c.saturating_sub.result c.requires c.in-Ok.ensures c.saturating_sub.ensures

pub returns-in-Err : goal.returns-in-Err
returns-in-Err c = stops_at_value c.args.bytes.now c.args.place c.args.budget c.args.left c.in-Err.fault c.stop_at.result c.requires c.in-Err.ensures c.stop_at.ensures
