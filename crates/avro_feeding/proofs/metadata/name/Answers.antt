use Rattle.std.proofs.Common.{◌-◌, length, take, drop, arith}
use Rattle.avro_value.specs.Reading.{text_at}
use Rattle.avro_feeding.proofs.ResumeLemmas.{behind_name, stops_at_name}
use Rattle.avro_feeding.proofs.metadata.name.Goals as goal

pub returns-in-Ok : goal.returns-in-Ok
returns-in-Ok c =
    let some = c.if-left-eq0.false in
    let read = c.in-Ok.ensures (text_at (take (length c.args.bytes.now - c.args.place) (drop c.args.place c.args.bytes.now))) c.text-item.ensures in
    behind_name c.args.bytes.now c.args.place c.args.budget c.args.left (c.args.left.names - 1) c.in-Ok.field-0.now c.take_text.new.self.rest.now c.take_text.new.self.budget c.saturating_sub.result c.requires (omega (arith, some)) read c.saturating_sub.ensures

pub returns-in-Err : goal.returns-in-Err
returns-in-Err c =
    let some = c.if-left-eq0.false in
    let read = c.in-Err.ensures (text_at (take (length c.args.bytes.now - c.args.place) (drop c.args.place c.args.bytes.now))) c.text-item.ensures in
    stops_at_name c.args.bytes.now c.args.place c.args.budget c.args.left (c.args.left.names - 1) c.in-Err.fault c.stop_at.result c.requires (omega (arith, some)) read c.stop_at.ensures
