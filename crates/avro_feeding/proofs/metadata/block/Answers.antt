use Rattle.avro_feeding.proofs.ResumeLemmas.{behind_head, stops_at_block, cut_marker}
use Rattle.avro_feeding.proofs.metadata.block.Goals as goal

pub returns-in-Ok-Some : goal.returns-in-Ok-Some
returns-in-Ok-Some c =
    let read = rw c.in-Ok-Some.field-0-is at c.in-Ok-Some.ensures in
    behind_head c.args.bytes.now c.args.place c.args.budget c.in-Ok-Some.head c.pairs_of.result c.begin_block.new.self.rest.now c.begin_block.new.self.budget c.saturating_sub-place.result c.requires read c.saturating_sub-place.ensures c.pairs_of.ensures

pub returns-in-Ok-None : goal.returns-in-Ok-None
returns-in-Ok-None c =
    let read = rw c.in-Ok-None.field-0-is at c.in-Ok-None.ensures in
    cut_marker c.args.bytes.now c.args.place c.args.budget c.begin_block.new.self.rest.now c.begin_block.new.self.budget c.requires read c.if-input-lt-MARKER_LEN.true

pub returns-in-Err : goal.returns-in-Err
returns-in-Err c = stops_at_block c.args.bytes.now c.args.place c.args.budget c.in-Err.fault c.stop_at.result c.requires c.in-Err.ensures c.stop_at.ensures
