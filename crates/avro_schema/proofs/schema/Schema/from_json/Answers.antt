use Rattle.std.proofs.Common.{ap}
use Rattle.lake_basics.specs.Outcome.{with_fault}
use Rattle.avro_schema.specs.Reading.{error_of}
use Rattle.avro_schema.proofs.Texts.{text_found, text_read, bad_text, recursive_text, fails}
use Rattle.avro_schema.proofs.ReadAgain.{text_again}
use Rattle.avro_schema.proofs.schema.Schema.from_json.Goals as goal

pub returns-in-Ok-clause-found : goal.returns-in-Ok-clause-found
returns-in-Ok-clause-found c = text_found _ _ (ap (with_fault error_of) c.in-Ok.ensures)

pub returns-in-Ok-clause-reads : goal.returns-in-Ok-clause-reads
returns-in-Ok-clause-reads c = text_read c.args.bytes.now

pub returns-in-Err-Memory-clause-reads : goal.returns-in-Err-Memory-clause-reads
returns-in-Err-Memory-clause-reads c = text_read c.args.bytes.now

pub returns-in-Err-Fault-BadSchema-clause-reads : goal.returns-in-Err-Fault-BadSchema-clause-reads
returns-in-Err-Fault-BadSchema-clause-reads c = text_read c.args.bytes.now

pub returns-in-Err-Fault-BadSchema-clause-refused : goal.returns-in-Err-Fault-BadSchema-clause-refused
returns-in-Err-Fault-BadSchema-clause-refused c = let e = c.in-Err-Fault-BadSchema in bad_text c.args.bytes.now (fails e.field-0 e.field-0-0 _ _ e.field-0-is e.field-0-0-is e.ensures)

pub returns-in-Err-Fault-Recursive-clause-reads : goal.returns-in-Err-Fault-Recursive-clause-reads
returns-in-Err-Fault-Recursive-clause-reads c = text_read c.args.bytes.now

pub returns-in-Err-Fault-Recursive-clause-refused : goal.returns-in-Err-Fault-Recursive-clause-refused
returns-in-Err-Fault-Recursive-clause-refused c = let e = c.in-Err-Fault-Recursive in recursive_text c.args.bytes.now (fails e.field-0 e.field-0-0 _ _ e.field-0-is e.field-0-0-is e.ensures)

pub returns-in-Ok-clause-spelled : goal.returns-in-Ok-clause-spelled
returns-in-Ok-clause-spelled c = text_again _ _ (text_found _ _ (ap (with_fault error_of) c.in-Ok.ensures))
