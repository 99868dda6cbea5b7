use Rattle.std.proofs.Common.{ap}
use Rattle.lake_basics.specs.Outcome.{required}
use Rattle.json_outline.proofs.Bytes.{json_no_text, gives_json}
use Rattle.json_outline.proofs.reading.read_json.Goals as goal

pub returns-in-Ok : goal.returns-in-Ok
returns-in-Ok g c = gives_json c.text_json.result c.args.fault c.in-Ok.text.now c.args.bytes.now c.in-Ok.ensures.cases.0 c.in-Ok.ensures.cases.1 c.text_json.ensures

pub returns-in-Err : goal.returns-in-Err
returns-in-Err g c = ap (required c.args.fault) (json_no_text c.args.bytes.now c.in-Err.ensures.cases.0)
