use Rattle.std.proofs.Common.{ap, rules}
use Rattle.lake_basics.specs.Outcome.{required}
use Rattle.json_reading.proofs.Laws.{json_read, json_refused}
use Rattle.json_reading.proofs.reading.read_json.Goals as goal

pub returns-in-Ok : goal.returns-in-Ok
returns-in-Ok g c = ap (required c.args.fault) (json_read _ _ c.in-Ok.ensures.ok.0 c.in-Ok.ensures.ok.1)

pub returns-in-Err-2 : goal.returns-in-Err-2
returns-in-Err-2 g c = ap (required c.args.fault) (json_refused _ (c.in-Err-2.ensures.err (search rules)))
