use Rattle.delta_log.proofs.LineLemmas.{first_newline}
use Rattle.delta_log.proofs.reading.newline_in.Goals as goal

pub returns : goal.returns
returns c = first_newline c.args.bytes.now c.memchr.result c.memchr.ensures
