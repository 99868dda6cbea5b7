use Rattle.lake_batch.proofs.FenceLaws.{since_fenced}
use Rattle.lake_batch.proofs.command.run_part.Goals as goal

pub returns-clause-beside : goal.returns-clause-beside
returns-clause-beside g c = since_fenced g.S.Store c.args.under.folder c.args.under.store c.run_fenced.result.0 c.run_fenced.ensures.beside
