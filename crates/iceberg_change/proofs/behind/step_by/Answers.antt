use Rattle.iceberg_table.specs.Tables.{rows_of}
use Rattle.iceberg_change.proofs.behind.step_by.Goals as goal

pub change_of-requires-clause-parts : goal.change_of-requires-clause-parts
change_of-requires-clause-parts c = (rows_of c.args.read.joining.manifests, c.requires.parts)

pub returns-clause-change : goal.returns-clause-change
returns-clause-change c = c.in_ok-change.ensures.change (rows_of c.args.read.joining.manifests) c.requires.parts
