use Rattle.lake_store.specs.Memory.{disk_of}
use Rattle.lake_play.proofs.Reading.{hudi_refused, if_err_weaker}
use Rattle.lake_play.proofs.drilling.line_of_hudi.Goals as goal

pub returns-in-Ok-clause-refused : goal.returns-in-Ok-clause-refused
returns-in-Ok-clause-refused c = if_err_weaker c.line_of.result (λ e end. hudi_refused (disk_of c.args.store.now).files e end) c.line_of.ensures.refused
