use Rattle.target_hudi.proofs.FittingLemmas.{no_fault_by}
use Rattle.target_hudi.proofs.fitting.commit_fits.Goals as goal

pub returns-clause-none : goal.returns-clause-none
returns-clause-none c = no_fault_by c.args.partition.now c.args.commit.now c.as_slice.result.now c.rows_fit.result c.as_slice.ensures c.in_ok-schema_fits.ensures.none c.rows_fit.ensures.none
