use Rattle.delta_compaction.proofs.AgreeLemmas.{never_one}
use Rattle.delta_compaction.proofs.joining.readable_commit.Goals as goal

pub returns-in_ok-unless_memory-in-Err-clause-found : goal.returns-in_ok-unless_memory-in-Err-clause-found
returns-in_ok-unless_memory-in-Err-clause-found c = never_one c.args.bytes.now c.in-Err.error c.in_ok-unless_memory-in-Err.ensures c.in-Err.ensures.fault
