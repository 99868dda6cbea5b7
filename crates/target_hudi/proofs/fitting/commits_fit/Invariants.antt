use Rattle.std.proofs.Common.{take, Contains}
use Rattle.table_history.specs.declared.table.Commit.{Commit}
use Rattle.target_hudi.specs.Fitting.{HasNoFault}
use Rattle.target_hudi.proofs.fitting.commits_fit.Given as goal

abbrev pub invariant-loop-commit : goal.invariant-loop-commit
invariant-loop-commit l = (commit : Commit) → Contains (take l.commit-index l.commits) commit → HasNoFault l.partition commit
