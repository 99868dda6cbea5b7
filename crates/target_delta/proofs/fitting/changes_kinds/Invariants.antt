use Rattle.std.proofs.Common.{drop}
use Rattle.target_delta.specs.Fitting.{EndsWith}
use Rattle.target_delta.specs.Writing.{LogEnd}
use Rattle.target_delta.proofs.KindLemmas.{AtStep}
use Rattle.target_delta.proofs.fitting.changes_kinds.Given as goal

abbrev pub invariant-loop-commit : goal.invariant-loop-commit
invariant-loop-commit l = (end : LogEnd) → EndsWith end l.names l.initial.newest.items l.initial.has_commit → AtStep l.names l.newest.items l.has_commit end l.commits (drop l.commit-index l.commits)
