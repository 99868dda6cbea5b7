use Rattle.std.proofs.Common.{drop}
use Rattle.target_iceberg.specs.Fitting.{HeldState}
use Rattle.target_iceberg.specs.Following.{AreKindsOf}
use Rattle.target_iceberg.proofs.KindLemmas.{AtKinds}
use Rattle.target_iceberg.proofs.fitting.changes_kinds.Given as goal

abbrev pub invariant-loop-commit : goal.invariant-loop-commit
invariant-loop-commit l = (state : HeldState) → AreKindsOf state l.names l.initial.newest.items l.initial.has_commit → AtKinds l.names l.newest.items l.has_commit state l.commits (drop l.commit-index l.commits)
