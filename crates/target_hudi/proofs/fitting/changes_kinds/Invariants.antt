use Rattle.std.proofs.Common.{Option, drop}
use Rattle.std.specs.Prelude.{option_map}
use Rattle.table_history.specs.TypeTree.{ColumnTrees}
use Rattle.target_hudi.specs.Fitting.{AreKindsBehind}
use Rattle.target_hudi.proofs.FittingLemmas.{AtStep}
use Rattle.target_hudi.proofs.fitting.changes_kinds.Given as goal

abbrev pub invariant-loop-commit : goal.invariant-loop-commit
invariant-loop-commit l = (before : Option ColumnTrees) → AreKindsBehind before l.names (option_map (λ k. k.items) l.initial.newest)
    → AtStep l.names (option_map (λ k. k.items) l.newest) before l.commits (drop l.commit-index l.commits)
