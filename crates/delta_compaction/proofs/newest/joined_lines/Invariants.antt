use Rattle.std.proofs.Common.{◌≡◌, List, [], take}
use Rattle.delta_log.specs.declared.commit.DeltaCommit.{DeltaCommit}
use Rattle.delta_compaction.specs.Kinds.{with_lines}
use Rattle.delta_compaction.specs.Reconciled.{all_lines}
use Rattle.delta_compaction.specs.Taken.{AreTaken}
use Rattle.delta_compaction.proofs.newest.joined_lines.Given as goal

abbrev pub invariant-loop-index : goal.invariant-loop-index
invariant-loop-index l = record {
  lines : l.newest ≡ with_lines (all_lines (take l.index l.commits)) [];
  taken : (said : List DeltaCommit) × AreTaken (take l.index l.commits) said;
}
