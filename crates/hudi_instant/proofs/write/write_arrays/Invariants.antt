use Rattle.std.proofs.Common.{◌≡◌, ◌++◌, length}
use Rattle.json.specs.Tree.{members_tokens}
use Rattle.serde_json.specs.Written.{members_outline}
use Rattle.hudi_instant.specs.InstantText.{runs_by}
use Rattle.hudi_instant.specs.InstantTokens.{run_members}
use Rattle.hudi_instant.proofs.write.write_arrays.Given as goal

-- what is written and what is still to be written are the whole
abbrev pub invariant-runs : goal.invariant-runs
invariant-runs g l =
    record {
      before : l.out.before ≡ l.initial.out.before;
      tokens : l.out.tokens ++ members_tokens (members_outline (run_members g.T.InPartition.data_of (runs_by g.T.InPartition.partition_of l.rest)))
          ≡ l.initial.out.tokens ++ members_tokens (members_outline (run_members g.T.InPartition.data_of (runs_by g.T.InPartition.partition_of l.entries)));
    }

abbrev pub decreases-runs : goal.decreases-runs
decreases-runs g l = length l.rest
