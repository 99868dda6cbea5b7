use Rattle.std.proofs.Common.{◌≡◌, ◌+◌}
use Rattle.lake_store.specs.Runs.{FailsBy, IsUncontestedBy}
use Rattle.delta_compact.proofs.Counting.{IsSoFar}
use Rattle.delta_compact.proofs.compacting.compact_blocks.Given as goal

abbrev pub invariant-loop-block : goal.invariant-loop-block
invariant-loop-block g l =
    let store = g.S.Store in
    record {
      sum : l.counts.written + l.counts.kept ≡ l.block;
      so_far : store.tells → IsSoFar store l.fn.store l.block l.counts l.store;
      cause : FailsBy store l.fn.store l.store ⊥;
      contest : IsUncontestedBy store l.fn.store l.store ⊥;
    }
