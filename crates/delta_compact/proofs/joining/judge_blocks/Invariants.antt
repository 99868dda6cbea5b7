use Rattle.std.proofs.Common.{ℕ, ◌<◌}
use Rattle.lake_store.specs.Runs.{FailsBy, IsUncontestedBy, OnlyReads}
use Rattle.delta_compact.specs.Joinable.{IsJoinable}
use Rattle.delta_compact.proofs.joining.judge_blocks.Given as goal

abbrev pub invariant-loop-block : goal.invariant-loop-block
invariant-loop-block g l =
    let store = g.S.Store in
    record {
      joinable : store.tells → (b : ℕ) → b < l.block → IsJoinable (store.disk l.fn.store).files b;
      reads : store.tells → OnlyReads store l.fn.store l.store;
      cause : FailsBy store l.fn.store l.store ⊥;
      contest : IsUncontestedBy store l.fn.store l.store ⊥;
    }
