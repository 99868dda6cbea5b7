use Rattle.std.proofs.Common.{ℕ, ◌≤◌, ◌<◌, ◌+◌}
use Rattle.lake_store.specs.Runs.{FailsBy, IsUncontestedBy, OnlyReads}
use Rattle.delta_table.specs.Versions.{HasVersion}
use Rattle.delta_compact.proofs.whole.missing_version.Given as goal

abbrev pub invariant-loop-back : goal.invariant-loop-back
invariant-loop-back g l =
    let store = g.S.Store in
    record {
      within : l.back ≤ l.few;
      behind : store.tells → (later : ℕ) → l.head < later + l.back → later ≤ l.head → HasVersion (store.disk l.fn.store).files later;
      reads : store.tells → OnlyReads store l.fn.store l.store;
      cause : FailsBy store l.fn.store l.store ⊥;
      contest : IsUncontestedBy store l.fn.store l.store ⊥;
    }
