use Rattle.std.proofs.Common.{◌≤◌, ◌<◌}
use Rattle.std.specs.Prelude.{IfSome, IsSome}
use Rattle.lake_store.specs.Runs.{FailsBy, IsUncontestedBy, OnlyReads}
use Rattle.delta_change.specs.Change.{IsTableOfLog}
use Rattle.delta_compact.specs.Whole.{AreReadParts}
use Rattle.delta_compact.proofs.whole.read_parts.Given as goal

abbrev pub invariant-loop-part : goal.invariant-loop-part
invariant-loop-part g l =
    let store = g.S.Store in
    record {
      within : l.part ≤ l.count;
      begun : 0 < l.part → IsSome l.table;
      sound : IfSome l.table IsTableOfLog;
      read : store.tells → AreReadParts (store.disk l.fn.store).files l.blocks l.part l.table;
      reads : store.tells → OnlyReads store l.fn.store l.store;
      cause : FailsBy store l.fn.store l.store ⊥;
      contest : IsUncontestedBy store l.fn.store l.store ⊥;
    }
