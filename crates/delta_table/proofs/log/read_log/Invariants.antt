use Rattle.std.proofs.Common.{◌≤◌, ◌+◌}
use Rattle.delta_change.specs.Change.{IsTableOfLog}
use Rattle.lake_store.specs.Runs.{FailsBy, IsUncontestedBy, OnlyReads}
use Rattle.delta_table.specs.Log.{IsLogOf}
use Rattle.delta_table.proofs.log.read_log.Given as goal

abbrev pub invariant-loop-version : goal.invariant-loop-version
invariant-loop-version g l =
    let store = g.S.Store in
    record {
      within : l.version ≤ l.newest + 1;
      sound : IsTableOfLog l.log.table;
      log : store.tells → IsLogOf (store.disk l.fn.store).files l.version l.log;
      reads : store.tells → OnlyReads store l.fn.store l.store;
      cause : FailsBy store l.fn.store l.store ⊥;
      contest : IsUncontestedBy store l.fn.store l.store ⊥;
    }
