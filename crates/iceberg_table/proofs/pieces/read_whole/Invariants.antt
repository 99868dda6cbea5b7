use Rattle.std.proofs.Common.{◌≤◌}
use Rattle.lake_basics.specs.declared.limits.TheConstants.{MAX_FILE_BYTES}
use Rattle.lake_store.specs.Runs.{FailsBy, IsUncontestedBy, OnlyReads}
use Rattle.iceberg_table.specs.Pieces.{AreSomeTaken, IsReadSoFar, left}
use Rattle.iceberg_table.proofs.pieces.read_whole.Given as goal

abbrev pub invariant-reading : goal.invariant-reading
invariant-reading g l =
    let store = g.S.Store in
    record {
      within : l.pieces.read ≤ MAX_FILE_BYTES;
      taken : AreSomeTaken l.columns l.pieces;
      read : store.tells → IsReadSoFar (store.disk l.fn.store).files l.columns l.path l.pieces;
      reads : store.tells → OnlyReads store l.fn.store l.store;
      cause : FailsBy store l.fn.store l.store ⊥;
      contest : IsUncontestedBy store l.fn.store l.store ⊥;
    }

abbrev pub decreases-reading : goal.decreases-reading
decreases-reading g l = left l.pieces.is_whole l.pieces.read
