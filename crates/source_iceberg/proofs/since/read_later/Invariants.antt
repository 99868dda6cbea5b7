use Rattle.std.proofs.Common.{◌≤◌, take}
use Rattle.lake_basics.specs.declared.limits.TheConstants.{MAX_ACTIONS}
use Rattle.lake_store.specs.Runs.{FailsBy, IsUncontestedBy, OnlyReads}
use Rattle.iceberg_change.specs.Behind.{GoesOn, IsListed}
use Rattle.source_iceberg.proofs.SinceLaws.{LeadOn, Made}
use Rattle.source_iceberg.proofs.since.read_later.Given as goal

abbrev pub invariant-loop-snapshot : goal.invariant-loop-snapshot
invariant-loop-snapshot g l =
    let store = g.S.Store in
    record {
      few : l.later.counted.entries ≤ MAX_ACTIONS;
      made : store.tells → Made (store.disk l.fn.store).files l.metadata l.base (take l.snapshot-index l.snapshots) l.later;
      fit : LeadOn l.base l.later.commits l.later.table;
      goes_on : GoesOn l.later.table l.later.listed;
      listed : store.tells → IsListed (store.disk l.fn.store).files l.metadata.location l.later.listed;
      reads : store.tells → OnlyReads store l.fn.store l.store;
      cause : FailsBy store l.fn.store l.store ⊥;
      contest : IsUncontestedBy store l.fn.store l.store ⊥;
    }
