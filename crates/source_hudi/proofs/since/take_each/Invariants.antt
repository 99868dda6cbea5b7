use Rattle.std.proofs.Common.{◌≤◌, take}
use Rattle.lake_basics.specs.declared.limits.TheConstants.{MAX_ACTIONS}
use Rattle.lake_store.specs.Runs.{FailsBy, IsUncontestedBy, OnlyReads}
use Rattle.source_hudi.specs.Since.{AreTaken}
use Rattle.source_hudi.proofs.Taken.{Leads}
use Rattle.source_hudi.proofs.since.take_each.Given as goal

abbrev pub invariant-loop-instant : goal.invariant-loop-instant
invariant-loop-instant g l =
    let store = g.S.Store in
    record {
      few : l.taken.actions ≤ MAX_ACTIONS;
      leads : Leads l.table l.fn.base l.taken.commits l.taken.last;
      taken : store.tells → AreTaken (store.disk l.fn.store).files l.table l.fn.base (take l.instant-index l.instants) l.taken.commits l.taken.last l.taken.actions;
      reads : store.tells → OnlyReads store l.fn.store l.store;
      cause : FailsBy store l.fn.store l.store ⊥;
      contest : IsUncontestedBy store l.fn.store l.store ⊥;
    }
