use Rattle.std.proofs.Common.{◌≡◌, ◌≤◌, ◌+◌, length}
use Rattle.lake_basics.specs.declared.limits.TheConstants.{MAX_ACTIONS}
use Rattle.lake_store.specs.Runs.{FailsBy, IsUncontestedBy, OnlyReads}
use Rattle.source_delta.proofs.SinceLaws.{AreLater, LeadOn}
use Rattle.source_delta.proofs.since.read_later.Given as goal

abbrev pub invariant-loop-next : goal.invariant-loop-next
invariant-loop-next g l =
    let store = g.S.Store in
    record {
      within : l.next ≤ l.newest + 1;
      count : l.version + length l.later.commits + 1 ≡ l.next;
      few : l.later.actions ≤ MAX_ACTIONS;
      are : store.tells → AreLater (store.disk l.fn.store).files l.version l.base l.later;
      fit : LeadOn l.base l.later.commits l.later.table;
      reads : store.tells → OnlyReads store l.fn.store l.store;
      cause : FailsBy store l.fn.store l.store ⊥;
      contest : IsUncontestedBy store l.fn.store l.store ⊥;
    }
