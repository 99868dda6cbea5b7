use Rattle.std.proofs.Common.{take}
use Rattle.std.specs.Prelude.{IfSome}
use Rattle.lake_store.specs.Runs.{FailsBy, IsUncontestedBy, OnlyReads}
use Rattle.target_hudi.specs.InspectSteps.{IsOurReading, IsSoundNewest}
use Rattle.target_hudi.proofs.inspect.read_instants.Given as goal

abbrev pub invariant-loop-instant : goal.invariant-loop-instant
invariant-loop-instant g l =
    let store = g.S.Store in
    record {
      sound : IfSome l.newest (IsSoundNewest l.source l.properties);
      read : store.tells → IsOurReading l.source (store.disk l.fn.store).files l.properties (take l.instant-index l.completed) l.newest;
      reads : store.tells → OnlyReads store l.fn.store l.store;
      cause : FailsBy store l.fn.store l.store ⊥;
      contest : IsUncontestedBy store l.fn.store l.store ⊥;
    }
