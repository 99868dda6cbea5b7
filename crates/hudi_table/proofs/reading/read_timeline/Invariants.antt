use Rattle.std.proofs.Common.{◌≡◌, None, take}
use Rattle.std.specs.Prelude.{IfSome}
use Rattle.lake_store.specs.Runs.{FailsBy, IsUncontestedBy, OnlyReads}
use Rattle.hudi_timeline.specs.Change.{IsTableOf}
use Rattle.hudi_table.specs.Reading.{IsReadingOf}
use Rattle.hudi_table.proofs.reading.read_timeline.Given as goal

abbrev pub invariant-loop-instant : goal.invariant-loop-instant
invariant-loop-instant g l =
    let store = g.S.Store in
    record {
      sound : IfSome l.latest (λ t. IsTableOf l.table t.table);
      some : l.latest ≡ None → l.instant-index ≡ 0;
      read : store.tells → IsReadingOf (store.disk l.fn.store).files l.naming l.table (take l.instant-index l.instants) l.latest;
      reads : store.tells → OnlyReads store l.fn.store l.store;
      cause : FailsBy store l.fn.store l.store ⊥;
      contest : IsUncontestedBy store l.fn.store l.store ⊥;
    }
