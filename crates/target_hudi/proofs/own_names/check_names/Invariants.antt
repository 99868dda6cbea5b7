use Rattle.std.proofs.Common.{◌≡◌, take, Contains}
use Rattle.std.specs.Prelude.{IfSome}
use Rattle.lake_store.specs.Disk.{names_in}
use Rattle.lake_store.specs.Runs.{FailsBy, IsUncontestedBy, OnlyReads}
use Rattle.hudi_table.specs.declared.instants.InstantName.{InstantName}
use Rattle.hudi_commit.specs.Names.{claims_folder}
use Rattle.target_hudi.specs.InspectSteps.{HasOwnForm, IsOwnInstant}
use Rattle.target_hudi.proofs.own_names.check_names.Given as goal

abbrev pub invariant-loop-instant : goal.invariant-loop-instant
invariant-loop-instant g l =
    let store = g.S.Store in
    record {
      names : store.tells → IfSome l.claims (λ names. names ≡ names_in (store.disk l.fn.store).files claims_folder);
      form : (i : InstantName) → Contains (take l.instant-index l.instants) i → HasOwnForm i;
      own : store.tells → (i : InstantName) → Contains (take l.instant-index l.instants) i → IsOwnInstant (store.disk l.fn.store).files i;
      reads : store.tells → OnlyReads store l.fn.store l.store;
      cause : FailsBy store l.fn.store l.store ⊥;
      contest : IsUncontestedBy store l.fn.store l.store ⊥;
    }
