use Rattle.std.proofs.Common.{◌≡◌, ℕ, ◌≤◌, List, true, take}
use Rattle.std.specs.List.{list_any}
use Rattle.lake_basics.specs.declared.limits.TheConstants.{MAX_FILE_BYTES}
use Rattle.lake_store.specs.Disk.{AddsShort, Files}
use Rattle.lake_store.specs.Runs.{LeavesAlone}
use Rattle.lake_store.proofs.DiskLaws.{is_path}
use Rattle.hudi_commit.specs.Runs.{IsNotOpen, IsRecoveredAt, IsTidied, StaysAlike}
use Rattle.hudi_commit.specs.Settled.{Stands}
use Rattle.hudi_commit.proofs.recovery.clear_claims.Given as goal

abbrev pub invariant-loop-name : goal.invariant-loop-name
invariant-loop-name g l = record {
  keeps : g.S.Store.tells → (base : Files) → Stands base (g.S.Store.disk l.fn.store) → StaysAlike g.S.Store base l.fn.store l.store;
  tidied : g.S.Store.tells → IsTidied (g.S.Store.disk l.fn.store) (g.S.Store.disk l.store);
  recovered : g.S.Store.tells → (name : List ℕ) → list_any (is_path name) (take l.name-index l.claims) ≡ true → IsRecoveredAt (g.S.Store.disk l.store) name;
  alone : g.S.Store.tells → LeavesAlone g.S.Store (IsNotOpen (g.S.Store.disk l.fn.store).files) l.fn.store l.store;
  short : g.S.Store.tells → AddsShort MAX_FILE_BYTES (g.S.Store.disk l.fn.store).files (g.S.Store.disk l.store).files;
  faults : g.S.Store.faults l.fn.store ≤ g.S.Store.faults l.store;
  may_fail : g.S.Store.may_fail l.store → g.S.Store.may_fail l.fn.store;
  contests : g.S.Store.contests l.store ≡ g.S.Store.contests l.fn.store;
  may_contest : g.S.Store.may_contest l.store → g.S.Store.may_contest l.fn.store;
}
