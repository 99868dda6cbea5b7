use Rattle.std.proofs.Common.{◌≡◌, ℕ, ◌<◌, ◌≤◌, [], get_or}
use Rattle.std.specs.Prelude.{slice_get}
use Rattle.std.specs.FinMap as map
use Rattle.lake_basics.specs.declared.limits.TheConstants.{MAX_FILE_BYTES}
use Rattle.lake_store.specs.Disk.{AddsShort}
use Rattle.lake_store.specs.Runs.{LeavesAlone}
use Rattle.target_iceberg.specs.Publishing.{IsNoneOf}
use Rattle.target_iceberg.proofs.publish.write_manifests.Given as goal

abbrev pub invariant-loop-number : goal.invariant-loop-number
invariant-loop-number g l = record {
  alone : g.S.Store.tells → LeavesAlone g.S.Store (IsNoneOf l.paths) l.fn.store l.store;
  written : g.S.Store.tells → (k : ℕ) → k < l.number → map.get (g.S.Store.disk l.store).files (get_or l.paths k []) ≡ slice_get l.manifests k;
  short : g.S.Store.tells → AddsShort MAX_FILE_BYTES (g.S.Store.disk l.fn.store).files (g.S.Store.disk l.store).files;
  faults : g.S.Store.faults l.fn.store ≤ g.S.Store.faults l.store;
  may_fail : g.S.Store.may_fail l.store → g.S.Store.may_fail l.fn.store;
  contests : g.S.Store.contests l.store ≡ g.S.Store.contests l.fn.store;
  may_contest : g.S.Store.may_contest l.store → g.S.Store.may_contest l.fn.store;
}
