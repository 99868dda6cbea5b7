use Rattle.std.proofs.Common.{◌≡◌, ◌⊎◌, ◌≤◌}
use Rattle.lake_store.specs.Memory.{disk_of}
use Rattle.lake_play.specs.Playing.{Sheds}
use Rattle.lake_play.proofs.log.remove_versions.Given as goal

abbrev pub invariant-loop-version : goal.invariant-loop-version
invariant-loop-version l = record {
  sheds : Sheds l.from l.version (disk_of l.fn.store) (disk_of l.store);
  low : l.from ≤ l.version;
  up : (l.version ≤ l.to) ⊎ (l.version ≡ l.from);
}
