use Rattle.std.specs.Prelude.{◌≤◌, ◌+◌, length}
use Rattle.table_history.specs.Path.{IsPath}
use Rattle.lake_batch.proofs.BatchFolders.{SoFar}
use Rattle.lake_batch.proofs.batch.are_folders.Given as goal

abbrev pub invariant-loop-item : goal.invariant-loop-item
invariant-loop-item l = SoFar (λ item. IsPath item.folder × (l.before + 1 + length item.folder ≤ 1024)) l.tables l.item-index
