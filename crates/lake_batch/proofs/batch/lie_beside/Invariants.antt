use Rattle.std.proofs.Common.{map}
use Rattle.lake_batch.specs.Batch.{LiesInOne}
use Rattle.lake_batch.proofs.BatchFolders.{SoFar}
use Rattle.lake_batch.proofs.batch.lie_beside.Given as goal

abbrev pub invariant-loop-item : goal.invariant-loop-item
invariant-loop-item l = SoFar (λ item. ¬ LiesInOne (map (λ s. s.now) l.folders.keys) item.folder) l.tables l.item-index
