use Rattle.std.proofs.Common.{map}
use Rattle.lake_batch.proofs.BatchFolders.{apart_by, not_apart}
use Rattle.lake_batch.proofs.batch.are_apart.Goals as goal

pub returns-in-Some : goal.returns-in-Some
returns-in-Some c =
    let kept = rw c.in-Some.is at c.in_ok-seen.ensures in
    apart_by c.args.tables.now (map (λ s. s.now) c.in-Some.folders.keys) c.lie_beside.result kept.0 kept.1 c.lie_beside.ensures

pub returns-in-None : goal.returns-in-None
returns-in-None c = not_apart c.args.tables.now (rw c.in-None.is at c.in_ok-seen.ensures)
