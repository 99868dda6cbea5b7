use Rattle.delta_compaction.proofs.AgreeLemmas.{said_by, unsaid}
use Rattle.delta_compaction.proofs.joining.is_said_by.Goals as goal

pub returns-in-Some : goal.returns-in-Some
returns-in-Some c =
    let readable = rw c.in-Some.is at c.in_ok-other.ensures.found in
    said_by c.args.bytes.now c.args.commit c.in-Some.other readable c.is_same_commit.result c.is_same_commit.ensures

pub returns-in-None : goal.returns-in-None
returns-in-None c =
    let none = rw c.in-None.is at c.in_ok-other.ensures.found in
    unsaid c.args.bytes.now c.args.commit none
