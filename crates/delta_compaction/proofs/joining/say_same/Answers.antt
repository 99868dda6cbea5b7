use Rattle.delta_compaction.proofs.AgreeLemmas.{both_say, unread}
use Rattle.delta_compaction.proofs.joining.say_same.Goals as goal

pub returns-in-Some : goal.returns-in-Some
returns-in-Some c =
    let read = rw c.in-Some.is at c.in_ok-commit.ensures.found in
    both_say c.args.one.now c.args.other.now c.in-Some.commit read c.is_said_by.result c.is_said_by.ensures

pub returns-in-None : goal.returns-in-None
returns-in-None c =
    let none = rw c.in-None.is at c.in_ok-commit.ensures.found in
    unread c.args.one.now c.args.other.now none
