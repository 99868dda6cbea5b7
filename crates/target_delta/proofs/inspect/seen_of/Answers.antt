use Rattle.target_delta.proofs.SeenLemmas.{foreign_sound, kept_sound, unmarked_seen}
use Rattle.target_delta.proofs.inspect.seen_of.Goals as goal

pub returns-in-Some-clause-sound : goal.returns-in-Some-clause-sound
returns-in-Some-clause-sound c =
    let found = rw c.in-Some.is at c.in_ok-mark.ensures in
    kept_sound c.args.log c.args.newest c.args.source c.in-Some.mark c.kept_of.result c.requires.table c.kept_of.ensures found.1

pub returns-in-None-clause-seen : goal.returns-in-None-clause-seen
returns-in-None-clause-seen c =
    unmarked_seen c.args.newest c.args.log c.args.source c.foreign_version.result (rw c.in-None.is at c.in_ok-mark.ensures) c.foreign_version.ensures

pub returns-in-None-clause-sound : goal.returns-in-None-clause-sound
returns-in-None-clause-sound c = foreign_sound c.args.newest c.args.source c.foreign_version.result c.foreign_version.ensures
