use Rattle.std.proofs.Common.{sym, ap, subst, ◌∙◌}
use Rattle.delta_log.specs.Sound.{IsWritable}
use Rattle.delta_text.specs.Writing.{commit_text}
use Rattle.conformance.specs.Drill.{drill_time}
use Rattle.conformance.proofs.Commits.{says, writable}
use Rattle.conformance.proofs.commit.bytes_of.Goals as goal

pub commit_text-requires : goal.commit_text-requires
commit_text-requires c = subst IsWritable (sym c.requires.is) (writable c.args.number c.args.place c.requires.place)

pub returns-in-Ok-clause-bytes : goal.returns-in-Ok-clause-bytes
returns-in-Ok-clause-bytes c = c.in-Ok.ensures.text ∙ ap (commit_text drill_time) c.requires.is

pub returns-in-Ok-clause-says : goal.returns-in-Ok-clause-says
returns-in-Ok-clause-says c = says c.args.number c.args.place c.args.commit.now c.in-Ok.bytes c.requires.is c.in-Ok.ensures.text c.in-Ok.ensures.readable
