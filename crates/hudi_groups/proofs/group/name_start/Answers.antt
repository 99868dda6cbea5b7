use Rattle.hudi_groups.proofs.GroupLemmas.{last_slash, no_slash}
use Rattle.hudi_groups.proofs.group.name_start.Goals as goal

pub returns-in-None-clause-start : goal.returns-in-None-clause-start
returns-in-None-clause-start c = no_slash c.args.path.now c.in-None.ensures

pub returns-in-Some-clause-start : goal.returns-in-Some-clause-start
returns-in-Some-clause-start c = last_slash c.args.path.now c.in-Some.slash c.in-Some.ensures.0 c.in-Some.ensures.1
