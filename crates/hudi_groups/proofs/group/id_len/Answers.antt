use Rattle.std.proofs.Common.{◌∙◌}
use Rattle.hudi_groups.proofs.GroupLemmas.{first_underscore}
use Rattle.hudi_groups.proofs.group.id_len.Goals as goal

pub returns-clause-id : goal.returns-clause-id
returns-clause-id c = c.unwrap_or.ensures ∙ first_underscore c.args.name.now c.memchr.result c.memchr.ensures
