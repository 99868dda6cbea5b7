use Rattle.delta_log.proofs.NameLemmas.{none_distinct}
use Rattle.delta_log.proofs.line.configuration_of.Goals as goal

pub returns-in-None-clause-names : goal.returns-in-None-clause-names
returns-in-None-clause-names c = none_distinct c.new.result c.new.ensures
