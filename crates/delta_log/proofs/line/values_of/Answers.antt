use Rattle.delta_log.specs.Grammar.{text_or_null}
use Rattle.delta_log.proofs.NameLemmas.{names_by}
use Rattle.delta_log.proofs.line.values_of.Goals as goal

pub returns-clause-names : goal.returns-clause-names
returns-clause-names c = names_by text_or_null c.in_ok-sorted.sorted.entries c.values_in.result c.len.ensures.ordered c.values_in.ensures
