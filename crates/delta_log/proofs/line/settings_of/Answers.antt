use Rattle.json_reading.specs.Json.{text}
use Rattle.delta_log.specs.declared.error.LineFault.TheVariants.{Malformed}
use Rattle.delta_log.proofs.NameLemmas.{names_by}
use Rattle.delta_log.proofs.line.settings_of.Goals as goal

pub returns-clause-names : goal.returns-clause-names
returns-clause-names c = names_by (text Malformed) c.in_ok-sorted.sorted.entries c.settings_in.result c.len.ensures.ordered c.settings_in.ensures
