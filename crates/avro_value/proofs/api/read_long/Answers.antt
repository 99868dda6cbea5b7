use Rattle.avro_value.proofs.LongLaws.{long_found, long_only, long_refused_at, long_first}
use Rattle.avro_value.proofs.api.read_long.Goals as goal

pub returns-clause-found : goal.returns-clause-found
returns-clause-found c = long_found _ _ _ c.requires c.long_from.ensures

pub returns-clause-only : goal.returns-clause-only
returns-clause-only c = long_only _ _ _ c.long_from.ensures

pub returns-clause-refused : goal.returns-clause-refused
returns-clause-refused c = long_refused_at _ _ _ c.long_from.ensures

pub returns-clause-first : goal.returns-clause-first
returns-clause-first c = long_first _ _ _ c.long_from.ensures
