use Rattle.avro_value.proofs.DecodeLaws.{is_found, is_counted, is_only, is_refused, is_none, is_fitting, is_first}
use Rattle.avro_value.proofs.api.decode_within.Goals as goal

pub returns-clause-found : goal.returns-clause-found
returns-clause-found c = is_found _ _ _ _ _ c.requires c.decoded.ensures

pub returns-clause-counted : goal.returns-clause-counted
returns-clause-counted c = is_counted _ _ _ _ _ c.decoded.ensures

pub returns-clause-only : goal.returns-clause-only
returns-clause-only c = is_only _ _ _ _ _ c.decoded.ensures

pub returns-clause-refused : goal.returns-clause-refused
returns-clause-refused c = is_refused _ _ _ _ _ c.requires c.decoded.ensures

pub returns-clause-first : goal.returns-clause-first
returns-clause-first c = is_first _ _ _ _ _ c.decoded.ensures

pub returns-clause-none : goal.returns-clause-none
returns-clause-none c = is_none _ _ _ _ _ c.decoded.ensures

pub returns-clause-fits : goal.returns-clause-fits
returns-clause-fits c = is_fitting _ _ _ _ _ c.decoded.ensures
