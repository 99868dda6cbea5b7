use Rattle.avro_value.proofs.ValueLaws.{one_spelling}
use Rattle.avro_value.proofs.DecodeLaws.{ok_refused, err_refused}
use Rattle.avro_value.proofs.api.decode.Goals as goal

pub returns-in-Ok-clause-prefix_free : goal.returns-in-Ok-clause-prefix_free
returns-in-Ok-clause-prefix_free c = one_spelling _

pub returns-in-Ok-clause-first : goal.returns-in-Ok-clause-first
returns-in-Ok-clause-first c = λ e h. ok_refused _ _ _ _ (c.in-Ok.ensures.first e h)

pub returns-in-Err-clause-prefix_free : goal.returns-in-Err-clause-prefix_free
returns-in-Err-clause-prefix_free c = one_spelling _

pub returns-in-Err-clause-first : goal.returns-in-Err-clause-first
returns-in-Err-clause-first c = λ e h. err_refused _ _ _ (c.in-Err.ensures.first e h)
