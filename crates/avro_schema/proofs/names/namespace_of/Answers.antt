use Rattle.std.proofs.Common.{arith, sym, ◌∙◌}
use Rattle.std.proofs.lemmas.Str.Pattern.{rfind_char}
use Rattle.avro_schema.proofs.Dots.{namespace_found, namespace_missing}
use Rattle.avro_schema.proofs.names.namespace_of.Goals as goal

pub returns-in-Some : goal.returns-in-Some
returns-in-Some c = c.range.ensures.value ∙ namespace_found _ _ _ c.in-Some.is (rfind_char 46 _ _ c.rfind.ensures.cases (omega arith))

pub returns-in-None : goal.returns-in-None
returns-in-None c = sym (namespace_missing _ _ c.in-None.is (rfind_char 46 _ _ c.rfind.ensures.cases (omega arith)))
