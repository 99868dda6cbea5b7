use Rattle.std.proofs.Common.{arith, subst}
use Rattle.hudi_properties.specs.Escapes.{IsEscape}
use Rattle.hudi_properties.proofs.EscapeLemmas.{hex_small}
use Rattle.hudi_properties.proofs.escape.step_of.Goals as goal

pub overflow_mul-value : goal.overflow_mul-value
overflow_mul-value c = let r = subst IsEscape c.in-Hex.is c.requires in omega (arith, hex_small _ _ r.0 r.1)

pub overflow_add-value : goal.overflow_add-value
overflow_add-value c = let r = subst IsEscape c.in-Hex.is c.requires in omega (arith, hex_small _ _ r.0 r.1, c.in_ok-digit-in-Hex.ensures.value.0, c.in_ok-digit-in-Hex.ensures.value.1)
