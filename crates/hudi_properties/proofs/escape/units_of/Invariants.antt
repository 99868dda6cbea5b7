use Rattle.std.proofs.Common.{◌≡◌, drop}
use Rattle.hudi_properties.specs.declared.escape.Escape.TheVariants.{Outside}
use Rattle.hudi_properties.specs.Escapes.{units_from, IsEscape}
use Rattle.hudi_properties.proofs.EscapeLemmas.{with_units}
use Rattle.hudi_properties.proofs.escape.units_of.Given as goal

abbrev pub invariant-loop-byte : goal.invariant-loop-byte
invariant-loop-byte l = record {
  escape : IsEscape l.state;
  so_far : with_units l.units.items (units_from l.state (drop l.byte-index l.bytes)) ≡ units_from Outside l.bytes;
}
