use Rattle.std.proofs.Common.{◌≡◌, drop, false}
use Rattle.hudi_properties.specs.Lines.{ends_escaped}
use Rattle.hudi_properties.proofs.line.is_continued.Given as goal

abbrev pub invariant-loop-byte : goal.invariant-loop-byte
invariant-loop-byte l = ends_escaped l.is_escaped (drop l.byte-index l.line) ≡ ends_escaped false l.line
