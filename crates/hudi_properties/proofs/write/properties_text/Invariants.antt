use Rattle.std.proofs.Common.{◌≡◌, take}
use Rattle.std.specs.List.{AllByRecursion}
use Rattle.hudi_properties.specs.Written.{properties_text, IsUtf8Pair}
use Rattle.hudi_properties.proofs.write.properties_text.Given as goal

abbrev pub invariant-loop-key : goal.invariant-loop-key
invariant-loop-key l = record {
  text : l.out.items ≡ properties_text (take l.key-index l.key-items);
  utf8 : AllByRecursion IsUtf8Pair (take l.key-index l.key-items);
}
