use Rattle.std.proofs.Common.{◌≡◌, take}
use Rattle.schema_map.proofs.paths.path_with.Given as goal

abbrev pub invariant-loop-part : goal.invariant-loop-part
invariant-loop-part l = l.path ≡ take l.part-index l.part-items
