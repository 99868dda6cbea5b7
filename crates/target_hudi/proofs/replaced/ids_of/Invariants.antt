use Rattle.std.proofs.Common.{◌≡◌, map, take}
use Rattle.target_hudi.specs.Writing.{replaced_of}
use Rattle.target_hudi.proofs.replaced.ids_of.Given as goal

abbrev pub invariant-loop-path : goal.invariant-loop-path
invariant-loop-path l = l.ids.items ≡ map replaced_of (take l.path-index l.paths)
