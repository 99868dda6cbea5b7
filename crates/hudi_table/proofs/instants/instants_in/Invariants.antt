use Rattle.std.proofs.Common.{◌≡◌, ◌++◌, drop}
use Rattle.std.specs.List.{filter_map}
use Rattle.hudi_table.specs.Instants.{instant_named}
use Rattle.hudi_table.proofs.instants.instants_in.Given as goal

abbrev pub invariant-loop-name : goal.invariant-loop-name
invariant-loop-name l = l.found ++ filter_map (instant_named l.names) (drop l.name-index l.names) ≡ filter_map (instant_named l.names) l.names
