use Rattle.std.proofs.Common.{◌≡◌, ◌++◌, drop}
use Rattle.std.specs.List.{filter_map}
use Rattle.hudi_table.specs.Instants.{completed_of}
use Rattle.hudi_table.proofs.instants.completed_in.Given as goal

abbrev pub invariant-loop-instant : goal.invariant-loop-instant
invariant-loop-instant l = l.found ++ filter_map (completed_of l.names) (drop l.instant-index l.instants) ≡ filter_map (completed_of l.names) l.instants
