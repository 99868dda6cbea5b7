use Rattle.std.proofs.Common.{◌≡◌, drop}
use Rattle.partition_map.specs.UriPath.{is_well_escaped}
use Rattle.partition_map.proofs.uri.is_well_escaped.Given as goal

abbrev pub invariant-loop-i : goal.invariant-loop-i
invariant-loop-i l = is_well_escaped l.uri ≡ is_well_escaped (drop l.i l.uri)
