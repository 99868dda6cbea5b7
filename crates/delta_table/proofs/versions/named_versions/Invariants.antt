use Rattle.delta_table.proofs.NamedVersions.{AreGathered}
use Rattle.delta_table.proofs.versions.named_versions.Given as goal

abbrev pub invariant-loop-name : goal.invariant-loop-name
invariant-loop-name l = AreGathered l.names l.name-index l.versions.items
