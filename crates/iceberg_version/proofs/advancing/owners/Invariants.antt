use Rattle.std.proofs.Common.{drop}
use Rattle.iceberg_version.specs.Advance.{AreFresh, added_rows}
use Rattle.iceberg_version.specs.Carrying.{parts_at}
use Rattle.iceberg_version.proofs.OwnerLemmas.{AreGivenUpTo}
use Rattle.iceberg_version.proofs.advancing.owners.Given as goal

abbrev pub invariant-loop-one : goal.invariant-loop-one
invariant-loop-one l = record {
  given : AreGivenUpTo l.manifests l.version (parts_at l.parts) l.next l.one-index l.owners.items l.initial.links l.links;
  fresh : AreFresh l.links (added_rows (parts_at l.parts) (drop l.one-index l.next));
}
