use Rattle.std.proofs.Common.{◌≡◌, ◌++◌, ◌≤◌, List, length}
use Rattle.iceberg_table.specs.Tables.{rows_of}
use Rattle.target_iceberg.specs.InspectSteps.{AreLinked}
use Rattle.iceberg_table.specs.declared.manifest.Manifest.{Manifest}
use Rattle.target_iceberg.proofs.linking.link_each.Given as goal

abbrev pub invariant-loop-manifest : goal.invariant-loop-manifest
invariant-loop-manifest l = record {
  parts : (front : List Manifest) × (l.fn.manifests ≡ front ++ l.manifest-iterator.rest.items) × AreLinked front l.kept l.links;
  owners : length l.manifest-iterator.rest.items ≤ l.links.owner_room;
  rows : length (rows_of l.manifest-iterator.rest.items) ≤ l.links.room;
}
