use Rattle.target_iceberg.specs.Publishing.{AreManifestPaths}
use Rattle.target_iceberg.proofs.publish.manifest_paths.Given as goal

abbrev pub invariant-loop-number : goal.invariant-loop-number
invariant-loop-number l = AreManifestPaths l.version l.number l.paths.items
