use Rattle.std.proofs.Common.{take}
use Rattle.iceberg_live.specs.MetadataPaths.{IsMetadataPath}
use Rattle.iceberg_manifest.specs.Lists.{AreEach}
use Rattle.iceberg_metadata.specs.declared.metadata.Snapshot.{Snapshot}
use Rattle.lake_sweep.proofs.versions.list_paths.Given as goal

abbrev pub invariant-loop-snapshot : goal.invariant-loop-snapshot
invariant-loop-snapshot l = AreEach (λ (s : Snapshot). IsMetadataPath l.metadata.location s.list) (take l.snapshot-index l.snapshots) l.paths
