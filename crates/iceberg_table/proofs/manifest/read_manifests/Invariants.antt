use Rattle.std.proofs.Common.{◌≡◌, ◌++◌, List}
use Rattle.lake_store.specs.Runs.{FailsBy, IsUncontestedBy, OnlyReads}
use Rattle.iceberg_manifest.specs.Lists.{AreEach}
use Rattle.iceberg_table.specs.Counted.{AreFew, Counts}
use Rattle.iceberg_table.specs.Kept.{IsMadeOf}
use Rattle.iceberg_table.specs.Manifests.{IsManifestOf}
use Rattle.iceberg_table.specs.declared.list.ManifestFile.{ManifestFile}
use Rattle.iceberg_table.specs.declared.manifest.Manifest.{Manifest}
use Rattle.iceberg_table.proofs.manifest.read_manifests.Given as goal

abbrev pub invariant-loop-file : goal.invariant-loop-file
invariant-loop-file g l =
    let store = g.S.Store in
    record {
      few : AreFew l.counted;
      parts : (front : List ManifestFile) × (read : List Manifest) × (l.fn.list ≡ front ++ l.file-iterator.rest.items) × Counts read l.counted × (store.tells → AreEach (IsManifestOf (store.disk l.fn.store).files l.location l.columns) front read) × IsMadeOf l.fn.keep l.columns l.fn.empty read (record { table = l.table; manifests = l.manifests });
      reads : store.tells → OnlyReads store l.fn.store l.store;
      cause : FailsBy store l.fn.store l.store ⊥;
      contest : IsUncontestedBy store l.fn.store l.store ⊥;
    }
