use Rattle.std.proofs.Common.{◌≡◌, ◌++◌, List, None}
use Rattle.lake_store.specs.Runs.{FailsBy, IsUncontestedBy, OnlyReads}
use Rattle.iceberg_manifest.specs.Lists.{AreEach}
use Rattle.iceberg_table.specs.Counted.{AreFew}
use Rattle.iceberg_table.specs.Manifests.{IsManifestOf}
use Rattle.iceberg_table.specs.declared.list.ManifestFile.{ManifestFile}
use Rattle.iceberg_change.specs.Behind.{HoldsFit, HoldsRead, IsJoined, held_rows}
use Rattle.iceberg_change.proofs.joining.join_list.Given as goal

abbrev pub invariant-loop-file : goal.invariant-loop-file
invariant-loop-file g l =
    let store = g.S.Store in
    let files = (store.disk l.fn.store).files in
    record {
      few : AreFew l.joining.counted;
      joined : IsJoined l.columns (held_rows l.fn.held) None l.joining;
      fit : HoldsFit l.columns l.joining.held;
      parts : (front : List ManifestFile) × (l.fn.list ≡ front ++ l.file-iterator.rest.items)
          × (store.tells → HoldsRead files l.location l.columns l.fn.held → HoldsRead files l.location l.columns l.joining.held × AreEach (IsManifestOf files l.location l.columns) front l.joining.manifests);
      reads : store.tells → OnlyReads store l.fn.store l.store;
      cause : FailsBy store l.fn.store l.store ⊥;
      contest : IsUncontestedBy store l.fn.store l.store ⊥;
    }
