use Rattle.std.proofs.Common.{rules, w64}
use Rattle.std.proofs.lemmas.Int.{to_z-of_z}
use Rattle.iceberg_metadata.specs.declared.metadata.Snapshot.{Snapshot}
use Rattle.iceberg_metadata_reading.proofs.IdLemmas.{one_more}
use Rattle.iceberg_metadata_reading.proofs.consistent.snapshot_ids.Goals as goal

pub loop-snapshot-preserved : goal.loop-snapshot-preserved
loop-snapshot-preserved c =
    one_more (λ (s : Snapshot). s.id) c.loop-snapshot.ids.items c.push.new.self.items c.args.snapshots.now c.loop-snapshot.snapshot-index _ c.snapshot-item.result c.loop-snapshot-test.true c.snapshot-item.is c.in_ok-push.ensures.items (to_z-of_z w64 c.snapshot-item.result.id (search rules)) c.loop-snapshot.invariant
