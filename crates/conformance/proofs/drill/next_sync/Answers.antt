use Rattle.conformance.proofs.Syncs.{next_none, next_some}
use Rattle.conformance.proofs.drill.next_sync.Goals as goal

pub returns-then-is_sync_point : goal.returns-then-is_sync_point
returns-then-is_sync_point c = next_some c.args.number c.args.commit c.args.sync c.is_sync_point.result c.is_sync_point.ensures c.if-is_sync_point.true c.requires.sync

pub returns-else-is_sync_point : goal.returns-else-is_sync_point
returns-else-is_sync_point c = next_none c.args.number c.args.commit c.args.sync c.is_sync_point.result c.is_sync_point.ensures c.if-is_sync_point.false c.requires.sync
