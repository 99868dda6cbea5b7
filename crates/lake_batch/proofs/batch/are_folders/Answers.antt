use Rattle.std.proofs.Common.{◌+◌, ◌≤◌, length, refl}
use Rattle.table_history.specs.Path.{IsPath}
use Rattle.lake_batch.specs.declared.batch.Item.{Item}
use Rattle.lake_batch.proofs.BatchFolders.{so_far_all, so_far_more}
use Rattle.lake_batch.proofs.batch.are_folders.Goals as goal

pub loop-item-preserved : goal.loop-item-preserved
loop-item-preserved c = so_far_more (λ (item : Item). IsPath item.folder × (c.args.before + 1 + length item.folder ≤ 1024)) c.args.tables.now c.loop-item.item-index c.item-item.result c.loop-item-test.true c.item-item.is c.loop-item.invariant (c.is_folder.ensures.0 c.if-not-is_folder.false)

pub returns : goal.returns
returns c = (λ t. so_far_all (λ (item : Item). IsPath item.folder × (c.args.before + 1 + length item.folder ≤ 1024)) c.args.tables.now c.loop-item.item-index c.loop-item-test.false c.loop-item.invariant, λ all. refl)
