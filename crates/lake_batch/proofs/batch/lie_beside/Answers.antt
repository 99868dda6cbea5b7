use Rattle.std.proofs.Common.{◌≡◌, ◌∙◌, true, false, map, refl, subst, sym}
use Rattle.lake_batch.specs.Batch.{LiesInOne}
use Rattle.lake_batch.specs.declared.batch.Item.{Item}
use Rattle.lake_batch.proofs.BatchFolders.{so_far_all, so_far_more}
use Rattle.lake_batch.proofs.batch.lie_beside.Goals as goal

pub loop-item-preserved : goal.loop-item-preserved
loop-item-preserved c = so_far_more (λ (item : Item). ¬ LiesInOne (map (λ s. s.now) c.args.folders.now.keys) item.folder) c.args.tables.now c.loop-item.item-index c.item-item.result c.loop-item-test.true c.item-item.is c.loop-item.invariant
    (λ lies. let both : true ≡ false = sym (c.lies_in_one.ensures.1 (subst (LiesInOne (map (λ s. s.now) c.args.folders.now.keys)) (sym c.as_bytes.ensures.value) lies)) ∙ c.if-lies_in_one.false in absurd (cc both))

pub returns : goal.returns
returns c = (λ t. so_far_all (λ (item : Item). ¬ LiesInOne (map (λ s. s.now) c.args.folders.now.keys) item.folder) c.args.tables.now c.loop-item.item-index c.loop-item-test.false c.loop-item.invariant, λ all. refl)

pub returns-then-lies_in_one : goal.returns-then-lies_in_one
returns-then-lies_in_one c = (
  λ t. absurd (cc t),
  λ all. absurd (all c.loop-item.item-index c.item-item.result c.loop-item-test.true
      (subst (λ (item : Item). LiesInOne (map (λ s. s.now) c.args.folders.now.keys) item.folder) c.item-item.is (subst (LiesInOne (map (λ s. s.now) c.args.folders.now.keys)) c.as_bytes.ensures.value (c.lies_in_one.ensures.0 c.if-lies_in_one.true)))),
)
