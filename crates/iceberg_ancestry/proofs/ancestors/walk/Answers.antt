use Rattle.std.proofs.Common.{◌≡◌, ◌∙◌, sym, ap, Some, subst, ◌∷◌, [], ◌++◌}
use Rattle.iceberg_ancestry.specs.Ancestry.{held_at, LeadsTo}
use Rattle.iceberg_ancestry.proofs.AncestryLemmas.{HoldsOthers, taken_held, leads_on, holds_others}
use Rattle.iceberg_ancestry.proofs.ancestors.walk.Goals as goal

pub loop-snapshot-preserved : goal.loop-snapshot-preserved
loop-snapshot-preserved c =
    let xs = c.args.snapshots.now in
    let found = c.loop-snapshot.found in
    let next = c.loop-snapshot.next in
    let s = c.in-Some.snapshot.now in
    let is : held_at xs next ≡ Some s = taken_held c.loop-snapshot.left found xs next s c.loop-snapshot.invariant.left (sym c.in-Some.ensures.taken) in
    let whole : c.push.new.self ≡ found ++ s ∷ [] = c.in_ok-push.ensures.ok ∙ ap (λ t. found ++ t ∷ []) c.in_ok-copy.ensures in
    record {
      chain = subst (λ l. LeadsTo xs c.args.start l s.parent) (sym whole) (leads_on xs c.args.start found next s c.loop-snapshot.invariant.chain is);
      left = subst (λ l. HoldsOthers c.take.new.left l xs) (sym whole) (holds_others c.loop-snapshot.left c.take.new.left found xs next s c.loop-snapshot.invariant.left is c.take.ensures.left);
    }
