use Rattle.std.proofs.Common.{◌+◌, take, sym, subst, arith}
use Rattle.target_delta.specs.Writing.{AreTexts}
use Rattle.target_delta.proofs.TextLemmas.{texts_more}
use Rattle.target_delta.proofs.actions.texts_of.Goals as goal

pub loop-i-preserved : goal.loop-i-preserved
loop-i-preserved c =
    let names = c.args.partition.now in
    let values = c.args.values.now in
    let i = c.loop-i.i in
    subst (λ l. AreTexts (take (i + 1) names) (take (i + 1) values) l) (sym c.in_ok-push.ensures.items)
    (texts_more names values c.loop-i.texts.items i c.index-partition-i.result c.index-values-i.result (c.in_ok-copy.field-0, c.in_ok-text.text)
    c.loop-i-test.true (omega (arith, c.requires.len)) c.index-partition-i.is c.index-values-i.is c.loop-i.invariant c.in_ok-copy.ensures c.in_ok-text.ensures)
