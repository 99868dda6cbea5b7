use Rattle.avro_schema.proofs.Repeats.{seen_again, seen_more, texts_more, within_same, at_same}
use Rattle.avro_schema.proofs.distinct.texts_are_distinct.Goals as goal

pub returns-then-not-branch : goal.returns-then-not-branch
returns-then-not-branch c = seen_again c.args.texts.now.items _ c.text-item.result c.as_str.result _ _ (within_same _ _ _ c.deref-text-items.ensures.value c.loop-text-test.true) (at_same _ _ _ _ c.deref-text-items.ensures.value c.text-item.is) c.as_str.ensures.value c.loop-text.invariant.read c.in_ok-insert.ensures.added c.if-not-branch.true

pub loop-text-preserved : goal.loop-text-preserved
loop-text-preserved c = record {
  read = texts_more c.args.texts.now.items _ c.text-item.result c.as_str.result _ _ _ (within_same _ _ _ c.deref-text-items.ensures.value c.loop-text-test.true) (at_same _ _ _ _ c.deref-text-items.ensures.value c.text-item.is) c.as_str.ensures.value c.loop-text.invariant.read c.in_ok-insert.ensures.added c.if-not-branch.false c.in_ok-insert.ensures.keys;
  distinct = seen_more c.args.texts.now.items _ c.text-item.result c.as_str.result _ _ (within_same _ _ _ c.deref-text-items.ensures.value c.loop-text-test.true) (at_same _ _ _ _ c.deref-text-items.ensures.value c.text-item.is) c.as_str.ensures.value c.loop-text.invariant.read c.loop-text.invariant.distinct c.in_ok-insert.ensures.added c.if-not-branch.false;
}
