use Rattle.std.proofs.Common.{map}
use Rattle.avro_schema.specs.Tree.{field_of}
use Rattle.avro_schema.specs.Reading.{field_name}
use Rattle.avro_schema.proofs.Repeats.{seen_again, seen_more, texts_more, within_same, at_same, name_at, length_names}
use Rattle.avro_schema.proofs.distinct.fields_are_distinct.Goals as goal

pub returns-then-not-branch : goal.returns-then-not-branch
returns-then-not-branch c = seen_again (map field_name (map field_of c.args.fields.now.items)) _ c.field-item.result.name c.as_str.result _ _ (length_names c.args.fields.now.items _ (within_same _ _ _ c.deref-field-items.ensures.value c.loop-field-test.true)) (name_at c.args.fields.now.items _ c.field-item.result (within_same _ _ _ c.deref-field-items.ensures.value c.loop-field-test.true) (at_same _ _ _ _ c.deref-field-items.ensures.value c.field-item.is)) c.as_str.ensures.value c.loop-field.invariant.read c.in_ok-insert.ensures.added c.if-not-branch.true

pub loop-field-preserved : goal.loop-field-preserved
loop-field-preserved c = record {
  read = texts_more (map field_name (map field_of c.args.fields.now.items)) _ c.field-item.result.name c.as_str.result _ _ _ (length_names c.args.fields.now.items _ (within_same _ _ _ c.deref-field-items.ensures.value c.loop-field-test.true)) (name_at c.args.fields.now.items _ c.field-item.result (within_same _ _ _ c.deref-field-items.ensures.value c.loop-field-test.true) (at_same _ _ _ _ c.deref-field-items.ensures.value c.field-item.is)) c.as_str.ensures.value c.loop-field.invariant.read c.in_ok-insert.ensures.added c.if-not-branch.false c.in_ok-insert.ensures.keys;
  distinct = seen_more (map field_name (map field_of c.args.fields.now.items)) _ c.field-item.result.name c.as_str.result _ _ (length_names c.args.fields.now.items _ (within_same _ _ _ c.deref-field-items.ensures.value c.loop-field-test.true)) (name_at c.args.fields.now.items _ c.field-item.result (within_same _ _ _ c.deref-field-items.ensures.value c.loop-field-test.true) (at_same _ _ _ _ c.deref-field-items.ensures.value c.field-item.is)) c.as_str.ensures.value c.loop-field.invariant.read c.loop-field.invariant.distinct c.in_ok-insert.ensures.added c.if-not-branch.false;
}
