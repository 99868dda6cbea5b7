use Rattle.std.proofs.Common.{◌∙◌}
use Rattle.avro_schema.proofs.Repeats.{within_same, at_same}
use Rattle.avro_schema.proofs.WrittenItems.{branch_step, branches_end, field_step, fields_end, past_same}
use Rattle.avro_schema.proofs.write.+json.Goals as goal

pub branch_values-loop-branch-preserved : goal.branch_values-loop-branch-preserved
branch_values-loop-branch-preserved n c = branch_step c.loop-branch.values.items c.push.new.self.items c.in_ok-schema_value.field-0 c.args.branches.now.items c.loop-branch.branch-index c.branch-item.result c.args.space.now _ _ c.in_ok-push.ensures.items (within_same _ _ _ c.deref-branch-items.ensures.value c.loop-branch-test.true) (at_same _ _ _ _ c.deref-branch-items.ensures.value c.branch-item.is) c.in_ok-schema_value.ensures ∙ c.loop-branch.invariant

pub branch_values-returns : goal.branch_values-returns
branch_values-returns n c = branches_end _ c.args.branches.now.items c.loop-branch.branch-index c.args.space.now _ _ (past_same _ _ _ c.deref-branch-items.ensures.value c.loop-branch-test.false) c.loop-branch.invariant

pub field_values-loop-field-preserved : goal.field_values-loop-field-preserved
field_values-loop-field-preserved n c = field_step c.loop-field.values.items c.push.new.self.items c.in_ok-field_value.field-0 c.in_ok-inner.inner c.args.fields.now.items c.loop-field.field-index c.field-item.result c.args.space.now _ _ c.in_ok-push.ensures.items (within_same _ _ _ c.deref-field-items.ensures.value c.loop-field-test.true) (at_same _ _ _ _ c.deref-field-items.ensures.value c.field-item.is) c.in_ok-inner.ensures c.in_ok-field_value.ensures ∙ c.loop-field.invariant

pub field_values-returns : goal.field_values-returns
field_values-returns n c = fields_end _ c.args.fields.now.items c.loop-field.field-index c.args.space.now _ _ (past_same _ _ _ c.deref-field-items.ensures.value c.loop-field-test.false) c.loop-field.invariant
