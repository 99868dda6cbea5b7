use Rattle.std.proofs.Common.{ap, ◌∙◌}
use Rattle.iceberg_version.specs.Sound.{have_first_ids}
use Rattle.target_iceberg.proofs.FormLemmas.{not_plain, other_ids, whole_form}
use Rattle.target_iceberg.proofs.form.has_own_form.Goals as goal

pub returns-then-not-is_plain : goal.returns-then-not-is_plain
returns-then-not-is_plain c = not_plain c.args.version c.args.metadata.now c.is_plain.result c.is_plain.ensures c.if-not-is_plain.true

pub returns-then-not-branch : goal.returns-then-not-branch
returns-then-not-branch c = other_ids c.args.version c.args.metadata.now c.in_ok-have_first_ids.field-0 (c.in_ok-have_first_ids.ensures ∙ ap have_first_ids c.as_slice.ensures) c.if-not-branch.true

pub returns : goal.returns
returns c =
    whole_form c.args.version c.args.metadata.now c.is_plain.result c.in_ok-have_first_ids.field-0 c.is_plain.ensures c.if-not-is_plain.false (c.in_ok-have_first_ids.ensures ∙ ap have_first_ids c.as_slice.ensures) c.if-not-branch.false
    c.has_own_spec.result c.has_own_spec.ensures
