use Rattle.std.specs.List.{zip}
use Rattle.iceberg_version.specs.Schemas.{FIRST_PARTITION_ID}
use Rattle.target_iceberg.proofs.FormLemmas.{failed, fields_begin, fields_end, fields_more, fields_stop, passed}
use Rattle.target_iceberg.proofs.form.are_fields.Goals as goal

pub loop-place-init : goal.loop-place-init
loop-place-init c = fields_begin (zip c.args.paths.now c.args.ids.now) FIRST_PARTITION_ID c.args.fields.now

pub returns-then-not-is_spec_field : goal.returns-then-not-is_spec_field
returns-then-not-is_spec_field c =
    fields_stop (zip c.args.paths.now c.args.ids.now) FIRST_PARTITION_ID c.args.fields.now c.loop-place.place c.loop-place.invariant c.index-fields-place.result c.loop-place-test.true c.index-fields-place.is
    (failed c.is_spec_field.result c.is_spec_field.ensures c.if-not-is_spec_field.true)

pub loop-place-preserved : goal.loop-place-preserved
loop-place-preserved c =
    fields_more (zip c.args.paths.now c.args.ids.now) FIRST_PARTITION_ID c.args.fields.now c.loop-place.place c.loop-place.invariant c.index-fields-place.result c.loop-place-test.true c.index-fields-place.is
    (passed c.is_spec_field.result c.is_spec_field.ensures c.if-not-is_spec_field.false)

pub returns : goal.returns
returns c = fields_end (zip c.args.paths.now c.args.ids.now) FIRST_PARTITION_ID c.args.fields.now c.loop-place.place c.loop-place.invariant c.loop-place-test.false
