use Rattle.std.proofs.Common.{◌+◌, ◌∷◌, [], List, ap, arith, length, subst, ◌∙◌}
use Rattle.std.proofs.lemmas.List.{length-append}
use Rattle.iceberg_metadata.specs.Paths.{PathId}
use Rattle.iceberg_version.specs.Schemas.{FIRST_PARTITION_ID, IsSpecField}
use Rattle.iceberg_version.proofs.SpecLemmas.{spec_more}
use Rattle.iceberg_version.proofs.spec.spec_fields.Goals as goal

pub loop-place-preserved : goal.loop-place-preserved
loop-place-preserved c =
    let field = c.in_ok-spec_field.field-0 in
    let pairs = c.as_slice.ensures.value ∙ c.in_ok-pairs.ensures in
    let is = subst (λ (ps : List PathId). IsSpecField ps (FIRST_PARTITION_ID + c.loop-place.place) c.index-partition-place.result field) pairs c.in_ok-spec_field.ensures in
    let pushes = c.in_ok-push.ensures.ok in
    let more = ap length pushes ∙ length-append c.loop-place.fields (field ∷ []) in
    let before = c.loop-place.invariant.1 in
    (spec_more c.args.schema.now FIRST_PARTITION_ID c.loop-place.place c.args.partition.now c.loop-place.fields c.push.new.self c.index-partition-place.result field c.loop-place-test.true c.index-partition-place.is c.loop-place.invariant.0 is pushes, omega arith)
