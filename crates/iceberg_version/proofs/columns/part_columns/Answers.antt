use Rattle.std.proofs.Common.{◌<◌, ◌≤◌, None, arith, get_or, length, refl, ◌∙◌}
use Rattle.iceberg_version.proofs.ColumnLemmas.{all_columns, has_kind, no_column, one_column}
use Rattle.iceberg_version.proofs.columns.part_columns.Goals as goal

pub loop-place-init : goal.loop-place-init
loop-place-init c = no_column c.args.schema.now c.args.partition.now c.args.fields.now c.in_ok-columns.columns.items c.in_ok-columns.ensures.items

pub loop-place-preserved : goal.loop-place-preserved
loop-place-preserved c =
    let len = c.requires.len in
    let t = c.loop-place-test.true in
    let within : c.loop-place.place < length c.args.partition.now = omega arith in
    one_column c.args.schema.now c.args.partition.now c.args.fields.now c.as_slice-kinds.result.now c.loop-place.place (get_or c.as_slice-kinds.result.now c.loop-place.place None) c.index-fields-place.result c.part_column.result c.loop-place.columns.items c.push.new.self.items
    (c.as_slice-kinds.ensures.value ∙ c.in_ok-kinds.ensures) within t refl c.index-fields-place.is c.part_column.ensures.id c.part_column.ensures.kind c.in_ok-push.ensures.items c.loop-place.invariant

pub part_column-requires : goal.part_column-requires
part_column-requires c =
    let len = c.requires.len in
    let t = c.loop-place-test.true in
    let within : c.loop-place.place < length c.args.partition.now = omega arith in
    has_kind c.args.schema.now c.args.partition.now c.as_slice-kinds.result.now c.loop-place.place (get_or c.as_slice-kinds.result.now c.loop-place.place None) c.requires.kinds (c.as_slice-kinds.ensures.value ∙ c.in_ok-kinds.ensures) within refl

pub returns : goal.returns
returns c =
    let len = c.requires.len in
    let f = c.loop-place-test.false in
    let past : length c.args.partition.now ≤ c.loop-place.place = omega arith in
    all_columns c.args.schema.now c.args.partition.now c.args.fields.now c.loop-place.place c.loop-place.columns.items past f c.loop-place.invariant
