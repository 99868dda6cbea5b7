use Rattle.std.proofs.Common.{◌≡◌, map, arith, w32, FitsSigned, to_z, of_z}
use Rattle.std.proofs.lemmas.Int.{ints}
use Rattle.avro_value.specs.ValueTree.{value_tree, values_of}
use Rattle.iceberg_manifest_reading.proofs.ListLemmas.{row_is}
use Rattle.iceberg_manifest_reading.proofs.list.list_row.Goals as goal

pub returns : goal.returns
returns c =
    let fits : FitsSigned w32 c.in_ok-content.content = c.in_ok-content.ensures.fits in
    let same : to_z w32 (of_z w32 c.in_ok-content.content) ≡ c.in_ok-content.content = omega (arith, ints, fits) in
    let path = rw c.deref.ensures.value at c.in_ok-path.ensures in
    let content = rw c.deref-2.ensures.value at c.in_ok-content.ensures.is in
    let numbers = rw c.deref-3.ensures.value at c.in_ok-numbers.ensures in
    let counts = rw (same, c.deref-4.ensures.value) at c.in_ok-counts.ensures in
    let made = rw (same, c.in_ok-path-2.ensures) at c.info.ensures in
    row_is c.args.plan.now c.args.place (value_tree c.args.value.now) (values_of (map value_tree c.in_ok-values.values.now.items)) c.in_ok-path.path.now c.in_ok-content.content c.in_ok-numbers.numbers c.in_ok-counts.counts c.info.result c.in_ok-values.ensures path content numbers counts made
