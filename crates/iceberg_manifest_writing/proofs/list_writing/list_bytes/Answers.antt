use Rattle.std.proofs.Common.{◌≡◌, map, arith, w64, FitsSigned, refl, to_z, of_z}
use Rattle.std.proofs.lemmas.Int.{ints}
use Rattle.iceberg_manifest.specs.ListWriting.{info_tree}
use Rattle.iceberg_manifest.specs.WrittenTypes.{list_type}
use Rattle.iceberg_manifest_writing.proofs.ContainerLemmas.{written_as}
use Rattle.iceberg_manifest_writing.proofs.ListWrittenLemmas.{fits_by, lists_back, spelled_by}
use Rattle.iceberg_manifest_writing.proofs.list_writing.list_bytes.Goals as goal

pub written-requires-clause-fit : goal.written-requires-clause-fit
written-requires-clause-fit c = fits_by _ _ c.args.infos.now c.in_ok-schema.ensures c.in_ok-values.ensures.trees

pub returns-clause-written : goal.returns-clause-written
returns-clause-written c =
    let snapshot_fits : FitsSigned w64 c.args.snapshot = c.ranges.snapshot in
    let sequence_fits : FitsSigned w64 c.args.sequence = c.ranges.sequence in
    let snapshot : to_z w64 (of_z w64 c.args.snapshot) ≡ c.args.snapshot = omega (arith, ints, snapshot_fits) in
    let sequence : to_z w64 (of_z w64 c.args.sequence) ≡ c.args.sequence = omega (arith, ints, sequence_fits) in
    let meta = rw (snapshot, sequence) at c.in_ok-meta.ensures in
    written_as _ c.written.result _ _ _ _ list_type _ (map info_tree c.args.infos.now) meta c.in_ok-schema.ensures c.in_ok-values.ensures.trees c.written.ensures.written

pub returns-clause-reads_back : goal.returns-clause-reads_back
returns-clause-reads_back c =
    let spelled = spelled_by _ c.in_ok-schema.ensures c.written.ensures.plain in
    lists_back _ c.written.result _ _ c.args.infos.now c.requires c.in_ok-values.ensures.ints spelled
    (written_as _ c.written.result _ _ _ _ list_type _ (map info_tree c.args.infos.now) refl c.in_ok-schema.ensures c.in_ok-values.ensures.trees c.written.ensures.written)
