use Rattle.std.proofs.Common.{◌≡◌, ◌∙◌, List, map, arith, sym, w32, FitsSigned, refl, to_z, of_z}
use Rattle.std.proofs.lemmas.Int.{ints}
use Rattle.std.proofs.lemmas.List.{length-map}
use Rattle.iceberg_manifest.specs.Entry.{EntryData}
use Rattle.iceberg_manifest.specs.ManifestWriting.{entry_tree}
use Rattle.iceberg_manifest.specs.WrittenTypes.{manifest_type}
use Rattle.iceberg_manifest_writing.specs.RowEntries.{entry_in}
use Rattle.iceberg_manifest_writing.proofs.ContainerLemmas.{written_as}
use Rattle.iceberg_manifest_writing.proofs.ManifestWrittenLemmas.{IsReady, manifest_encoded, manifest_spelled, manifests_back}
use Rattle.iceberg_manifest_writing.proofs.manifest_writing.manifest_bytes.Goals as goal

pub returns-clause-written : goal.returns-clause-written
returns-clause-written c =
    let es : List EntryData = map (entry_in c.args.front.now) c.args.entries.now in
    let ready : IsReady _ c.args.columns.now c.args.names.now es = record { writable = c.requires; ids = c.in_ok-schema.ensures.ids; ranges = c.in_ok-objects.ensures.ranges } in
    let number = sym (length-map c.args.entries.now (entry_in c.args.front.now)) in
    let encoded = manifest_encoded _ _ _ es _ _ _ ready c.in_ok-schema.ensures.tree number c.in_ok-objects.ensures.sound (c.as_slice.ensures.value ∙ c.in_ok-objects.ensures.bytes) in
    let fits : FitsSigned w32 c.args.schema_id = c.ranges.schema_id in
    let same : to_z w32 (of_z w32 c.args.schema_id) ≡ c.args.schema_id = omega (arith, ints, fits) in
    let meta = rw same at c.in_ok-meta.ensures in
    written_as _ c.encoded.result _ _ _ _ (manifest_type c.args.columns.now c.args.names.now) _ (map entry_tree es) meta c.in_ok-schema.ensures.tree refl (c.encoded.ensures.written (map entry_tree es) encoded)

pub returns-clause-reads_back : goal.returns-clause-reads_back
returns-clause-reads_back c =
    let es : List EntryData = map (entry_in c.args.front.now) c.args.entries.now in
    let ready : IsReady _ c.args.columns.now c.args.names.now es = record { writable = c.requires; ids = c.in_ok-schema.ensures.ids; ranges = c.in_ok-objects.ensures.ranges } in
    let number = sym (length-map c.args.entries.now (entry_in c.args.front.now)) in
    let encoded = manifest_encoded _ _ _ es _ _ _ ready c.in_ok-schema.ensures.tree number c.in_ok-objects.ensures.sound (c.as_slice.ensures.value ∙ c.in_ok-objects.ensures.bytes) in
    let spelled = manifest_spelled _ _ _ _ _ ready c.in_ok-schema.ensures.tree c.encoded.ensures.plain in
    manifests_back _ c.encoded.result _ _ c.args.columns.now c.args.names.now es ready spelled
    (written_as _ c.encoded.result _ _ _ _ (manifest_type c.args.columns.now c.args.names.now) _ (map entry_tree es) refl c.in_ok-schema.ensures.tree refl (c.encoded.ensures.written (map entry_tree es) encoded))
