use Rattle.std.proofs.Common.{ap, rules, w32, ℤ, ◌∙◌}
use Rattle.std.proofs.lemmas.Int.{to_z-of_z}
use Rattle.iceberg_version.specs.Writing.{snapshot_of}
use Rattle.iceberg_commit.proofs.VersionLemmas.{columns_there, current_read, gone_on, place_within}
use Rattle.iceberg_commit.proofs.version.go_on.Goals as goal

pub spec_fields-requires-clause-columns : goal.spec_fields-requires-clause-columns
spec_fields-requires-clause-columns c =
    let m = c.args.metadata.now in
    let new = c.hold_schema.new.metadata in
    let said = c.stated_behind.result.now in
    let held = c.in_ok-place.ensures.held in
    let schema = c.index-as_slice-place.result in
    let current = current_read m new said c.in_ok-place.place c.as_slice.result.now schema held c.as_slice.ensures c.index-as_slice-place.is in
    columns_there m new c.args.table.now c.args.commit.now said c.in_ok-place.place schema c.as_slice-2.result.now c.stated_behind.ensures c.as_slice-2.ensures held current c.requires.columns

pub hold_properties-requires : goal.hold_properties-requires
hold_properties-requires c = place_within c.args.metadata.now c.hold_schema.new.metadata c.hold_snapshot.new.metadata c.hold_spec.new.metadata c.stated_behind.result.now c.in_ok-place.place c.in_ok-snapshot.snapshot c.in_ok-fields.fields c.in_ok-place.ensures.held c.in_ok-hold_snapshot.ensures c.in_ok-hold_spec.ensures

pub returns-clause-is : goal.returns-clause-is
returns-clause-is c =
    let m = c.args.metadata.now in
    let new = c.hold_schema.new.metadata in
    let said = c.stated_behind.result.now in
    let held = c.in_ok-place.ensures.held in
    let schema = c.index-as_slice-place.result in
    let current = current_read m new said c.in_ok-place.place c.as_slice.result.now schema held c.as_slice.ensures c.index-as_slice-place.is in
    let id = to_z-of_z w32 schema.0 (search rules) in
    gone_on m new c.hold_snapshot.new.metadata c.hold_spec.new.metadata c.hold_properties.new.metadata c.args.version c.args.now_ms c.in_ok-place.place c.args.table.now c.args.commit.now c.args.mark.now said c.as_slice-2.result.now schema c.in_ok-fields.fields c.in_ok-snapshot.snapshot c.stated_behind.ensures c.as_slice-2.ensures held current c.in_ok-place.ensures.fits c.in_ok-fields.ensures.fields c.in_ok-fields.ensures.len (c.in_ok-snapshot.ensures ∙ ap (λ (n : ℤ). snapshot_of new c.args.version c.args.commit.now.change n c.args.now_ms) id) c.in_ok-hold_snapshot.ensures c.in_ok-hold_spec.ensures c.in_ok-hold_properties.ensures.properties c.in_ok-hold_properties.ensures.reads_back
