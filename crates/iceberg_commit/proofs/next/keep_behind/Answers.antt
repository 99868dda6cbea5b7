use Rattle.std.proofs.Common.{length, sym, ap, subst, ◌∙◌}
use Rattle.iceberg_version.specs.Carrying.{parts_at}
use Rattle.iceberg_version.specs.KeptEnd.{view_of}
use Rattle.iceberg_version.specs.declared.kept.IcebergKept.{IcebergKept}
use Rattle.target_core.specs.Conditions.{CanPublish}
use Rattle.iceberg_commit.proofs.NextVersionLemmas.{KeepAlike, added_parts, behind_alike, kept_next, list_alike, listed_alike, listed_content, listed_count, next_list}
use Rattle.iceberg_commit.proofs.next.keep_behind.Goals as goal

pub kept_behind-requires-clause-can : goal.kept_behind-requires-clause-can
kept_behind-requires-clause-can c = subst (λ (k : IcebergKept). CanPublish (view_of k) c.args.commit.now) (sym c.replace-before.ensures.value) c.requires.can

pub kept_behind-requires-clause-added : goal.kept_behind-requires-clause-added
kept_behind-requires-clause-added c =
    added_parts c.args.commit.now.change c.as_slice.result.now c.in_ok-added.added.items c.as_slice-2.result.now c.in_ok-parts.parts.items c.as_slice-3.result.now c.as_slice.ensures c.as_slice-2.ensures.value c.as_slice-3.ensures.value c.in_ok-added.ensures.rows c.in_ok-added.ensures.order c.in_ok-parts.ensures

pub kept_behind-requires-clause-count : goal.kept_behind-requires-clause-count
kept_behind-requires-clause-count c =
    let kept = c.args.kept.now in
    let change = c.args.commit.now.change in
    let added = added_parts c.args.commit.now.change c.as_slice.result.now c.in_ok-added.added.items c.as_slice-2.result.now c.in_ok-parts.parts.items c.as_slice-3.result.now c.as_slice.ensures c.as_slice-2.ensures.value c.as_slice-3.ensures.value c.in_ok-added.ensures.rows c.in_ok-added.ensures.order c.in_ok-parts.ensures in
    let list = next_list c.args.kept.now c.args.commit.now.change c.as_slice-manifests.result.now c.as_slice-removed.result.now c.len.result c.as_slice-3.result.now c.in_ok-next.next.items c.as_slice-4.result.now c.as_slice-manifests.ensures c.as_slice-removed.ensures (c.len.ensures ∙ sym c.as_slice-3.ensures.len) c.as_slice-4.ensures.value c.in_ok-next.ensures in
    listed_count kept change c.args.infos.items c.requires.listed.0 c.requires.listed.1 (parts_at c.as_slice-3.result.now) c.as_slice-4.result.now added list

pub kept_behind-requires-clause-contents : goal.kept_behind-requires-clause-contents
kept_behind-requires-clause-contents c = listed_content c.args.kept.now c.args.commit.now.change c.args.infos.items c.requires.listed.0 c.requires.listed.1

pub invariant_of-kept-4 : goal.invariant_of-kept-4
invariant_of-kept-4 c =
    let k = c.replace-before.new.dest in
    record {
      rows_held = k.rows_held;
      schema_ids = k.schema_ids;
      own_image = k.own_image;
      owners = k.owners;
      linked = k.linked;
      metadata_sound = k.metadata_sound;
      begun = k.begun;
      contents = k.contents;
      table_sound = k.table_sound;
      rows_linked = k.rows_linked;
      own_paths = k.own_paths;
      own_owners = k.own_owners;
    }

pub returns : goal.returns
returns c listed is =
    let kept = c.args.kept.now in
    let change = c.args.commit.now.change in
    let before = c.replace-before.result in
    let behind = c.in_ok-kept.field-0 in
    let told = c.in_ok-kept.ensures in
    let added = added_parts c.args.commit.now.change c.as_slice.result.now c.in_ok-added.added.items c.as_slice-2.result.now c.in_ok-parts.parts.items c.as_slice-3.result.now c.as_slice.ensures c.as_slice-2.ensures.value c.as_slice-3.ensures.value c.in_ok-added.ensures.rows c.in_ok-added.ensures.order c.in_ok-parts.ensures in
    let alike : KeepAlike kept before =
    record {
      table = ap (λ (k : IcebergKept). k.table) c.replace-before.ensures.value;
      version = ap (λ (k : IcebergKept). k.version) c.replace-before.ensures.value;
      metadata = ap (λ (k : IcebergKept). k.metadata) c.replace-before.ensures.value;
      manifests = ap (λ (k : IcebergKept). k.manifests) c.replace-before.ensures.value;
      links = ap (λ (k : IcebergKept). k.links) c.replace-before.ensures.value;
    } in
    let list = next_list c.args.kept.now c.args.commit.now.change c.as_slice-manifests.result.now c.as_slice-removed.result.now c.len.result c.as_slice-3.result.now c.in_ok-next.next.items c.as_slice-4.result.now c.as_slice-manifests.ensures c.as_slice-removed.ensures (c.len.ensures ∙ sym c.as_slice-3.ensures.len) c.as_slice-4.ensures.value c.in_ok-next.ensures in
    behind_alike kept before alike change c.args.mark listed behind
    (kept_next before change c.args.infos.items listed (listed_alike kept before alike change c.args.infos.items listed is) (parts_at c.as_slice-3.result.now) c.as_slice-4.result.now added
    (list_alike kept before alike change.removed (length (parts_at c.as_slice-3.result.now)) c.as_slice-4.result.now list) c.args.mark behind told.table told.mark told.version told.metadata told.infos told.kept)
