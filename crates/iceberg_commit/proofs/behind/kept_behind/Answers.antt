use Rattle.std.proofs.Common.{Contains, List, arith, subst, sym, ℕ}
use Rattle.iceberg_version.specs.Advance.{HoldsJustBehind, added_rows, owners_of}
use Rattle.iceberg_version.specs.Carrying.{parts_at}
use Rattle.iceberg_version.specs.declared.kept.KeptManifest.{KeptManifest}
use Rattle.std.specs.List.{IsDistinct}
use Rattle.std.specs.Prelude.{nat_eq}
use Rattle.iceberg_commit.proofs.KeptBehindLemmas.{added_distinct, added_unheld, advances_from, contents_kept, list_at, owner_there_before, owners_apart, owners_sound, paths_linked, places_at, rows_linked, table_held, table_image, table_sound}
use Rattle.iceberg_commit.proofs.behind.kept_behind.Goals as goal

pub advance-requires : goal.advance-requires
advance-requires c =
    let kept = c.args.kept in
    let commit = c.args.commit.now in
    let parts = parts_at c.args.parts.now in
    let next = c.args.next.now in
    let can = c.requires.can in
    let added = c.requires.added in
    let list = list_at kept commit.change c.args.parts.now next c.requires.next in
    record {
      there = λ m is. owner_there_before kept commit can parts added next list m (subst (λ (ms : List KeptManifest). Contains ms m) c.as_slice.ensures is);
      apart = subst (λ (ms : List KeptManifest). IsDistinct nat_eq (owners_of ms)) (sym c.as_slice.ensures) (owners_apart kept commit can parts added next list);
      places = places_at kept commit.change c.args.parts.now next c.requires.next c.as_slice.result.now c.as_slice.ensures;
      distinct = added_distinct kept commit can parts added next list;
      unheld = λ row is held. subst (λ (removed : List (List ℕ)). Contains removed row.path) (sym c.as_slice-2.ensures) (added_unheld kept commit can parts added next list row is held);
    }

pub invariant_of-result : goal.invariant_of-result
invariant_of-result c =
    let kept = c.args.kept in
    let commit = c.args.commit.now in
    let parts = parts_at c.args.parts.now in
    let next = c.args.next.now in
    let can = c.requires.can in
    let added = c.requires.added in
    let list = list_at kept commit.change c.args.parts.now next c.requires.next in
    let ks = c.in_ok-manifests.manifests in
    let links = c.advance.new.links in
    let table = c.in_ok-table_behind.field-0 in
    let behind = c.in_ok-table_behind.ensures in
    let advances = advances_from kept commit.change c.args.parts.now next c.requires.next c.as_slice-2.result.now c.as_slice.result.now ks links c.as_slice-2.ensures c.as_slice.ensures (c.in_ok-manifests.ensures.kept c.requires.count) in
    let holds = subst (λ (removed : List (List ℕ)). HoldsJustBehind removed kept.version (added_rows parts next) kept.links links) c.as_slice-2.ensures c.in_ok-manifests.ensures.held in
    record {
      rows_held = table_held kept commit can parts added next list table behind;
      schema_ids = kept.schema_ids;
      own_image = table_image kept commit can parts added next list table behind;
      owners = owners_sound kept commit can parts added next list links ks advances (omega arith);
      linked = paths_linked kept commit can parts added next list table behind links holds;
      metadata_sound = kept.metadata_sound;
      begun = λ none. absurd (omega (arith, none, c.requires.version));
      contents = contents_kept ks c.args.infos.items (c.in_ok-manifests.ensures.infos c.requires.count) c.requires.contents;
      table_sound = table_sound kept commit can parts added next list table behind;
      rows_linked = rows_linked kept commit can parts added next list table behind links holds;
      own_paths = c.in_ok-manifests.ensures.paths kept.own_paths;
      own_owners = ∣ advances.distinct ∣₁;
    }

pub returns-clause-kept : goal.returns-clause-kept
returns-clause-kept c =
    advances_from c.args.kept c.args.commit.now.change c.args.parts.now c.args.next.now c.requires.next c.as_slice-2.result.now c.as_slice.result.now c.in_ok-manifests.manifests c.advance.new.links c.as_slice-2.ensures c.as_slice.ensures (c.in_ok-manifests.ensures.kept c.requires.count)
