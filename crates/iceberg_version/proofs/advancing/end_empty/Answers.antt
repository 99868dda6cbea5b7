use Rattle.std.proofs.Common.{ℕ, List, ap, not, subst, sym, take, ◌+◌, ◌∙◌}
use Rattle.std.proofs.lemmas.List.{take_all}
use Rattle.file_links.specs.Rows.{OwnedRows}
use Rattle.iceberg_version.specs.Advance.{EndsEmpty, owners_of}
use Rattle.iceberg_version.specs.declared.kept.KeptManifest.{KeptManifest}
use Rattle.iceberg_version.proofs.AdvanceLemmas.{ends_none, ends_not, ends_one, is_empty, is_filled, kept_more, kept_new, still_there}
use Rattle.iceberg_version.proofs.CarryingLemmas.{kept_there}
use Rattle.iceberg_version.proofs.advancing.end_empty.Goals.{else-is_none, then-is_none}
use Rattle.iceberg_version.proofs.advancing.end_empty.Goals as goal

pub loop-manifest-init : goal.loop-manifest-init
loop-manifest-init c = ends_none c.args.links.now

pub first-requires : goal.first-requires
first-requires c =
    let ms = c.args.manifests.now in
    let i = c.loop-manifest.manifest-index in
    let m = c.manifest-item.result in
    still_there (owners_of (take i ms)) m.owner c.args.links.now c.loop-manifest.links (kept_new ms i m c.requires.distinct c.loop-manifest-test.true c.manifest-item.is) (c.requires.there m (kept_there ms i m c.loop-manifest-test.true c.manifest-item.is)) c.loop-manifest.invariant

pub drop_owner-requires : goal.drop_owner-requires
drop_owner-requires c =
    let ms = c.args.manifests.now in
    let i = c.loop-manifest.manifest-index in
    let m = c.manifest-item.result in
    still_there (owners_of (take i ms)) m.owner c.args.links.now c.loop-manifest.links (kept_new ms i m c.requires.distinct c.loop-manifest-test.true c.manifest-item.is) (c.requires.there m (kept_there ms i m c.loop-manifest-test.true c.manifest-item.is)) c.loop-manifest.invariant

pub loop-manifest-preserved : goal.loop-manifest-preserved
loop-manifest-preserved c =
    let ms : List KeptManifest = c.args.manifests.now in
    let i : ℕ = c.loop-manifest.manifest-index in
    let m : KeptManifest = c.manifest-item.result in
    let v : OwnedRows = c.args.links.now in
    let w : OwnedRows = c.loop-manifest.links in
    let new = kept_new ms i m c.requires.distinct c.loop-manifest-test.true c.manifest-item.is in
    let there = still_there (owners_of (take i ms)) m.owner v w new (c.requires.there m (kept_there ms i m c.loop-manifest-test.true c.manifest-item.is)) c.loop-manifest.invariant in
    let more = kept_more ms i m c.loop-manifest-test.true c.manifest-item.is in
    elim c.if-is_none.branch [
      | then-is_none b ↦
          subst (λ (after : OwnedRows). EndsEmpty (owners_of (take (i + 1) ms)) v after) (sym b.links-is)
          (ends_one (owners_of (take i ms)) (owners_of (take (i + 1) ms)) m.owner v w b.drop_owner.new.self more new (is_empty w m.owner c.first.result there c.first.ensures (c.is_none.ensures ∙ ap not b.if-is_none.true)) b.drop_owner.ensures c.loop-manifest.invariant)
      | else-is_none b ↦
          subst (λ (after : OwnedRows). EndsEmpty (owners_of (take (i + 1) ms)) v after) (sym b.links-is)
          (ends_not (owners_of (take i ms)) (owners_of (take (i + 1) ms)) m.owner v w more new (is_filled w m.owner c.first.result c.first.ensures (c.is_none.ensures ∙ ap not b.if-is_none.false)) c.loop-manifest.invariant)
    ]

pub returns : goal.returns
returns c =
    let ms : List KeptManifest = c.args.manifests.now in
    subst (λ (ks : List KeptManifest). EndsEmpty (owners_of ks) c.args.links.now c.loop-manifest.links) (take_all c.loop-manifest.manifest-index ms c.loop-manifest-test.false) c.loop-manifest.invariant
