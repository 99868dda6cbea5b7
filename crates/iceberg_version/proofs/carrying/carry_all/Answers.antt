use Rattle.std.proofs.Common.{◌≡◌, [], Global, Option, Vec, MatchOption, ap, map, subst, ◌∙◌}
use Rattle.iceberg_version.specs.Carrying.{IsCarriedOn}
use Rattle.iceberg_version.specs.KeptEnd.{live_manifest}
use Rattle.iceberg_version.specs.declared.carrying.Next.{Next}
use Rattle.iceberg_version.proofs.CarryingLemmas.{all_carried, carried_more, kept_there, left_out, live_at, live_past, live_within, none_carried}
use Rattle.iceberg_version.proofs.carrying.carry_all.Goals.{in-Some+in_ok-push, in_default}
use Rattle.iceberg_version.proofs.carrying.carry_all.Goals as goal

pub loop-place-init : goal.loop-place-init
loop-place-init c = λ paths touched. none_carried paths (map (live_manifest c.args.links.now) c.args.manifests.now) c.new-next.result.items c.new-next.ensures.items

pub carry-requires : goal.carry-requires
carry-requires c = c.requires c.index-manifests-place.result (kept_there c.args.manifests.now c.loop-place.place c.index-manifests-place.result c.loop-place-test.true c.index-manifests-place.is)

pub loop-place-preserved : goal.loop-place-preserved
loop-place-preserved c = λ paths touched.
    let links = c.args.links.now in
    let i = c.loop-place.place in
    let m = live_manifest links c.index-manifests-place.result in
    let ms = map (live_manifest links) c.args.manifests.now in
    let within = live_within links c.args.manifests.now i c.loop-place-test.true in
    let at = live_at links c.args.manifests.now i c.index-manifests-place.result c.loop-place-test.true c.index-manifests-place.is in
    let before = c.loop-place.invariant paths touched in
    let told = c.carry.ensures paths touched in
    elim c.match-carry.branch [
      | in-Some+in_ok-push w ↦
          carried_more paths ms i m w.in-Some.one c.loop-place.next.items c.match-carry.next.items within at
          (subst (λ (o : Option Next). MatchOption o (m.rows ≡ []) (IsCarriedOn paths i m)) w.in-Some.is told) (ap (λ (v : Vec Next Global). v.items) w.next-is ∙ w.in_ok-push.ensures.items) before
      | in_default w ↦
          left_out paths ms i m c.loop-place.next.items c.match-carry.next.items within at
          (subst (λ (o : Option Next). MatchOption o (m.rows ≡ []) (IsCarriedOn paths i m)) w.in_default.is told) (ap (λ (v : Vec Next Global). v.items) w.next-is) before
    ]

pub returns : goal.returns
returns c = λ paths touched. all_carried paths (map (live_manifest c.args.links.now) c.args.manifests.now) c.loop-place.place c.loop-place.next.items (live_past c.args.links.now c.args.manifests.now c.loop-place.place c.loop-place-test.false) (c.loop-place.invariant paths touched)
