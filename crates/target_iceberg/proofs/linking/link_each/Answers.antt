use Rattle.std.proofs.Common.{◌≡◌, ◌≤◌, ◌++◌, ◌∷◌, [], List, length, ap, sym, subst, ◌∙◌, rules, arith}
use Rattle.table_history.specs.Rows.{HasDistinctPaths}
use Rattle.iceberg_table.specs.Tables.{rows_of}
use Rattle.target_iceberg.specs.InspectSteps.{AreLinked}
use Rattle.iceberg_table.specs.declared.manifest.Manifest.{Manifest}
use Rattle.iceberg_version.specs.declared.kept.KeptManifest.{KeptManifest}
use Rattle.iceberg_table.proofs.EachLaws.{left_moved, left_next, left_none}
use Rattle.target_iceberg.proofs.LinkLemmas.{linked_more, next_apart, next_distinct, none_linked, none_owned, one_owner, owners_left, rows_fit, rows_left}
use Rattle.target_iceberg.proofs.linking.link_each.Goals as goal

pub loop-manifest-init : goal.loop-manifest-init
loop-manifest-init c =
    let all = c.into_iter-manifest-iterator.ensures.into_iter_gives.0 ∙ c.into_vec-manifest-items.ensures in
    record {
      parts = ([], sym all, subst (λ (l : List KeptManifest). AreLinked [] l c.reserve.new.self) (sym c.new-kept.ensures) (none_linked c.reserve.new.self (none_owned c.args.links.now c.reserve.new.self c.args.owners c.args.rows c.requires.none c.in_ok-reserve.ensures.ok)));
      owners = let count = ap length all in let room = c.in_ok-reserve.ensures.ok.owner_room in let few = c.requires.owners in omega (arith, count, room, few);
      rows = subst (λ (l : List Manifest). length (rows_of l) ≤ c.reserve.new.self.room) (sym all) (let few = c.requires.few in let room = c.in_ok-reserve.ensures.ok.room in omega (arith, few, room));
    }

pub link-requires-clause-owner : goal.link-requires-clause-owner
link-requires-clause-owner c = one_owner c.loop-manifest.manifest-iterator.rest.items c.next.new.self.rest.items c.in-Some.manifest c.in-Some.ensures.steps.0 c.loop-manifest.links c.loop-manifest.invariant.owners

pub link-requires-clause-room : goal.link-requires-clause-room
link-requires-clause-room c = rows_fit c.loop-manifest.manifest-iterator.rest.items c.next.new.self.rest.items c.in-Some.manifest c.in-Some.ensures.steps.0 c.loop-manifest.links c.loop-manifest.invariant.rows

pub link-requires-clause-apart : goal.link-requires-clause-apart
link-requires-clause-apart c =
    let was = c.loop-manifest.invariant.parts in
    let split = left_next c.args.manifests was.0 c.loop-manifest.manifest-iterator.rest.items c.next.new.self.rest.items c.in-Some.manifest was.1 c.in-Some.ensures.steps.0 in
    next_apart was.0 c.loop-manifest.kept c.loop-manifest.links was.2 c.in-Some.manifest c.next.new.self.rest.items (subst (λ (l : List Manifest). HasDistinctPaths (rows_of l)) split c.requires.distinct)

pub link-requires-clause-distinct : goal.link-requires-clause-distinct
link-requires-clause-distinct c =
    let was = c.loop-manifest.invariant.parts in
    let split = left_next c.args.manifests was.0 c.loop-manifest.manifest-iterator.rest.items c.next.new.self.rest.items c.in-Some.manifest was.1 c.in-Some.ensures.steps.0 in
    next_distinct was.0 c.loop-manifest.kept c.loop-manifest.links was.2 c.in-Some.manifest c.next.new.self.rest.items (subst (λ (l : List Manifest). HasDistinctPaths (rows_of l)) split c.requires.distinct)

pub loop-manifest-preserved : goal.loop-manifest-preserved
loop-manifest-preserved c =
    let was = c.loop-manifest.invariant.parts in
    let m = c.in-Some.manifest in
    let rest = c.loop-manifest.manifest-iterator.rest.items in
    let more = c.next.new.self.rest.items in
    let next = c.in-Some.ensures.steps.0 in
    let split = left_next c.args.manifests was.0 rest more m was.1 next in
    record {
      parts = (
        was.0 ++ m ∷ [],
        left_moved c.args.manifests was.0 more m split,
        subst (λ (l : List KeptManifest). AreLinked (was.0 ++ m ∷ []) l c.link.new.links) (sym c.in_ok-push.ensures.ok) (linked_more was.0 c.loop-manifest.kept c.loop-manifest.links was.2 m c.link.result c.link.new.links c.link.ensures),
      );
      owners = owners_left rest more m next c.loop-manifest.links c.link.new.links c.link.result c.link.ensures c.loop-manifest.invariant.owners;
      rows = rows_left rest more m next c.loop-manifest.links c.link.new.links c.link.result c.link.ensures c.loop-manifest.invariant.rows;
    }

pub returns : goal.returns
returns c =
    let was = c.loop-manifest.invariant.parts in
    let none : length c.loop-manifest.manifest-iterator.rest.items ≡ 0 = search rules in
    subst (λ (l : List Manifest). AreLinked l c.loop-manifest.kept c.loop-manifest.links) (sym (left_none c.args.manifests was.0 c.loop-manifest.manifest-iterator.rest.items was.1 none)) was.2
