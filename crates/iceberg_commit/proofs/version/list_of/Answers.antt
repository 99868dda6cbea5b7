use Rattle.std.proofs.Common.{Bor, Contains, List, ap, arith, length, map, subst, sym, ◌∙◌}
use Rattle.table_history.specs.Row.{Row}
use Rattle.table_history.specs.Rows.{HasDistinctPaths}
use Rattle.iceberg_version.specs.Carrying.{parts_at}
use Rattle.iceberg_version.specs.declared.kept.KeptManifest.{KeptManifest}
use Rattle.iceberg_commit.proofs.NewListLemmas.{owner_there}
use Rattle.iceberg_commit.proofs.NextTextLemmas.{can_make, few_next, has_owners, list_refused, list_texts, list_written, these_of}
use Rattle.iceberg_commit.proofs.version.list_of.Goals as goal

pub rows_in_order-requires : goal.rows_in_order-requires
rows_in_order-requires c = subst HasDistinctPaths (sym c.as_slice.ensures) c.requires.can.change.added_distinct

pub next_manifests-requires : goal.next_manifests-requires
next_manifests-requires c = λ m named. owner_there c.args.kept.now c.args.commit.now c.requires.can c.requires.kinds m (subst (λ (ms : List KeptManifest). Contains ms m) c.as_slice-manifests.ensures named)

pub manifest_texts-requires-clause-owners : goal.manifest_texts-requires-clause-owners
manifest_texts-requires-clause-owners c =
    let kept = c.args.kept.now in
    let commit = c.args.commit.now in
    let layout = c.args.layout.now in
    let rows : List Row = map (λ (r : Bor Row). r.now) c.in_ok-added.added.items in
    let parts : List (List Row) = parts_at c.in_ok-parts.parts.items in
    let next = c.as_slice-4.result.now in
    let these =
    these_of kept commit c.requires.can c.requires.kinds layout c.requires.layout c.as_slice.result.now c.in_ok-added.added.items c.as_slice-2.result.now c.in_ok-parts.parts.items c.as_slice-3.result.now c.as_slice-manifests.result.now c.as_slice-removed.result.now c.len.result c.in_ok-before.before c.in_ok-next.next.items next
    c.as_slice.ensures c.as_slice-manifests.ensures c.as_slice-removed.ensures c.as_slice-2.ensures.value c.as_slice-3.ensures.value c.as_slice-4.ensures.value (c.len.ensures ∙ sym c.as_slice-3.ensures.len ∙ ap length c.as_slice-3.ensures.value)
    c.in_ok-added.ensures.rows c.in_ok-added.ensures.order c.in_ok-added.ensures.count c.in_ok-parts.ensures c.in_ok-next.ensures
    c.in_ok-before.ensures.links c.in_ok-before.ensures.manifests c.in_ok-before.ensures.removed c.in_ok-before.ensures.parts in
    has_owners kept commit c.requires.can c.requires.kinds layout c.requires.layout c.in_ok-before.before parts these.before_is

pub manifest_texts-requires-clause-can : goal.manifest_texts-requires-clause-can
manifest_texts-requires-clause-can c =
    let kept = c.args.kept.now in
    let commit = c.args.commit.now in
    let layout = c.args.layout.now in
    let rows : List Row = map (λ (r : Bor Row). r.now) c.in_ok-added.added.items in
    let parts : List (List Row) = parts_at c.in_ok-parts.parts.items in
    let next = c.as_slice-4.result.now in
    let these =
    these_of kept commit c.requires.can c.requires.kinds layout c.requires.layout c.as_slice.result.now c.in_ok-added.added.items c.as_slice-2.result.now c.in_ok-parts.parts.items c.as_slice-3.result.now c.as_slice-manifests.result.now c.as_slice-removed.result.now c.len.result c.in_ok-before.before c.in_ok-next.next.items next
    c.as_slice.ensures c.as_slice-manifests.ensures c.as_slice-removed.ensures c.as_slice-2.ensures.value c.as_slice-3.ensures.value c.as_slice-4.ensures.value (c.len.ensures ∙ sym c.as_slice-3.ensures.len ∙ ap length c.as_slice-3.ensures.value)
    c.in_ok-added.ensures.rows c.in_ok-added.ensures.order c.in_ok-added.ensures.count c.in_ok-parts.ensures c.in_ok-next.ensures
    c.in_ok-before.ensures.links c.in_ok-before.ensures.manifests c.in_ok-before.ensures.removed c.in_ok-before.ensures.parts in
    can_make kept commit c.requires.can c.requires.kinds layout c.requires.layout rows parts c.in_ok-before.before next these.before_is these.among these.cut these.list

pub manifest_texts-requires-clause-few : goal.manifest_texts-requires-clause-few
manifest_texts-requires-clause-few c =
    let kept = c.args.kept.now in
    let commit = c.args.commit.now in
    let layout = c.args.layout.now in
    let rows : List Row = map (λ (r : Bor Row). r.now) c.in_ok-added.added.items in
    let parts : List (List Row) = parts_at c.in_ok-parts.parts.items in
    let next = c.as_slice-4.result.now in
    let these =
    these_of kept commit c.requires.can c.requires.kinds layout c.requires.layout c.as_slice.result.now c.in_ok-added.added.items c.as_slice-2.result.now c.in_ok-parts.parts.items c.as_slice-3.result.now c.as_slice-manifests.result.now c.as_slice-removed.result.now c.len.result c.in_ok-before.before c.in_ok-next.next.items next
    c.as_slice.ensures c.as_slice-manifests.ensures c.as_slice-removed.ensures c.as_slice-2.ensures.value c.as_slice-3.ensures.value c.as_slice-4.ensures.value (c.len.ensures ∙ sym c.as_slice-3.ensures.len ∙ ap length c.as_slice-3.ensures.value)
    c.in_ok-added.ensures.rows c.in_ok-added.ensures.order c.in_ok-added.ensures.count c.in_ok-parts.ensures c.in_ok-next.ensures
    c.in_ok-before.ensures.links c.in_ok-before.ensures.manifests c.in_ok-before.ensures.removed c.in_ok-before.ensures.parts in
    let few = few_next kept commit c.requires.can c.requires.kinds layout c.requires.layout rows parts next these.few these.cut these.list in
    omega (arith, few)

pub returns-clause-texts : goal.returns-clause-texts
returns-clause-texts c =
    let kept = c.args.kept.now in
    let commit = c.args.commit.now in
    let layout = c.args.layout.now in
    let rows : List Row = map (λ (r : Bor Row). r.now) c.in_ok-added.added.items in
    let parts : List (List Row) = parts_at c.in_ok-parts.parts.items in
    let next = c.as_slice-4.result.now in
    let these =
    these_of kept commit c.requires.can c.requires.kinds layout c.requires.layout c.as_slice.result.now c.in_ok-added.added.items c.as_slice-2.result.now c.in_ok-parts.parts.items c.as_slice-3.result.now c.as_slice-manifests.result.now c.as_slice-removed.result.now c.len.result c.in_ok-before.before c.in_ok-next.next.items next
    c.as_slice.ensures c.as_slice-manifests.ensures c.as_slice-removed.ensures c.as_slice-2.ensures.value c.as_slice-3.ensures.value c.as_slice-4.ensures.value (c.len.ensures ∙ sym c.as_slice-3.ensures.len ∙ ap length c.as_slice-3.ensures.value)
    c.in_ok-added.ensures.rows c.in_ok-added.ensures.order c.in_ok-added.ensures.count c.in_ok-parts.ensures c.in_ok-next.ensures
    c.in_ok-before.ensures.links c.in_ok-before.ensures.manifests c.in_ok-before.ensures.removed c.in_ok-before.ensures.parts in
    list_texts kept commit c.requires.can c.requires.kinds layout c.requires.layout rows parts c.in_ok-before.before next these c.manifest_texts.result c.manifest_texts.ensures.texts

pub returns-clause-writable : goal.returns-clause-writable
returns-clause-writable c =
    let kept = c.args.kept.now in
    let commit = c.args.commit.now in
    let layout = c.args.layout.now in
    let rows : List Row = map (λ (r : Bor Row). r.now) c.in_ok-added.added.items in
    let parts : List (List Row) = parts_at c.in_ok-parts.parts.items in
    let next = c.as_slice-4.result.now in
    let these =
    these_of kept commit c.requires.can c.requires.kinds layout c.requires.layout c.as_slice.result.now c.in_ok-added.added.items c.as_slice-2.result.now c.in_ok-parts.parts.items c.as_slice-3.result.now c.as_slice-manifests.result.now c.as_slice-removed.result.now c.len.result c.in_ok-before.before c.in_ok-next.next.items next
    c.as_slice.ensures c.as_slice-manifests.ensures c.as_slice-removed.ensures c.as_slice-2.ensures.value c.as_slice-3.ensures.value c.as_slice-4.ensures.value (c.len.ensures ∙ sym c.as_slice-3.ensures.len ∙ ap length c.as_slice-3.ensures.value)
    c.in_ok-added.ensures.rows c.in_ok-added.ensures.order c.in_ok-added.ensures.count c.in_ok-parts.ensures c.in_ok-next.ensures
    c.in_ok-before.ensures.links c.in_ok-before.ensures.manifests c.in_ok-before.ensures.removed c.in_ok-before.ensures.parts in
    list_written kept commit c.requires.can c.requires.kinds layout c.requires.layout rows parts c.in_ok-before.before next these c.manifest_texts.result c.manifest_texts.ensures.texts

pub returns-clause-refusal : goal.returns-clause-refusal
returns-clause-refusal c =
    let kept = c.args.kept.now in
    let commit = c.args.commit.now in
    let layout = c.args.layout.now in
    let rows : List Row = map (λ (r : Bor Row). r.now) c.in_ok-added.added.items in
    let parts : List (List Row) = parts_at c.in_ok-parts.parts.items in
    let next = c.as_slice-4.result.now in
    let these =
    these_of kept commit c.requires.can c.requires.kinds layout c.requires.layout c.as_slice.result.now c.in_ok-added.added.items c.as_slice-2.result.now c.in_ok-parts.parts.items c.as_slice-3.result.now c.as_slice-manifests.result.now c.as_slice-removed.result.now c.len.result c.in_ok-before.before c.in_ok-next.next.items next
    c.as_slice.ensures c.as_slice-manifests.ensures c.as_slice-removed.ensures c.as_slice-2.ensures.value c.as_slice-3.ensures.value c.as_slice-4.ensures.value (c.len.ensures ∙ sym c.as_slice-3.ensures.len ∙ ap length c.as_slice-3.ensures.value)
    c.in_ok-added.ensures.rows c.in_ok-added.ensures.order c.in_ok-added.ensures.count c.in_ok-parts.ensures c.in_ok-next.ensures
    c.in_ok-before.ensures.links c.in_ok-before.ensures.manifests c.in_ok-before.ensures.removed c.in_ok-before.ensures.parts in
    list_refused kept commit c.requires.can c.requires.kinds layout c.requires.layout rows parts c.in_ok-before.before next these c.manifest_texts.result c.manifest_texts.ensures.refusal
