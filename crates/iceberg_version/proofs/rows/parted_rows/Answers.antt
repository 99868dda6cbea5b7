use Rattle.std.proofs.Common.{◌≡◌, ◌+◌, Bool, Bor, Global, List, Vec, ap, length, subst, sym, ◌∙◌}
use Rattle.file_links.specs.declared.slots.Held.{Held}
use Rattle.iceberg_version.specs.Removed.{MarksLost}
use Rattle.iceberg_version.proofs.RowLemmas.{IsParted, fewer, one_left, one_lost, parted_all, parted_first, slot_held}
use Rattle.iceberg_version.proofs.rows.parted_rows.Goals.{else-is_marked+in_ok-push-2, then-is_marked+in_ok-push}
use Rattle.iceberg_version.proofs.rows.parted_rows.Goals as goal

pub loop-place-init : goal.loop-place-init
loop-place-init c = parted_first c.args.before.now.links.now c.args.owner c.args.before.now.removed.now c.new-left.result.items c.new-lost.result.items c.first-place.result c.requires c.new-left.ensures.items c.new-lost.ensures.items c.first-place.ensures

pub get-row-requires : goal.get-row-requires
get-row-requires c = slot_held c.args.before.now.links.now c.args.owner c.args.before.now.removed.now c.loop-place.left.items c.loop-place.lost.items c.loop-place.place c.in-Some.slot c.requires c.loop-place.invariant c.in-Some.is

abbrev items : Vec (Bor Held) Global → List (Bor Held)
items v = v.items

one_more : (c : goal.After-next-place) → (length c.if-is_marked.left.items + length c.if-is_marked.lost.items ≡ length c.loop-place.left.items + length c.loop-place.lost.items + 1) × IsParted c.args.before.now.links.now c.args.owner c.args.before.now.removed.now c.if-is_marked.left.items c.if-is_marked.lost.items c.next-place.result
one_more c =
    let before = c.args.before.now in
    let now = c.if-is_marked in
    let marks = c.deref.result.now in
    let marked : MarksLost before.links.now before.removed.now marks = subst (λ (ms : List Bool). MarksLost before.links.now before.removed.now ms) (sym c.deref.ensures.value) before.marked in
    elim c.if-is_marked.branch [
      | then-is_marked+in_ok-push w ↦
          one_lost before.links.now c.args.owner before.removed.now c.loop-place.left.items c.loop-place.lost.items c.loop-place.place c.in-Some.slot c.requires c.loop-place.invariant c.in-Some.is c.get-row.result c.get-row.ensures marks c.next-place.result marked c.next-place.ensures
          now.left.items now.lost.items (sym c.is_marked.ensures ∙ w.if-is_marked.true) (ap items w.left-is) (ap items w.lost-is ∙ w.in_ok-push.ensures.items)
      | else-is_marked+in_ok-push-2 w ↦
          one_left before.links.now c.args.owner before.removed.now c.loop-place.left.items c.loop-place.lost.items c.loop-place.place c.in-Some.slot c.requires c.loop-place.invariant c.in-Some.is c.get-row.result c.get-row.ensures marks c.next-place.result marked c.next-place.ensures
          now.left.items now.lost.items (sym c.is_marked.ensures ∙ w.if-is_marked.false) (ap items w.left-is ∙ w.in_ok-push-2.ensures.items) (ap items w.lost-is)
    ]

pub loop-place-smaller : goal.loop-place-smaller
loop-place-smaller c = fewer c.args.before.now.links.now c.args.owner c.args.before.now.removed.now c.loop-place.left.items c.loop-place.lost.items c.loop-place.place c.in-Some.slot c.requires c.loop-place.invariant c.in-Some.is (length c.if-is_marked.left.items + length c.if-is_marked.lost.items) (one_more c).0

pub loop-place-preserved : goal.loop-place-preserved
loop-place-preserved c = (one_more c).1

pub returns-clause-left : goal.returns-clause-left
returns-clause-left c = (parted_all c.args.before.now.links.now c.args.owner c.args.before.now.removed.now c.loop-place.left.items c.loop-place.lost.items c.loop-place.place c.loop-place.invariant c.in_default.is).0

pub returns-clause-lost : goal.returns-clause-lost
returns-clause-lost c = (parted_all c.args.before.now.links.now c.args.owner c.args.before.now.removed.now c.loop-place.left.items c.loop-place.lost.items c.loop-place.place c.loop-place.invariant c.in_default.is).1
