use Rattle.std.proofs.Common.{◌≡◌, ◌++◌, ◌∷◌, [], ℕ, List, length, ap, sym, subst, ◌∙◌, rules}
use Rattle.file_links.specs.Rows.{HoldsPath}
use Rattle.file_links.specs.declared.slots.Held.{Held}
use Rattle.target_iceberg.specs.InspectSteps.{FillsOwner}
use Rattle.iceberg_live.specs.declared.live.LiveRow.{LiveRow}
use Rattle.iceberg_table.proofs.EachLaws.{left_moved, left_next, left_none}
use Rattle.target_iceberg.proofs.LinkLemmas.{has_room, none_yet, path_free, row_in, some_rows}
use Rattle.target_iceberg.proofs.linking.hold_rows.Goals as goal

pub loop-live-init : goal.loop-live-init
loop-live-init c = ([], sym (c.into_iter-live-iterator.ensures.into_iter_gives.0 ∙ c.into_vec-live-items.ensures), none_yet c.args.links.now c.args.owner c.requires.owner)

pub loop-live-preserved : goal.loop-live-preserved
loop-live-preserved c =
    let was = c.loop-live.invariant in
    let live = c.in-Some.live in
    let split = left_next c.args.rows was.0 c.loop-live.live-iterator.rest.items c.next.new.self.rest.items live was.1 c.in-Some.ensures.steps.0 in (
      was.0 ++ live ∷ [],
      left_moved c.args.rows was.0 c.next.new.self.rest.items live split,
      row_in c.args.links.now c.loop-live.links c.args.owner was.0 was.2 live c.insert.new.self c.insert.result c.held_of.result c.held_of.ensures.is c.held_of.ensures.small c.insert.ensures,
    )

pub insert-requires-clause-room : goal.insert-requires-clause-room
insert-requires-clause-room c =
    let was = c.loop-live.invariant in
    has_room c.args.links.now c.loop-live.links c.args.owner was.0 was.2 c.args.rows c.loop-live.live-iterator.rest.items c.next.new.self.rest.items c.in-Some.live was.1 c.in-Some.ensures.steps.0 c.requires.room

pub insert-requires-clause-owner : goal.insert-requires-clause-owner
insert-requires-clause-owner c = some_rows c.args.links.now c.loop-live.links c.args.owner c.loop-live.invariant.0 c.loop-live.invariant.2

pub insert-requires-clause-path : goal.insert-requires-clause-path
insert-requires-clause-path c =
    let was = c.loop-live.invariant in
    let live = c.in-Some.live in
    let split = left_next c.args.rows was.0 c.loop-live.live-iterator.rest.items c.next.new.self.rest.items live was.1 c.in-Some.ensures.steps.0 in
    λ holds. path_free c.args.links.now c.loop-live.links c.args.owner was.0 was.2 c.args.rows c.next.new.self.rest.items live split c.requires.apart c.requires.distinct (subst (λ (p : List ℕ). HoldsPath c.loop-live.links p) (ap (λ (h : Held). h.row.path) c.held_of.ensures.is) holds)

pub returns : goal.returns
returns c =
    let was = c.loop-live.invariant in
    let none : length c.loop-live.live-iterator.rest.items ≡ 0 = search rules in
    subst (λ (l : List LiveRow). FillsOwner c.args.links.now c.loop-live.links c.args.owner l) (sym (left_none c.args.rows was.0 c.loop-live.live-iterator.rest.items was.1 none)) was.2
