use Rattle.std.proofs.Common.{arith, sym, subst, refl, ◌≡◌, Some, slice_get}
use Rattle.std.proofs.lemmas.Option.{slice_get_within}
use Rattle.file_links.specs.Rows.{OwnedRows, IsHeld, Unlinks}
use Rattle.file_links.specs.Slots.{view_of}
use Rattle.file_links.proofs.SlotLemmas.{known_held, known_holds, one_row, slot_within, removal, removal_links}
use Rattle.file_links.proofs.slots.Links.unlink.Goals as goal

pub move_to-requires-clause-slot : goal.move_to-requires-clause-slot
move_to-requires-clause-slot c =
    let r = known_held c.self.inside c.args.self.now c.self.view_is c.self.invariant c.args.slot c.requires in
    slot_within c.self.inside c.self.invariant c.args.slot (Some r.0) r.1

pub move_to-requires-clause-chain : goal.move_to-requires-clause-chain
move_to-requires-clause-chain c =
    let r = known_held c.self.inside c.args.self.now c.self.view_is c.self.invariant c.args.slot c.requires in
    let h = slot_within c.self.inside c.self.invariant c.args.slot (Some r.0) r.1 in
    c.self.invariant.row_chain (omega (arith, h))

pub move_to-requires-2-clause-slot : goal.move_to-requires-2-clause-slot
move_to-requires-2-clause-slot c =
    let r = known_held c.self.inside c.args.self.now c.self.view_is c.self.invariant c.args.slot c.requires in
    let h = slot_within c.self.inside c.self.invariant c.args.slot (Some r.0) r.1 in
    let e = c.self.invariant.row_slots in let f = c.self.invariant.bucket_slots in omega (arith, h, e, f)

pub set_row-requires : goal.set_row-requires
set_row-requires c =
    let r = known_held c.self.inside c.args.self.now c.self.view_is c.self.invariant c.args.slot c.requires in
    slice_get_within c.self.inside.held.items c.args.slot (Some r.0) r.1

pub unwrap-requires : goal.unwrap-requires
unwrap-requires c =
    let r = known_held c.self.inside c.args.self.now c.self.view_is c.self.invariant c.args.slot c.requires in
    let e = r.1 in grind (arith, e)

pub invariant_of-self : goal.invariant_of-self
invariant_of-self c =
    removal_links c.self.inside _ c.args.slot c.self.invariant (record {
      held_here = (let P : OwnedRows → Type 0 = λ v. IsHeld v c.args.slot in subst P (sym c.self.view_is) c.requires);
      rows_sound = c.move_to.ensures.sound;
      rows = c.move_to.ensures.moves;
      buckets_sound = c.move_to-2.ensures.sound;
      buckets = c.move_to-2.ensures.moves;
      owners = refl;
      held = c.set_row.ensures.after;
    })

pub returns-clause-row : goal.returns-clause-row
returns-clause-row c =
    let r = known_held c.self.inside c.args.self.now c.self.view_is c.self.invariant c.args.slot c.requires in
    let e = r.1 in
    let f : slice_get c.self.inside.held.items c.args.slot ≡ Some (Some c.unwrap.result) = grind (arith, e) in
    record {
      row = known_holds c.self.inside c.args.self.now c.self.view_is c.self.invariant c.args.slot c.unwrap.result f;
      only = λ held w. one_row c.self.inside c.args.self.now c.self.view_is c.self.invariant c.args.slot held c.unwrap.result w f;
    }

pub returns-clause-rest : goal.returns-clause-rest
returns-clause-rest c =
    let P : OwnedRows → Type 0 = λ v. Unlinks v (view_of (record { alloc = c.self.inside.alloc; held = c.set_row.new.held; rows = c.move_to.new.self; buckets = c.move_to-2.new.self; owners = c.self.inside.owners })) c.args.slot in
    subst P c.self.view_is
    (removal c.self.inside (record { alloc = c.self.inside.alloc; held = c.set_row.new.held; rows = c.move_to.new.self; buckets = c.move_to-2.new.self; owners = c.self.inside.owners }) c.args.slot c.self.invariant (record {
      held_here = (let Q : OwnedRows → Type 0 = λ v. IsHeld v c.args.slot in subst Q (sym c.self.view_is) c.requires);
      rows_sound = c.move_to.ensures.sound;
      rows = c.move_to.ensures.moves;
      buckets_sound = c.move_to-2.ensures.sound;
      buckets = c.move_to-2.ensures.moves;
      owners = refl;
      held = c.set_row.ensures.after;
    }))
