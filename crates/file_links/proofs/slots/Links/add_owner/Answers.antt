use Rattle.std.proofs.Common.{arith, subst, refl, ◌≡◌, Some, slice_get}
use Rattle.file_links.specs.Chains.{slots_in}
use Rattle.file_links.specs.Rows.{OwnedRows, AddsOwner}
use Rattle.file_links.specs.Slots.{view_of}
use Rattle.file_links.proofs.SlotLemmas.{first_slot, unused_empty, owner_links, owner_begun}
use Rattle.file_links.proofs.slots.Links.add_owner.Goals as goal

pub move_to-requires-clause-slot : goal.move_to-requires-clause-slot
move_to-requires-clause-slot c =
    let e : slice_get (slots_in c.self.inside.owners 0) 0 ≡ Some c.unwrap-owner.result = grind arith in
    (first_slot c.self.inside.owners c.self.invariant.owners 0 c.unwrap-owner.result e).0

pub invariant_of-self : goal.invariant_of-self
invariant_of-self c =
    let e : slice_get (slots_in c.self.inside.owners 0) 0 ≡ Some c.unwrap-owner.result = grind arith in
    let r = first_slot c.self.inside.owners c.self.invariant.owners 0 c.unwrap-owner.result e in
    owner_links c.self.inside _ c.unwrap-owner.result 1 c.self.invariant (record {
      within = r.0;
      is_mark = omega arith;
      empty = unused_empty c.self.inside c.self.invariant c.unwrap-owner.result r.0 (let f = r.1 in λ g. (let z : ⊥ = omega arith in z));
      owners_sound = c.move_to.ensures.sound;
      owners = c.move_to.ensures.moves;
      rows = refl;
      buckets = refl;
      held = refl;
    })

pub returns : goal.returns
returns c =
    let e : slice_get (slots_in c.self.inside.owners 0) 0 ≡ Some c.unwrap-owner.result = grind arith in
    let r = first_slot c.self.inside.owners c.self.invariant.owners 0 c.unwrap-owner.result e in
    let P : OwnedRows → Type 0 = λ v. AddsOwner v (view_of (record { alloc = c.self.inside.alloc; held = c.self.inside.held; rows = c.self.inside.rows; buckets = c.self.inside.buckets; owners = c.move_to.new.self })) c.unwrap-owner.result in
    subst P c.self.view_is (owner_begun c.self.inside (record { alloc = c.self.inside.alloc; held = c.self.inside.held; rows = c.self.inside.rows; buckets = c.self.inside.buckets; owners = c.move_to.new.self }) c.unwrap-owner.result c.self.invariant (record {
      within = r.0;
      is_mark = omega arith;
      empty = unused_empty c.self.inside c.self.invariant c.unwrap-owner.result r.0 (let f = r.1 in λ g. (let z : ⊥ = omega arith in z));
      owners_sound = c.move_to.ensures.sound;
      owners = c.move_to.ensures.moves;
      rows = refl;
      buckets = refl;
      held = refl;
    }) r.1)
