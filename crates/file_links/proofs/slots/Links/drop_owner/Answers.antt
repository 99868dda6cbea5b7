use Rattle.std.proofs.Common.{arith, sym, ◌∙◌, ap, subst, refl, ◌≡◌, Some, None, []}
use Rattle.file_links.specs.Rows.{OwnedRows, rows_of}
use Rattle.file_links.proofs.SlotLemmas.{DropsRows, the_rows, first_row, no_first, drops_more, fewer, empty_chain, in_use_within, owner_links, owner_ended}
use Rattle.file_links.proofs.slots.Links.drop_owner.Goals as goal

pub unlink-requires : goal.unlink-requires
unlink-requires c =
    let r = the_rows (rows_of c.loop-slot.self c.args.owner) c.loop-slot.invariant.here in
    let f = first_row c.loop-slot.self c.args.owner c.in-Some.slot r.0 r.1 (c.in-Some.ensures r.0 r.1) in
    (f.0, (c.args.owner, f.1))

pub loop-slot-smaller : goal.loop-slot-smaller
loop-slot-smaller c =
    let r = the_rows (rows_of c.loop-slot.self c.args.owner) c.loop-slot.invariant.here in
    let f = first_row c.loop-slot.self c.args.owner c.in-Some.slot r.0 r.1 (c.in-Some.ensures r.0 r.1) in
    fewer c.loop-slot.self c.unlink.new.self c.args.owner c.in-Some.slot f.1.0 f.0 f.1.1 f.1.2 c.unlink.ensures.rest

pub loop-slot-preserved : goal.loop-slot-preserved
loop-slot-preserved c =
    let r = the_rows (rows_of c.loop-slot.self c.args.owner) c.loop-slot.invariant.here in
    let f = first_row c.loop-slot.self c.args.owner c.in-Some.slot r.0 r.1 (c.in-Some.ensures r.0 r.1) in
    drops_more c.args.self.now c.loop-slot.self c.unlink.new.self c.args.owner c.in-Some.slot f.1.0 f.0 c.loop-slot.invariant f.1.1 f.1.2 c.unlink.ensures.rest

pub move_to-requires-clause-slot : goal.move_to-requires-clause-slot
move_to-requires-clause-slot c =
    let none : c.first.result ≡ None = grind arith in
    let r = the_rows (rows_of c.loop-slot.self c.args.owner) c.loop-slot.invariant.here in
    let e = no_first r.0 (sym (c.first.ensures r.0 r.1) ∙ none) in
    let P : OwnedRows → Type 0 = λ v. rows_of v c.args.owner ≡ Some [] in
    let k = empty_chain c.self.inside c.self.invariant c.args.owner (subst P (sym c.self.view_is) (r.1 ∙ ap Some e)) in
    in_use_within c.self.inside c.self.invariant c.args.owner k.0

pub invariant_of-self : goal.invariant_of-self
invariant_of-self c =
    let none : c.first.result ≡ None = grind arith in
    let r = the_rows (rows_of c.loop-slot.self c.args.owner) c.loop-slot.invariant.here in
    let e = no_first r.0 (sym (c.first.ensures r.0 r.1) ∙ none) in
    let P : OwnedRows → Type 0 = λ v. rows_of v c.args.owner ≡ Some [] in
    let k = empty_chain c.self.inside c.self.invariant c.args.owner (subst P (sym c.self.view_is) (r.1 ∙ ap Some e)) in
    owner_links c.self.inside _ c.args.owner 0 c.self.invariant (record {
      within = in_use_within c.self.inside c.self.invariant c.args.owner k.0;
      is_mark = omega arith;
      empty = k.1;
      owners_sound = c.move_to.ensures.sound;
      owners = c.move_to.ensures.moves;
      rows = refl;
      buckets = refl;
      held = refl;
    })

pub returns : goal.returns
returns c =
    let none : c.first.result ≡ None = grind arith in
    let r = the_rows (rows_of c.loop-slot.self c.args.owner) c.loop-slot.invariant.here in
    let e = no_first r.0 (sym (c.first.ensures r.0 r.1) ∙ none) in
    let P : OwnedRows → Type 0 = λ v. rows_of v c.args.owner ≡ Some [] in
    let w = subst P (sym c.self.view_is) (r.1 ∙ ap Some e) in
    let k = empty_chain c.self.inside c.self.invariant c.args.owner w in
    let D : OwnedRows → Type 0 = λ v. DropsRows c.args.self.now v c.args.owner in
    owner_ended c.self.inside (record { alloc = c.self.inside.alloc; held = c.self.inside.held; rows = c.self.inside.rows; buckets = c.self.inside.buckets; owners = c.move_to.new.self }) c.args.owner c.self.invariant (record {
      within = in_use_within c.self.inside c.self.invariant c.args.owner k.0;
      is_mark = omega arith;
      empty = k.1;
      owners_sound = c.move_to.ensures.sound;
      owners = c.move_to.ensures.moves;
      rows = refl;
      buckets = refl;
      held = refl;
    }) c.args.self.now (subst D (sym c.self.view_is) c.loop-slot.invariant) w
