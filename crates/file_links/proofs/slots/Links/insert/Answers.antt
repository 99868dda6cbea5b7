use Rattle.std.proofs.Common.{arith, sym, ◌∙◌, ap, subst, refl, ◌≡◌, ℕ, Some, slice_get, IsSome}
use Rattle.file_links.specs.Chains.{slots_in, chain_count, Moves}
use Rattle.file_links.specs.Hash.{bucket_of}
use Rattle.file_links.specs.Rows.{OwnedRows, HoldsPath, Inserts, rows_of}
use Rattle.file_links.specs.Slots.{view_of}
use Rattle.file_links.proofs.SlotLemmas.{is_owner, in_use_within, first_slot, insertion, insertion_links}
use Rattle.file_links.proofs.slots.Links.insert.Goals as goal

pub bucket_of-bucket-requires-clause-chains : goal.bucket_of-bucket-requires-clause-chains
bucket_of-bucket-requires-clause-chains c =
    let e : slice_get (slots_in c.self.inside.rows 0) 0 ≡ Some c.unwrap-slot.result = grind arith in
    let r = first_slot c.self.inside.rows c.self.invariant.rows 0 c.unwrap-slot.result e in
    let h = r.0 in
    let a = c.self.invariant.row_slots in let b = c.self.invariant.bucket_slots in
    let k = c.self.invariant.bucket_chains (omega (arith, h, a, b)) in omega (arith, h, a, b, k)

pub overflow_add-owner : goal.overflow_add-owner
overflow_add-owner c =
    let P : OwnedRows → Type 0 = λ v. IsSome (rows_of v c.args.owner) in
    let u = is_owner c.self.inside c.self.invariant c.args.owner (subst P (sym c.self.view_is) c.requires.owner) in
    let h = in_use_within c.self.inside c.self.invariant c.args.owner u in
    let k = c.self.invariant.owners.links.slots_fit in grind (arith, h, k)

pub move_to-requires-clause-slot : goal.move_to-requires-clause-slot
move_to-requires-clause-slot c =
    let e : slice_get (slots_in c.self.inside.rows 0) 0 ≡ Some c.unwrap-slot.result = grind arith in
    (first_slot c.self.inside.rows c.self.invariant.rows 0 c.unwrap-slot.result e).0

pub move_to-requires-clause-chain : goal.move_to-requires-clause-chain
move_to-requires-clause-chain c =
    let P : OwnedRows → Type 0 = λ v. IsSome (rows_of v c.args.owner) in
    let u = is_owner c.self.inside c.self.invariant c.args.owner (subst P (sym c.self.view_is) c.requires.owner) in
    c.self.invariant.row_chains c.args.owner (in_use_within c.self.inside c.self.invariant c.args.owner u)

pub move_to-requires-2-clause-slot : goal.move_to-requires-2-clause-slot
move_to-requires-2-clause-slot c =
    let e : slice_get (slots_in c.self.inside.rows 0) 0 ≡ Some c.unwrap-slot.result = grind arith in
    let r = first_slot c.self.inside.rows c.self.invariant.rows 0 c.unwrap-slot.result e in
    let h = r.0 in
    let a = c.self.invariant.row_slots in let b = c.self.invariant.bucket_slots in omega (arith, h, a, b)

pub set_row-requires : goal.set_row-requires
set_row-requires c =
    let e : slice_get (slots_in c.self.inside.rows 0) 0 ≡ Some c.unwrap-slot.result = grind arith in
    let r = first_slot c.self.inside.rows c.self.invariant.rows 0 c.unwrap-slot.result e in
    let h = r.0 in
    let a = c.self.invariant.row_slots in omega (arith, h, a)

pub invariant_of-self : goal.invariant_of-self
invariant_of-self c =
    let e : slice_get (slots_in c.self.inside.rows 0) 0 ≡ Some c.unwrap-slot.result = grind arith in
    let r = first_slot c.self.inside.rows c.self.invariant.rows 0 c.unwrap-slot.result e in
    let P : OwnedRows → Type 0 = λ v. IsSome (rows_of v c.args.owner) in
    let Q : OwnedRows → Type 0 = λ v. HoldsPath v c.args.held.row.path in
    let b : c.bucket_of-bucket.result ≡ bucket_of (chain_count c.self.inside.buckets) c.args.held.row.path =
    c.bucket_of-bucket.ensures.value ∙ ap (bucket_of (chain_count c.self.inside.buckets)) c.path.ensures in
    insertion_links c.self.inside _ c.args.owner c.unwrap-slot.result c.args.held c.self.invariant (record {
      slot = r.0;
      free = r.1;
      owner = is_owner c.self.inside c.self.invariant c.args.owner (subst P (sym c.self.view_is) c.requires.owner);
      fresh = λ h. c.requires.path (subst Q c.self.view_is h);
      rows_sound = c.move_to.ensures.sound;
      rows = c.move_to.ensures.moves;
      buckets_sound = c.move_to-2.ensures.sound;
      buckets = (let R : ℕ → Type 0 = λ k. Moves c.self.inside.buckets c.move_to-2.new.self c.unwrap-slot.result k in subst R b c.move_to-2.ensures.moves);
      owners = refl;
      held = c.set_row.ensures.after;
    })

pub returns : goal.returns
returns c =
    let e : slice_get (slots_in c.self.inside.rows 0) 0 ≡ Some c.unwrap-slot.result = grind arith in
    let r = first_slot c.self.inside.rows c.self.invariant.rows 0 c.unwrap-slot.result e in
    let P : OwnedRows → Type 0 = λ v. IsSome (rows_of v c.args.owner) in
    let Q : OwnedRows → Type 0 = λ v. HoldsPath v c.args.held.row.path in
    let b : c.bucket_of-bucket.result ≡ bucket_of (chain_count c.self.inside.buckets) c.args.held.row.path =
    c.bucket_of-bucket.ensures.value ∙ ap (bucket_of (chain_count c.self.inside.buckets)) c.path.ensures in
    let S : OwnedRows → Type 0 = λ v. Inserts v (view_of (record { alloc = c.self.inside.alloc; held = c.set_row.new.held; rows = c.move_to.new.self; buckets = c.move_to-2.new.self; owners = c.self.inside.owners })) c.args.owner c.unwrap-slot.result c.args.held in
    subst S c.self.view_is (insertion c.self.inside (record { alloc = c.self.inside.alloc; held = c.set_row.new.held; rows = c.move_to.new.self; buckets = c.move_to-2.new.self; owners = c.self.inside.owners }) c.args.owner c.unwrap-slot.result c.args.held c.self.invariant (record {
      slot = r.0;
      free = r.1;
      owner = is_owner c.self.inside c.self.invariant c.args.owner (subst P (sym c.self.view_is) c.requires.owner);
      fresh = λ h. c.requires.path (subst Q c.self.view_is h);
      rows_sound = c.move_to.ensures.sound;
      rows = c.move_to.ensures.moves;
      buckets_sound = c.move_to-2.ensures.sound;
      buckets = (let R : ℕ → Type 0 = λ k. Moves c.self.inside.buckets c.move_to-2.new.self c.unwrap-slot.result k in subst R b c.move_to-2.ensures.moves);
      owners = refl;
      held = c.set_row.ensures.after;
    }))
