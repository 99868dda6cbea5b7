use Rattle.std.proofs.Common.{arith, sym, subst, ◌+◌, Some}
use Rattle.file_links.specs.Rows.{OwnedRows, Owns}
use Rattle.file_links.proofs.SlotLemmas.{known_held, slot_within, holds_slot, in_use_within}
use Rattle.file_links.proofs.slots.Links.owner_of.Goals as goal

pub chain-requires-clause-slot : goal.chain-requires-clause-slot
chain-requires-clause-slot c =
    let r = known_held c.self.inside c.args.self.now c.self.view_is c.self.invariant c.args.slot c.requires in
    slot_within c.self.inside c.self.invariant c.args.slot (Some r.0) r.1

pub overflow_sub-result : goal.overflow_sub-result
overflow_sub-result c =
    let r = known_held c.self.inside c.args.self.now c.self.view_is c.self.invariant c.args.slot c.requires in
    let o = c.self.invariant.owned c.args.slot r.0 r.1 in
    let e = o.1 in let f = c.chain.ensures.value in omega (arith, e, f)

pub returns : goal.returns
returns c owner held w =
    let P : OwnedRows → Type 0 = λ v. Owns v owner (record { slot = c.args.slot; held = held }) in
    let r = holds_slot c.self.inside c.self.invariant owner c.args.slot held (subst P (sym c.self.view_is) w) in
    let h = in_use_within c.self.inside c.self.invariant owner r.2 in
    let mark = c.self.invariant.rows.links.marked (owner + 1) c.args.slot (c.self.invariant.row_chains owner h) r.0 in
    let f = c.chain.ensures.value in omega (arith, mark, f)
