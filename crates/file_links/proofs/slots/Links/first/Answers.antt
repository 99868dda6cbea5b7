use Rattle.std.proofs.Common.{arith, sym, ◌∙◌, ap, subst, ◌≡◌, ◌+◌, IsSome, Some}
use Rattle.file_links.specs.Chains.{slots_in}
use Rattle.file_links.specs.Rows.{OwnedRows, rows_of, slot_at}
use Rattle.file_links.proofs.SlotLemmas.{is_owner, in_use_within, some_rows, slot_entry, all_held}
use Rattle.file_links.proofs.slots.Links.first.Goals as goal

pub first-requires-clause-chain : goal.first-requires-clause-chain
first-requires-clause-chain c =
    let P : OwnedRows → Type 0 = λ v. IsSome (rows_of v c.args.owner) in
    let u = is_owner c.self.inside c.self.invariant c.args.owner (subst P (sym c.self.view_is) c.requires) in
    c.self.invariant.row_chains c.args.owner (in_use_within c.self.inside c.self.invariant c.args.owner u)

pub overflow_add-owner : goal.overflow_add-owner
overflow_add-owner c =
    let P : OwnedRows → Type 0 = λ v. IsSome (rows_of v c.args.owner) in
    let u = is_owner c.self.inside c.self.invariant c.args.owner (subst P (sym c.self.view_is) c.requires) in
    let h = in_use_within c.self.inside c.self.invariant c.args.owner u in
    let k = c.self.invariant.owners.links.slots_fit in grind (arith, h, k)

pub returns : goal.returns
returns c rows e =
    let P : OwnedRows → Type 0 = λ v. rows_of v c.args.owner ≡ Some rows in
    let r = some_rows c.self.inside c.self.invariant c.args.owner rows (subst P (sym c.self.view_is) e) in
    c.first.ensures
    ∙ sym (slot_entry c.self.inside.held.items (slots_in c.self.inside.rows (c.args.owner + 1)) 0 (all_held c.self.inside c.self.invariant c.args.owner (in_use_within c.self.inside c.self.invariant c.args.owner r.0)))
    ∙ ap (λ l. slot_at l 0) r.1
