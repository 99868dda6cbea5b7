use Rattle.std.proofs.Common.{sym, ◌∙◌, ap, subst, ◌≡◌, ◌+◌, Some, slice_get}
use Rattle.file_links.specs.Chains.{slots_in}
use Rattle.file_links.specs.Rows.{OwnedRows, rows_of, slot_at}
use Rattle.file_links.proofs.SlotLemmas.{known_held, slot_within, some_rows, slot_entry, all_held, in_use_within, step}
use Rattle.file_links.proofs.slots.Links.next.Goals as goal

pub next-requires-clause-slot : goal.next-requires-clause-slot
next-requires-clause-slot c =
    let r = known_held c.self.inside c.args.self.now c.self.view_is c.self.invariant c.args.slot c.requires in
    slot_within c.self.inside c.self.invariant c.args.slot (Some r.0) r.1

pub returns : goal.returns
returns c owner place rows e m =
    let P : OwnedRows → Type 0 = λ v. rows_of v owner ≡ Some rows in
    let r = some_rows c.self.inside c.self.invariant owner rows (subst P (sym c.self.view_is) e) in
    let h = in_use_within c.self.inside c.self.invariant owner r.0 in
    let all = all_held c.self.inside c.self.invariant owner h in
    let at : slice_get (slots_in c.self.inside.rows (owner + 1)) place ≡ Some c.args.slot =
    sym (slot_entry c.self.inside.held.items (slots_in c.self.inside.rows (owner + 1)) place all) ∙ ap (λ l. slot_at l place) r.1 ∙ m in
    c.next.ensures
    ∙ step c.self.inside.rows c.self.invariant.rows (owner + 1) c.args.slot place (c.self.invariant.row_chains owner h) at
    ∙ sym (slot_entry c.self.inside.held.items (slots_in c.self.inside.rows (owner + 1)) (place + 1) all)
    ∙ ap (λ l. slot_at l (place + 1)) r.1
