use Rattle.std.proofs.Common.{arith, ◌≡◌, Some, slice_get}
use Rattle.std.proofs.lemmas.Option.{slice_get_within}
use Rattle.file_links.proofs.SlotLemmas.{known_held, known_holds, one_row}
use Rattle.file_links.proofs.slots.Links.get.Goals as goal

pub row_at-requires : goal.row_at-requires
row_at-requires c =
    let r = known_held c.self.inside c.args.self.now c.self.view_is c.self.invariant c.args.slot c.requires in
    let h = slice_get_within c.self.inside.held.items c.args.slot (Some r.0) r.1 in grind (arith, h)

pub unwrap-requires : goal.unwrap-requires
unwrap-requires c =
    let r = known_held c.self.inside c.args.self.now c.self.view_is c.self.invariant c.args.slot c.requires in
    let e = r.1 in grind (arith, e)

pub returns : goal.returns
returns c =
    let r = known_held c.self.inside c.args.self.now c.self.view_is c.self.invariant c.args.slot c.requires in
    let e = r.1 in
    let f : slice_get c.self.inside.held.items c.args.slot ≡ Some (Some c.unwrap.result.now) = grind (arith, e) in
    record {
      row = known_holds c.self.inside c.args.self.now c.self.view_is c.self.invariant c.args.slot c.unwrap.result.now f;
      only = λ held w. one_row c.self.inside c.args.self.now c.self.view_is c.self.invariant c.args.slot held c.unwrap.result.now w f;
    }
