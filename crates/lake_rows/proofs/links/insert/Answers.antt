use Rattle.std.proofs.Common.{arith, ◌≡◌, Some, sym, ap, ◌∙◌}
use Rattle.file_links.specs.declared.slots.Held.{Held}
use Rattle.lake_rows.proofs.links.insert.Goals as goal

pub insert-requires-clause-path : goal.insert-requires-clause-path
insert-requires-clause-path c w =
    let path : c.as_bytes.result.now ≡ c.args.row.row.path = c.as_bytes.ensures.value ∙ ap (λ (h : Held). h.row.path) c.row.view_is in
    let e : c.find.result ≡ Some w.0 = c.find.ensures.each w.0 w.1 w.2 (w.3 ∙ sym path) in
    let z : ⊥ = grind (arith, e) in z
