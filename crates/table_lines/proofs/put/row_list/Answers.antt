use Rattle.std.proofs.Common.{◌≡◌, [], ◌∷◌, ◌++◌, Some, map, take, slice_get, sym, ap, ◌∙◌, arith}
use Rattle.std.proofs.lemmas.List.{map-append, take_more}
use Rattle.std.proofs.lemmas.Option.{get_or_from_slice_get}
use Rattle.std.specs.Borrow.{Bor}
use Rattle.std.specs.Option.{option_copied}
use Rattle.table_history.specs.declared.row.FileRow.{FileRow}
use Rattle.table_lines.proofs.put.row_list.Goals as goal

pub loop-place-preserved : goal.loop-place-preserved
loop-place-preserved c =
    let row = c.unwrap.result.now in
    let rows = c.args.rows.now in
    let i = c.loop-place.place in
    let here : slice_get rows i ≡ Some row = sym c.at.ensures ∙ ap option_copied c.unwrap.ensures in
    ap (map (λ (r : Bor FileRow). r.now)) c.in_ok-push.ensures.items
    ∙ map-append (λ r. r.now) c.loop-place.list.items (c.unwrap.result ∷ [])
    ∙ ap (λ l. l ++ row ∷ []) c.loop-place.invariant
    ∙ sym (take_more rows i row (omega arith) ∙ ap (λ (r : FileRow). take i rows ++ r ∷ []) (get_or_from_slice_get rows i row row here))
