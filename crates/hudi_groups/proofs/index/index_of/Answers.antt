use Rattle.std.proofs.Common.{◌≡◌, ◌||◌, Some, get_or, slice_get, take, sym, ap, ◌∙◌, arith}
use Rattle.std.specs.List.{list_any}
use Rattle.std.specs.Option.{option_copied}
use Rattle.std.proofs.lemmas.List.Folds.{list_any_more}
use Rattle.std.proofs.lemmas.Option.{get_or_from_slice_get}
use Rattle.table_history.specs.declared.row.FileRow.{FileRow}
use Rattle.hudi_groups.specs.GroupIndex.{is_path_of, is_row_of}
use Rattle.hudi_groups.proofs.GroupIndexLemmas.{or_swap}
use Rattle.hudi_groups.proofs.index.index_of.Goals as goal

pub loop-place-preserved : goal.loop-place-preserved
loop-place-preserved c = λ q p.
    let rows = c.args.rows.now in
    let place = c.loop-place.place in
    let row = c.unwrap-row.result.now in
    let here : slice_get rows place ≡ Some row = sym c.at.ensures ∙ ap option_copied c.unwrap-row.ensures in
    let same : get_or rows place row ≡ row = get_or_from_slice_get rows place row row here in
    c.in_ok-index.ensures q p
    ∙ (λ i. is_path_of q p ((c.as_bytes.ensures.value ∙ ap (λ (r : FileRow). r.path) c.row.view_is) i) || c.loop-place.invariant q p i)
    ∙ or_swap (is_row_of q p row) (list_any (is_row_of q p) (take place rows))
    ∙ ap (λ r. list_any (is_row_of q p) (take place rows) || is_row_of q p r) (sym same)
    ∙ sym (list_any_more (is_row_of q p) rows place row (omega arith))
