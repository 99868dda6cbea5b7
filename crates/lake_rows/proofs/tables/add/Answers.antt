use Rattle.std.proofs.Common.{◌≡◌, [], ◌∷◌, ◌++◌, sym, ap, ◌∙◌, subst}
use Rattle.table_history.specs.Row.{Row}
use Rattle.table_history.specs.Rows.{HasPath}
use Rattle.table_history.proofs.Laws.{one_row_fits}
use Rattle.lake_rows.proofs.tables.add.Goals as goal

pub apply-requires : goal.apply-requires
apply-requires c =
    let row : Row = c.in_ok-row.row in
    let path : c.as_bytes.result.now ≡ row.path = c.as_bytes.ensures.value ∙ ap (λ (r : Row). r.path) c.row-2.view_is in
    one_row_fits _ row _ c.new-removed.ensures (c.in_ok-push-in-None.ensures.ok ∙ ap (λ l. l ++ row ∷ []) c.new-added.ensures)
    (λ there. c.in-None.ensures.cases (subst (HasPath c.args.table.now.rows) (sym path) there))
