use Rattle.std.proofs.Common.{◌≡◌, Some, ap, ◌∙◌}
use Rattle.table_history.specs.Row.{Row}
use Rattle.table_history.specs.Rows.{row_at}
use Rattle.table_history.proofs.RowListLemmas.{found_same}
use Rattle.table_history.proofs.rows.FileRows.contains.Goals as goal

pub returns-in-Some : goal.returns-in-Some
returns-in-Some c =
    let found : Some c.in-Some.held.now ≡ row_at c.args.self.now c.args.row.now.path = c.in-Some.ensures.value ∙ ap (row_at c.args.self.now) (c.as_bytes.ensures.value ∙ ap (λ (r : Row). r.path) c.row.view_is) in
    let same = found_same c.args.self.now c.args.row.now c.in-Some.held.now c.in-Some.ensures.distinct found in
    (λ t. same.0 (c.is_same.ensures.0 t), λ there. c.is_same.ensures.1 (same.1 there))
