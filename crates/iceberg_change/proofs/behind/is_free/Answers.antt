use Rattle.std.proofs.Common.{sym, ap, subst, ◌∙◌}
use Rattle.table_history.specs.Row.{Row}
use Rattle.table_history.specs.Rows.{HasPath}
use Rattle.iceberg_table.proofs.RowLaws.{path_there}
use Rattle.iceberg_change.proofs.behind.is_free.Goals as goal

pub returns-in-Some : goal.returns-in-Some
returns-in-Some c = λ free there.
    let rows = c.args.went.now.rows in
    subst (HasPath rows) (c.as_bytes-in-Some.ensures.value ∙ ap (λ (r : Row). r.path) c.row.view_is) (path_there rows c.as_bytes-in-Some.result.now c.get-in-Some.result (sym c.is_some.ensures ∙ free) c.get-in-Some.ensures.cases)

pub returns-in-None : goal.returns-in-None
returns-in-None c = λ free there. absurd (c.in-None.ensures.cases (subst (HasPath c.args.before.now.rows) (sym (c.as_bytes.ensures.value ∙ ap (λ (r : Row). r.path) c.row.view_is)) there))
