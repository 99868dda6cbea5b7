use Rattle.std.proofs.Common.{◌≡◌, List, true, not, sym, ap, ◌∙◌, subst}
use Rattle.std.proofs.Math.Bool.{not-not}
use Rattle.std.specs.List.{list_any}
use Rattle.table_history.specs.Rows.{HasPath}
use Rattle.table_history.specs.RowSet.{same_path}
use Rattle.table_history.specs.declared.row.FileRow.{FileRow}
use Rattle.table_history.proofs.RowSetLemmas.{insert_key-held}
use Rattle.table_history.proofs.rows.FileRows.insert_new.Goals as goal

pub returns-clause-held : goal.returns-clause-held
returns-clause-held c old =
    let row = c.args.row in
    let keys = c.self.inside.rows.keys in
    let held : list_any (same_path row) keys ≡ true = sym (not-not (list_any (same_path row) keys)) ∙ ap not (sym c.in_ok-is_new.ensures.added ∙ old) in
    let stands = insert_key-held keys row held in
    (subst (λ (rows : List FileRow). HasPath rows row.path) c.self.view_is stands.0, c.in_ok-is_new.ensures.keys ∙ stands.1 ∙ c.self.view_is)
