use Rattle.std.proofs.Common.{◌≡◌, filter, sym, subst}
use Rattle.std.specs.Prelude.{IfOk}
use Rattle.table_history.specs.Rows.{HasDistinctPaths, SameRows}
use Rattle.table_history.specs.declared.table.Table.{Table}
use Rattle.hudi_groups.specs.declared.form.Form.{Form}
use Rattle.hudi_groups.specs.Files.{group_name}
use Rattle.hudi_groups.specs.GroupSets.{has_group, rows_at_paths}
use Rattle.hudi_groups.proofs.GroupPathLemmas.{at_paths_found, at_paths_apart}
use Rattle.hudi_groups.proofs.grouped_table.GroupedTable.rows_of_groups.Goals as goal

pub returns-in-Base-clause-rows : goal.returns-in-Base-clause-rows
returns-in-Base-clause-rows c =
    let r = c.rows_of_file_ids.result in
    let groups = c.args.groups.now in
    subst (λ (t : Table). HasDistinctPaths t.rows → IfOk r (λ v. SameRows v.items (filter (λ w. has_group groups (group_name c.args.form.now w.path)) t.rows))) c.self.view_is
    (subst (λ (f : Form). HasDistinctPaths c.self.inside.table.rows → IfOk r (λ v. SameRows v.items (filter (λ w. has_group groups (group_name f w.path)) c.self.inside.table.rows))) (sym c.in-Base.is) c.rows_of_file_ids.ensures.rows)

pub returns-in-External-clause-rows : goal.returns-in-External-clause-rows
returns-in-External-clause-rows c = λ distinct.
    at_paths_found c.in-External.time c.args.form.now c.in-External.is c.args.self.now.rows c.args.groups.now c.rows_at_paths.result
    (subst (λ (t : Table). IfOk c.rows_at_paths.result (λ v. v.items ≡ rows_at_paths c.args.form.now t.rows c.args.groups.now.keys)) c.self.view_is c.rows_at_paths.ensures.rows) distinct

pub returns-in-External-clause-distinct : goal.returns-in-External-clause-distinct
returns-in-External-clause-distinct c = λ distinct.
    at_paths_apart c.in-External.time c.args.form.now c.in-External.is c.args.self.now.rows c.args.groups.now c.rows_at_paths.result
    (subst (λ (t : Table). IfOk c.rows_at_paths.result (λ v. v.items ≡ rows_at_paths c.args.form.now t.rows c.args.groups.now.keys)) c.self.view_is c.rows_at_paths.ensures.rows) c.rows_at_paths.ensures.unique
