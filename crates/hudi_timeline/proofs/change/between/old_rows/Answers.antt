use Rattle.std.proofs.Common.{Option, filter, sym, ap, subst}
use Rattle.std.specs.Prelude.{IfOk}
use Rattle.std.specs.Option.{option_copied}
use Rattle.table_history.specs.Rows.{HasDistinctPaths, SameRows}
use Rattle.table_history.specs.declared.table.Table.{Table}
use Rattle.hudi_groups.specs.Files.{group_name}
use Rattle.hudi_groups.specs.GroupSets.{has_group}
use Rattle.hudi_timeline.specs.Causes.{rows_before}
use Rattle.hudi_timeline.proofs.change.between.old_rows.Goals as goal

pub returns-in-Some-clause-rows : goal.returns-in-Some-clause-rows
returns-in-Some-clause-rows c =
    let groups = c.args.groups.now in
    let form = c.args.form.now in
    subst (λ (o : Option Table). HasDistinctPaths (rows_before o) → IfOk c.rows_of_groups.result (λ v. SameRows v.items (filter (λ r. has_group groups (group_name form r.path)) (rows_before o))))
    (sym (ap option_copied c.in-Some.is)) c.rows_of_groups.ensures.rows
