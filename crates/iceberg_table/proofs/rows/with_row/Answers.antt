use Rattle.std.proofs.Common.{refl, sym, subst}
use Rattle.table_history.specs.Rows.{HasPath}
use Rattle.iceberg_table.specs.Errors.{IsFault}
use Rattle.iceberg_table.specs.Tables.{IsShared}
use Rattle.iceberg_table.specs.declared.error.Fault.{Fault}
use Rattle.iceberg_table.proofs.RowLaws.{row_added}
use Rattle.iceberg_table.proofs.rows.with_row.Goals as goal

pub returns-then-not-branch-clause-refused : goal.returns-then-not-branch-clause-refused
returns-then-not-branch-clause-refused c =
    let held : HasPath c.args.table.rows c.args.row.path = (c.in_ok-insert_new.ensures.held c.if-not-branch.true).0 in
    subst (IsFault (λ (f : Fault). IsShared f × HasPath c.args.table.rows c.args.row.path)) (sym c.unsupported.ensures) (refl, held)

pub returns-clause-found : goal.returns-clause-found
returns-clause-found c schema partition before is =
    let put = c.in_ok-insert_new.ensures.new c.if-not-branch.false in
    row_added schema partition before c.args.table is c.args.row c.insert_new.new.self put.1 put.0
