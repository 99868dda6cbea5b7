use Rattle.std.proofs.Common.{sym, subst}
use Rattle.iceberg_table.specs.Errors.{IsFault}
use Rattle.iceberg_table.specs.Lists.{IsListFault}
use Rattle.iceberg_table.proofs.ListLaws.{list_refused, rows_found}
use Rattle.iceberg_table.proofs.list.list_in.Goals as goal

pub returns-in-Ok-clause-found : goal.returns-in-Ok-clause-found
returns-in-Ok-clause-found c = rows_found c.args.metadata.now c.args.bytes.now c.in-Ok.infos c.all_listed.result c.in-Ok.ensures.found c.in-Ok.ensures.only c.all_listed.ensures.found

pub returns-in-Err-clause-refused : goal.returns-in-Err-clause-refused
returns-in-Err-clause-refused c = subst (IsFault (IsListFault c.args.metadata.now c.args.bytes.now)) (sym c.manifest_fault.ensures) (list_refused c.args.metadata.now c.args.bytes.now c.in-Err.error c.in-Err.ensures.refused)
