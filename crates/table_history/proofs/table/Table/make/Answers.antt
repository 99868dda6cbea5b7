use Rattle.std.proofs.Common.{◌↔◌, Contains, unwrap_or, refl, sym, ap}
use Rattle.table_history.specs.declared.row.FileRow.{FileRow}
use Rattle.table_history.specs.Tables.{IsRowAfter}
use Rattle.table_history.proofs.TableLemmas.{rows_after}
use Rattle.table_history.proofs.table.Table.make.Goals as goal
use Rattle.table_history.proofs.table.Table.make.Goals.{In_ok-update}

rows : (c : In_ok-update) (row : FileRow) → Contains c.update.new.self row ↔ IsRowAfter c.args.self.now.rows c.args.removed.now c.args.added.items row
rows c =
    rows_after c.args.self.now.rows c.update.new.self c.args.added.items c.args.removed.now c.in_ok-update.ensures.was_distinct c.in_ok-update.ensures.distinct c.requires.added_distinct c.requires.added_new c.in_ok-update.ensures.ok

pub returns-in-Some-clause-ok : goal.returns-in-Some-clause-ok
returns-in-Some-clause-ok c = record {
  rows = rows (goal.at.returns-in-Some-clause-ok c).In_ok-update;
  distinct = c.in_ok-update.ensures.distinct;
  schema = ap (λ o. unwrap_or o c.args.self.now.schema) (sym c.in-Some.is);
  partition = refl;
}

pub returns-in_default-clause-ok : goal.returns-in_default-clause-ok
returns-in_default-clause-ok c = record {
  rows = rows (goal.at.returns-in_default-clause-ok c).In_ok-update;
  distinct = c.in_ok-update.ensures.distinct;
  schema = ap (λ o. unwrap_or o c.args.self.now.schema) (sym c.in_default.is);
  partition = refl;
}
