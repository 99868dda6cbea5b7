use Rattle.std.proofs.Common.{List, [], map, refl, sym, subst}
use Rattle.std.specs.Borrow.{Bor}
use Rattle.std.specs.Prelude.{Ok, Err}
use Rattle.source_core.specs.declared.error.SourceError.TheVariants as source
use Rattle.table_history.specs.Rows.{IsInPathOrder, SameRows}
use Rattle.table_history.specs.declared.row.FileRow.{FileRow}
use Rattle.table_lines.specs.TableLines.{lines_over}
use Rattle.sync_driver.specs.Tellings.{Tells}
use Rattle.target_sync.specs.declared.status.Status.{Status}
use Rattle.target_sync.specs.declared.status.Status.TheVariants.{Done, Memory}
use Rattle.sync_driver.proofs.Saying.{lines_there, nothing_told, put_told}
use Rattle.sync_driver.proofs.showing.put_table.Goals as goal

pub returns-in_default : goal.returns-in_default
returns-in_default g c = (Err source.Memory, tt, refl, nothing_told g.O.Sink c.args.out.now [] Memory)

pub returns : goal.returns
returns g c =
    let rows = map (λ (row : Bor FileRow). row.now) c.deref.result.now in
    let lines = lines_over c.args.kind c.args.position.now c.args.table.now rows in
    let same = sym c.deref.ensures.value in (
      Ok lines,
      record {
        rows = rows;
        order = subst (λ (l : List (Bor FileRow)). IsInPathOrder (map (λ (row : Bor FileRow). row.now) l)) same c.in-Ok.ensures.order;
        same = subst (λ (l : List (Bor FileRow)). SameRows (map (λ (row : Bor FileRow). row.now) l) c.args.table.now.rows) same c.in-Ok.ensures.same;
        is = refl;
      },
      tt,
      subst (λ (s : Status). Tells g.O.Sink c.args.out.now c.put_lines-put.new.out lines Done s) (sym c.status_of_put.ensures)
          (put_told g.O.Sink c.args.out.now c.put_lines-put.new.out lines c.put_lines-put.result (lines_there c.args.kind c.args.position.now c.args.table.now rows) c.put_lines-put.ensures.ok c.put_lines-put.ensures.err c.put_lines-put.ensures.cause),
    )
