use Rattle.std.proofs.Common.{List, map, sym, subst}
use Rattle.std.specs.Borrow.{Bor}
use Rattle.std.specs.Prelude.{string_bytes}
use Rattle.table_history.specs.Rows.{IsInPathOrder, SameRows}
use Rattle.table_history.specs.declared.row.FileRow.{FileRow}
use Rattle.table_lines.specs.TableLines.{totals}
use Rattle.lake_play.proofs.Telling.{tells_of}
use Rattle.lake_play.proofs.summary.totals_of.Goals as goal

pub returns : goal.returns
returns c =
    let same = sym c.deref.ensures.value in
    tells_of string_bytes totals c.args.rows.now (map (λ (row : Bor FileRow). row.now) c.deref.result.now) c.totals.result
    (subst (λ (l : List (Bor FileRow)). IsInPathOrder (map (λ (row : Bor FileRow). row.now) l)) same c.in_ok-rows.ensures.order)
    (subst (λ (l : List (Bor FileRow)). SameRows (map (λ (row : Bor FileRow). row.now) l) c.args.rows.now) same c.in_ok-rows.ensures.same) c.totals.ensures
