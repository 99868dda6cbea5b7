use Rattle.std.proofs.Common.{◌≡◌, ℕ, List, length, Option, subst}
use Rattle.std.specs.Option.{MatchOption}
use Rattle.table_history.specs.Rows.{HasDistinctPaths, SameRows}
use Rattle.table_history.specs.declared.table.Table.{Table}
use Rattle.sync_driver.specs.Checked.{IsFirstDifference}
use Rattle.sync_driver.proofs.checking.compared.Goals as goal

pub returns-in-Ok : goal.returns-in-Ok
returns-in-Ok g c =
    let held = c.table-held.result.now in
    let rows = c.args.table.now.rows in
    let same = subst (λ (o : Option (List ℕ)). MatchOption o (SameRows held.rows rows) (IsFirstDifference held.rows rows)) c.in-Ok-None.field-0-is c.in-Ok-None.ensures in
    let all = subst (λ (t : Table). SameRows t.rows rows × HasDistinctPaths t.rows × (c.len.result ≡ length t.rows)) c.table-held.ensures (same, c.len.ensures.distinct, c.len.ensures.len) in
    (all.0, all.1, all.2, c.in-Ok.ensures)
