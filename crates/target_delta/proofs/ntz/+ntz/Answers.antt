use Rattle.std.proofs.Common.{◌||◌, Bool, suc, drop, sym, ap, ◌∙◌}
use Rattle.schema_map.proofs.OwnNames.{column_at}
use Rattle.table_history.specs.SchemaView.{columns_view}
use Rattle.target_delta.specs.Writing.{has_ntz, have_ntz}
use Rattle.target_delta.proofs.ColumnLemmas.{kind_is}
use Rattle.target_delta.proofs.ntz.+ntz.Goals as goal

pub have_ntz-returns-then-has_ntz : goal.have_ntz-returns-then-has_ntz
have_ntz-returns-then-has_ntz t c =
    let columns = c.args.columns.now in
    let i = c.loop-column.column-index in
    let here = ap has_ntz (kind_is c.column-item.result) ∙ sym c.has_ntz.ensures ∙ c.if-has_ntz.true in
    sym (sym c.loop-column.invariant ∙ ap have_ntz (column_at columns i c.column-item.result c.loop-column-test.true c.column-item.is) ∙ ap (λ (b : Bool). b || have_ntz (columns_view (drop (suc i) columns))) here)
