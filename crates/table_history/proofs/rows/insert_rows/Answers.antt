use Rattle.std.proofs.Common.{[], ◌∷◌, sym, ap, ◌∙◌, arith}
use Rattle.std.specs.Option.{option_or}
use Rattle.std.specs.Str.{bytes_eq}
use Rattle.table_history.specs.Rows.{row_at}
use Rattle.table_history.proofs.RowListLemmas.{added_step, row_at-append}
use Rattle.table_history.proofs.RowSetLemmas.{row_at-replace}
use Rattle.table_history.proofs.rows.insert_rows.Goals as goal

pub loop-row-preserved : goal.loop-row-preserved
loop-row-preserved c = record {
  lookups = λ p.
      let keys = rw c.unwrap.ensures at c.replace.ensures.keys in
      let row = c.in-Some.row in
      let left = c.pop.new.self.items in
      let rest = row_at left p in
      let old = row_at c.loop-row.rows.keys p in
      ap (option_or rest) (ap (λ rows. row_at rows p) keys ∙ row_at-replace c.loop-row.rows.keys row p)
      ∙ added_step rest (bytes_eq p row.path) row old
      ∙ ap (λ w. option_or w old) (sym (row_at-append left (row ∷ []) p) ∙ ap (λ rows. row_at rows p) (sym c.in-Some.ensures.items))
      ∙ c.loop-row.invariant.lookups p;
  room = omega (arith, c.in-Some.ensures.cases, c.replace.ensures.spare, c.loop-row.invariant.room);
  unique = c.replace.ensures.unique;
}
