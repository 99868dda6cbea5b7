use Rattle.std.proofs.Common.{inr, sym, ap, ◌∙◌}
use Rattle.std.proofs.lemmas.Bool.{false≢true}
use Rattle.table_history.specs.Row.{Row}
use Rattle.table_history.specs.Rows.{row_at}
use Rattle.table_history.proofs.RowListLemmas.{row_at-itself}
use Rattle.delta_live.proofs.between.with_new.Goals as goal

pub returns-clause-rows : goal.returns-clause-rows
returns-clause-rows c =
    let before = c.args.before.now in
    inr (
      λ there. false≢true (sym c.if-is_same.false ∙ c.is_same.ensures.1 (c.get-held.ensures.value ∙ ap (row_at before) (c.as_bytes.ensures.value ∙ ap (λ (r : Row). r.path) c.row.view_is) ∙ row_at-itself before c.args.row c.get-held.ensures.distinct there)),
      c.in_ok-push.ensures.items,
    )
