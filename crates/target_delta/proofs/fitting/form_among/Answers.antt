use Rattle.std.proofs.Common.{List, sym, ap, subst, ◌∙◌}
use Rattle.std.specs.Prelude.{Contains}
use Rattle.std.proofs.lemmas.Bool.{false≢true}
use Rattle.table_history.specs.Row.{Row}
use Rattle.target_delta.specs.Fitting.{HasValueForm, IsFirstValueForm}
use Rattle.target_delta.proofs.FormLemmas.{first_here, none_more}
use Rattle.target_delta.proofs.fitting.form_among.Goals as goal
use Rattle.lake_basics.proofs.Lists.{all_taken}

pub returns-then-branch : goal.returns-then-branch
returns-then-branch c =
    let rows = c.args.rows.now in
    subst (λ p. IsFirstValueForm rows p) (sym (c.in_ok-copy.ensures ∙ ap (λ (r : Row). r.path) c.row.view_is))
    (first_here rows c.loop-row.row-index c.row-item.result c.loop-row-test.true c.row-item.is c.loop-row.invariant (c.in_ok-has_value_form.ensures.0 c.if-branch.true))

pub loop-row-preserved : goal.loop-row-preserved
loop-row-preserved c =
    none_more HasValueForm c.args.rows.now c.loop-row.row-index c.row-item.result c.loop-row-test.true c.row-item.is c.loop-row.invariant
    (λ has. false≢true (sym c.if-branch.false ∙ c.in_ok-has_value_form.ensures.1 has))

pub returns : goal.returns
returns c =
    subst (λ (l : List Row). (row : Row) → Contains l row → HasValueForm row → ⊥) (all_taken c.args.rows.now c.loop-row.row-index c.loop-row.auto.row-index-end c.loop-row-test.false) c.loop-row.invariant
