use Rattle.std.proofs.Common.{List, sym, refl, ap, subst, ◌∙◌}
use Rattle.std.specs.Prelude.{Contains}
use Rattle.std.proofs.lemmas.Bool.{false≢true}
use Rattle.table_history.specs.Row.{Row}
use Rattle.target_core.proofs.Lists.{one_more}
use Rattle.target_hudi.specs.Fitting.{IsAstray, IsFirstAstray}
use Rattle.target_hudi.proofs.FittingLemmas.{astray, first_astray, not_astray}
use Rattle.target_hudi.proofs.fitting.rows_fit.Goals as goal
use Rattle.lake_basics.proofs.Lists.{all_taken}

pub returns-then-not-branch-clause-fault : goal.returns-then-not-branch-clause-fault
returns-then-not-branch-clause-fault c =
    let partition = c.args.partition.now in
    let rows = c.args.rows.now in
    let row : Row = c.row-item.result in
    let path = c.as_str.ensures.value ∙ ap (λ (r : Row). r.path) c.row.view_is in
    let values = c.as_slice.ensures ∙ ap (λ (r : Row). r.values) c.row.view_is in
    let here = astray partition row c.as_str.result.now c.as_slice.result.now path values (λ carries. false≢true (sym c.if-not-branch.true ∙ c.in_ok-path_carries.ensures.1 carries)) in (
      refl,
      subst (λ p. IsFirstAstray partition rows p) (sym (c.in_ok-copy.ensures ∙ ap (λ (r : Row). r.path) c.row.view_is))
          (first_astray partition rows c.loop-row.row-index row c.loop-row-test.true c.row-item.is c.loop-row.invariant here),
    )

pub loop-row-preserved : goal.loop-row-preserved
loop-row-preserved c =
    let partition = c.args.partition.now in
    let row : Row = c.row-item.result in
    let path = c.as_str.ensures.value ∙ ap (λ (r : Row). r.path) c.row.view_is in
    let values = c.as_slice.ensures ∙ ap (λ (r : Row). r.values) c.row.view_is in
    one_more (λ r. IsAstray partition r → ⊥) c.args.rows.now c.loop-row.row-index row c.loop-row-test.true c.row-item.is c.loop-row.invariant
    (not_astray partition row c.as_str.result.now c.as_slice.result.now path values (c.in_ok-path_carries.ensures.0 c.if-not-branch.false))

pub returns-clause-none : goal.returns-clause-none
returns-clause-none c =
    subst (λ (l : List Row). (row : Row) → Contains l row → IsAstray c.args.partition.now row → ⊥) (all_taken c.args.rows.now c.loop-row.row-index c.loop-row.auto.row-index-end c.loop-row-test.false) c.loop-row.invariant
