use Rattle.std.proofs.Common.{List, subst}
use Rattle.std.specs.Prelude.{Contains}
use Rattle.table_history.specs.Row.{Row}
use Rattle.table_history.specs.declared.table.Commit.{Commit}
use Rattle.target_delta.specs.Fitting.{HasValueForm, IsFirstValueForm, IsFormOf, added_rows}
use Rattle.target_delta.proofs.FormLemmas.{first_among, none_among}
use Rattle.target_delta.proofs.fitting.form_of.Goals as goal
use Rattle.lake_basics.proofs.Lists.{all_taken}

pub returns-in-Some : goal.returns-in-Some
returns-in-Some c =
    first_among c.args.commits.now c.loop-commit.commit-index c.commit-item.result c.loop-commit-test.true c.commit-item.is c.in-Some.path c.loop-commit.invariant
    (subst (λ (l : List Row). IsFirstValueForm l c.in-Some.path) c.as_slice.ensures (subst (λ o. IsFormOf c.as_slice.result.now o) c.in-Some.is c.in_ok-path.ensures))

pub loop-commit-preserved : goal.loop-commit-preserved
loop-commit-preserved c =
    none_among c.args.commits.now c.loop-commit.commit-index c.commit-item.result c.loop-commit-test.true c.commit-item.is c.loop-commit.invariant
    (subst (λ (l : List Row). (row : Row) → Contains l row → HasValueForm row → ⊥) c.as_slice.ensures (subst (λ o. IsFormOf c.as_slice.result.now o) c.in_default.is c.in_ok-path.ensures))

pub returns : goal.returns
returns c =
    subst (λ (l : List Commit). (row : Row) → Contains (added_rows l) row → HasValueForm row → ⊥) (all_taken c.args.commits.now c.loop-commit.commit-index c.loop-commit.auto.commit-index-end c.loop-commit-test.false) c.loop-commit.invariant
