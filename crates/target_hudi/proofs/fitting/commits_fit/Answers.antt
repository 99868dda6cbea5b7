use Rattle.std.proofs.Common.{List, sym, subst}
use Rattle.std.specs.Prelude.{Contains, IfErr}
use Rattle.std.proofs.lemmas.Result.{err_from_is_err_and}
use Rattle.table_history.specs.declared.table.Commit.{Commit}
use Rattle.target_core.proofs.Lists.{one_more}
use Rattle.target_hudi.specs.Fitting.{HasNoFault, IsCommitFault, IsFaultRefusal, IsFirstFault}
use Rattle.target_hudi.proofs.FittingLemmas.{first_fault, refusal_further}
use Rattle.target_hudi.proofs.fitting.commits_fit.Goals as goal
use Rattle.lake_basics.proofs.Lists.{all_taken}

pub returns-in_err-commit_fits-clause-fault : goal.returns-in_err-commit_fits-clause-fault
returns-in_err-commit_fits-clause-fault c =
    let partition = c.args.partition.now in
    let commits = c.args.commits.now in
    let commit : Commit = c.commit-item.result in
    let exit = err_from_is_err_and c.from_residual.result c.from_residual.ensures.1 in
    let refused = refusal_further (IsCommitFault partition commit) (IsFirstFault partition commits) c.in_err-commit_fits.field-0.0
    (λ feature path here. first_fault partition commits c.loop-commit.commit-index commit feature path c.loop-commit-test.true c.commit-item.is c.loop-commit.invariant here)
    c.in_err-commit_fits.ensures.fault in
    subst (λ r. IfErr r (IsFaultRefusal (IsFirstFault partition commits))) (sym exit.1) (subst (IsFaultRefusal (IsFirstFault partition commits)) (sym exit.2) refused)

pub loop-commit-preserved : goal.loop-commit-preserved
loop-commit-preserved c = one_more (HasNoFault c.args.partition.now) c.args.commits.now c.loop-commit.commit-index c.commit-item.result c.loop-commit-test.true c.commit-item.is c.loop-commit.invariant c.in_ok-commit_fits.ensures.none

pub returns-clause-none : goal.returns-clause-none
returns-clause-none c =
    subst (λ (l : List Commit). (commit : Commit) → Contains l commit → HasNoFault c.args.partition.now commit) (all_taken c.args.commits.now c.loop-commit.commit-index c.loop-commit.auto.commit-index-end c.loop-commit-test.false) c.loop-commit.invariant
