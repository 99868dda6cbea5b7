use Rattle.std.proofs.Common.{List, ℕ, sym, subst, ◌∙◌, arith}
use Rattle.std.proofs.lemmas.Bool.{false≢true}
use Rattle.table_history.specs.declared.feature.Feature.TheVariants.{PartitionChange}
use Rattle.target_core.specs.declared.target.TargetError.TheVariants.{Unsupported}
use Rattle.target_iceberg.specs.Fitting.{Unfit, changes, many, state_of}
use Rattle.target_iceberg.specs.Following.{IsChangeOf}
use Rattle.target_iceberg.specs.FitLemmas.{fits_by}
use Rattle.target_iceberg.proofs.fitting.fits.Goals as goal

pub returns-then-commits-gt-MAX_PUBLISHED_COMMITS-clause-refusal : goal.returns-then-commits-gt-MAX_PUBLISHED_COMMITS-clause-refusal
returns-then-commits-gt-MAX_PUBLISHED_COMMITS-clause-refusal c = many (omega arith)

pub returns-then-branch-clause-refusal : goal.returns-then-branch-clause-refusal
returns-then-branch-clause-refusal c =
    subst (λ (p : List ℕ). Unfit (state_of c.args.kept.now) c.args.partition.now c.args.commits.now (Unsupported PartitionChange p)) (sym c.in_ok-from_str.ensures)
    (changes (λ is. absurd (omega (arith, is))) (c.in_ok-changes_partition.ensures.0 c.if-branch.true))

pub returns-in-None-clause-fits : goal.returns-in-None-clause-fits
returns-in-None-clause-fits c = record {
  never = fits_by (state_of c.args.kept.now) c.args.partition.now c.args.commits.now
      (λ is. absurd (omega (arith, is)))
      (λ is. false≢true (sym c.if-branch.false ∙ c.in_ok-changes_partition.ensures.1 is))
      (subst (λ o. IsChangeOf (state_of c.args.kept.now) c.args.commits.now o) c.in-None.is c.in_ok-first_change.ensures);
}

pub returns-in-Some-clause-refusal : goal.returns-in-Some-clause-refusal
returns-in-Some-clause-refusal c =
    Unfit.type c.in-Some.path (λ is. absurd (omega (arith, is))) (λ is. false≢true (sym c.if-branch.false ∙ c.in_ok-changes_partition.ensures.1 is))
    (subst (λ o. IsChangeOf (state_of c.args.kept.now) c.args.commits.now o) c.in-Some.is c.in_ok-first_change.ensures)
