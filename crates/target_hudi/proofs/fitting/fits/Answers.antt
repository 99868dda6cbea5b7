use Rattle.std.proofs.Common.{List, ℕ, sym, subst, ◌∙◌, arith}
use Rattle.std.proofs.lemmas.Bool.{false≢true}
use Rattle.table_history.specs.declared.feature.Feature.TheVariants.{PartitionChange}
use Rattle.target_core.specs.declared.target.TargetError.TheVariants.{Unsupported}
use Rattle.target_hudi.specs.Fitting.{Unfit, changes, many}
use Rattle.target_hudi.specs.Kept.{held_of}
use Rattle.target_hudi.proofs.FittingLemmas.{fits_as, refused_as}
use Rattle.target_hudi.proofs.fitting.fits.Goals as goal

pub returns-then-commits-gt-MAX_PUBLISHED_COMMITS-clause-refusal : goal.returns-then-commits-gt-MAX_PUBLISHED_COMMITS-clause-refusal
returns-then-commits-gt-MAX_PUBLISHED_COMMITS-clause-refusal c = many (omega arith)

pub returns-then-branch-clause-refusal : goal.returns-then-branch-clause-refusal
returns-then-branch-clause-refusal c =
    subst (λ (p : List ℕ). Unfit (held_of c.args.kept.now) c.args.partition.now c.args.commits.now (Unsupported PartitionChange p)) (sym c.in_ok-from_str.ensures)
    (changes (λ is. absurd (omega (arith, is))) (c.in_ok-changes_partition.ensures.0 c.if-branch.true))

pub returns-clause-fits : goal.returns-clause-fits
returns-clause-fits c =
    fits_as (held_of c.args.kept.now) c.args.partition.now c.args.commits.now c.commits_fit.result
    (λ is. absurd (omega (arith, is)))
    (λ is. false≢true (sym c.if-branch.false ∙ c.in_ok-changes_partition.ensures.1 is))
    c.commits_fit.ensures.none

pub returns-clause-refusal : goal.returns-clause-refusal
returns-clause-refusal c =
    refused_as (held_of c.args.kept.now) c.args.partition.now c.args.commits.now c.commits_fit.result
    (λ is. absurd (omega (arith, is)))
    (λ is. false≢true (sym c.if-branch.false ∙ c.in_ok-changes_partition.ensures.1 is))
    c.commits_fit.ensures.fault
