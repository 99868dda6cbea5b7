-- Commits that fit one after another may be applied, whatever order the rows of the tables between them have.
use Rattle.std.proofs.Common.{◌≡◌, List, [], ◌∷◌, ◌++◌, refl, subst}
use Rattle.table_history.specs.Tables.{CanApply, IsAfter, SameTable}
use Rattle.table_history.specs.declared.table.Commit.{Commit}
use Rattle.table_history.specs.declared.table.Table.{Table}
use Rattle.table_history.proofs.SameTableLemmas.{after_same, afters_same, can_apply_same, same_itself}
use Rattle.target_core.specs.Conditions.{IsPublishable}
use Rattle.source_core.specs.Since.{CanApplyAll, FitAll}

-- ---- commits one after another

module _ (P : Table → Type 0) (publishable : (t : Table) → P t → IsPublishable t) where
  -- The change fits the table, and leaves one that has the property where that one does.
  pub record FitsTable (before : Table) (commit : Commit) (next : Table) : Type 0 where
    pub fits : CanApply before commit.change
    pub leaves : P before → (t : Table) → IsAfter before commit.change t → P t
    pub after : IsAfter before commit.change next

  abbrev pub LeadOn : Table → List Commit → Table → Type 0
  LeadOn before [] last = last ≡ before
  LeadOn before (commit ∷ commits) last = (after : Table) × FitsTable before commit after × LeadOn after commits last

  pub lead_further : (commits : List Commit) (base before : Table) (commit : Commit) (after : Table) → LeadOn base commits before → FitsTable before commit after → LeadOn base (commits ++ commit ∷ []) after
  lead_further [] base before commit after fit more = (after, subst (λ (t : Table). FitsTable t commit after) fit more, refl)
  lead_further (c ∷ commits) base before commit after fit more = (fit.0, fit.1, lead_further commits fit.0 before commit after fit.2 more)

  apply_each : (commits : List Commit) (before alike last : Table) → SameTable before alike → P before → LeadOn before commits last → CanApplyAll alike commits
  apply_each [] before alike last same is fit = tt
  apply_each (commit ∷ commits) before alike last same is fit = (
    can_apply_same before alike commit.change same fit.1.fits,
    λ table after.
        let of = after_same before alike commit.change table same after in (
          publishable table (fit.1.leaves is table of),
          apply_each commits fit.0 table last (afters_same before commit.change fit.0 table fit.1.after of) (fit.1.leaves is fit.0 fit.1.after) fit.2,
        ),
  )

  pub can_apply : (commits : List Commit) (base last : Table) → P base → LeadOn base commits last → CanApplyAll base commits
  can_apply commits base last is fit = apply_each commits base base last (same_itself base) is fit

  fit_each : (commits : List Commit) (before alike last : Table) → SameTable before alike → LeadOn before commits last → FitAll alike commits
  fit_each [] before alike last same fit = tt
  fit_each (commit ∷ commits) before alike last same fit = (
    can_apply_same before alike commit.change same fit.1.fits,
    λ table after. fit_each commits fit.0 table last (afters_same before commit.change fit.0 table fit.1.after (after_same before alike commit.change table same after)) fit.2,
  )

  pub fit_all : (commits : List Commit) (base last : Table) → LeadOn base commits last → FitAll base commits
  fit_all commits base last fit = fit_each commits base base last (same_itself base) fit
