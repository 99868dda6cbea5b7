-- Commits that lead to a table that may be published.
use Rattle.std.proofs.Common.{◌≡◌, ◌⊎◌, ◌<◌, ℕ, List, [], ◌∷◌, Some, ⊎_elim}
use Rattle.table_history.specs.Tables.{CanApply, LeadsTo}
use Rattle.table_history.specs.declared.table.Table.{Table}
use Rattle.table_history.specs.declared.table.Commit.{Commit}
use Rattle.target_core.specs.Conditions.{CanPublish, IsPublishable}
use Rattle.target_core.specs.Views.{View}
use Rattle.target_core.proofs.Publishable.{publishable_after}

pub not_none : (commit : Commit) → commit ∷ [] ≡ [] → ⊥
not_none commit is = cc is

-- A target that has a commit has the partition columns of what fits it, and so has one that begins with them.
pub known_columns : (own names : List (List ℕ)) (commits : ℕ) → (own ≡ names) ⊎ (0 < commits) → (0 < commits → own ≡ names) → own ≡ names
known_columns own names commits known fit = ⊎_elim (λ (same : own ≡ names). same) fit known

-- The change that leads from a view's table to one that may be published may be published.
pub can_publish : (view : View) (after : Table) (commit : Commit) → IsPublishable after → CanApply view.table commit.change → LeadsTo view.table.rows commit.change.removed commit.change.added after.rows → commit.change.schema ≡ Some after.schema
    → view.table.partition ≡ after.partition → CanPublish view commit
can_publish view after commit may fits leads states columns = record {
  change = fits;
  after = λ t is. publishable_after view.table after t commit.change may leads states columns is;
}
