-- Views that show the same, and what leads from one to another.
use Rattle.std.proofs.Common.{◌≡◌, inl, inr, ⊎_elim, ℕ, ◌+◌, List, [], ◌∷◌, Option, Some, None, refl, sym, ◌∙◌, ap}
use Rattle.std.specs.Prelude.{Contains}
use Rattle.table_history.specs.Row.{Row}
use Rattle.table_history.specs.Tables.{IsRowAfter}
use Rattle.table_history.specs.TypeTree.{ColumnTrees}
use Rattle.table_history.specs.declared.table.Commit.{Commit}
use Rattle.target_core.specs.Views.{IsAdvanced, IsAdvancedAll, IsSchemaAfter, Origin, SameView, View}

pub same_refl : (a : View) → SameView a a
same_refl a = record { commits = refl; mark = refl; rows = λ row. (λ is. is, λ is. is); partition = refl; schema = refl }

pub same_sym : (a b : View) → SameView a b → SameView b a
same_sym a b same = record { commits = sym same.commits; mark = sym same.mark; rows = λ row. ((same.rows row).1, (same.rows row).0); partition = sym same.partition; schema = sym same.schema }

pub same_trans : (a b c : View) → SameView a b → SameView b c → SameView a c
same_trans a b c one other = record {
  commits = one.commits ∙ other.commits;
  mark = one.mark ∙ other.mark;
  rows = λ row. (λ is. (other.rows row).0 ((one.rows row).0 is), λ is. (one.rows row).1 ((other.rows row).1 is));
  partition = one.partition ∙ other.partition;
  schema = one.schema ∙ other.schema;
}

row_after : (a b : View) (commit : Commit) (row : Row) → SameView a b → IsRowAfter a.table.rows commit.change.removed commit.change.added row → IsRowAfter b.table.rows commit.change.removed commit.change.added row
row_after a b commit row same is = ⊎_elim inl (λ (old : Contains a.table.rows row × ¬ Contains commit.change.removed row.path). inr ((same.rows row).0 old.0, old.1)) is

module _ (image : ColumnTrees → Option ColumnTrees) (origin : Origin) where
  schema_after : (stated : Option ColumnTrees) (a b after : ColumnTrees) → a ≡ b → IsSchemaAfter image stated a after → IsSchemaAfter image stated b after
  schema_after None a b after same is = is ∙ same
  schema_after (Some stated) a b after same is = is

  pub advanced_same : (a b : View) (commit : Commit) (next : View) → SameView a b → IsAdvanced image origin a commit next → IsAdvanced image origin b commit next
  advanced_same a b commit next same step = record {
    commits = step.commits ∙ ap (λ (n : ℕ). n + 1) same.commits;
    mark = step.mark;
    rows = λ row. (λ is. row_after a b commit row same ((step.rows row).0 is), λ is. (step.rows row).1 (row_after b a commit row (same_sym a b same) is));
    distinct = step.distinct;
    partition = step.partition ∙ same.partition;
    schema = schema_after commit.change.schema a.table.schema b.table.schema next.table.schema same.schema step.schema;
  }

  -- from a view that shows the same
  pub advanced_from : (a b : View) (commits : List Commit) (last : View) → SameView a b → IsAdvancedAll image origin a commits last → IsAdvancedAll image origin b commits last
  advanced_from a b [] last same is = same_trans b a last (same_sym a b same) is
  advanced_from a b (commit ∷ commits) last same is = (is.0, advanced_same a b commit is.0 same is.1, is.2)

  -- to a view that shows the same
  pub advanced_to : (start : View) (commits : List Commit) (a b : View) → SameView a b → IsAdvancedAll image origin start commits a → IsAdvancedAll image origin start commits b
  advanced_to start [] a b same is = same_trans start a b is same
  advanced_to start (commit ∷ commits) a b same is = (is.0, is.1, advanced_to is.0 commits a b same is.2)
