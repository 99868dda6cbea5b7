-- Commits that lead along a history take a target along it.
use Rattle.std.proofs.Common.{◌≡◌, ◌≤◌, ℕ, zero, suc, List, [], ◌∷◌, length, take, Contains, Option, Some, None, refl, sym, ap, subst, ◌∙◌, inl, inr, ⊎_elim, arith}
use Rattle.std.specs.Prelude.{slice_get, unwrap_or}
use Rattle.table_history.specs.History.{FitsColumn, History, column_type}
use Rattle.table_history.specs.Row.{Row}
use Rattle.table_history.specs.Rows.{HasDistinctPaths, SameRows}
use Rattle.table_history.specs.Tables.{IsRowAfter, SameTable}
use Rattle.table_history.specs.TypeTree.{ColumnTrees}
use Rattle.table_history.specs.declared.kind.Kind.{Kind}
use Rattle.table_history.specs.declared.table.Commit.{Commit}
use Rattle.table_history.specs.declared.table.Table.{Table}
use Rattle.table_history.proofs.Laws.{change_leads}
use Rattle.target_core.specs.Views.{IsAdvanced, IsAdvancedAll, IsSchemaAfter, Origin, SameView, View, standing_at}
use Rattle.source_core.specs.Histories.{IsLike, LeadAlong, LeadsTo, ShowsEntry}

module _ (source : Kind) (image : ColumnTrees → Option ColumnTrees) where
  -- the same holds of a view that shows the same
  pub entry_same : (entry : List ℕ × Table) (a b : View) → SameView a b → ShowsEntry source image entry a → ShowsEntry source image entry b
  entry_same entry a b same shows = record {
    standing = shows.standing;
    mark = sym same.mark ∙ shows.mark;
    format = shows.format;
    position = shows.position;
    rows = λ row. (λ is. (shows.rows row).0 ((same.rows row).1 is), λ is. (same.rows row).0 ((shows.rows row).1 is));
    partition = sym same.partition ∙ shows.partition;
    schema = shows.schema ∙ ap (λ (s : ColumnTrees). Some s) same.schema;
  }

  schema_behind : (stated : Option ColumnTrees) (before after view next : ColumnTrees) → after ≡ unwrap_or stated before → image before ≡ Some view → IsSchemaAfter image stated view next → image after ≡ Some next
  schema_behind None before after view next is held step = ap image is ∙ held ∙ ap (λ (s : ColumnTrees). Some s) (sym step)
  schema_behind (Some stated) before after view next is held step = ap image is ∙ step

  row_of : (view : View) (before : List Row) (removed : List (List ℕ)) (added : List Row) (row : Row) → SameRows view.table.rows before → IsRowAfter view.table.rows removed added row → IsRowAfter before removed added row
  row_of view before removed added row same is = ⊎_elim inl (λ (old : Contains view.table.rows row × ¬ Contains removed row.path). inr ((same row).0 old.0, old.1)) is

  row_back : (view : View) (before : List Row) (removed : List (List ℕ)) (added : List Row) (row : Row) → SameRows view.table.rows before → IsRowAfter before removed added row → IsRowAfter view.table.rows removed added row
  row_back view before removed added row same is = ⊎_elim inl (λ (old : Contains before row × ¬ Contains removed row.path). inr ((same row).1 old.0, old.1)) is

  -- one commit more
  pub entry_next : (origin : Origin) → origin.source ≡ source → (before : List ℕ × Table) (after : List ℕ × Table) (commit : Commit) (view next : View) → HasDistinctPaths before.1.rows → HasDistinctPaths after.1.rows
      → ShowsEntry source image before view → LeadsTo before.1 commit after → IsAdvanced image origin view commit next → ShowsEntry source image after next
  entry_next origin of before after commit view next distinct distinct' shows leads step =
      let removed = commit.change.removed in
      let added = commit.change.added in
      let to = change_leads before.1.rows after.1.rows removed added leads.rows distinct distinct' in
      record {
        standing = standing_at origin commit.position;
        mark = step.mark;
        format = of;
        position = leads.position;
        rows = λ row. (
          λ is. (to row).0 (row_of view before.1.rows removed added row shows.rows ((step.rows row).0 is)),
          λ is. (step.rows row).1 (row_back view before.1.rows removed added row shows.rows ((to row).1 is)),
        );
        partition = step.partition ∙ shows.partition ∙ sym leads.partition;
        schema = schema_behind commit.change.schema before.1.schema after.1.schema view.table.schema next.table.schema leads.schema shows.schema step.schema;
      }

  -- a first part of the commits
  pub entry_after : (origin : Origin) → origin.source ≡ source → (before : List ℕ × Table) (behind : History) (commits : List Commit) (n : ℕ) (view last : View) → HasDistinctPaths before.1.rows
      → ((i : ℕ) (p : List ℕ × Table) → slice_get behind i ≡ Some p → HasDistinctPaths p.1.rows) → ShowsEntry source image before view → LeadAlong before.1 behind commits → n ≤ length commits
      → IsAdvancedAll image origin view (take n commits) last → (entry : List ℕ × Table) × (slice_get (before ∷ behind) n ≡ Some entry) × ShowsEntry source image entry last
  entry_after origin of before behind commits zero view last distinct all shows along within is = (before, refl, entry_same before view last is shows)
  entry_after origin of before behind [] (suc n) view last distinct all shows along within is = absurd (omega (arith, within))
  entry_after origin of before [] (commit ∷ commits) (suc n) view last distinct all shows along within is = absurd (cc along)
  entry_after origin of before (after ∷ behind) (commit ∷ commits) (suc n) view last distinct all shows along within is =
      let next = entry_next origin of before after commit view is.0 distinct (all 0 after refl) shows along.0 is.1 in
      let rest = entry_after origin of after behind commits n is.0 last (all 0 after refl) (λ i p there. all (suc i) p there) next along.1 (omega (arith, within)) is.2 in
      (rest.0, rest.1, rest.2)

-- a table is like one that is the same
pub like_same : (held base : Table) → SameTable held base → IsLike held base
like_same held base same = record {
  rows = same.rows;
  partition = same.partition;
  kinds = λ name there v. (
    λ fits. subst (λ (s : ColumnTrees). FitsColumn (column_type s name) v) same.schema fits,
    λ fits. subst (λ (s : ColumnTrees). FitsColumn (column_type s name) v) (sym same.schema) fits,
  );
}

-- commits along a history are as many as its tables
pub along_length : (before : Table) (history : History) (commits : List Commit) → LeadAlong before history commits → length commits ≡ length history
along_length before [] commits along = ap (λ (cs : List Commit). length cs) along
along_length before (after ∷ history) [] along = absurd along
along_length before (after ∷ history) (commit ∷ commits) along = ap (λ (n : ℕ). suc n) (along_length after.1 history commits along.1)
