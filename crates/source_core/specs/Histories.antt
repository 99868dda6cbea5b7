-- The history of a table, the commits that lead along it, and the targets that stand at one of its tables.
use Rattle.std.specs.Prelude.{◌++◌, [], ◌≡◌, ◌↔◌, ℕ, zero, suc, List, [], ◌∷◌, slice_get, Contains, Option, Some, unwrap_or}
use Rattle.lake_store.specs.Disk.{Files}
use Rattle.table_history.specs.History.{FitsColumn, History, column_type}
use Rattle.table_history.specs.Rows.{SameRows}
use Rattle.table_history.specs.Tables.{IsDiff}
use Rattle.table_history.specs.TypeTree.{ColumnTrees}
use Rattle.table_history.specs.declared.kind.Kind.{Kind}
use Rattle.table_history.specs.declared.row.PartValue.{PartValue}
use Rattle.table_history.specs.declared.table.Commit.{Commit}
use Rattle.table_history.specs.declared.table.Table.{Table}
use Rattle.target_core.specs.Meaning.{Meaning}
use Rattle.target_core.specs.Views.{IsUnpublished, Standing, View}

-- this is the last of its commits, with the table after it
abbrev pub IsLast : History → List ℕ × Table → Type 0
IsLast history last = (front : History) × (history ≡ front ++ last ∷ [])

-- ---- commits along a history

-- The table that is held has the other's rows, in whatever order, and its partition columns, and the same values fit these.
pub record IsLike (held table : Table) : Type 0 where
  pub rows : SameRows held.rows table.rows
  pub partition : held.partition ≡ table.partition
  pub kinds : (name : List ℕ) → Contains table.partition name → (v : PartValue) → FitsColumn (column_type held.schema name) v ↔ FitsColumn (column_type table.schema name) v

-- The commit has the position, and what differs between the rows of the two tables. The schema is the one that it states, or the one before.
pub record LeadsTo (before : Table) (commit : Commit) (after : List ℕ × Table) : Type 0 where
  pub position : commit.position ≡ after.0
  pub rows : IsDiff before.rows after.1.rows commit.change.removed commit.change.added
  pub schema : after.1.schema ≡ unwrap_or commit.change.schema before.schema
  pub partition : after.1.partition ≡ before.partition

-- There is one commit for each table behind this one, and it leads from the table before it to that.
abbrev pub LeadAlong : Table → History → List Commit → Type 0
LeadAlong before [] commits = commits ≡ []
LeadAlong before (after ∷ history) [] = ⊥
LeadAlong before (after ∷ history) (commit ∷ commits) = LeadsTo before commit after × LeadAlong after.1 history commits

-- ---- targets that stand at one of its tables

-- The target's newest mark is of the source's format and has the position; it has the table's rows and partition columns, and its schema as the
-- target's types hold it.
pub record ShowsEntry (source : Kind) (image : ColumnTrees → Option ColumnTrees) (entry : List ℕ × Table) (view : View) : Type 0 where
  pub standing : Standing
  pub mark : view.mark ≡ Some standing
  pub format : standing.origin.source ≡ source
  pub position : standing.to ≡ entry.0
  pub rows : SameRows view.table.rows entry.1.rows
  pub partition : view.table.partition ≡ entry.1.partition
  pub schema : image entry.1.schema ≡ Some view.table.schema

-- the view is that of the k-th table of the history, counted from 1, and without a commit that of none
abbrev pub ShowsTable : Kind → (ColumnTrees → Option ColumnTrees) → History → ℕ → View → Type 0
ShowsTable source image history zero view = IsUnpublished view
ShowsTable source image history (suc k) view = (entry : List ℕ × Table) × (slice_get history k ≡ Some entry) × ShowsEntry source image entry view

-- The target's files stand for the k-th table of the history.
pub record IsAt (source : Kind) (target : Meaning) (history : History) (files : Files) (k : ℕ) : Type 0 where
  pub view : View
  pub reads : target.reads files view
  pub shows : ShowsTable source target.image history k view
