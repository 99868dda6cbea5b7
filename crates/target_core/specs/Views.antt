-- What a target's files stand for, and what a commit makes of it.
use Rattle.std.specs.Prelude.{◌≡◌, ◌↔◌, ℕ, ◌+◌, List, [], ◌∷◌, Contains, Option, Some, None, ◌<◌}
use Rattle.table_history.specs.TypeTree.{ColumnTrees}
use Rattle.table_history.specs.Rows.{HasDistinctPaths, SameRows}
use Rattle.table_history.specs.Tables.{IsRowAfter, empty_table}
use Rattle.table_history.specs.Row.{Row}
use Rattle.table_history.specs.declared.kind.Kind.{Kind}
use Rattle.table_history.specs.declared.table.Table.{Table}
use Rattle.table_history.specs.declared.table.Commit.{Commit}
use Rattle.target_core.specs.declared.mark.Mark.{Mark}

-- the source's format, and the id of its table where that is stated
pub record Origin : Type 0 where
  pub source : Kind
  pub table : Option (List ℕ)

abbrev pub origin_of : Kind → Option (List ℕ) → Origin
origin_of source table = record { source = source; table = table }

-- What a mark says, but for the commit that it stands in.
pub record Standing : Type 0 where
  pub origin : Origin
  pub to : List ℕ

abbrev pub standing_of : Mark → Standing
standing_of m = record { origin = origin_of m.source m.table; to = m.to }

abbrev pub standing_at : Origin → List ℕ → Standing
standing_at origin position = record { origin = origin; to = position }

-- How many commits are published, what the mark of the newest one says, and the table after it. Its rows are read as a set.
pub record View : Type 0 where
  pub commits : ℕ
  pub mark : Option Standing
  pub table : Table

-- a target of these partition columns of which nothing is published
abbrev pub absent : List (List ℕ) → View
absent partition = record { commits = 0; mark = None; table = empty_table partition }

abbrev pub IsUnpublished : View → Type 0
IsUnpublished view = view ≡ absent view.table.partition

-- a commit is published, and the newest one has a mark
abbrev pub IsPublished : View → Type 0
IsPublished view = (0 < view.commits) × ((standing : Standing) × (view.mark ≡ Some standing))

-- the newest commit's mark names a source of this format
abbrev pub IsOfSource : Kind → View → Type 0
IsOfSource source view = (standing : Standing) × (view.mark ≡ Some standing) × (standing.origin.source ≡ source)

-- The two show the same. The order of rows doesn't count.
pub record SameView (a b : View) : Type 0 where
  pub commits : a.commits ≡ b.commits
  pub mark : a.mark ≡ b.mark
  pub rows : SameRows a.table.rows b.table.rows
  pub partition : a.table.partition ≡ b.table.partition
  pub schema : a.table.schema ≡ b.table.schema

-- the schema that the change states, as the target's types hold it, or else the one before
abbrev pub IsSchemaAfter : (ColumnTrees → Option ColumnTrees) → Option ColumnTrees → ColumnTrees → ColumnTrees → Type 0
IsSchemaAfter image None before after = after ≡ before
IsSchemaAfter image (Some stated) before after = image stated ≡ Some after

-- `next` is one commit more: the rows after the change, the schema as the target's types hold it, and a mark of the commit's position.
pub record IsAdvanced (image : ColumnTrees → Option ColumnTrees) (origin : Origin) (view : View) (commit : Commit) (next : View) : Type 0 where
  pub commits : next.commits ≡ view.commits + 1
  pub mark : next.mark ≡ Some (standing_at origin commit.position)
  pub rows : (row : Row) → Contains next.table.rows row ↔ IsRowAfter view.table.rows commit.change.removed commit.change.added row
  pub distinct : HasDistinctPaths next.table.rows
  pub partition : next.table.partition ≡ view.table.partition
  pub schema : IsSchemaAfter image commit.change.schema view.table.schema next.table.schema

-- `last` is these commits more, the first of them first, up to the order of rows
abbrev pub IsAdvancedAll : (ColumnTrees → Option ColumnTrees) → Origin → View → List Commit → View → Type 0
IsAdvancedAll image origin view [] last = SameView view last
IsAdvancedAll image origin view (commit ∷ commits) last = (next : View) × IsAdvanced image origin view commit next × IsAdvancedAll image origin next commits last
