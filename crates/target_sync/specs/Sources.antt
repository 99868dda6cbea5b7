-- What the files of a source show, whatever code reads them.
use Rattle.std.specs.Prelude.{ℕ, List}
use Rattle.lake_store.specs.Disk.{Files}
use Rattle.table_history.specs.History.{History}
use Rattle.table_history.specs.declared.kind.Kind.{Kind}
use Rattle.table_history.specs.declared.table.Commit.{Commit}
use Rattle.table_history.specs.declared.table.Table.{Table}
use Rattle.source_core.specs.declared.error.SourceError.{SourceError}
use Rattle.source_core.specs.declared.head.Head.{Head}
use Rattle.source_core.specs.declared.source.Source.{Ghosts}

pub record SourceMeaning : Type 1 where
  pub kind : Kind
  -- nothing of a table is there
  pub is_absent : Files → Type 0
  -- the newest position, what is pending behind it, and the table's id
  pub is_head : Files → Head → Type 0
  -- the table at the head
  pub is_table : Files → Table → Type 0
  -- all commits after this position up to the head are there
  pub reaches : Files → List ℕ → Type 0
  -- the commits after this position up to the head, the first of which changes this table
  pub is_since : Files → List ℕ → Table → List Commit → Type 0
  -- the files hold this history of the table
  pub holds : Files → History → Type 0
  -- what is looked at for the head has this for a fault
  pub at_head : Files → SourceError → Type 0
  -- what is read for the table has this for a fault
  pub from_scratch : Files → SourceError → Type 0
  -- what is read for the commits after this position, over this table, has this for a fault
  pub from_position : Files → List ℕ → Table → SourceError → Type 0

abbrev pub source_meaning : {F : Type 0} → Ghosts F → F → SourceMeaning
source_meaning source f = record {
  kind = source.kind f;
  is_absent = source.is_absent f;
  is_head = source.is_head f;
  is_table = source.is_table f;
  reaches = source.reaches f;
  is_since = source.is_since f;
  holds = source.holds f;
  at_head = source.at_head f;
  from_scratch = source.from_scratch f;
  from_position = source.from_position f;
}

-- the source has a head
abbrev pub HasHead : SourceMeaning → Files → Type 0
HasHead source files = (head : Head) × source.is_head files head

-- The source has in these files the heads, the tables, the commits since a position and the histories that it has in the others, and nothing of a table is in
-- these where nothing is in those.
pub record SameSource (source : SourceMeaning) (before files : Files) : Type 0 where
  pub absent : source.is_absent before → source.is_absent files
  pub absent_before : source.is_absent files → source.is_absent before
  pub head : (head : Head) → source.is_head before head → source.is_head files head
  pub head_before : (head : Head) → source.is_head files head → source.is_head before head
  pub table : (table : Table) → source.is_table before table → source.is_table files table
  pub table_before : (table : Table) → source.is_table files table → source.is_table before table
  pub reaches : (position : List ℕ) → source.reaches before position → source.reaches files position
  pub reaches_before : (position : List ℕ) → source.reaches files position → source.reaches before position
  pub since : (position : List ℕ) (base : Table) (commits : List Commit) → source.is_since before position base commits → source.is_since files position base commits
  pub since_before : (position : List ℕ) (base : Table) (commits : List Commit) → source.is_since files position base commits → source.is_since before position base commits
  pub holds : (history : History) → source.holds before history → source.holds files history
  pub holds_before : (history : History) → source.holds files history → source.holds before history
