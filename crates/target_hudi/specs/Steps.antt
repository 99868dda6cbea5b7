-- What is written for a commit, as it is read: the change that the commit makes of the table before it.
use Rattle.std.specs.Prelude.{◌≡◌, ◌↔◌, ℕ, true, List, Contains, Option, None, Some}
use Rattle.table_history.specs.Path.{IsPath}
use Rattle.table_history.specs.Row.{Row}
use Rattle.table_history.specs.Rows.{HasDistinctPaths}
use Rattle.table_history.specs.Tables.{IsAfter, IsRowAfter, empty_table}
use Rattle.table_history.specs.declared.table.Change.{Change}
use Rattle.table_history.specs.declared.table.Commit.{Commit}
use Rattle.table_history.specs.declared.table.Table.{Table}
use Rattle.partition_map.specs.declared.kind.PartKind.{PartKind}
use Rattle.hudi_timeline.specs.Causes.{table_before}
use Rattle.hudi_timeline.specs.Change.{IsChangeOf}
use Rattle.hudi_timeline.specs.Live.{completed}
use Rattle.hudi_timeline.specs.Schemas.{AreKindsOf}
use Rattle.hudi_groups.specs.declared.form.Form.TheVariants.{External}
use Rattle.hudi_instant.specs.declared.instant.Instant.{Instant}
use Rattle.hudi_properties.specs.declared.table.HudiTable.{HudiTable}
use Rattle.schema_map.specs.Image.{wide_columns}
use Rattle.target_core.specs.Changes.{IsGone}
use Rattle.target_hudi.specs.Fitting.{Held}
use Rattle.target_hudi.specs.Reading.{HasStatRow}
use Rattle.target_hudi.specs.Writing.{held_behind, replaced_of}

-- The properties describe a table of these partition columns, whose folders are `name=value` with the values escaped.
pub record IsTableFor (table : HudiTable) (partition : List (List ℕ)) : Type 0 where
  pub partition_is : table.partition ≡ partition
  pub hive_style : table.hive_style ≡ true
  pub url_encode : table.url_encode ≡ true

-- the table before the commit, which has its schema in Hudi's types; before the first one there is none
abbrev pub IsBase : Table → Option Held → Option Table → Type 0
IsBase before held None = (before ≡ empty_table before.partition) × (held ≡ None)
IsBase before held (Some base) = (base ≡ before) × (held ≡ Some (record { partition = before.partition; columns = before.schema })) × (wide_columns before.schema ≡ before.schema)

-- the table behind the commit, in Hudi's types
pub record IsBehind (before : Table) (change : Change) (next : Table) : Type 0 where
  pub rows : (row : Row) → Contains next.rows row ↔ IsRowAfter before.rows change.removed change.added row
  pub distinct : HasDistinctPaths next.rows
  pub schema : next.schema ≡ held_behind change.schema before.schema
  pub partition : next.partition ≡ before.partition

-- The instant is read as a change that leads from the table before to the table behind the commit. Its write stats are the added rows, and its
-- replaced ids are those of the paths that are removed and not added again.
pub record IsStep (table : HudiTable) (base : Option Table) (time : List ℕ) (commit : Commit) (written : Instant) (next : Table) : Type 0 where
  pub change : Change
  pub made : IsChangeOf (completed (External time) written) table base change
  pub after : IsAfter (table_before table base) change next
  pub kinds : List PartKind
  pub are_kinds : AreKindsOf next.schema table.partition kinds
  pub adds : (row : Row) → Contains commit.change.added row ↔ HasStatRow table kinds (completed (External time) written) row
  pub removes : (path : List ℕ) → IsGone commit.change path ↔ (IsPath path × Contains written.replaced (replaced_of path))
  pub only : (p : List ℕ × List ℕ) → Contains written.replaced p → (path : List ℕ) × IsPath path × (p ≡ replaced_of path)
