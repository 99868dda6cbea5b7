-- What is kept of a table behind a commit.
use Rattle.std.specs.Prelude.{◌≡◌, ◌↔◌, List, Contains, unwrap_or}
use Rattle.lake_basics.specs.declared.limits.TheConstants.{MAX_MANIFEST_ENTRIES}
use Rattle.schema_map.specs.Image.{wide_columns}
use Rattle.table_history.specs.Row.{Row}
use Rattle.table_history.specs.Rows.{HasDistinctPaths, IsInPathOrder, SameRows}
use Rattle.table_history.specs.Tables.{IsRowAfter}
use Rattle.table_history.specs.declared.table.Change.{Change}
use Rattle.table_history.specs.declared.table.Table.{Table}
use Rattle.iceberg_version.specs.Manifests.{AreParts}

-- The rows that the change adds, in byte order of their paths, are cut into these parts.
pub record AreAddedParts (change : Change) (parts : List (List Row)) : Type 0 where
  pub added : List Row
  pub rows : SameRows change.added added
  pub order : IsInPathOrder added
  pub cut : AreParts MAX_MANIFEST_ENTRIES added parts

-- The table has the rows behind the change, and the schema behind it as Iceberg's types hold it.
pub record IsTableBehind (old : Table) (change : Change) (new : Table) : Type 0 where
  pub rows : (row : Row) → Contains new.rows row ↔ IsRowAfter old.rows change.removed change.added row
  pub distinct : HasDistinctPaths new.rows
  pub partition : new.partition ≡ old.partition
  pub schema : new.schema ≡ wide_columns (unwrap_or change.schema old.schema)
