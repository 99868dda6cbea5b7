-- Rows that fit partition columns.
use Rattle.std.specs.Prelude.{List, Contains}
use Rattle.table_history.specs.Path.{IsPath}
use Rattle.table_history.specs.Row.{Row}
use Rattle.iceberg_manifest.specs.Kinds.{AreOfKinds}
use Rattle.iceberg_live.specs.declared.live.LiveRow.{LiveRow}
use Rattle.iceberg_manifest.specs.declared.partition.PartColumn.{PartColumn}

-- The row has a path, and values for the columns.
pub record FitsColumns (columns : List PartColumn) (row : Row) : Type 0 where
  pub path : IsPath row.path
  pub values : AreOfKinds columns row.values

abbrev pub FitLive : List PartColumn → List LiveRow → Type 0
FitLive columns rows = (live : LiveRow) → Contains rows live → FitsColumns columns live.row

abbrev pub FitRows : List PartColumn → List Row → Type 0
FitRows columns rows = (row : Row) → Contains rows row → FitsColumns columns row
