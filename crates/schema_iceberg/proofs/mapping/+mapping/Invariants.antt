use Rattle.std.proofs.Common.{◌≡◌, drop, map}
use Rattle.serde_json.specs.View.{view}
use Rattle.table_history.specs.SchemaView.{columns_view}
use Rattle.schema_iceberg.specs.NameMapping.{column_entries}
use Rattle.schema_map.proofs.Entries.{written_before}
use Rattle.schema_iceberg.proofs.mapping.+mapping.Given as goal

abbrev pub invariant-columns_json-loop-column : goal.invariant-columns_json-loop-column
invariant-columns_json-loop-column l = written_before (map view l.entries.items) (column_entries (columns_view (drop l.column-index l.columns)) l.left) ≡ column_entries (columns_view l.columns) l.ids
