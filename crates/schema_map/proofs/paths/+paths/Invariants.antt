use Rattle.std.proofs.Common.{◌≡◌, ◌++◌, drop, map}
use Rattle.table_history.specs.SchemaView.{columns_view}
use Rattle.schema_map.specs.Paths.{column_paths}
use Rattle.schema_map.proofs.paths.+paths.Given as goal

abbrev pub invariant-push_columns-loop-column : goal.invariant-push_columns-loop-column
invariant-push_columns-loop-column l =
    l.paths.items ++ map (λ p. l.prefix ++ p) (column_paths (columns_view (drop l.column-index l.columns))) ≡ l.fn.paths.items ++ map (λ p. l.prefix ++ p) (column_paths (columns_view l.columns))
