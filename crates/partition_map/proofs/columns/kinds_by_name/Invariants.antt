use Rattle.std.proofs.Common.{◌≡◌, ℕ, List, drop}
use Rattle.std.specs.Option.{unwrap_or}
use Rattle.std.specs.Str.{bytes_eq}
use Rattle.indexmap.specs.IndexMap.{get_by}
use Rattle.table_history.specs.SchemaView.{columns_view}
use Rattle.partition_map.specs.Columns.{column_kind}
use Rattle.partition_map.proofs.columns.kinds_by_name.Given as goal

abbrev pub invariant-loop-column : goal.invariant-loop-column
invariant-loop-column l =
    (name : List ℕ) → unwrap_or (get_by (λ key. bytes_eq name key.now) l.kinds) (column_kind (columns_view (drop l.column-index l.columns)) name) ≡ column_kind (columns_view l.columns) name
