-- What is true of the rows that are kept of a target, whoever gave them.
use Rattle.std.specs.Prelude.{◌&&◌, nat_le, Bool, List, length}
use Rattle.std.specs.List.{list_all}
use Rattle.lake_basics.specs.declared.limits.TheConstants.{MAX_LIVE_FILES}
use Rattle.table_history.specs.Path.{is_path}
use Rattle.table_history.specs.Row.{Row}

-- Their paths are paths in a table's folder, and they aren't more than a table may have.
abbrev pub are_held : List Row → Bool
are_held rows = nat_le (length rows) MAX_LIVE_FILES && list_all (λ row. is_path row.path) rows
