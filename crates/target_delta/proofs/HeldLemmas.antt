-- The rows of a log's table are such as are kept.
use Rattle.std.proofs.Common.{◌≡◌, true}
use Rattle.delta_change.specs.Change.{IsTableOfLog}
use Rattle.table_history.specs.declared.table.Table.{Table}
use Rattle.target_core.specs.Held.{are_held}
use Rattle.target_core.proofs.HeldRows.{are_held_by}

pub held_log : (table : Table) → IsTableOfLog table → are_held table.rows ≡ true
held_log table of = are_held_by table.rows of.live_files of.paths
