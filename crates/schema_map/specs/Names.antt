-- Columns with names of their own.
use Rattle.std.specs.Prelude.{Result, Ok, Err, if◌then◌else◌}
use Rattle.table_history.specs.TypeTree.{ColumnTrees}
use Rattle.table_history.specs.Sound.{have_own_names}
use Rattle.schema_map.specs.declared.fault.Fault.{Fault}
use Rattle.schema_map.specs.declared.fault.Fault.TheVariants.{BadSchema}

abbrev pub columns_with_own_names : ColumnTrees → Result ColumnTrees Fault
columns_with_own_names columns = if have_own_names columns then Ok columns else Err BadSchema
