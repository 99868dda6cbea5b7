-- What the steps towards a change refuse.
use Rattle.std.specs.Prelude.{◌≡◌, ◌⊎◌, ℕ, List, Option, Some, Result, Err}
use Rattle.table_history.specs.TypeTree.{ColumnTrees}
use Rattle.table_history.specs.declared.feature.Feature.{Feature}
use Rattle.table_history.specs.declared.feature.Feature.TheVariants as feature
use Rattle.table_history.specs.declared.table.Table.{Table}
use Rattle.schema_map.specs.declared.fault.MapError.{MapError}
use Rattle.schema_map.specs.declared.fault.MapError.TheVariants as map_errors
use Rattle.hudi_names.specs.declared.error.HudiError.{HudiError}
use Rattle.hudi_names.specs.declared.error.HudiError.TheVariants as errors
use Rattle.partition_map.specs.Columns.{LacksKinds, HasOtherKind}

-- The refusal tells why the text is none that can be read, unless memory ran out.
abbrev pub IsTextRefusal : Result (Option ColumnTrees) MapError → HudiError → Type 0
IsTextRefusal reading errors.Memory = Unit {0}
IsTextRefusal reading (errors.Malformed line) = (line ≡ 0) × (reading ≡ Err map_errors.BadSchema)
IsTextRefusal reading (errors.Unsupported shown) = (shown ≡ feature.SchemaType) × (column : List ℕ) × (reading ≡ Err (map_errors.SchemaType column))
IsTextRefusal reading (errors.Limit which) = ⊥

-- the feature that the kinds of the partition columns show
abbrev pub IsKindFault : ColumnTrees → List (List ℕ) → Option Table → Feature → Type 0
IsKindFault schema names base shown =
    ((shown ≡ feature.PartitionType) × LacksKinds schema names)
    ⊎ ((shown ≡ feature.PartitionChange) × (¬ LacksKinds schema names) × (before : Table) × (base ≡ Some before) × HasOtherKind before.schema schema names)
