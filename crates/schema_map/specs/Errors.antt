-- Why a schema isn't read or written, told by the top-level column that shows it.
use Rattle.std.specs.Prelude.{◌≡◌, ◌⊎◌, ℕ, List, Bool, true, false, Result}
use Rattle.lake_basics.specs.Outcome.{with_fault}
use Rattle.lake_basics.specs.declared.outcome.ReadError.{ReadError}
use Rattle.lake_basics.specs.declared.outcome.ReadError.TheVariants as errors
use Rattle.table_history.specs.declared.limit.LimitKind.TheVariants as limit
use Rattle.schema_map.specs.declared.fault.Fault.{Fault}
use Rattle.schema_map.specs.declared.fault.Fault.TheVariants.{BadSchema, SchemaType, Depth}
use Rattle.schema_map.specs.declared.fault.MapError.{MapError}
use Rattle.schema_map.specs.declared.fault.MapError.TheVariants as map_errors

abbrev pub is_memory : MapError → Bool
is_memory map_errors.Memory = true
is_memory map_errors.BadSchema = false
is_memory (map_errors.SchemaType column) = false
is_memory (map_errors.AvroName column) = false
is_memory (map_errors.Limit which) = false

-- the error for a fault in the column of this name
abbrev pub error_in : List ℕ → Fault → MapError
error_in name BadSchema = map_errors.BadSchema
error_in name SchemaType = map_errors.SchemaType name
error_in name Depth = map_errors.Limit limit.Depth

abbrev pub in_column : {A : Type 0} → List ℕ → Result A Fault → Result A MapError
in_column name reading = with_fault (error_in name) reading

-- This error is that of the column, unless memory ran out.
abbrev pub IsErrorIn : List ℕ → ReadError Fault → MapError → Type 0
IsErrorIn name errors.Memory e = e ≡ map_errors.Memory
IsErrorIn name (errors.Fault fault) e = (e ≡ map_errors.Memory) ⊎ (e ≡ error_in name fault)
