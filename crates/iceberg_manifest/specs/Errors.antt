-- The error of a fault.
use Rattle.std.specs.Prelude.{Bool, true, false}
use Rattle.table_history.specs.declared.limit.LimitKind.TheVariants.{Path}
use Rattle.iceberg_manifest.specs.declared.error.Fault.{Fault}
use Rattle.iceberg_manifest.specs.declared.error.Fault.TheVariants as fault
use Rattle.iceberg_manifest.specs.declared.error.ManifestError.{ManifestError}
use Rattle.iceberg_manifest.specs.declared.error.ManifestError.TheVariants as errors

abbrev pub is_memory : ManifestError → Bool
is_memory errors.Memory = true
is_memory _ = false

abbrev pub error_of : Fault → ManifestError
error_of fault.Malformed = errors.Malformed
error_of fault.OutsideTable = errors.OutsideTable
error_of fault.LongPath = errors.Limit Path
