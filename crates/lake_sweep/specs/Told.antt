-- What a sweep answers for a refusal below.
use Rattle.std.specs.Prelude.{ℕ, List}
use Rattle.lake_basics.specs.declared.limits.TheConstants.{MAX_FILE_BYTES, MAX_NAMES}
use Rattle.lake_store.specs.declared.store.StoreError.{StoreError}
use Rattle.lake_store.specs.declared.store.StoreError.TheVariants as store
use Rattle.table_history.specs.Words.{limit_number}
use Rattle.table_history.specs.declared.kind.Kind.TheVariants.{Iceberg}
use Rattle.table_history.specs.declared.limit.LimitKind.TheVariants.{File, Names}
use Rattle.iceberg_table.specs.declared.error.Fault.{Fault}
use Rattle.iceberg_table.specs.declared.error.Fault.TheVariants as fault
use Rattle.iceberg_table.specs.declared.error.IcebergError.{IcebergError}
use Rattle.iceberg_table.specs.declared.error.IcebergError.TheVariants as iceberg
use Rattle.target_core.specs.declared.target.TargetError.{TargetError}
use Rattle.target_core.specs.declared.target.TargetError.TheVariants as target
use Rattle.lake_sweep.specs.declared.error.SweepError.{SweepError}
use Rattle.lake_sweep.specs.declared.error.SweepError.TheVariants as error

-- for a refusal of inspecting
abbrev pub of_inspect : TargetError → SweepError
of_inspect target.Memory = error.Memory
of_inspect target.StoreFault = error.StoreFault
of_inspect target.Contested = error.Memory
of_inspect (target.Limit which number) = error.Limit which number
of_inspect (target.Unsupported feature path) = error.Memory

-- for a store's refusal
abbrev pub of_store : StoreError → SweepError
of_store store.Memory = error.Memory
of_store store.Failed = error.StoreFault
of_store (store.TooLong length) = error.Limit Names MAX_NAMES
of_store store.Taken = error.Memory

-- for a file with this fault
abbrev pub told_fault : List ℕ → Fault → SweepError
told_fault path fault.Malformed = error.Foreign path
told_fault path (fault.Unsupported feature) = error.Foreign path
told_fault path (fault.Limit which) = error.Limit which (limit_number Iceberg which)

-- for a file of an Iceberg table that is refused
abbrev pub told_of : IcebergError → SweepError
told_of iceberg.Memory = error.Memory
told_of iceberg.StoreFault = error.StoreFault
told_of iceberg.ManyNames = error.Limit Names MAX_NAMES
told_of (iceberg.Missing path) = error.Foreign path
told_of (iceberg.Large path) = error.Limit File MAX_FILE_BYTES
told_of (iceberg.Refused path f) = told_fault path f
