-- Faults handed on.
use Rattle.std.proofs.Common.{◌≡◌, Result, Err}
use Rattle.lake_basics.specs.Outcome.{FailsUnlessMemory}
use Rattle.hudi_names.specs.declared.error.HudiError.{HudiError}
use Rattle.hudi_names.specs.declared.error.HudiError.TheVariants.{Memory, Malformed, Unsupported, Limit}
use Rattle.hudi_names.specs.Errors.{is_memory}

-- the fault of a reading, answered as it is
pub fault_given : {B : Type 0} (e : HudiError) (reading : Result B HudiError) → reading ≡ Err e → FailsUnlessMemory (is_memory e) e reading
fault_given Memory reading is = tt
fault_given (Malformed line) reading is = is
fault_given (Unsupported feature) reading is = is
fault_given (Limit which) reading is = is
