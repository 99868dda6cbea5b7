-- Why a target refuses. Want of memory, a fault of the store and a contest have no cause in the files.
use Rattle.std.specs.Prelude.{ℕ}
use Rattle.table_history.specs.declared.limit.LimitKind.{LimitKind}
use Rattle.target_core.specs.declared.target.TargetError.{TargetError}
use Rattle.target_core.specs.declared.target.TargetError.TheVariants.{Memory, StoreFault, Contested, Limit, Unsupported}

-- inspecting is refused so where what it lists or reads passes that number
abbrev pub IsInspectRefusal : (LimitKind → ℕ → Type 0) → TargetError → Type 0
IsInspectRefusal is_crowded Memory = Unit {0}
IsInspectRefusal is_crowded StoreFault = Unit {0}
IsInspectRefusal is_crowded Contested = ⊥
IsInspectRefusal is_crowded (Limit which number) = is_crowded which number
IsInspectRefusal is_crowded (Unsupported feature path) = ⊥

-- a refusal of inspecting, also where the store tells nothing
abbrev pub IsOfInspect : TargetError → Type 0
IsOfInspect e = IsInspectRefusal (λ which number. Unit {0}) e

-- a list of commits doesn't fit for this cause
abbrev pub IsFitsRefusal : (TargetError → Type 0) → TargetError → Type 0
IsFitsRefusal unfit Memory = Unit {0}
IsFitsRefusal unfit StoreFault = ⊥
IsFitsRefusal unfit Contested = ⊥
IsFitsRefusal unfit (Limit which number) = unfit (Limit which number)
IsFitsRefusal unfit (Unsupported feature path) = unfit (Unsupported feature path)

-- a commit is refused so where what it would write passes that number
abbrev pub IsCommitRefusal : (LimitKind → ℕ → Type 0) → TargetError → Type 0
IsCommitRefusal passes Memory = Unit {0}
IsCommitRefusal passes StoreFault = Unit {0}
IsCommitRefusal passes Contested = Unit {0}
IsCommitRefusal passes (Limit which number) = passes which number
IsCommitRefusal passes (Unsupported feature path) = ⊥

-- a refusal of a commit, also where the store tells nothing
abbrev pub IsOfCommit : TargetError → Type 0
IsOfCommit e = IsCommitRefusal (λ which number. Unit {0}) e
