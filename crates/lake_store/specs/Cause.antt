-- Why a call refuses. A count of a store or of a sink is a function of its state, and so is whether it may go up at all.
use Rattle.std.specs.Prelude.{◌≡◌, ℕ, ◌+◌, ◌-◌, ◌^◌, ◌≤◌, min, Result, Ok, Err, IsErrOf}
use Rattle.std.proofs.Common.{arith}
use Rattle.lake_store.specs.declared.store.StoreError.{StoreError}
use Rattle.lake_store.specs.declared.store.StoreError.TheVariants as error

-- a count of 64 bits went up, or stands at its last number
abbrev pub Rose : ℕ → ℕ → Type 0
Rose before now = min (before + 1) (2 ^ 64 - 1) ≤ now

-- what a field of 64 bits counts, which never passes the last number
abbrev pub count_of : ℕ → ℕ
count_of n = min n (2 ^ 64 - 1)

pub count_ends : (n : ℕ) → count_of n ≤ 2 ^ 64 - 1
count_ends n = omega arith

pub nothing_counted : 0 ≤ 2 ^ 64 - 1
nothing_counted = omega arith

-- A refusal for a fault comes only where a fault may come, and was counted.
pub record HasFault {S : Type 0} (faults : S → ℕ) (may_fail : S → Type 0) (old new : S) (Refused : Type 0) : Type 0 where
  pub later : faults old ≤ faults new
  -- a call never turns it on
  pub still : may_fail new → may_fail old
  pub rose : Refused → Rose (faults old) (faults new)
  pub allowed : Refused → may_fail old

-- A refusal for another writer comes only where another writer may come, and was counted. Nothing else is counted.
pub record HasContest {S : Type 0} (contests : S → ℕ) (may_contest : S → Type 0) (old new : S) (Refused : Type 0) : Type 0 where
  pub later : contests old ≤ contests new
  pub still : may_contest new → may_contest old
  pub rose : Refused → Rose (contests old) (contests new)
  pub allowed : Refused → may_contest old
  pub same : (Refused → ⊥) → contests new ≡ contests old

-- There is no such refusal, and nothing was counted.
pub record HasNoContest {S : Type 0} (contests : S → ℕ) (may_contest : S → Type 0) (old new : S) (Refused : Type 0) : Type 0 where
  pub same : contests new ≡ contests old
  pub still : may_contest new → may_contest old
  pub never : Refused → ⊥

-- nothing is too long
abbrev pub IsNotTooLong : {T : Type 0} → Result T StoreError → Type 0
IsNotTooLong result = (n : ℕ) → IsErrOf result (error.TooLong n) → ⊥

-- the answer is that so many are too many, unless the call fails or memory runs out
abbrev pub IsTooLong : {T : Type 0} → ℕ → Result T StoreError → Type 0
IsTooLong n (Ok x) = ⊥
IsTooLong n (Err error.Memory) = Unit {0}
IsTooLong n (Err error.Failed) = Unit {0}
IsTooLong n (Err (error.TooLong m)) = m ≡ n
IsTooLong n (Err error.Taken) = ⊥
