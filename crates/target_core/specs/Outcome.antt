-- Which answer a call gave.
use Rattle.std.specs.Prelude.{◌≡◌, ◌<◌, ℕ, Result, Ok, Err}
use Rattle.target_core.specs.declared.target.TargetError.{TargetError}
use Rattle.target_core.specs.declared.target.TargetError.TheVariants.{Memory, StoreFault, Contested, Limit}
use Rattle.table_history.specs.declared.limit.LimitKind.{LimitKind}
use Rattle.lake_store.specs.declared.store.StoreError.{StoreError}
use Rattle.lake_store.specs.declared.store.StoreError.TheVariants as store

-- another writer was not in the way
abbrev pub Uncontested : {T : Type 0} → Result T TargetError → Type 0
Uncontested (Ok value) = Unit {0}
Uncontested (Err error) = error ≡ Contested → ⊥

-- The commit has come: it is done; or it is refused, no other writer was in the way, and the files hold more commits than before.
abbrev pub HasCome : {T : Type 0} → Result T TargetError → ℕ → ℕ → Type 0
HasCome (Ok value) before after = Unit {0}
HasCome (Err error) before after = (error ≡ Contested → ⊥) × (before < after)

-- what a target answers for a store's refusal, where what is too long passes that number
abbrev pub answer_of : LimitKind → ℕ → StoreError → TargetError
answer_of which number store.Memory = Memory
answer_of which number store.Failed = StoreFault
answer_of which number (store.TooLong length) = Limit which number
answer_of which number store.Taken = Contested
