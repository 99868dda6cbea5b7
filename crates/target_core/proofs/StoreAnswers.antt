-- What a store's counts and answers tell of a commit.
use Rattle.std.proofs.Common.{◌≡◌, ◌⊎◌, inl, inr, ℕ, true, false, List, refl, sym, ap, ◌∙◌, arith}
use Rattle.std.specs.Prelude.{Err, IsErrOf, Ok, Result, is_ok}
use Rattle.std.specs.FinSet as set
use Rattle.std.proofs.lemmas.Bool.{cases_Bool, false≢true}
use Rattle.lake_basics.specs.declared.limits.TheConstants.{MAX_FILE_BYTES}
use Rattle.lake_store.specs.Cause.{HasContest, HasFault}
use Rattle.lake_store.specs.Disk.{Disk, IsClean, IsDirty}
use Rattle.lake_store.specs.Runs.{LeavesAlone}
use Rattle.lake_store.specs.declared.store.Store.{Ghosts}
use Rattle.lake_store.specs.declared.store.StoreError.{StoreError}
use Rattle.lake_store.specs.declared.store.StoreError.TheVariants.{Taken}
use Rattle.lake_store.specs.declared.store.StoreError.TheVariants as errors
use Rattle.lake_store.proofs.RunLaws.{NowOnly, alone_by_reading, reading_begins}
use Rattle.table_history.specs.declared.limit.LimitKind.{LimitKind}
use Rattle.table_history.specs.declared.limit.LimitKind.TheVariants.{File}
use Rattle.target_core.specs.Outcome.{Uncontested, answer_of}
use Rattle.target_core.specs.declared.target.TargetError.{TargetError}
use Rattle.target_core.specs.declared.target.TargetError.TheVariants.{Contested, Limit}

-- ---- causes

pub contest_too : {S : Type 0} (contests : S → ℕ) (may_contest : S → Type 0) (old new : S) (P Q : Type 0) → (P → Q) → (Q → P) → HasContest contests may_contest old new P → HasContest contests may_contest old new Q
contest_too contests may_contest old new P Q to back h = record { later = h.later; still = h.still; rose = λ q. h.rose (back q); allowed = λ q. h.allowed (back q); same = λ none. h.same (λ p. none (to p)) }

pub no_fault : {S : Type 0} (faults : S → ℕ) (may_fail : S → Type 0) (s : S) (Q : Type 0) → (Q → ⊥) → HasFault faults may_fail s s Q
no_fault faults may_fail s Q never = record { later = omega arith; still = λ m. m; rose = λ q. absurd (never q); allowed = λ q. absurd (never q) }

pub no_contest : {S : Type 0} (contests : S → ℕ) (may_contest : S → Type 0) (s : S) (Q : Type 0) → (Q → ⊥) → HasContest contests may_contest s s Q
no_contest contests may_contest s Q never = record { later = omega arith; still = λ m. m; rose = λ q. absurd (never q); allowed = λ q. absurd (never q); same = λ _. refl }

-- ---- answers

pub ok_err : {T : Type 0} (v : T) (e : TargetError) → IsErrOf {T = T} (Ok v) e → ⊥
ok_err v e is = cc

pub untaken_by : {T : Type 0} (r : Result T TargetError) (e : TargetError) (s : StoreError) → r ≡ Err e → e ≡ answer_of File MAX_FILE_BYTES s → Uncontested r → s ≡ Taken → ⊥
untaken_by (Ok v) e s is gives u taken = absurd (ok_err v e is)
untaken_by (Err x) e s is gives u taken =
    let same : x ≡ e = cc in
    u (same ∙ gives ∙ ap (answer_of File MAX_FILE_BYTES) taken)

-- only a place that is taken is told as a contest
pub only_taken : (kind : LimitKind) (most : ℕ) (s : StoreError) → answer_of kind most s ≡ Contested → s ≡ Taken
only_taken kind most errors.Memory is = absurd (cc)
only_taken kind most errors.Failed is = absurd (cc)
only_taken kind most (errors.TooLong n) is = absurd (cc)
only_taken kind most errors.Taken is = refl

-- and only what is too long as a number that is passed
pub only_long : (kind : LimitKind) (most : ℕ) (s : StoreError) (which : LimitKind) (number : ℕ) → answer_of kind most s ≡ Limit which number → (n : ℕ) × (s ≡ errors.TooLong n)
only_long kind most errors.Memory which number is = absurd (cc)
only_long kind most errors.Failed which number is = absurd (cc)
only_long kind most (errors.TooLong n) which number is = (n, refl)
only_long kind most errors.Taken which number is = absurd (cc)

pub contested_by : {T : Type 0} (r : Result T TargetError) (e : TargetError) (s : StoreError) → r ≡ Err e → e ≡ answer_of File MAX_FILE_BYTES s → IsErrOf r Contested → s ≡ Taken
contested_by (Ok v) e s is gives contested = absurd (ok_err v e is)
contested_by (Err x) e s is gives contested =
    let same : x ≡ e = cc in
    let is_contested : x ≡ Contested = cc in
    only_taken File MAX_FILE_BYTES s (sym gives ∙ sym same ∙ is_contested)

pub err_same : {T : Type 0} (s : StoreError) → IsErrOf {T = T} (Err s) Taken → s ≡ Taken
err_same s is = cc

pub not_ok : {T : Type 0} (r : Result T TargetError) (e : TargetError) → r ≡ Err e → is_ok r ≡ true → ⊥
not_ok r e is ok = let no : is_ok r ≡ false = ap is_ok is in false≢true (sym no ∙ ok)

-- ---- the disk

-- what is as before leaves all alone
pub alone_none : {S : Type 0} (store : Ghosts S) → NowOnly store → (s : S) → store.tells → (Kept : List ℕ → Type 0) → LeavesAlone store Kept s s
alone_none store only_now s told Kept = alone_by_reading store Kept s s (reading_begins store only_now s told)

pub dirty_or_clean : (disk : Disk) (path : List ℕ) → IsDirty disk path ⊎ IsClean disk path
dirty_or_clean disk path = cases_Bool (set.contains disk.dirty path)

-- in each of three cases
pub three : {A B C D : Type 0} → (A → D) → (B → D) → (C → D) → A ⊎ B ⊎ C → D
three f g h (inl a) = f a
three f g h (inr (inl b)) = g b
three f g h (inr (inr c)) = h c
