-- What is told of a file that is refused.
use Rattle.std.proofs.Common.{◌≡◌, ◌⊎◌, ℕ, ◌<◌, List, refl, sym, subst, ◌∙◌, ⊎_elim}
use Rattle.lake_basics.specs.declared.limits.TheConstants.{MAX_FILE_BYTES}
use Rattle.lake_basics.specs.declared.outcome.ReadError.{ReadError}
use Rattle.lake_basics.specs.declared.outcome.ReadError.TheVariants as read
use Rattle.lake_store.specs.Disk.{Files, HasLength}
use Rattle.lake_store.specs.declared.store.StoreError.{StoreError}
use Rattle.lake_store.specs.declared.store.StoreError.TheVariants as store
use Rattle.iceberg_table.specs.Errors.{IsFault, IsFileFault, IsRefusal, IsTold, error_at, error_of_read}
use Rattle.iceberg_table.specs.Files.{HoldsFile}
use Rattle.iceberg_table.specs.declared.error.Fault.{Fault}
use Rattle.iceberg_table.specs.declared.error.IcebergError.{IcebergError}
use Rattle.iceberg_table.specs.declared.error.IcebergError.TheVariants as error

-- a file that the store refuses
pub read_refused : (files : Files) (path told : List ℕ) (e : StoreError) → told ≡ path → ((n : ℕ) → e ≡ store.TooLong n → (MAX_FILE_BYTES < n) × HasLength files path n)
    → IsRefusal (IsFileFault files path (λ _ _. ⊥)) (error_of_read told e)
read_refused files path told store.Memory is long = tt
read_refused files path told store.Failed is long = tt
read_refused files path told (store.TooLong n) is long =
    let has = (long n refl).1 in
    (is, has.0, has.1, subst (λ k. MAX_FILE_BYTES < k) has.2 (long n refl).0)
read_refused files path told store.Taken is long = tt

-- what is refused for fewer causes is refused for more
pub refused_further : (P Q : IcebergError → Type 0) (e : IcebergError) → ((d : IcebergError) → P d → Q d) → IsRefusal P e → IsRefusal Q e
refused_further P Q error.Memory further refused = tt
refused_further P Q error.StoreFault further refused = tt
refused_further P Q error.ManyNames further refused = further error.ManyNames refused
refused_further P Q (error.Missing p) further refused = further (error.Missing p) refused
refused_further P Q (error.Large p) further refused = further (error.Large p) refused
refused_further P Q (error.Refused p f) further refused = further (error.Refused p f) refused

pub file_further : (files : Files) (path : List ℕ) (P Q : List ℕ → Fault → Type 0) (e : IcebergError) → ((bytes : List ℕ) (f : Fault) → P bytes f → Q bytes f) → IsFileFault files path P e → IsFileFault files path Q e
file_further files path P Q error.Memory further fault = fault
file_further files path P Q error.StoreFault further fault = fault
file_further files path P Q error.ManyNames further fault = fault
file_further files path P Q (error.Missing p) further fault = fault
file_further files path P Q (error.Large p) further fault = fault
file_further files path P Q (error.Refused p f) further fault = (fault.0, fault.1, fault.2, further fault.1 f fault.3)

-- a file that can't be read at all is refused whatever it would show
pub unread_further : (files : Files) (path : List ℕ) (Q : List ℕ → Fault → Type 0) (e : IcebergError) → IsRefusal (IsFileFault files path (λ _ _. ⊥)) e → IsRefusal (IsFileFault files path Q) e
unread_further files path Q e refused = refused_further (IsFileFault files path (λ _ _. ⊥)) (IsFileFault files path Q) e (λ d fault. file_further files path (λ _ _. ⊥) Q d (λ bytes f none. absurd none) fault) refused

-- what a file's bytes show
shown : (files : Files) (path bytes : List ℕ) (Q : List ℕ → Fault → Type 0) (e : ReadError Fault) → HoldsFile files path bytes → IsFault (Q bytes) e → IsRefusal (IsFileFault files path Q) (error_at path e)
shown files path bytes Q read.Memory holds shows = tt
shown files path bytes Q (read.Fault f) holds shows = (refl, bytes, holds, shows)

pub shows_refused : (files : Files) (path bytes : List ℕ) (Q : List ℕ → Fault → Type 0) (e : ReadError Fault) (r : IcebergError) → (r ≡ error.Memory) ⊎ (r ≡ error_at path e) → HoldsFile files path bytes → IsFault (Q bytes) e → IsRefusal (IsFileFault files path Q) r
shows_refused files path bytes Q e r is holds shows = ⊎_elim (λ m. subst (IsRefusal (IsFileFault files path Q)) (sym m) tt) (λ told. subst (IsRefusal (IsFileFault files path Q)) (sym told) (shown files path bytes Q e holds shows)) is

told_by : (path : List ℕ) (Q : Fault → Type 0) (e : ReadError Fault) → IsFault Q e → IsRefusal (IsTold path Q) (error_at path e)
told_by path Q read.Memory shows = tt
told_by path Q (read.Fault f) shows = (f, refl, shows)

-- what is told at a path
pub told_refused : (path told : List ℕ) (Q : Fault → Type 0) (e : ReadError Fault) → told ≡ path → IsFault Q e → IsRefusal (IsTold path Q) (error_at told e)
told_refused path told Q e is shows = subst (λ p. IsRefusal (IsTold path Q) (error_at p e)) (sym is) (told_by path Q e shows)

pub told_at : (path : List ℕ) (Q : Fault → Type 0) (e : ReadError Fault) (r : IcebergError) → (r ≡ error.Memory) ⊎ (r ≡ error_at path e) → IsFault Q e → IsRefusal (IsTold path Q) r
told_at path Q e r is shows = ⊎_elim (λ m. subst (IsRefusal (IsTold path Q)) (sym m) tt) (λ told. subst (IsRefusal (IsTold path Q)) (sym told) (told_by path Q e shows)) is

-- neither is a fault of the store
at_no_fault : (path : List ℕ) (e : ReadError Fault) → error_at path e ≡ error.StoreFault → ⊥
at_no_fault path read.Memory is = cc
at_no_fault path (read.Fault f) is = cc

pub refusal_no_fault : (path : List ℕ) (e : ReadError Fault) (r : IcebergError) → (r ≡ error.Memory) ⊎ (r ≡ error_at path e) → r ≡ error.StoreFault → ⊥
refusal_no_fault path e r is fault = ⊎_elim (λ m. memory_apart (sym m ∙ fault)) (λ told. at_no_fault path e (sym told ∙ fault)) is
  where
    memory_apart : error.Memory ≡ error.StoreFault → ⊥
    memory_apart m = cc
