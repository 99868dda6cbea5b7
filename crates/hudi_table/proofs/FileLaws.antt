-- What is told of a file that is refused.
use Rattle.std.proofs.Common.{◌≡◌, ◌⊎◌, inl, inr, ℕ, ◌<◌, List, Option, Some, Ok, Err, refl, sym, subst, ◌∙◌, ⊎_elim}
use Rattle.std.specs.FinMap as map
use Rattle.lake_basics.specs.declared.limits.TheConstants.{MAX_FILE_BYTES}
use Rattle.lake_store.specs.Disk.{Files, HasLength}
use Rattle.lake_store.specs.declared.store.StoreError.{StoreError}
use Rattle.lake_store.specs.declared.store.StoreError.TheVariants as store
use Rattle.table_history.specs.declared.table.Table.{Table}
use Rattle.hudi_timeline.specs.Causes.{IsRefusalOf}
use Rattle.hudi_timeline.specs.Live.{completed}
use Rattle.hudi_names.specs.declared.error.HudiError.{HudiError}
use Rattle.hudi_names.specs.declared.error.HudiError.TheVariants as hudi
use Rattle.hudi_instant.specs.declared.instant.Instant.{Instant}
use Rattle.hudi_properties.specs.declared.table.HudiTable.{HudiTable}
use Rattle.hudi_names.specs.Errors.{Gives}
use Rattle.hudi_properties.specs.Pairs.{properties_of}
use Rattle.hudi_properties.specs.TableProperties.{checked_table}
use Rattle.hudi_table.specs.Files.{HasFault, SaysInstant}
use Rattle.hudi_table.specs.Instants.{path_of}
use Rattle.hudi_table.specs.Reading.{form_of}
use Rattle.hudi_table.specs.Refusals.{IsChangeRefusal, IsFileRefusal, IsStepRefusal, TellsOf, error_at, error_of_read}
use Rattle.hudi_table.specs.declared.error.TimelineError.{TimelineError}
use Rattle.hudi_table.specs.declared.error.TimelineError.TheVariants as error
use Rattle.hudi_table.specs.declared.instants.CompletedInstant.{CompletedInstant}
use Rattle.hudi_table.specs.declared.reading.Naming.{Naming}

-- a file that the store refuses
pub read_refused : (files : Files) (name path : List ℕ) (e : StoreError) → path ≡ path_of name → ((n : ℕ) → e ≡ store.TooLong n → (MAX_FILE_BYTES < n) × HasLength files path n)
    → IsFileRefusal files name (λ _. ⊥) (error_of_read path e)
read_refused files name path store.Memory is long = tt
read_refused files name path store.Failed is long = tt
read_refused files name path (store.TooLong n) is long =
    let has = (long n refl).1 in
    (is, has.0, subst (λ p. map.get files p ≡ Some has.0) is has.1, subst (λ k. MAX_FILE_BYTES < k) has.2 (long n refl).0)
read_refused files name path store.Taken is long = tt

pub read_told : (path told : List ℕ) (e : StoreError) → path ≡ told → TellsOf (λ p. p ≡ told) (error_of_read path e)
read_told path told store.Memory is = tt
read_told path told store.Failed is = tt
read_told path told (store.TooLong n) is = is
read_told path told store.Taken is = tt

-- what is refused for fewer causes is refused for more
pub refused_further : (files : Files) (name : List ℕ) (P Q : HudiError → Type 0) (e : TimelineError) → ((cause : HudiError) → P cause → Q cause) → IsFileRefusal files name P e → IsFileRefusal files name Q e
refused_further files name P Q error.Memory further refused = tt
refused_further files name P Q error.StoreFault further refused = tt
refused_further files name P Q error.ManyNames further refused = refused
refused_further files name P Q error.ManyCommits further refused = refused
refused_further files name P Q (error.Missing p) further refused = refused
refused_further files name P Q (error.Large p) further refused = refused
refused_further files name P Q (error.Refused p e) further refused = (refused.0, further e refused.1)

-- what a file says is refused for a cause, unless memory ran out
pub says_refused : (files : Files) (name : List ℕ) (P : HudiError → Type 0) (e : HudiError) → (e ≡ hudi.Memory) ⊎ P e → IsFileRefusal files name P (error_at (path_of name) e)
says_refused files name P hudi.Memory cause = tt
says_refused files name P (hudi.Malformed line) cause = (refl, ⊎_elim (λ m. absurd (malformed_apart line m)) (λ p. p) cause)
  where
    malformed_apart : (line : ℕ) → hudi.Malformed line ≡ hudi.Memory → ⊥
    malformed_apart line m = cc
says_refused files name P (hudi.Unsupported feature) cause = (refl, ⊎_elim (λ m. absurd (apart m)) (λ p. p) cause)
  where
    apart : hudi.Unsupported feature ≡ hudi.Memory → ⊥
    apart m = cc
says_refused files name P (hudi.Limit which) cause = (refl, ⊎_elim (λ m. absurd (apart m)) (λ p. p) cause)
  where
    apart : hudi.Limit which ≡ hudi.Memory → ⊥
    apart m = cc

pub refusal_told : (files : Files) (name : List ℕ) (P : HudiError → Type 0) (e : HudiError) (r : TimelineError) → (r ≡ error.Memory) ⊎ (r ≡ error_at (path_of name) e) → (e ≡ hudi.Memory) ⊎ P e → IsFileRefusal files name P r
refusal_told files name P e r is cause = ⊎_elim (λ m. subst (IsFileRefusal files name P) (sym m) tt) (λ told. subst (IsFileRefusal files name P) (sym told) (says_refused files name P e cause)) is

tells_path : (path : List ℕ) (e : HudiError) → TellsOf (λ p. p ≡ path) (error_at path e)
tells_path path hudi.Memory = tt
tells_path path (hudi.Malformed line) = refl
tells_path path (hudi.Unsupported feature) = refl
tells_path path (hudi.Limit which) = refl

pub refusal_path : (path : List ℕ) (e : HudiError) (r : TimelineError) → (r ≡ error.Memory) ⊎ (r ≡ error_at path e) → TellsOf (λ p. p ≡ path) r
refusal_path path e r is = ⊎_elim (λ m. subst (TellsOf (λ p. p ≡ path)) (sym m) tt) (λ told. subst (TellsOf (λ p. p ≡ path)) (sym told) (tells_path path e)) is

-- neither is a fault of the store
at_no_fault : (path : List ℕ) (e : HudiError) → error_at path e ≡ error.StoreFault → ⊥
at_no_fault path hudi.Memory is = cc
at_no_fault path (hudi.Malformed line) is = cc
at_no_fault path (hudi.Unsupported feature) is = cc
at_no_fault path (hudi.Limit which) is = cc

pub refusal_no_fault : (path : List ℕ) (e : HudiError) (r : TimelineError) → (r ≡ error.Memory) ⊎ (r ≡ error_at path e) → r ≡ error.StoreFault → ⊥
refusal_no_fault path e r is fault = ⊎_elim (λ m. memory_apart (sym m ∙ fault)) (λ told. at_no_fault path e (sym told ∙ fault)) is
  where
    memory_apart : error.Memory ≡ error.StoreFault → ⊥
    memory_apart m = cc

-- ---- an instant that was read and can't be taken over the table before it

module _ (naming : Naming) (table : HudiTable) (c : CompletedInstant) (i : Instant) (base : Option Table) where
  change_at : (e : HudiError) → IsRefusalOf (completed (form_of naming c.time) i) table base e → IsChangeRefusal naming table c i base (error_at (path_of c.name) e)
  change_at hudi.Memory cause = tt
  change_at (hudi.Malformed line) cause = (refl, cause)
  change_at (hudi.Unsupported feature) cause = (refl, cause)
  change_at (hudi.Limit which) cause = (refl, cause)

  pub change_refused : (e : HudiError) (r : TimelineError) → (r ≡ error.Memory) ⊎ (r ≡ error_at (path_of c.name) e) → IsRefusalOf (completed (form_of naming c.time) i) table base e → IsChangeRefusal naming table c i base r
  change_refused e r is cause = ⊎_elim (λ m. subst (IsChangeRefusal naming table c i base) (sym m) tt) (λ told. subst (IsChangeRefusal naming table c i base) (sym told) (change_at e cause)) is

  -- the instant is refused so
  pub step_refused : (files : Files) (e : TimelineError) → SaysInstant files c i → IsChangeRefusal naming table c i base e → IsStepRefusal files naming table c base e
  step_refused files error.Memory says refused = tt
  step_refused files error.StoreFault says refused = tt
  step_refused files error.ManyNames says refused = refused
  step_refused files error.ManyCommits says refused = refused
  step_refused files (error.Missing p) says refused = absurd refused
  step_refused files (error.Large p) says refused = absurd refused
  step_refused files (error.Refused p e) says refused = (refused.0, inr (i, says, refused.1))

  -- and that is no fault of the store
  pub change_no_fault : (e : TimelineError) → IsChangeRefusal naming table c i base e → e ≡ error.StoreFault → ⊥
  change_no_fault e refused is = subst (IsChangeRefusal naming table c i base) is refused

-- ---- properties

-- what is refused of pairs that were read
pub table_refused : (bytes : List ℕ) (pairs : List (List ℕ × List ℕ)) (e : HudiError) → properties_of bytes ≡ Ok pairs → Gives {A = HudiTable} (Err e) (checked_table pairs) → (e ≡ hudi.Memory) ⊎ HasFault bytes e
table_refused bytes pairs hudi.Memory read gives = inl refl
table_refused bytes pairs (hudi.Malformed n) read gives = inr (inr (pairs, read, gives))
table_refused bytes pairs (hudi.Unsupported feature) read gives = inr (inr (pairs, read, gives))
table_refused bytes pairs (hudi.Limit which) read gives = inr (inr (pairs, read, gives))
