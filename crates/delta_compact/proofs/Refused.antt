-- Why a log isn't read with its log compactions.
use Rattle.std.proofs.Common.{◌≡◌, ◌⊎◌, inl, inr, ⊎_elim, ℕ, zero, suc, ◌+◌, ◌*◌, ◌<◌, ◌≤◌, List, Option, Some, None, Result, Ok, Err, refl, ap, ◌∙◌, arith}
use Rattle.std.specs.Prelude.{IfErr, IsSome, option_map}
use Rattle.std.specs.FinMap as map
use Rattle.std.proofs.lemmas.Bool.{cases_lt}
use Rattle.lake_basics.specs.declared.limits.TheConstants.{MAX_DELTA_VERSION}
use Rattle.lake_basics.proofs.Options.{none_there, some_there}
use Rattle.lake_store.specs.Disk.{Files}
use Rattle.table_history.specs.declared.table.Table.{Table}
use Rattle.delta_change.specs.Change.{IsChangeRefusal}
use Rattle.delta_log.specs.Readable.{IsFirstFault, IsReadableCommit, IsRefusal}
use Rattle.delta_log.specs.declared.commit.DeltaCommit.{DeltaCommit}
use Rattle.delta_log.specs.declared.error.DeltaError.{DeltaError}
use Rattle.delta_log.specs.declared.error.DeltaError.TheVariants as delta
use Rattle.delta_table.specs.Versions.{HasVersion, IsVersionPath}
use Rattle.delta_table.proofs.PathLaws.{path_once}
use Rattle.source_delta.specs.Reading.{HasEach}
use Rattle.delta_compact.specs.Blocks.{IsBlockPath}
use Rattle.delta_compact.specs.Compacting.{AreBlocksOf}
use Rattle.delta_compact.specs.Refusals.{HasCause}
use Rattle.delta_compact.specs.Steps.{IsPlainFault}
use Rattle.delta_compact.specs.Whole.{AllCompacted, IsFileRefusal, IsOfReading, IsPartPath, TellsFile, part_count}
use Rattle.delta_compact.specs.declared.error.CompactFault.{CompactFault}
use Rattle.delta_compact.specs.declared.error.CompactFault.TheVariants.{Memory, Absent, Malformed, Unsupported, Limit, Contested, Stale, StoreFault}
use Rattle.delta_compact.proofs.Counting.{block_under}
use Rattle.delta_compact.proofs.Held.{block_at}
use Rattle.delta_compact.proofs.Joins.{cause_weaker}
use Rattle.delta_compact.proofs.Paths.{one_path}

-- ---- faults without a cause

pub plain_cause : (P : CompactFault → Type 0) (e : CompactFault) → IsPlainFault e → HasCause P e
plain_cause P Memory h = tt
plain_cause P StoreFault h = tt
plain_cause P Contested h = tt
plain_cause P Absent h = absurd h
plain_cause P (Malformed path) h = absurd h
plain_cause P (Unsupported feature path) h = absurd h
plain_cause P (Limit which number) h = absurd h
plain_cause P (Stale path) h = absurd h

pub plain_reading : (e : CompactFault) → IsPlainFault e → IsOfReading e
plain_reading Memory h = tt
plain_reading StoreFault h = tt
plain_reading Contested h = absurd h
plain_reading Absent h = absurd h
plain_reading (Malformed path) h = tt
plain_reading (Unsupported feature path) h = tt
plain_reading (Limit which number) h = tt
plain_reading (Stale path) h = absurd h

-- ---- one file

-- a line at fault
pub unread_cause : (files : Files) (path bytes : List ℕ) (base : Option Table) (cause : DeltaError) (e : CompactFault) → map.get files path ≡ Some bytes → IsRefusal bytes cause → HasCause (TellsFile path cause) e → HasCause (IsFileRefusal files path base) e
unread_cause files path bytes base cause e there refused told =
    cause_weaker (TellsFile path cause) (IsFileRefusal files path base) (λ f tells. inr (bytes, cause, there, inl (fault_of cause f tells refused), tells)) e told
  where
    fault_of : (c : DeltaError) (f : CompactFault) → TellsFile path c f → IsRefusal bytes c → IsFirstFault bytes c
    fault_of delta.Memory f tells h = absurd tells
    fault_of (delta.Malformed n) f tells h = h
    fault_of (delta.DoublePath n) f tells h = h
    fault_of (delta.Unsupported g n) f tells h = h
    fault_of (delta.Limit w) f tells h = h

-- a commit that can't be taken
pub unfit_cause : (files : Files) (path bytes : List ℕ) (base : Option Table) (c : DeltaCommit) (cause : DeltaError) (e : CompactFault) → map.get files path ≡ Some bytes → IsReadableCommit bytes c → IsChangeRefusal c base cause → HasCause (TellsFile path cause) e
    → HasCause (IsFileRefusal files path base) e
unfit_cause files path bytes base c cause e there readable refused told = cause_weaker (TellsFile path cause) (IsFileRefusal files path base) (λ f tells. inr (bytes, cause, there, inr (c, readable, refused), tells)) e told

-- ---- which files are there

pub not_there : (files : Files) (path : List ℕ) → IsSome (map.get files path) → map.get files path ≡ None → ⊥
not_there files path some none = none_there (map.get files path) none some

module _ (files : Files) (head : ℕ) (compacted : AllCompacted files head) (within : head ≤ MAX_DELTA_VERSION) where
  pub part_there : (blocks part : ℕ) (path : List ℕ) → AreBlocksOf head blocks → part < part_count head blocks → HasEach files head → IsPartPath blocks part path → IsSome (map.get files path)
  part_there blocks part path are under each is = ⊎_elim
      (λ (block : (part < blocks) × IsBlockPath path part).
      let inside = block_under head blocks part are block.0 in
      let h = compacted part inside in
      let same = one_path part path h.there.path (omega (arith, inside, within)) block.1 h.there.is in
      some_there (map.get files path) h.text (ap (map.get files) same ∙ h.there.there))
      (λ (version : (blocks ≤ part) × IsVersionPath path (9 * blocks + part)).
      let all = are.all in
      let has = each (9 * blocks + part) (omega (arith, under, all)) in
      let same = path_once (9 * blocks + part) path has.1.path version.1 has.1.is in
      some_there (map.get files path) has.0 (ap (map.get files) same ∙ has.1.there))
      is

  -- the versions of the blocks are
  pub blocks_there : (blocks : ℕ) → AreBlocksOf head blocks → (version : ℕ) → version < 10 * blocks → HasVersion files version
  blocks_there blocks are version under = go blocks (λ block less. compacted_at block (block_under head blocks block are less)) under
    where
      compacted_at : (block : ℕ) → 10 * block + 9 ≤ head → (v : ℕ) → 10 * block ≤ v → v < 10 * block + 10 → HasVersion files v
      compacted_at block inside v low high = let h = compacted block inside in block_at files block h.commits v h.held low high

      go : (n : ℕ) → ((block : ℕ) → block < n → (v : ℕ) → 10 * block ≤ v → v < 10 * block + 10 → HasVersion files v) → version < 10 * n → HasVersion files version
      go zero each less = absurd (omega (arith, less))
      go (suc n) each less = ⊎_elim
          (λ (earlier : version < 10 * n). go n (λ block l. each block (omega (arith, l))) earlier)
          (λ (here : 10 * n ≤ version). each n (omega arith) version here (omega (arith, less)))
          (cases_lt version (10 * n))

-- ---- an answer that is handed on

pub errs : (r : Result Table CompactFault) (P Q : CompactFault → Type 0) → ((e : CompactFault) → HasCause P e → HasCause Q e) → IfErr r (HasCause P) → IfErr r (HasCause Q)
errs (Ok t) P Q so h = tt
errs (Err e) P Q so h = so e h

-- ---- a part of a file

pub part_some : (f : List ℕ → List ℕ) (o : Option (List ℕ)) (x : List ℕ) → Some x ≡ option_map f o → (bytes : List ℕ) × (o ≡ Some bytes)
part_some f None x is = absurd (cc)
part_some f (Some bytes) x is = (bytes, refl)

pub part_none : (f : List ℕ → List ℕ) (o : Option (List ℕ)) → None ≡ option_map f o → o ≡ None
part_none f None is = refl
part_none f (Some bytes) is = absurd (cc)
