-- What is told of a log that is refused.
use Rattle.std.proofs.Common.{◌≡◌, ◌≤◌, ◌+◌, ℕ, List, Option, Some, None, inl, inr, ⊎_elim, refl, sym, subst, arith}
use Rattle.std.specs.Prelude.{IfErr, IfOk, MatchOption, Result, Ok, Err}
use Rattle.lake_basics.specs.declared.limits.TheConstants.{MAX_DELTA_VERSION}
use Rattle.lake_store.specs.Disk.{Files}
use Rattle.delta_table.specs.Log.{IsLogOf, SaysCommit}
use Rattle.delta_table.specs.Refusals.{IsListRefusal, IsLogRefusal, TellsOf}
use Rattle.delta_table.specs.Versions.{AreVersions, HasVersion, IsVersionPath}
use Rattle.delta_table.specs.declared.error.LogError.{LogError}
use Rattle.delta_table.specs.declared.error.LogError.TheVariants as log
use Rattle.delta_table.specs.declared.log.Log.{Log}
use Rattle.delta_table.specs.declared.versions.Versions.{Versions}
use Rattle.table_history.specs.declared.feature.Feature.TheVariants.{NeedsCheckpoint}
use Rattle.source_core.specs.Answers.{IsHeadRefusal, IsReadRefusal}
use Rattle.source_core.proofs.Answers.{weaker}
use Rattle.source_core.specs.declared.error.SourceError.{SourceError}
use Rattle.source_core.specs.declared.error.SourceError.TheVariants as source
use Rattle.source_delta.specs.Heads.{IsAbsent, IsNewest, IsTableId}
use Rattle.source_delta.specs.Reading.{HasEach, HasFewNames, HasManyNames, IsFirstRefused, IsLastMissing, IsRefusedLog, ShowsAtHead, ShowsFromScratch, Tells}
use Rattle.source_delta.specs.SinceLemmas.{one_newest}

-- ---- the names

list_tells : (files : Files) (cause : LogError) → IsListRefusal files cause → (e : SourceError) → Tells cause e → HasManyNames files e
list_tells files log.Memory h e t = absurd t
list_tells files log.StoreFault h e t = absurd t
list_tells files log.ManyNames h e t = (h, t)
list_tells files log.ManyCommits h e t = absurd h
list_tells files (log.Missing version) h e t = absurd h
list_tells files (log.Large version) h e t = absurd h
list_tells files (log.Refused version error) h e t = absurd h

pub list_refused : (files : Files) (cause : LogError) (e : SourceError) → IsListRefusal files cause → IsReadRefusal (Tells cause) e → IsReadRefusal (HasManyNames files) e
list_refused files cause e h told = weaker (Tells cause) (HasManyNames files) (list_tells files cause h) e told

-- nothing but the number of names is told of them
pub names_at_head : (files : Files) (e : SourceError) → IsReadRefusal (HasManyNames files) e → IsHeadRefusal (IsAbsent files) (HasManyNames files) e
names_at_head files source.Memory h = tt
names_at_head files source.Absent h = absurd h
names_at_head files (source.Malformed path) h = let is = h.1 in absurd (cc)
names_at_head files (source.Unsupported feature path) h = let is = h.1 in absurd (cc)
names_at_head files (source.Limit which number) h = h
names_at_head files source.StoreFault h = tt

-- ---- the head

-- a version is there, so a table is
pub head_refused : (files : Files) (newest : ℕ) → HasVersion files newest → (e : SourceError) → IsReadRefusal (ShowsAtHead files) e → IsHeadRefusal (IsAbsent files) (ShowsAtHead files) e
head_refused files newest there source.Memory h = tt
head_refused files newest there source.Absent h = absurd h
head_refused files newest there (source.Malformed path) h = (λ none. none newest there, h)
head_refused files newest there (source.Unsupported feature path) h = (λ none. none newest there, h)
head_refused files newest there (source.Limit which number) h = h
head_refused files newest there source.StoreFault h = tt

pub names_shown : (files : Files) (e : SourceError) → IsHeadRefusal (IsAbsent files) (HasManyNames files) e → IsHeadRefusal (IsAbsent files) (ShowsAtHead files) e
names_shown files source.Memory h = tt
names_shown files source.Absent h = h
names_shown files (source.Malformed path) h = (h.0, inl h.1)
names_shown files (source.Unsupported feature path) h = (h.0, inl h.1)
names_shown files (source.Limit which number) h = inl h
names_shown files source.StoreFault h = tt

zero_of : (n : ℕ) → n ≤ 0 → n ≡ 0
zero_of n h = omega arith

pub id_stated : (files : Files) (read : Log) (id : List ℕ) → IsLogOf files 1 read → id ≡ read.meta.id → IsTableId files (Some id)
id_stated files read id is same =
    let newest = is.meta in
    let within = newest.within in
    let first : newest.version ≡ 0 = omega (arith, within) in
    (newest.commit, read.meta, read.table, subst (λ v. SaysCommit files v newest.commit) first newest.says, newest.is, same, is.table)

pub not_there : (files : Files) (version : ℕ) → IsLogRefusal files 0 (log.Missing version) → IsTableId files None
not_there files version h = subst (λ v. HasVersion files v → ⊥) (zero_of h.1.0 h.1.2) h.1.4.1

-- the log of version 0 alone is refused for that version, which is there unless it is told to be missing
there : (files : Files) (cause : LogError) → ((version : ℕ) → cause ≡ log.Missing version → ⊥) → IsLogRefusal files 0 cause → (e : SourceError) → Tells cause e → HasVersion files 0
there files log.Memory other h e t = absurd t
there files log.StoreFault other h e t = absurd t
there files log.ManyNames other h e t = absurd h
there files log.ManyCommits other h e t = absurd (omega (arith, h))
there files (log.Missing version) other h e t = absurd (other version refl)
there files (log.Large version) other h e t = subst (λ v. HasVersion files v) (zero_of h.1.0 h.1.2) (h.1.4.1.0, h.1.4.1.1)
there files (log.Refused version error) other h e t =
    subst (λ v. HasVersion files v) (zero_of h.1.0 h.1.2)
    (⊎_elim (λ unreadable. (unreadable.0, unreadable.1)) (λ unfit. (unfit.1.bytes, unfit.1.holds)) h.1.4.1)

pub first_refused : (files : Files) (cause : LogError) (e : SourceError) → ((version : ℕ) → cause ≡ log.Missing version → ⊥) → IsLogRefusal files 0 cause → IsReadRefusal (Tells cause) e → IsReadRefusal (IsFirstRefused files) e
first_refused files cause e other h told = weaker (Tells cause) (IsFirstRefused files) (λ d t. (there files cause other h d t, (cause, h, t))) e told

pub first_shown : (files : Files) → HasFewNames files → (e : SourceError) → IsReadRefusal (IsFirstRefused files) e → IsReadRefusal (ShowsAtHead files) e
first_shown files few e h = weaker (IsFirstRefused files) (ShowsAtHead files) (λ d t. inr (few, t)) e h

-- version 0 wasn't read
pub no_id : (files : Files) (error : LogError) (r : Result (Option (List ℕ)) SourceError) → IsLogRefusal files 0 error
    → IfOk r (λ id. (id ≡ None) × ((version : ℕ) × (error ≡ log.Missing version))) → IfOk r (IsTableId files)
no_id files error (Ok id) h is = subst (IsTableId files) (sym is.0) (not_there files is.1.0 (subst (IsLogRefusal files 0) is.1.1 h))
no_id files error (Err e) h is = tt

pub id_refused : (files : Files) (error : LogError) (r : Result (Option (List ℕ)) SourceError) → IsLogRefusal files 0 error
    → IfErr r (λ e. IsReadRefusal (Tells error) e × ((version : ℕ) → error ≡ log.Missing version → ⊥)) → IfErr r (IsReadRefusal (IsFirstRefused files))
id_refused files error (Ok id) h is = tt
id_refused files error (Err e) h is = first_refused files error e is.1 h is.0

pub told_fault : (error : LogError) (r : Result (Option (List ℕ)) SourceError) → IfErr r (λ e. e ≡ source.StoreFault → error ≡ log.StoreFault) → r ≡ Err source.StoreFault → error ≡ log.StoreFault
told_fault error (Ok id) h is = absurd (cc)
told_fault error (Err e) h is = h (cc)

-- a version that is told is one that a path names
pub tells_within : (newest : ℕ) → newest ≤ MAX_DELTA_VERSION → (e : LogError) → TellsOf (λ v. v ≤ newest) e → TellsOf (λ v. v ≤ MAX_DELTA_VERSION) e
tells_within newest within log.Memory h = tt
tells_within newest within log.StoreFault h = tt
tells_within newest within log.ManyNames h = tt
tells_within newest within log.ManyCommits h = tt
tells_within newest within (log.Missing version) h = omega (arith, within, h)
tells_within newest within (log.Large version) h = omega (arith, within, h)
tells_within newest within (log.Refused version error) h = omega (arith, within, h)

-- ---- the table

pub log_refused : (files : Files) (newest : ℕ) (cause : LogError) (e : SourceError) → IsLogRefusal files newest cause → IsReadRefusal (Tells cause) e → IsReadRefusal (IsRefusedLog files newest) e
log_refused files newest cause e h told = weaker (Tells cause) (IsRefusedLog files newest) (λ d t. (cause, h, t)) e told

-- The newest version that was listed is the newest one.
pub newest_listed : (files : Files) (versions : Versions) → AreVersions (HasVersion files) versions → IsNewest files versions.newest
newest_listed files versions are = record { there = are.there; last = are.last }

-- what is missing before the versions that run up to the newest
module _ (files : Files) (newest : ℕ) (is : IsNewest files newest) (versions : Versions) (are : AreVersions (HasVersion files) versions) where
  same : versions.newest ≡ newest
  same = one_newest files versions.newest newest (newest_listed files versions are) is

  pub none_missing : versions.first ≡ 0 → HasEach files newest
  none_missing first version within = are.run version (omega (arith, first)) (omega (arith, same, within))

  pub last_missing : (version : ℕ) → version + 1 ≡ versions.first → IsLastMissing files newest version
  last_missing version before =
      let within = are.within in
      record {
        within = omega (arith, same, within, before);
        missing = λ held. are.gap version before held;
        behind = λ later after up. are.run later (omega (arith, before, after)) (omega (arith, same, up));
      }

  pub missing_before : (o : Option ℕ) → MatchOption o (versions.first ≡ 0) (λ before. before + 1 ≡ versions.first) → MatchOption o (HasEach files newest) (IsLastMissing files newest)
  missing_before None h = none_missing h
  missing_before (Some version) h = last_missing version h

-- ---- from scratch

module _ (files : Files) (few : HasFewNames files) (newest : ℕ) (is : IsNewest files newest) where
  pub names_from_scratch : (e : SourceError) → IsReadRefusal (HasManyNames files) e → IsReadRefusal (ShowsFromScratch files) e
  names_from_scratch e h = weaker (HasManyNames files) (ShowsFromScratch files) (λ d many. inl many) e h

  pub lacking : (version : ℕ) → IsLastMissing files newest version → (e : SourceError)
      → IsReadRefusal (λ d. (path : List ℕ) × IsVersionPath path version × (d ≡ source.Unsupported NeedsCheckpoint path)) e → IsReadRefusal (ShowsFromScratch files) e
  lacking version missing e h = weaker (λ (d : SourceError). (path : List ℕ) × IsVersionPath path version × (d ≡ source.Unsupported NeedsCheckpoint path)) (ShowsFromScratch files)
      (λ d t. inr (few, newest, is, inl (version, t.0, missing, t.1, t.2))) e h

  pub refused_from_scratch : HasEach files newest → (e : SourceError) → IsReadRefusal (IsRefusedLog files newest) e → IsReadRefusal (ShowsFromScratch files) e
  refused_from_scratch each e h = weaker (IsRefusedLog files newest) (ShowsFromScratch files) (λ d t. inr (few, newest, is, inr (each, t))) e h
