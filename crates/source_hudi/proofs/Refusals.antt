-- What is told of a timeline that is refused.
use Rattle.std.proofs.Common.{◌≡◌, ◌⊎◌, inl, inr, ℕ, List, [], ◌∷◌, Option, Some, None, codes, refl, sym, subst, ⊎_elim}
use Rattle.std.specs.Prelude.{MatchOption}
use Rattle.lake_store.specs.Disk.{Files}
use Rattle.hudi_properties.specs.declared.table.HudiTable.{HudiTable}
use Rattle.hudi_table.specs.Files.{SaysProperties}
use Rattle.hudi_table.specs.Folder.{IsFirstPending, IsHead, IsPendingAt, IsReached}
use Rattle.hudi_table.specs.Instants.{path_of, timeline_folder}
use Rattle.hudi_table.specs.Refusals.{IsFileRefusal, IsListRefusal, IsPropertyFault, IsReadingRefusal}
use Rattle.hudi_table.specs.declared.error.TimelineError.{TimelineError}
use Rattle.hudi_table.specs.declared.error.TimelineError.TheVariants as error
use Rattle.hudi_table.specs.declared.instants.CompletedInstant.{CompletedInstant}
use Rattle.hudi_table.specs.declared.instants.InstantName.{InstantName}
use Rattle.hudi_table.specs.declared.properties.Properties.{Properties}
use Rattle.hudi_table.specs.declared.reading.Naming.TheVariants.{Base}
use Rattle.source_core.specs.Answers.{IsHeadRefusal, IsReadRefusal}
use Rattle.source_core.specs.declared.error.SourceError.{SourceError}
use Rattle.source_core.specs.declared.error.SourceError.TheVariants as source
use Rattle.source_core.proofs.Answers.{weaker}
use Rattle.source_hudi.specs.Heads.{IsAbsent, IsPending}
use Rattle.source_hudi.specs.Instants.{AreAllRead, IsArchiveEmpty, IsFirstUnread, archive_folder, feature_of, first_archived, reached_in}
use Rattle.source_hudi.specs.Reading.{HasFewNames, HasManyNames, HasNoProperties, HasRefused, ShowsAtHead, ShowsFromScratch, ShowsInInstants, ShowsInTimeline, ShowsUpTo, Tells}

-- ---- the names

list_tells : (files : Files) (cause : TimelineError) → IsListRefusal files cause → (e : SourceError) → Tells cause e → HasManyNames files timeline_folder e
list_tells files error.Memory h e t = absurd t
list_tells files error.StoreFault h e t = absurd t
list_tells files error.ManyNames h e t = (h, t)
list_tells files error.ManyCommits h e t = absurd h
list_tells files (error.Missing path) h e t = absurd h
list_tells files (error.Large path) h e t = absurd h
list_tells files (error.Refused path cause) h e t = absurd h

pub list_refused : (files : Files) (cause : TimelineError) (e : SourceError) → IsListRefusal files cause → IsReadRefusal (Tells cause) e → IsReadRefusal (HasManyNames files timeline_folder) e
list_refused files cause e h told = weaker (Tells cause) (HasManyNames files timeline_folder) (list_tells files cause h) e told

-- ---- the head

-- nothing but the number of names is told of them
pub names_at_head : (files : Files) (e : SourceError) → IsReadRefusal (HasManyNames files timeline_folder) e → IsHeadRefusal (IsAbsent files) (HasManyNames files timeline_folder) e
names_at_head files source.Memory h = tt
names_at_head files source.Absent h = absurd h
names_at_head files (source.Malformed path) h = let is = h.1 in absurd (cc)
names_at_head files (source.Unsupported feature path) h = let is = h.1 in absurd (cc)
names_at_head files (source.Limit which number) h = h
names_at_head files source.StoreFault h = tt

pub absent_or_memory : (files : Files) (e : SourceError) (head : Option (List ℕ)) → MatchOption head ((time : List ℕ) → IsReached files time → ⊥) (IsHead files)
    → (e ≡ source.Memory) ⊎ ((e ≡ source.Absent) × (head ≡ None)) → IsHeadRefusal (IsAbsent files) (HasManyNames files timeline_folder) e
absent_or_memory files e head found h =
    ⊎_elim
    (λ memory. subst (IsHeadRefusal (IsAbsent files) (HasManyNames files timeline_folder)) (sym memory) tt)
    (λ absent.
    subst (IsHeadRefusal (IsAbsent files) (HasManyNames files timeline_folder)) (sym absent.0)
    (subst (λ (o : Option (List ℕ)). MatchOption o ((time : List ℕ) → IsReached files time → ⊥) (IsHead files)) absent.1 found))
    h

pub head_found : (files : Files) (head : Option (List ℕ)) (position : List ℕ) → MatchOption head ((time : List ℕ) → IsReached files time → ⊥) (IsHead files) → head ≡ Some position → IsHead files position
head_found files head position found is = subst (λ (o : Option (List ℕ)). MatchOption o ((time : List ℕ) → IsReached files time → ⊥) (IsHead files)) is found

pub pending_found : (files : Files) (pending : Option (List ℕ)) → MatchOption pending ((time : List ℕ) → IsPendingAt files time → ⊥) (IsFirstPending files) → IsPending files pending
pending_found files None h = h
pending_found files (Some time) h = h

-- a commit is reached, so a table is there
pub head_refused : (files : Files) (head : List ℕ) → IsHead files head → HasFewNames files timeline_folder → (e : SourceError) → IsReadRefusal (HasNoProperties files) e → IsHeadRefusal (IsAbsent files) (ShowsAtHead files) e
head_refused files head is few source.Memory h = tt
head_refused files head is few source.Absent h = absurd h
head_refused files head is few (source.Malformed path) h = (λ none. none head is.0, inr (few, (head, is.0), h))
head_refused files head is few (source.Unsupported feature path) h = (λ none. none head is.0, inr (few, (head, is.0), h))
head_refused files head is few (source.Limit which number) h = inr (few, (head, is.0), h)
head_refused files head is few source.StoreFault h = tt

pub names_shown : (files : Files) (e : SourceError) → IsHeadRefusal (IsAbsent files) (HasManyNames files timeline_folder) e → IsHeadRefusal (IsAbsent files) (ShowsAtHead files) e
names_shown files source.Memory h = tt
names_shown files source.Absent h = h
names_shown files (source.Malformed path) h = (h.0, inl h.1)
names_shown files (source.Unsupported feature path) h = (h.0, inl h.1)
names_shown files (source.Limit which number) h = inl h
names_shown files source.StoreFault h = tt

-- ---- the properties

pub properties_refused : (files : Files) (cause : TimelineError) (e : SourceError) → IsFileRefusal files (codes "hoodie.properties") (IsPropertyFault files) cause → IsReadRefusal (Tells cause) e → IsReadRefusal (HasNoProperties files) e
properties_refused files cause e h told = weaker (Tells cause) (HasNoProperties files) (λ d t. (cause, h, t)) e told

-- ---- from scratch

pub instants_refused : (files : Files) (table : HudiTable) (instants : List CompletedInstant) (cause : TimelineError) (e : SourceError) → IsReadingRefusal files Base table instants cause
    → IsReadRefusal (Tells cause) e → IsReadRefusal (HasRefused files table instants) e
instants_refused files table instants cause e h told = weaker (Tells cause) (HasRefused files table instants) (λ d t. (cause, h, t)) e told

pub archive_empty : (names : List (List ℕ)) → first_archived names ≡ None → names ≡ []
archive_empty [] is = refl
archive_empty (name ∷ names) is = cc

module _ (files : Files) (table : HudiTable) where
  pub unread_shown : (head : List ℕ) (i : InstantName) (e : SourceError) → IsFirstUnread files head i.name i.action → (e ≡ source.Memory) ⊎ (e ≡ source.Unsupported (feature_of i.action) (path_of i.name))
      → IsReadRefusal (ShowsUpTo files table head) e
  unread_shown head i e first h =
      ⊎_elim
      (λ memory. subst (IsReadRefusal (ShowsUpTo files table head)) (sym memory) tt)
      (λ told. subst (IsReadRefusal (ShowsUpTo files table head)) (sym told) (inl (i.name, i.action, first, refl)))
      h

  pub refused_up_to : (head : List ℕ) → AreAllRead files head → (e : SourceError) → IsReadRefusal (HasRefused files table (reached_in files)) e → IsReadRefusal (ShowsUpTo files table head) e
  refused_up_to head all e h = weaker (HasRefused files table (reached_in files)) (ShowsUpTo files table head) (λ d t. inr (all, t)) e h

  pub names_in_timeline : (e : SourceError) → IsReadRefusal (HasManyNames files timeline_folder) e → IsReadRefusal (ShowsInTimeline files table) e
  names_in_timeline e h = weaker (HasManyNames files timeline_folder) (ShowsInTimeline files table) (λ d t. inl t) e h

  pub shown_in_timeline : (head : List ℕ) → HasFewNames files timeline_folder → IsHead files head → (e : SourceError) → IsReadRefusal (ShowsUpTo files table head) e → IsReadRefusal (ShowsInTimeline files table) e
  shown_in_timeline head few is e h = weaker (ShowsUpTo files table head) (ShowsInTimeline files table) (λ d t. inr (few, head, is, t)) e h

  pub names_in_archive : (e : SourceError) → IsReadRefusal (HasManyNames files archive_folder) e → IsReadRefusal (ShowsInInstants files table) e
  names_in_archive e h = weaker (HasManyNames files archive_folder) (ShowsInInstants files table) (λ d t. inl t) e h

  pub shown_in_instants : IsArchiveEmpty files → (e : SourceError) → IsReadRefusal (ShowsInTimeline files table) e → IsReadRefusal (ShowsInInstants files table) e
  shown_in_instants empty e h = weaker (ShowsInTimeline files table) (ShowsInInstants files table) (λ d t. inr (inr (empty, t))) e h

pub properties_from_scratch : (files : Files) (e : SourceError) → IsReadRefusal (HasNoProperties files) e → IsReadRefusal (ShowsFromScratch files) e
properties_from_scratch files e h = weaker (HasNoProperties files) (ShowsFromScratch files) (λ d t. inl t) e h

pub shown_from_scratch : (files : Files) (p : Properties) → SaysProperties files p → (e : SourceError) → IsReadRefusal (ShowsInInstants files p.table) e → IsReadRefusal (ShowsFromScratch files) e
shown_from_scratch files p says e h = weaker (ShowsInInstants files p.table) (ShowsFromScratch files) (λ d t. inr (p, says, t)) e h
