-- What is told where the commits after a position aren't read.
use Rattle.std.proofs.Common.{◌≡◌, ◌⊎◌, ◌+◌, ◌≤◌, inl, inr, ℕ, List, Some, codes, length, refl, sym, subst, ⊎_elim}
use Rattle.lake_basics.specs.declared.limits.TheConstants.{MAX_ACTIONS, MAX_COMMITS, MAX_NAMES}
use Rattle.lake_basics.proofs.Numbers.{le_not_less}
use Rattle.lake_store.specs.Disk.{Files, names_in}
use Rattle.table_history.specs.declared.feature.Feature.TheVariants.{PartitionChange}
use Rattle.table_history.specs.declared.table.Table.{Table}
use Rattle.hudi_instant.specs.declared.instant.Instant.{Instant}
use Rattle.hudi_properties.specs.declared.table.HudiTable.{HudiTable}
use Rattle.hudi_table.specs.Files.{SaysInstant, SaysProperties}
use Rattle.hudi_table.specs.Folder.{IsHead, IsReached}
use Rattle.hudi_table.specs.Instants.{path_of, timeline_folder}
use Rattle.hudi_table.specs.Refusals.{IsChangeRefusal, IsInstantRefusal}
use Rattle.hudi_table.specs.declared.error.TimelineError.{TimelineError}
use Rattle.hudi_table.specs.declared.instants.CompletedInstant.{CompletedInstant}
use Rattle.hudi_table.specs.declared.instants.InstantName.{InstantName}
use Rattle.hudi_table.specs.declared.properties.Properties.{Properties}
use Rattle.hudi_table.specs.declared.reading.Naming.TheVariants.{Base}
use Rattle.source_core.specs.Answers.{IsReadRefusal}
use Rattle.source_core.specs.Since.{IsSinceRefusal}
use Rattle.source_core.specs.declared.error.SourceError.{SourceError}
use Rattle.source_core.specs.declared.error.SourceError.TheVariants as source
use Rattle.source_core.proofs.Answers.{weaker}
use Rattle.source_hudi.specs.Instants.{feature_of}
use Rattle.source_hudi.specs.Reading.{HasManyNames, HasNoProperties, Tells}
use Rattle.source_hudi.specs.Since.{AreAllReadAfter, HasBadInstant, HasManyActions, HasRefusedAfter, HasUnfit, IsFirstUnreadAfter, ShowsAtInstant, ShowsInLater, ShowsOfInstant, ShowsOver, ShowsReached, ShowsSince, actions_of, later_in}

-- ---- one instant

pub instant_bad : (files : Files) (c : CompletedInstant) (cause : TimelineError) (e : SourceError) → IsInstantRefusal files c cause → IsReadRefusal (Tells cause) e → IsReadRefusal (HasBadInstant files c) e
instant_bad files c cause e h told = weaker (Tells cause) (HasBadInstant files c) (λ d t. (cause, h, t)) e told

pub change_unfit : (table : HudiTable) (c : CompletedInstant) (i : Instant) (before : Table) (cause : TimelineError) (e : SourceError) → IsChangeRefusal Base table c i (Some before) cause → IsReadRefusal (Tells cause) e
    → IsReadRefusal (HasUnfit table c i before) e
change_unfit table c i before cause e h told = weaker (Tells cause) (HasUnfit table c i before) (λ d t. (cause, h, t)) e told

module _ (table : HudiTable) (c : CompletedInstant) (i : Instant) (before : Table) (n : ℕ) where
  pub many_of : (e : SourceError) → HasManyActions n i e → IsReadRefusal (ShowsOfInstant table c i before n) e
  many_of e h = subst (IsReadRefusal (ShowsOfInstant table c i before n)) (sym h.1) (inl (h.0, refl))

  pub unfit_of : n + actions_of i ≤ MAX_ACTIONS → (e : SourceError) → IsReadRefusal (HasUnfit table c i before) e → IsReadRefusal (ShowsOfInstant table c i before n) e
  unfit_of few e h = weaker (HasUnfit table c i before) (ShowsOfInstant table c i before n) (λ d t. inr (few, t)) e h

  pub shown_at : (files : Files) → SaysInstant files c i → (e : SourceError) → IsReadRefusal (ShowsOfInstant table c i before n) e → IsReadRefusal (ShowsAtInstant files table c before n) e
  shown_at files says e h = weaker (ShowsOfInstant table c i before n) (ShowsAtInstant files table c before n) (λ d t. inr (i, says, t)) e h

pub bad_at : (files : Files) (table : HudiTable) (c : CompletedInstant) (before : Table) (n : ℕ) (e : SourceError) → IsReadRefusal (HasBadInstant files c) e → IsReadRefusal (ShowsAtInstant files table c before n) e
bad_at files table c before n e h = weaker (HasBadInstant files c) (ShowsAtInstant files table c before n) (λ d t. inl t) e h

-- ---- all of them

module _ (files : Files) (table : HudiTable) (base : Table) where
  pub refused_in_later : (instants : List CompletedInstant) (e : SourceError) → length instants ≤ MAX_COMMITS → IsReadRefusal (HasRefusedAfter files table base instants) e → IsReadRefusal (ShowsInLater files table base instants) e
  refused_in_later instants e few h = weaker (HasRefusedAfter files table base instants) (ShowsInLater files table base instants) (λ d t. inr (few, t)) e h

  module _ (position head : List ℕ) where
    pub other_partition : (e : SourceError) → ¬ (table.partition ≡ base.partition) → (e ≡ source.Memory) ⊎ (e ≡ source.Unsupported PartitionChange (path_of (codes "hoodie.properties"))) → IsReadRefusal (ShowsOver files position head table base) e
    other_partition e other h =
        ⊎_elim
        (λ memory. subst (IsReadRefusal (ShowsOver files position head table base)) (sym memory) tt)
        (λ told. subst (IsReadRefusal (ShowsOver files position head table base)) (sym told) (inl (other, refl)))
        h

    pub unread_over : table.partition ≡ base.partition → (i : InstantName) (e : SourceError) → IsFirstUnreadAfter files position head i.name i.action
        → (e ≡ source.Memory) ⊎ (e ≡ source.Unsupported (feature_of i.action) (path_of i.name)) → IsReadRefusal (ShowsOver files position head table base) e
    unread_over same i e first h =
        ⊎_elim
        (λ memory. subst (IsReadRefusal (ShowsOver files position head table base)) (sym memory) tt)
        (λ told. subst (IsReadRefusal (ShowsOver files position head table base)) (sym told) (inr (same, inl (i.name, i.action, first, refl))))
        h

    pub later_over : table.partition ≡ base.partition → AreAllReadAfter files position head → (e : SourceError) → IsReadRefusal (ShowsInLater files table base (later_in files position)) e → IsReadRefusal (ShowsOver files position head table base) e
    later_over same all e h = weaker (ShowsInLater files table base (later_in files position)) (ShowsOver files position head table base) (λ d t. inr (same, inr (all, t))) e h

-- ---- the properties, and whether the position is reached

module _ (files : Files) (position : List ℕ) (base : Table) where
  pub properties_reached : (e : SourceError) → IsReadRefusal (HasNoProperties files) e → IsReadRefusal (ShowsReached files position base) e
  properties_reached e h = weaker (HasNoProperties files) (ShowsReached files position base) (λ d t. inl t) e h

  pub over_reached : (p : Properties) → SaysProperties files p → (head : List ℕ) → IsHead files head → (e : SourceError) → IsReadRefusal (ShowsOver files position head p.table base) e → IsReadRefusal (ShowsReached files position base) e
  over_reached p says head is e h = weaker (ShowsOver files position head p.table base) (ShowsReached files position base) (λ d t. inr (p, says, head, is, t)) e h

  pub at_reached : IsReached files position → (e : SourceError) → IsReadRefusal (ShowsReached files position base) e → IsReadRefusal (ShowsSince files position base) e
  at_reached at e h = weaker (ShowsReached files position base) (ShowsSince files position base) (λ d t. (at, t)) e h

  pub since_refused : (e : SourceError) → IsReadRefusal (ShowsSince files position base) e → IsSinceRefusal (IsReached files position) (ShowsSince files position base) e
  since_refused source.Memory h = tt
  since_refused source.Absent h = h
  since_refused (source.Malformed path) h = (h.0, h)
  since_refused (source.Unsupported feature path) h = (h.0, h)
  since_refused (source.Limit which number) h = (h.0, h)
  since_refused source.StoreFault h = tt

  -- names that aren't too many can be listed
  pub names_refused : length (names_in files timeline_folder) ≤ MAX_NAMES → (e : SourceError) → IsReadRefusal (HasManyNames files timeline_folder) e → IsReadRefusal (ShowsSince files position base) e
  names_refused few e h = weaker (HasManyNames files timeline_folder) (ShowsSince files position base) (λ d many. absurd (le_not_less (length (names_in files timeline_folder)) MAX_NAMES few many.0)) e h
