-- What is said of a Hudi table's files depends on its timeline's folder alone.
use Rattle.std.proofs.Common.{◌≡◌, inl, inr, ◌<◌, ◌≤◌, ℕ, List, [], ◌∷◌, length, Option, Some, None, Contains, codes, refl, sym, ap, subst, ◌∙◌, ⊎_elim}
use Rattle.std.specs.FinMap as map
use Rattle.lake_basics.specs.declared.limits.TheConstants.{MAX_NAMES}
use Rattle.lake_store.specs.Disk.{Files, names_in}
use Rattle.lake_store.specs.Runs.{IsIn}
use Rattle.table_history.specs.declared.table.Table.{Table}
use Rattle.hudi_names.specs.declared.name.Action.{Action}
use Rattle.hudi_names.specs.declared.name.State.{State}
use Rattle.hudi_timeline.specs.Live.{Timeline}
use Rattle.hudi_names.specs.declared.error.HudiError.{HudiError}
use Rattle.hudi_instant.specs.declared.instant.Instant.{Instant}
use Rattle.hudi_properties.specs.declared.table.HudiTable.{HudiTable}
use Rattle.hudi_table.specs.Files.{HoldsFile, SaysInstant, SaysProperties}
use Rattle.hudi_table.specs.Folder.{HasInstant, IsCompletedAt, IsFirstPending, IsHead, IsInFolder, IsPendingAt, IsReached, LacksCompleted}
use Rattle.hudi_table.specs.Instants.{path_of, timeline_folder, timeline_of, up_to_head}
use Rattle.hudi_table.specs.Reading.{HasLiveRows, IsLatestOf, IsReadingOf, SayTimeline, table_in}
use Rattle.hudi_table.specs.Refusals.{IsFileRefusal, IsPropertyFault, IsReadingRefusal, IsStepRefusal, IsUnfit, IsUnreadable, StopsAt}
use Rattle.hudi_table.specs.declared.error.TimelineError.{TimelineError}
use Rattle.hudi_table.specs.declared.error.TimelineError.TheVariants as error
use Rattle.hudi_table.specs.declared.instants.CompletedInstant.{CompletedInstant}
use Rattle.hudi_table.specs.declared.properties.Properties.{Properties}
use Rattle.hudi_table.specs.declared.reading.Latest.{Latest}
use Rattle.hudi_table.specs.declared.reading.Naming.{Naming}
use Rattle.hudi_table.specs.declared.reading.Naming.TheVariants.{Base}
use Rattle.source_core.specs.declared.error.SourceError.{SourceError}
use Rattle.source_core.specs.declared.head.Head.{Head}
use Rattle.target_core.specs.Folders.{SameIn}
use Rattle.target_core.specs.FolderLemmas.{names_own, same_back}
use Rattle.source_hudi.specs.Heads.{IsAbsent, IsHudiHead, IsPending, IsTableAtHead, IsTableName, IsTableOfInstants, IsTableUpTo, IsWholeTable}
use Rattle.source_hudi.specs.Instants.{AreAllRead, IsArchiveEmpty, IsFirstUnread, IsUnread, archive_folder, first_archived, reached_in}
use Rattle.source_hudi.specs.Reading.{HasArchive, HasFewNames, HasManyNames, HasNoProperties, HasRefused, ShowsAtHead, ShowsFromScratch, ShowsInInstants, ShowsInTimeline, ShowsUpTo}

-- ---- names

timeline_names : (a b : Files) → SameIn timeline_folder a b → names_in b timeline_folder ≡ names_in a timeline_folder
timeline_names a b same = names_own timeline_folder (λ name. (name, refl)) a b same

archive_names : (a b : Files) → SameIn timeline_folder a b → names_in b archive_folder ≡ names_in a archive_folder
archive_names a b same = names_own archive_folder (λ name. (name, refl)) a b (λ path within. same path (codes_behind path within))
  where
    codes_behind : (path : List ℕ) → IsIn archive_folder path → IsIn timeline_folder path
    codes_behind path within = (97 ∷ 114 ∷ 99 ∷ 104 ∷ 105 ∷ 118 ∷ 101 ∷ 100 ∷ 47 ∷ within.0, within.1)

pub reached_same : (a b : Files) → SameIn timeline_folder a b → reached_in a ≡ reached_in b
reached_same a b same = sym (ap (λ (names : List (List ℕ)). up_to_head (timeline_of names)) (timeline_names a b same))

module _ (a b : Files) (same : SameIn timeline_folder a b) where
  there_too : (name : List ℕ) → IsInFolder a name → IsInFolder b name
  there_too name there = subst (λ (names : List (List ℕ)). Contains names name) (sym (timeline_names a b same)) there

  there_back : (name : List ℕ) → IsInFolder b name → IsInFolder a name
  there_back name there = subst (λ (names : List (List ℕ)). Contains names name) (timeline_names a b same) there

  instant_too : (time : List ℕ) (action : Action) (state : State) → HasInstant a time action state → HasInstant b time action state
  instant_too time action state h = record { name = h.name; there = there_too h.name h.there; digits = h.digits; says = h.says; is_time = h.is_time }

  completed_too : (time : List ℕ) → IsCompletedAt a time → IsCompletedAt b time
  completed_too time h = (h.0, h.1, instant_too time h.0 _ h.2)

  lacks_too : (action : Action) (time : List ℕ) → LacksCompleted a action time → LacksCompleted b action time
  lacks_too action time h = (h.0, h.1, λ there. h.2 (there_back h.0 there))

  pending_too : (time : List ℕ) → IsPendingAt a time → IsPendingAt b time
  pending_too time h = (h.0, h.1, instant_too time h.0 h.1 h.2, lacks_too h.0 time h.3)

-- ---- the head

module _ (a b : Files) (same : SameIn timeline_folder a b) where
  pending_back : (time : List ℕ) → IsPendingAt b time → IsPendingAt a time
  pending_back time h = pending_too b a (same_back timeline_folder a b same) time h

  first_pending_too : (time : List ℕ) → IsFirstPending a time → IsFirstPending b time
  first_pending_too time h = (pending_too a b same time h.0, λ other at. h.1 other (pending_back other at))

  reached_too : (time : List ℕ) → IsReached a time → IsReached b time
  reached_too time h = (completed_too a b same time h.0, λ pending at. h.1 pending (pending_back pending at))

module _ (a b : Files) (same : SameIn timeline_folder a b) where
  reached_back : (time : List ℕ) → IsReached b time → IsReached a time
  reached_back time h = reached_too b a (same_back timeline_folder a b same) time h

  pub head_too : (head : List ℕ) → IsHead a head → IsHead b head
  head_too head h = (reached_too a b same head h.0, λ other at. h.1 other (reached_back other at))

  is_pending_too : (pending : Option (List ℕ)) → IsPending a pending → IsPending b pending
  is_pending_too None h = λ time at. h time (pending_back a b same time at)
  is_pending_too (Some time) h = first_pending_too a b same time h

pub reaches_own : (a b : Files) (position : List ℕ) → SameIn timeline_folder a b → IsReached a position → IsReached b position
reaches_own a b position same h = reached_too a b same position h

pub absent_own : (a b : Files) → SameIn timeline_folder a b → IsAbsent a → IsAbsent b
absent_own a b same none time at = none time (reached_back a b same time at)

-- ---- what files say

module _ (a b : Files) (same : SameIn timeline_folder a b) where
  holds_too : (name bytes : List ℕ) → HoldsFile a name bytes → HoldsFile b name bytes
  holds_too name bytes h = same (path_of name) (name, refl) ∙ h

  missing_too : (name : List ℕ) → map.get a (path_of name) ≡ None → map.get b (path_of name) ≡ None
  missing_too name h = same (path_of name) (name, refl) ∙ h

  pub properties_too : (p : Properties) → SaysProperties a p → SaysProperties b p
  properties_too p h = record { bytes = h.bytes; holds = holds_too (codes "hoodie.properties") h.bytes h.holds; read = h.read }

  pub says_too : (c : CompletedInstant) (i : Instant) → SaysInstant a c i → SaysInstant b c i
  says_too c i h = record { first = h.first; bytes = h.bytes; holds = holds_too c.name h.bytes h.holds; reads = h.reads }

  timeline_too : (naming : Naming) (cs : List CompletedInstant) (timeline : Timeline) → SayTimeline a naming cs timeline → SayTimeline b naming cs timeline
  timeline_too naming [] timeline h = h
  timeline_too naming (c ∷ cs) timeline h = (h.0, h.1, says_too c h.0 h.2, timeline_too naming cs h.1 h.3, h.4)

  latest_too : (naming : Naming) (table : HudiTable) (cs : List CompletedInstant) (latest : Latest) → IsLatestOf a naming table cs latest → IsLatestOf b naming table cs latest
  latest_too naming table cs latest h = record { before = h.before; newest = h.newest; say = timeline_too naming cs _ h.say; leads = h.leads; mark = h.mark }

  reading_too : (naming : Naming) (table : HudiTable) (cs : List CompletedInstant) (latest : Option Latest) → IsReadingOf a naming table cs latest → IsReadingOf b naming table cs latest
  reading_too naming table cs None h = h
  reading_too naming table cs (Some latest) h = latest_too naming table cs latest h

  live_too : (naming : Naming) (table : HudiTable) (cs : List CompletedInstant) (latest : Latest) → HasLiveRows a naming table cs latest → HasLiveRows b naming table cs latest
  live_too naming table cs latest h = record { timeline = h.timeline; say = timeline_too naming cs h.timeline h.say; kinds = h.kinds; are_kinds = h.are_kinds; live = h.live }

  -- ---- what is refused

  pub file_too : (name : List ℕ) (P Q : HudiError → Type 0) → ((e : HudiError) → P e → Q e) → (e : TimelineError) → IsFileRefusal a name P e → IsFileRefusal b name Q e
  file_too name P Q to error.Memory h = h
  file_too name P Q to error.StoreFault h = h
  file_too name P Q to error.ManyNames h = h
  file_too name P Q to error.ManyCommits h = h
  file_too name P Q to (error.Missing p) h = (h.0, missing_too name h.1)
  file_too name P Q to (error.Large p) h = (h.0, h.1, holds_too name h.1 h.2, h.3)
  file_too name P Q to (error.Refused p e) h = (h.0, to e h.1)

  fault_too : (e : HudiError) → IsPropertyFault a e → IsPropertyFault b e
  fault_too e h = (h.0, holds_too (codes "hoodie.properties") h.0 h.1, h.2)

  pub unreadable_too : (c : CompletedInstant) (e : HudiError) → IsUnreadable a c e → IsUnreadable b c e
  unreadable_too c e (inl h) = inl h
  unreadable_too c e (inr h) = inr (h.0, h.1, holds_too c.name h.1 h.2, h.3)

  unfit_too : (naming : Naming) (table : HudiTable) (c : CompletedInstant) (base : Option Table) (e : HudiError) → IsUnfit a naming table c base e → IsUnfit b naming table c base e
  unfit_too naming table c base e h = (h.0, says_too c h.0 h.1, h.2)

  step_too : (naming : Naming) (table : HudiTable) (c : CompletedInstant) (base : Option Table) (e : TimelineError) → IsStepRefusal a naming table c base e → IsStepRefusal b naming table c base e
  step_too naming table c base e h = file_too c.name _ _ (λ cause. ⊎_elim (λ unread. inl (unreadable_too c cause unread)) (λ unfit. inr (unfit_too naming table c base cause unfit))) e h

  stops_too : (naming : Naming) (table : HudiTable) (cs : List CompletedInstant) (e : TimelineError) → StopsAt a naming table cs e → StopsAt b naming table cs e
  stops_too naming table cs e h = record {
    few = h.few;
    front = h.front;
    instant = h.instant;
    behind = h.behind;
    split = h.split;
    latest = h.latest;
    read = reading_too naming table h.front h.latest h.read;
    refused = step_too naming table h.instant (table_in h.latest) e h.refused;
  }

  refusal_too : (naming : Naming) (table : HudiTable) (cs : List CompletedInstant) (e : TimelineError) → IsReadingRefusal a naming table cs e → IsReadingRefusal b naming table cs e
  refusal_too naming table cs error.Memory h = h
  refusal_too naming table cs error.StoreFault h = h
  refusal_too naming table cs error.ManyNames h = h
  refusal_too naming table cs error.ManyCommits h = h
  refusal_too naming table cs (error.Missing p) h = stops_too naming table cs (error.Missing p) h
  refusal_too naming table cs (error.Large p) h = stops_too naming table cs (error.Large p) h
  refusal_too naming table cs (error.Refused p e) h = stops_too naming table cs (error.Refused p e) h

-- ---- the head and the table

name_own : (a b : Files) (name : Option (List ℕ)) → SameIn timeline_folder a b → IsTableName a name → IsTableName b name
name_own a b name same h = (h.0, properties_too a b same h.0 h.1, h.2)

pub head_own : (a b : Files) (head : Head) → SameIn timeline_folder a b → IsHudiHead a head → IsHudiHead b head
head_own a b head same h = record {
  position = head_too a b same head.position h.position;
  pending = is_pending_too a b same head.pending h.pending;
  table = name_own a b head.table same h.table;
  few = subst (λ (names : List (List ℕ)). length names ≤ MAX_NAMES) (sym (timeline_names a b same)) h.few;
}

pub unread_own : (a b : Files) (head name : List ℕ) (action : Action) → SameIn timeline_folder a b → IsUnread a head name action → IsUnread b head name action
unread_own a b head name action same h = record { there = there_too a b same name h.there; digits = h.digits; state = h.state; says = h.says; up_to = h.up_to; unread = h.unread }

pub unread_back : (a b : Files) (head name : List ℕ) (action : Action) → SameIn timeline_folder a b → IsUnread b head name action → IsUnread a head name action
unread_back a b head name action same h = unread_own b a head name action (same_back timeline_folder a b same) h

all_read_own : (a b : Files) (head : List ℕ) → SameIn timeline_folder a b → AreAllRead a head → AreAllRead b head
all_read_own a b head same all name action h = all name action (unread_back a b head name action same h)

archive_own : (a b : Files) → SameIn timeline_folder a b → IsArchiveEmpty a → IsArchiveEmpty b
archive_own a b same h = archive_names a b same ∙ h

made_own : (a b : Files) (table : HudiTable) (cs : List CompletedInstant) (t : Table) → SameIn timeline_folder a b → IsTableOfInstants a table cs t → IsTableOfInstants b table cs t
made_own a b table cs t same h = record { latest = h.latest; read = latest_too a b same Base table cs h.latest h.read; live = live_too a b same Base table cs h.latest h.live; is = h.is }

up_to_own : (a b : Files) (table : HudiTable) (head : List ℕ) (t : Table) → SameIn timeline_folder a b → IsTableUpTo a table head t → IsTableUpTo b table head t
up_to_own a b table head t same h = record {
  all_read = all_read_own a b head same h.all_read;
  made = subst (λ (cs : List CompletedInstant). IsTableOfInstants b table cs t) (reached_same a b same) (made_own a b table (reached_in a) t same h.made);
}

whole_own : (a b : Files) (table : HudiTable) (head : List ℕ) (t : Table) → SameIn timeline_folder a b → IsWholeTable a table head t → IsWholeTable b table head t
whole_own a b table head t same h = record { archive = archive_own a b same h.archive; up_to = up_to_own a b table head t same h.up_to }

pub table_own : (a b : Files) (t : Table) → SameIn timeline_folder a b → IsTableAtHead a t → IsTableAtHead b t
table_own a b t same h = record {
  head = h.head;
  is_head = head_too a b same h.head h.is_head;
  properties = h.properties;
  says = properties_too a b same h.properties h.says;
  whole = whole_own a b h.properties.table h.head t same h.whole;
}

-- ---- causes

many_own : (a b : Files) (e : SourceError) → SameIn timeline_folder a b → HasManyNames a timeline_folder e → HasManyNames b timeline_folder e
many_own a b e same h = (subst (λ (names : List (List ℕ)). MAX_NAMES < length names) (sym (timeline_names a b same)) h.0, h.1)

few_own : (a b : Files) → SameIn timeline_folder a b → HasFewNames a timeline_folder → HasFewNames b timeline_folder
few_own a b same few = subst (λ (names : List (List ℕ)). length names ≤ MAX_NAMES) (sym (timeline_names a b same)) few

many_archived_own : (a b : Files) (e : SourceError) → SameIn timeline_folder a b → HasManyNames a archive_folder e → HasManyNames b archive_folder e
many_archived_own a b e same h = (subst (λ (names : List (List ℕ)). MAX_NAMES < length names) (sym (archive_names a b same)) h.0, h.1)

few_archived_own : (a b : Files) → SameIn timeline_folder a b → HasFewNames a archive_folder → HasFewNames b archive_folder
few_archived_own a b same few = subst (λ (names : List (List ℕ)). length names ≤ MAX_NAMES) (sym (archive_names a b same)) few

pub no_properties_own : (a b : Files) (e : SourceError) → SameIn timeline_folder a b → HasNoProperties a e → HasNoProperties b e
no_properties_own a b e same h = (h.0, file_too a b same (codes "hoodie.properties") _ _ (fault_too a b same) h.0 h.1, h.2)

archived_own : (a b : Files) (e : SourceError) → SameIn timeline_folder a b → HasArchive a e → HasArchive b e
archived_own a b e same h = (few_archived_own a b same h.0, h.1, subst (λ (names : List (List ℕ)). first_archived names ≡ Some h.1) (sym (archive_names a b same)) h.2, h.3)

first_unread_own : (a b : Files) (head name : List ℕ) (action : Action) → SameIn timeline_folder a b → IsFirstUnread a head name action → IsFirstUnread b head name action
first_unread_own a b head name action same h = record { is = unread_own a b head name action same h.is; first = λ other act unread. h.first other act (unread_back a b head other act same unread) }

refused_own : (a b : Files) (table : HudiTable) (e : SourceError) → SameIn timeline_folder a b → HasRefused a table (reached_in a) e → HasRefused b table (reached_in b) e
refused_own a b table e same h = (h.0, subst (λ (cs : List CompletedInstant). IsReadingRefusal b Base table cs h.0) (reached_same a b same) (refusal_too a b same Base table (reached_in a) h.0 h.1), h.2)

up_to_shows_own : (a b : Files) (table : HudiTable) (head : List ℕ) (e : SourceError) → SameIn timeline_folder a b → ShowsUpTo a table head e → ShowsUpTo b table head e
up_to_shows_own a b table head e same (inl h) = inl (h.0, h.1, first_unread_own a b head h.0 h.1 same h.2, h.3)
up_to_shows_own a b table head e same (inr h) = inr (all_read_own a b head same h.0, refused_own a b table e same h.1)

timeline_shows_own : (a b : Files) (table : HudiTable) (e : SourceError) → SameIn timeline_folder a b → ShowsInTimeline a table e → ShowsInTimeline b table e
timeline_shows_own a b table e same (inl h) = inl (many_own a b e same h)
timeline_shows_own a b table e same (inr h) = inr (few_own a b same h.0, h.1, head_too a b same h.1 h.2, up_to_shows_own a b table h.1 e same h.3)

instants_show_own : (a b : Files) (table : HudiTable) (e : SourceError) → SameIn timeline_folder a b → ShowsInInstants a table e → ShowsInInstants b table e
instants_show_own a b table e same (inl h) = inl (many_archived_own a b e same h)
instants_show_own a b table e same (inr (inl h)) = inr (inl (archived_own a b e same h))
instants_show_own a b table e same (inr (inr h)) = inr (inr (archive_own a b same h.0, timeline_shows_own a b table e same h.1))

pub at_head_own : (a b : Files) (e : SourceError) → SameIn timeline_folder a b → ShowsAtHead a e → ShowsAtHead b e
at_head_own a b e same (inl h) = inl (many_own a b e same h)
at_head_own a b e same (inr h) = inr (few_own a b same h.0, (h.1.0, reached_too a b same h.1.0 h.1.1), no_properties_own a b e same h.2)

pub from_scratch_own : (a b : Files) (e : SourceError) → SameIn timeline_folder a b → ShowsFromScratch a e → ShowsFromScratch b e
from_scratch_own a b e same (inl h) = inl (no_properties_own a b e same h)
from_scratch_own a b e same (inr h) = inr (h.0, properties_too a b same h.0 h.1, instants_show_own a b h.0.table e same h.2)
