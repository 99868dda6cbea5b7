-- Why a timeline isn't read.
use Rattle.std.specs.Prelude.{◌≡◌, ◌⊎◌, ℕ, ◌<◌, ◌≤◌, true, false, List, ◌∷◌, ◌++◌, codes, length, Err, None, Option}
use Rattle.std.specs.FinMap as map
use Rattle.lake_basics.specs.declared.limits.TheConstants.{MAX_COMMITS, MAX_FILE_BYTES, MAX_NAMES}
use Rattle.lake_store.specs.Disk.{Files, names_in}
use Rattle.lake_store.specs.declared.store.StoreError.{StoreError}
use Rattle.lake_store.specs.declared.store.StoreError.TheVariants as store
use Rattle.table_history.specs.declared.table.Table.{Table}
use Rattle.hudi_timeline.specs.Causes.{IsRefusalOf}
use Rattle.hudi_names.specs.Errors.{malformed}
use Rattle.hudi_instant.specs.Instants.{json_instant}
use Rattle.hudi_timeline.specs.Live.{completed}
use Rattle.hudi_names.specs.declared.error.HudiError.{HudiError}
use Rattle.hudi_names.specs.declared.error.HudiError.TheVariants as hudi
use Rattle.hudi_instant.specs.declared.instant.Instant.{Instant}
use Rattle.hudi_properties.specs.declared.table.HudiTable.{HudiTable}
use Rattle.hudi_table.specs.Files.{HasFault, HoldsFile, SaysInstant}
use Rattle.hudi_table.specs.Instants.{path_of, timeline_folder}
use Rattle.hudi_table.specs.Reading.{IsReadingOf, form_of, table_in}
use Rattle.hudi_table.specs.declared.error.TimelineError.{TimelineError}
use Rattle.hudi_table.specs.declared.error.TimelineError.TheVariants as error
use Rattle.hudi_table.specs.declared.instants.CompletedInstant.{CompletedInstant}
use Rattle.hudi_table.specs.declared.reading.Latest.{Latest}
use Rattle.hudi_table.specs.declared.reading.Naming.{Naming}

-- ---- what is told of a refusal below

-- of a folder that couldn't be listed
abbrev pub error_of_list : StoreError → TimelineError
error_of_list store.Memory = error.Memory
error_of_list store.Failed = error.StoreFault
error_of_list (store.TooLong n) = error.ManyNames
error_of_list store.Taken = error.Memory

-- of a file that couldn't be read
abbrev pub error_of_read : List ℕ → StoreError → TimelineError
error_of_read path store.Memory = error.Memory
error_of_read path store.Failed = error.StoreFault
error_of_read path (store.TooLong n) = error.Large path
error_of_read path store.Taken = error.Memory

-- of what a file says
abbrev pub error_at : List ℕ → HudiError → TimelineError
error_at path hudi.Memory = error.Memory
error_at path (hudi.Malformed line) = error.Refused path (hudi.Malformed line)
error_at path (hudi.Unsupported feature) = error.Refused path (hudi.Unsupported feature)
error_at path (hudi.Limit which) = error.Refused path (hudi.Limit which)

-- ---- causes

-- The list of a timeline's names is refused.
abbrev pub IsListRefusal : Files → TimelineError → Type 0
IsListRefusal files error.Memory = Unit {0}
IsListRefusal files error.StoreFault = Unit {0}
IsListRefusal files error.ManyNames = MAX_NAMES < length (names_in files timeline_folder)
IsListRefusal files _ = ⊥

-- The file of this name is missing or too large, or what it says is refused for a cause of which `Unread` tells.
abbrev pub IsFileRefusal : Files → List ℕ → (HudiError → Type 0) → TimelineError → Type 0
IsFileRefusal files name Unread error.Memory = Unit {0}
IsFileRefusal files name Unread error.StoreFault = Unit {0}
IsFileRefusal files name Unread error.ManyNames = ⊥
IsFileRefusal files name Unread error.ManyCommits = ⊥
IsFileRefusal files name Unread (error.Missing p) = (p ≡ path_of name) × (map.get files (path_of name) ≡ None)
IsFileRefusal files name Unread (error.Large p) = (p ≡ path_of name) × (bytes : List ℕ) × HoldsFile files name bytes × (MAX_FILE_BYTES < length bytes)
IsFileRefusal files name Unread (error.Refused p e) = (p ≡ path_of name) × Unread e

-- what the properties' file has for a fault
abbrev pub IsPropertyFault : Files → HudiError → Type 0
IsPropertyFault files e = (bytes : List ℕ) × HoldsFile files (codes "hoodie.properties") bytes × HasFault bytes e

-- what the completed instant's file has for a fault: the second of a time is malformed whatever it holds
abbrev pub IsUnreadable : Files → CompletedInstant → HudiError → Type 0
IsUnreadable files c e = ((c.is_second ≡ true) × (e ≡ malformed)) ⊎ ((c.is_second ≡ false) × (bytes : List ℕ) × HoldsFile files c.name bytes × (json_instant bytes ≡ Err e))

-- The instant can be read, and can't be taken over the table before it, for this cause.
abbrev pub IsUnfit : Files → Naming → HudiTable → CompletedInstant → Option Table → HudiError → Type 0
IsUnfit files naming table c base e = (i : Instant) × SaysInstant files c i × IsRefusalOf (completed (form_of naming c.time) i) table base e

-- An instant that was read can't be taken over the table before it.
abbrev pub IsChangeRefusal : Naming → HudiTable → CompletedInstant → Instant → Option Table → TimelineError → Type 0
IsChangeRefusal naming table c i base error.Memory = Unit {0}
IsChangeRefusal naming table c i base (error.Refused p e) = (p ≡ path_of c.name) × IsRefusalOf (completed (form_of naming c.time) i) table base e
IsChangeRefusal naming table c i base _ = ⊥

-- The completed instant is refused by itself.
abbrev pub IsInstantRefusal : Files → CompletedInstant → TimelineError → Type 0
IsInstantRefusal files c e = IsFileRefusal files c.name (IsUnreadable files c) e

-- It is refused by itself, or over the table before it.
abbrev pub IsStepRefusal : Files → Naming → HudiTable → CompletedInstant → Option Table → TimelineError → Type 0
IsStepRefusal files naming table c base e = IsFileRefusal files c.name (λ cause. IsUnreadable files c cause ⊎ IsUnfit files naming table c base cause) e

-- The instants aren't too many, one of them is refused so, and those before it can be read.
pub record StopsAt (files : Files) (naming : Naming) (table : HudiTable) (instants : List CompletedInstant) (e : TimelineError) : Type 0 where
  pub few : length instants ≤ MAX_COMMITS
  pub front : List CompletedInstant
  pub instant : CompletedInstant
  pub behind : List CompletedInstant
  pub split : instants ≡ front ++ instant ∷ behind
  pub latest : Option Latest
  pub read : IsReadingOf files naming table front latest
  pub refused : IsStepRefusal files naming table instant (table_in latest) e

-- The reading of the instants is refused.
abbrev pub IsReadingRefusal : Files → Naming → HudiTable → List CompletedInstant → TimelineError → Type 0
IsReadingRefusal files naming table instants error.Memory = Unit {0}
IsReadingRefusal files naming table instants error.StoreFault = Unit {0}
IsReadingRefusal files naming table instants error.ManyNames = ⊥
IsReadingRefusal files naming table instants error.ManyCommits = MAX_COMMITS < length instants
IsReadingRefusal files naming table instants (error.Missing p) = StopsAt files naming table instants (error.Missing p)
IsReadingRefusal files naming table instants (error.Large p) = StopsAt files naming table instants (error.Large p)
IsReadingRefusal files naming table instants (error.Refused p e) = StopsAt files naming table instants (error.Refused p e)

-- ---- which path is told

-- If a path is told, it has this.
abbrev pub TellsOf : (List ℕ → Type 0) → TimelineError → Type 0
TellsOf P (error.Missing p) = P p
TellsOf P (error.Large p) = P p
TellsOf P (error.Refused p e) = P p
TellsOf P _ = Unit {0}
