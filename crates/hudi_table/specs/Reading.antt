-- The table that completed instants make one after another, and which of their files are live in it.
use Rattle.std.specs.Prelude.{◌≡◌, ℕ, List, [], ◌∷◌, ◌++◌, Option, Some, None, option_map}
use Rattle.lake_store.specs.Disk.{Files}
use Rattle.table_history.specs.Tables.{IsAfter}
use Rattle.table_history.specs.declared.table.Table.{Table}
use Rattle.partition_map.specs.declared.kind.PartKind.{PartKind}
use Rattle.hudi_timeline.specs.Causes.{table_before}
use Rattle.hudi_timeline.specs.Change.{IsChangeOf, LeadsThrough}
use Rattle.hudi_timeline.specs.Live.{AreLive, Completed, Timeline, completed}
use Rattle.hudi_timeline.specs.Schemas.{AreKindsOf}
use Rattle.hudi_groups.specs.declared.form.Form.{Form}
use Rattle.hudi_groups.specs.declared.form.Form.TheVariants as form
use Rattle.hudi_instant.specs.declared.instant.Instant.{Instant}
use Rattle.hudi_properties.specs.declared.table.HudiTable.{HudiTable}
use Rattle.hudi_table.specs.Files.{SaysInstant}
use Rattle.hudi_table.specs.declared.instants.CompletedInstant.{CompletedInstant}
use Rattle.hudi_table.specs.declared.reading.InstantChange.{InstantChange}
use Rattle.hudi_table.specs.declared.reading.Latest.{Latest}
use Rattle.hudi_table.specs.declared.reading.Naming.{Naming}
use Rattle.hudi_table.specs.declared.reading.Naming.TheVariants as naming

-- how the files of an instant of this time are named
abbrev pub form_of : Naming → List ℕ → Form
form_of naming.Base time = form.Base
form_of naming.External time = form.External time

-- ---- one instant

-- The instant's file says what makes this change of the table before it, and has this mark.
pub record IsChangeHere (files : Files) (naming : Naming) (table : HudiTable) (c : CompletedInstant) (base : Option Table) (made : InstantChange) : Type 0 where
  pub instant : Instant
  pub says : SaysInstant files c instant
  pub change : IsChangeOf (completed (form_of naming c.time) instant) table base made.change
  pub mark : made.mark ≡ instant.mark

-- the same with the table after it
pub record IsNextHere (files : Files) (naming : Naming) (table : HudiTable) (c : CompletedInstant) (base : Option Table) (next : Latest) : Type 0 where
  pub made : InstantChange
  pub here : IsChangeHere files naming table c base made
  pub after : IsAfter (table_before table base) made.change next.table
  pub mark : next.mark ≡ made.mark

-- ---- instants one after another

-- The instants' files say this timeline, the oldest first.
abbrev pub SayTimeline : Files → Naming → List CompletedInstant → Timeline → Type 0
SayTimeline files naming [] timeline = timeline ≡ []
SayTimeline files naming (c ∷ cs) timeline =
    (instant : Instant) × (rest : Timeline) × SaysInstant files c instant × SayTimeline files naming cs rest × (timeline ≡ completed (form_of naming c.time) instant ∷ rest)

-- The instants make this table, each one's change made in its turn, and the newest has this mark.
pub record IsLatestOf (files : Files) (naming : Naming) (table : HudiTable) (instants : List CompletedInstant) (latest : Latest) : Type 0 where
  pub before : Timeline
  pub newest : Completed
  pub say : SayTimeline files naming instants (before ++ newest ∷ [])
  pub leads : LeadsThrough table None (before ++ newest ∷ []) latest.table
  pub mark : latest.mark ≡ newest.instant.mark

-- The same; there is no table where there is no instant.
abbrev pub IsReadingOf : Files → Naming → HudiTable → List CompletedInstant → Option Latest → Type 0
IsReadingOf files naming table instants None = instants ≡ []
IsReadingOf files naming table instants (Some latest) = IsLatestOf files naming table instants latest

abbrev pub table_in : Option Latest → Option Table
table_in latest = option_map (λ l. l.table) latest

-- The rows of the table are those that are live after the instants.
pub record HasLiveRows (files : Files) (naming : Naming) (table : HudiTable) (instants : List CompletedInstant) (latest : Latest) : Type 0 where
  pub timeline : Timeline
  pub say : SayTimeline files naming instants timeline
  pub kinds : List PartKind
  pub are_kinds : AreKindsOf latest.table.schema table.partition kinds
  pub live : AreLive table kinds timeline latest.table.rows
