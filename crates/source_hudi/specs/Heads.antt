-- The head of a Hudi timeline, and the table that its instants make up to there (Hudi technical specification, "Timeline" and "Table Properties").
use Rattle.std.specs.Prelude.{◌≡◌, ◌≤◌, ℕ, List, Option, Some, None, codes, length}
use Rattle.lake_basics.specs.declared.limits.TheConstants.{MAX_NAMES}
use Rattle.lake_store.specs.Disk.{Files, names_in}
use Rattle.table_history.specs.declared.table.Table.{Table}
use Rattle.hudi_properties.specs.TableProperties.{property}
use Rattle.hudi_properties.specs.declared.table.HudiTable.{HudiTable}
use Rattle.hudi_table.specs.Files.{SaysProperties}
use Rattle.hudi_table.specs.Folder.{IsFirstPending, IsHead, IsPendingAt, IsReached}
use Rattle.hudi_table.specs.Instants.{timeline_folder}
use Rattle.hudi_table.specs.Reading.{HasLiveRows, IsLatestOf}
use Rattle.hudi_table.specs.declared.instants.CompletedInstant.{CompletedInstant}
use Rattle.hudi_table.specs.declared.properties.Properties.{Properties}
use Rattle.hudi_table.specs.declared.reading.Latest.{Latest}
use Rattle.hudi_table.specs.declared.reading.Naming.TheVariants.{Base}
use Rattle.source_core.specs.declared.head.Head.{Head}
use Rattle.source_hudi.specs.Instants.{AreAllRead, IsArchiveEmpty, reached_in}

-- no commit or replacecommit is completed before the first pending one
abbrev pub IsAbsent : Files → Type 0
IsAbsent files = (time : List ℕ) → ¬ IsReached files time

-- the first commit or replacecommit that is pending, if one is
abbrev pub IsPending : Files → Option (List ℕ) → Type 0
IsPending files None = (time : List ℕ) → ¬ IsPendingAt files time
IsPending files (Some time) = IsFirstPending files time

-- the name that the table's properties state, if they state one
abbrev pub IsTableName : Files → Option (List ℕ) → Type 0
IsTableName files name = (properties : Properties) × SaysProperties files properties × (name ≡ property (codes "hoodie.table.name") properties.pairs)

-- The last commit or replacecommit that is completed before the first pending one, that one, and the table's name, where the names in the timeline's folder aren't too many to be listed.
pub record IsHudiHead (files : Files) (head : Head) : Type 0 where
  pub position : IsHead files head.position
  pub pending : IsPending files head.pending
  pub table : IsTableName files head.table
  pub few : length (names_in files timeline_folder) ≤ MAX_NAMES

-- the table that these instants make, whose rows are just those that are live after them
pub record IsTableOfInstants (files : Files) (table : HudiTable) (instants : List CompletedInstant) (t : Table) : Type 0 where
  pub latest : Latest
  pub read : IsLatestOf files Base table instants latest
  pub live : HasLiveRows files Base table instants latest
  pub is : t ≡ latest.table

-- the table that the instants up to the head make, none of them of an action that isn't read
pub record IsTableUpTo (files : Files) (table : HudiTable) (head : List ℕ) (t : Table) : Type 0 where
  pub all_read : AreAllRead files head
  pub made : IsTableOfInstants files table (reached_in files) t

-- the same where these are all instants that ever were
pub record IsWholeTable (files : Files) (table : HudiTable) (head : List ℕ) (t : Table) : Type 0 where
  pub archive : IsArchiveEmpty files
  pub up_to : IsTableUpTo files table head t

-- the table at the head, of the properties that the folder holds
pub record IsTableAtHead (files : Files) (t : Table) : Type 0 where
  pub head : List ℕ
  pub is_head : IsHead files head
  pub properties : Properties
  pub says : SaysProperties files properties
  pub whole : IsWholeTable files properties.table head t
