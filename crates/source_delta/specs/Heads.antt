-- The newest version of a Delta log, and the table that the log makes up to it (Delta protocol, "Delta Log Entries" and "Action Reconciliation").
use Rattle.std.specs.Prelude.{◌≡◌, ◌≤◌, ◌+◌, ℕ, List, Option, Some, None, length}
use Rattle.std.specs.Fmt.{decimal}
use Rattle.lake_basics.specs.declared.limits.TheConstants.{MAX_NAMES}
use Rattle.lake_store.specs.Disk.{Files, names_in}
use Rattle.table_history.specs.declared.table.Table.{Table}
use Rattle.delta_log.specs.declared.commit.DeltaCommit.{DeltaCommit}
use Rattle.delta_log.specs.declared.commit.MetaData.{MetaData}
use Rattle.delta_table.specs.Log.{HasLiveRows, IsReadLog, SaysCommit}
use Rattle.delta_table.specs.Versions.{HasVersion, log_folder}
use Rattle.source_core.specs.declared.head.Head.{Head}

-- no version is there
abbrev pub IsAbsent : Files → Type 0
IsAbsent files = (version : ℕ) → ¬ HasVersion files version

pub record IsNewest (files : Files) (newest : ℕ) : Type 0 where
  pub there : HasVersion files newest
  pub last : (version : ℕ) → HasVersion files version → version ≤ newest

-- what the metadata of version 0 states, where that version is there, which is read whole then and taken as the first
abbrev pub IsTableId : Files → Option (List ℕ) → Type 0
IsTableId files None = ¬ HasVersion files 0
IsTableId files (Some id) = (c : DeltaCommit) × (m : MetaData) × (first : Table) × SaysCommit files 0 c × (c.meta ≡ Some m) × (id ≡ m.id) × IsReadLog files 1 (Some first)

-- The newest version in decimal, where the names in the log's folder aren't too many to be listed. Nothing is pending in a Delta log.
pub record IsDeltaHead (files : Files) (head : Head) : Type 0 where
  pub newest : ℕ
  pub is : IsNewest files newest
  pub position : head.position ≡ decimal newest
  pub pending : head.pending ≡ None
  pub table : IsTableId files head.table
  pub few : length (names_in files log_folder) ≤ MAX_NAMES

-- the table that the versions from 0 to the newest make, whose rows are just the live ones
pub record IsTableAtHead (files : Files) (table : Table) : Type 0 where
  pub newest : ℕ
  pub is : IsNewest files newest
  pub log : IsReadLog files (newest + 1) (Some table)
  pub live : HasLiveRows files (newest + 1) table
