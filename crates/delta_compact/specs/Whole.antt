-- Reading a Delta log with log compactions in place of the commits of their blocks: which files are read, the table that they make, and why they don't
-- (Delta protocol, "Log Compaction Files" and "Action Reconciliation").
use Rattle.std.specs.Prelude.{◌≡◌, ◌⊎◌, ◌<◌, ◌≤◌, ◌+◌, ◌-◌, ◌*◌, ℕ, zero, suc, List, length, Option, Some, None}
use Rattle.std.specs.FinMap as map
use Rattle.lake_basics.specs.declared.limits.TheConstants.{MAX_DELTA_VERSION, MAX_FILE_BYTES}
use Rattle.lake_store.specs.Disk.{Files}
use Rattle.table_history.specs.Words.{limit_number}
use Rattle.table_history.specs.declared.kind.Kind.TheVariants.{Delta}
use Rattle.table_history.specs.declared.limit.LimitKind.TheVariants as limit
use Rattle.table_history.specs.declared.table.Table.{Table}
use Rattle.delta_change.specs.Change.{IsChangeRefusal}
use Rattle.delta_change.specs.TableBehind.{Spells}
use Rattle.delta_log.specs.Readable.{IsFirstFault, IsReadableCommit}
use Rattle.delta_log.specs.declared.commit.DeltaCommit.{DeltaCommit}
use Rattle.delta_log.specs.declared.commit.MetaData.{MetaData}
use Rattle.delta_log.specs.declared.error.DeltaError.{DeltaError}
use Rattle.delta_log.specs.declared.error.DeltaError.TheVariants as delta
use Rattle.delta_table.specs.Log.{HasLiveRows, IsNewestMeta, IsTaken}
use Rattle.delta_table.specs.Versions.{IsVersionPath}
use Rattle.source_core.specs.declared.error.SourceError.{SourceError}
use Rattle.source_delta.specs.Reading.{HasEach, LacksVersion}
use Rattle.delta_compact.specs.Blocks.{IsBlockPath, IsCompacted, IsWithin}
use Rattle.delta_compact.specs.Compacting.{AreBlocksOf}
use Rattle.delta_compact.specs.Refusals.{of_source}
use Rattle.delta_compact.specs.declared.error.CompactFault.{CompactFault}
use Rattle.delta_compact.specs.declared.error.CompactFault.TheVariants.{Absent, Malformed, Unsupported, Limit, Contested, Stale}

-- Each block up to the head has a log compaction that agrees.
abbrev pub AllCompacted : Files → ℕ → Type 0
AllCompacted files head = (block : ℕ) → IsWithin head block → IsCompacted files block

-- ---- the table

-- The table that the versions before this one stand for: its rows are the live ones, and its schema and partition columns are those of the newest metadata.
pub record IsTableBefore (files : Files) (count : ℕ) (table : Table) : Type 0 where
  pub meta : MetaData
  pub newest : IsNewestMeta files count meta
  pub schema : Spells meta table.schema
  pub partition : table.partition ≡ meta.partition
  pub live : HasLiveRows files count table

-- ---- the files that are read

-- They are, in their order, the log compaction of each of the blocks, and then the versions behind the last block, one after another.
abbrev pub IsPartPath : ℕ → ℕ → List ℕ → Type 0
IsPartPath blocks part path = ((part < blocks) × IsBlockPath path part) ⊎ ((blocks ≤ part) × IsVersionPath path (9 * blocks + part))

-- how many they are up to the head
abbrev pub part_count : ℕ → ℕ → ℕ
part_count head blocks = head + 1 - 9 * blocks

-- The file at the path is there, and its commit can be read and says this.
pub record SaysFile (files : Files) (path : List ℕ) (c : DeltaCommit) : Type 0 where
  pub bytes : List ℕ
  pub there : map.get files path ≡ Some bytes
  pub readable : IsReadableCommit bytes c

-- What the file says is taken over the table before it, and leaves the next one.
abbrev pub IsTakenAt : Files → List ℕ → Option Table → Table → Type 0
IsTakenAt files path base next = (c : DeltaCommit) × SaysFile files path c × IsTaken c base next

-- The files before this one can be read and make this table, each taken over what those before it make. Before the first there is none.
abbrev pub AreReadParts : Files → ℕ → ℕ → Option Table → Type 0
AreReadParts files blocks zero last = last ≡ None
AreReadParts files blocks (suc part) last =
    (base : Option Table) × AreReadParts files blocks part base × (path : List ℕ) × IsPartPath blocks part path × (next : Table) × IsTakenAt files path base next × (last ≡ Some next)

-- ---- causes

-- how a fault of the commit in the file at this path is told; a second action on one path is one fault more of the grammar, and want of memory is none
abbrev pub TellsFile : List ℕ → DeltaError → CompactFault → Type 0
TellsFile path delta.Memory e = ⊥
TellsFile path (delta.Malformed line) e = e ≡ Malformed path
TellsFile path (delta.DoublePath line) e = e ≡ Malformed path
TellsFile path (delta.Unsupported feature line) e = e ≡ Unsupported feature path
TellsFile path (delta.Limit which) e = e ≡ Limit which (limit_number Delta which)

-- The file at the path has more bytes than are read.
abbrev pub IsLargeFile : Files → List ℕ → CompactFault → Type 0
IsLargeFile files path e = (bytes : List ℕ) × (map.get files path ≡ Some bytes) × (MAX_FILE_BYTES < length bytes) × (e ≡ Limit limit.File MAX_FILE_BYTES)

-- The bytes aren't a commit that can be read, for their first line at fault; or they are one, and it can't be taken over the table before it.
abbrev pub IsUntaken : List ℕ → Option Table → DeltaError → Type 0
IsUntaken bytes base cause = IsFirstFault bytes cause ⊎ ((c : DeltaCommit) × IsReadableCommit bytes c × IsChangeRefusal c base cause)

-- The file at the path is refused by itself, or over the table before it.
abbrev pub IsFileRefusal : Files → List ℕ → Option Table → CompactFault → Type 0
IsFileRefusal files path base e =
    IsLargeFile files path e ⊎ ((bytes : List ℕ) × (cause : DeltaError) × (map.get files path ≡ Some bytes) × IsUntaken bytes base cause × TellsFile path cause e)

-- One of the files is refused so, and those before it are read.
pub record StopsAtPart (files : Files) (head : ℕ) (e : CompactFault) : Type 0 where
  pub blocks : ℕ
  pub are : AreBlocksOf head blocks
  pub part : ℕ
  pub within : part < part_count head blocks
  pub base : Option Table
  pub before : AreReadParts files blocks part base
  pub path : List ℕ
  pub is : IsPartPath blocks part path
  pub refused : IsFileRefusal files path base e

-- The head is past the greatest number of a version.
abbrev pub IsPastVersions : ℕ → CompactFault → Type 0
IsPastVersions head e = (MAX_DELTA_VERSION < head) × (e ≡ Limit limit.Versions MAX_DELTA_VERSION)

-- A version up to the head isn't there, and the greatest such one is told.
abbrev pub LacksAny : Files → ℕ → CompactFault → Type 0
LacksAny files head e = (cause : SourceError) × LacksVersion files head cause × (e ≡ of_source cause)

-- Why the log up to the head isn't read so, in the order in which it is told.
abbrev pub IsUnreadUpTo : Files → ℕ → CompactFault → Type 0
IsUnreadUpTo files head e = IsPastVersions head e ⊎ (LacksAny files head e ⊎ (HasEach files head × StopsAtPart files head e))

-- what reading a log can tell: not that there is no table, that another writer was in the way, or that a log compaction is stale
abbrev pub IsOfReading : CompactFault → Type 0
IsOfReading Absent = ⊥
IsOfReading Contested = ⊥
IsOfReading (Stale path) = ⊥
IsOfReading _ = Unit {0}
