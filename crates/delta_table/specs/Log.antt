-- What the versions of a Delta table's log say one after another: the table that they make, and which of their files are live in it
-- (Delta protocol, "Action Reconciliation").
use Rattle.std.specs.Prelude.{◌≡◌, ◌↔◌, ◌<◌, ℕ, zero, suc, List, Contains, Option, Some, None}
use Rattle.lake_store.specs.Disk.{Files}
use Rattle.table_history.specs.First.{NoneOf}
use Rattle.table_history.specs.Row.{Row}
use Rattle.table_history.specs.declared.table.Table.{Table}
use Rattle.delta_live.specs.Live.{AreRowsBehind, PartColumns, ActsOn, AddsRow, ArePartColumns}
use Rattle.delta_change.specs.Change.{CanFollow, IsOutsideGrammar, Shows, commit_features}
use Rattle.delta_log.specs.Readable.{IsReadableCommit}
use Rattle.delta_change.specs.TableBehind.{IsSchemaBehind, partition_behind, rows_before}
use Rattle.delta_log.specs.declared.commit.DeltaCommit.{DeltaCommit}
use Rattle.delta_log.specs.declared.commit.FileAction.{FileAction}
use Rattle.delta_log.specs.declared.commit.MetaData.{MetaData}
use Rattle.delta_log.specs.declared.commit.Protocol.{Protocol}
use Rattle.delta_table.specs.Versions.{HoldsVersion}
use Rattle.delta_table.specs.declared.log.Log.{Log}

-- The commit of the version is there, can be read, and says this.
pub record SaysCommit (files : Files) (version : ℕ) (c : DeltaCommit) : Type 0 where
  pub bytes : List ℕ
  pub holds : HoldsVersion files version bytes
  pub readable : IsReadableCommit bytes c

-- The commit is taken over the table before it, and `next` is the table behind it: its schema and partition columns are those behind the commit,
-- and its rows those that the commit adds and those before on whose paths it doesn't act.
pub record IsStep (c : DeltaCommit) (base : Option Table) (next : Table) : Type 0 where
  pub grammar : ¬ IsOutsideGrammar c base
  pub supported : NoneOf (Shows c base) commit_features
  pub schema : IsSchemaBehind c.meta base next.schema
  pub partition : next.partition ≡ partition_behind c.meta base
  pub columns : PartColumns
  pub kinds : ArePartColumns next.schema next.partition columns
  pub rows : AreRowsBehind columns (rows_before base) c next.rows

-- So is it taken by a reading, which asks too that no number is passed.
abbrev pub IsTaken : DeltaCommit → Option Table → Table → Type 0
IsTaken c base next = IsStep c base next × CanFollow c base

-- The versions before this one are there and can be read, and make this table, each taken so over what those before it make. Before version 0 there is none.
abbrev pub IsLogBy : (DeltaCommit → Option Table → Table → Type 0) → Files → ℕ → Option Table → Type 0
IsLogBy Taken files zero last = last ≡ None
IsLogBy Taken files (suc version) last =
    (base : Option Table) × IsLogBy Taken files version base × (c : DeltaCommit) × SaysCommit files version c × (next : Table) × Taken c base next × (last ≡ Some next)

-- what the versions before this one stand for
abbrev pub IsLog : Files → ℕ → Option Table → Type 0
IsLog files count last = IsLogBy IsStep files count last

-- the same of a log that passes no number
abbrev pub IsReadLog : Files → ℕ → Option Table → Type 0
IsReadLog files count last = IsLogBy IsTaken files count last

-- ---- the newest actions

-- what the newest of the versions before this one that has such a part has there
pub record IsNewestPart {A : Type 0} (part : DeltaCommit → Option A) (files : Files) (count : ℕ) (a : A) : Type 0 where
  pub version : ℕ
  pub within : version < count
  pub commit : DeltaCommit
  pub says : SaysCommit files version commit
  pub is : part commit ≡ Some a
  pub last : (later : ℕ) (c : DeltaCommit) → version < later → later < count → SaysCommit files later c → part c ≡ None

abbrev pub IsNewestMeta : Files → ℕ → MetaData → Type 0
IsNewestMeta files count meta = IsNewestPart (λ c. c.meta) files count meta

abbrev pub IsNewestProtocol : Files → ℕ → Protocol → Type 0
IsNewestProtocol files count protocol = IsNewestPart (λ c. c.protocol) files count protocol

-- which version the newest metadata is from: this one, where its commit has metadata, or else the one so far
abbrev pub stated_at : Option MetaData → ℕ → ℕ → ℕ
stated_at None version so_far = so_far
stated_at (Some m) version so_far = version

-- the table, the newest metadata with the version that it is from, and the newest protocol, of so many versions
pub record IsLogOf (files : Files) (count : ℕ) (log : Log) : Type 0 where
  pub table : IsReadLog files count (Some log.table)
  pub meta : IsNewestMeta files count log.meta
  pub meta_version : log.meta_version ≡ meta.version
  pub protocol : IsNewestProtocol files count log.protocol

-- ---- live files

-- Some version before this one adds this row, and no later one before it has a file action on its path.
pub record IsLiveBefore (files : Files) (count : ℕ) (columns : PartColumns) (row : Row) : Type 0 where
  pub version : ℕ
  pub within : version < count
  pub commit : DeltaCommit
  pub says : SaysCommit files version commit
  pub action : FileAction
  pub acts : Contains commit.files action
  pub adds : AddsRow columns action row
  pub newest : (later : ℕ) (c : DeltaCommit) → version < later → later < count → SaysCommit files later c → ¬ ActsOn row.path c

-- The rows of the table are the live ones.
pub record HasLiveRows (files : Files) (count : ℕ) (table : Table) : Type 0 where
  pub columns : PartColumns
  pub kinds : ArePartColumns table.schema table.partition columns
  pub rows : (row : Row) → Contains table.rows row ↔ IsLiveBefore files count columns row
