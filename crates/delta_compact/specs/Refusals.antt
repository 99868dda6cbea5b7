-- Why a Delta log isn't compacted.
use Rattle.std.specs.Prelude.{◌≡◌, ◌⊎◌, ◌<◌, ◌≤◌, ◌+◌, ◌*◌, ℕ, List, length}
use Rattle.lake_basics.specs.declared.limits.TheConstants.{MAX_ACTIONS, MAX_FILE_BYTES, MAX_NAMES}
use Rattle.lake_store.specs.Disk.{Files, names_in}
use Rattle.lake_store.specs.declared.store.StoreError.{StoreError}
use Rattle.lake_store.specs.declared.store.StoreError.TheVariants as store
use Rattle.table_history.specs.Words.{limit_number}
use Rattle.table_history.specs.declared.kind.Kind.TheVariants.{Delta}
use Rattle.table_history.specs.declared.limit.LimitKind.TheVariants as limit
use Rattle.table_history.specs.declared.table.Table.{Table}
use Rattle.delta_log.specs.declared.commit.DeltaCommit.{DeltaCommit}
use Rattle.delta_table.specs.Versions.{IsVersionPath, log_folder}
use Rattle.delta_compaction.specs.declared.error.CompactError.{CompactError}
use Rattle.delta_compaction.specs.declared.error.CompactError.TheVariants as join
use Rattle.delta_compaction.specs.declared.key.LineKey.{LineKey}
use Rattle.delta_compaction.specs.Agreeing.{Agrees}
use Rattle.delta_compaction.specs.Reconciled.{AreNewest}
use Rattle.delta_compaction.specs.Taken.{AreTaken, IsFirstRefused}
use Rattle.source_core.specs.Answers.{IsHeadRefusal, IsReadRefusal}
use Rattle.source_core.specs.declared.error.SourceError.{SourceError}
use Rattle.source_core.specs.declared.error.SourceError.TheVariants as source
use Rattle.source_core.specs.declared.head.Head.{Head}
use Rattle.source_delta.specs.Heads.{IsAbsent, IsDeltaHead, IsNewest, IsTableAtHead}
use Rattle.source_delta.specs.Reading.{ShowsAtHead, ShowsFromScratch}
use Rattle.delta_compact.specs.Blocks.{HoldsBlock, HoldsCompaction, IsBlockPath, IsWithin}
use Rattle.delta_compact.specs.Joinable.{IsJoinable, file_count, whole_length}
use Rattle.delta_compact.specs.declared.error.CompactFault.{CompactFault}
use Rattle.delta_compact.specs.declared.error.CompactFault.TheVariants.{Memory, Absent, Malformed, Unsupported, Limit, Contested, Stale, StoreFault}

-- Want of memory, a fault of the store and another writer have no cause in the files.
abbrev pub HasCause : (CompactFault → Type 0) → CompactFault → Type 0
HasCause Shows Memory = Unit {0}
HasCause Shows StoreFault = Unit {0}
HasCause Shows Contested = Unit {0}
HasCause Shows Absent = Shows Absent
HasCause Shows (Malformed path) = Shows (Malformed path)
HasCause Shows (Unsupported feature path) = Shows (Unsupported feature path)
HasCause Shows (Limit which number) = Shows (Limit which number)
HasCause Shows (Stale path) = Shows (Stale path)

-- how a refusal of the store is told, where a log compaction is written; no write is too long for it
abbrev pub of_store : StoreError → CompactFault
of_store store.Memory = Memory
of_store store.Failed = StoreFault
of_store (store.TooLong n) = Memory
of_store store.Taken = Contested

-- ---- reading the log whole

-- how a refusal of the Delta source is told
abbrev pub of_source : SourceError → CompactFault
of_source source.Memory = Memory
of_source source.Absent = Absent
of_source (source.Malformed path) = Malformed path
of_source (source.Unsupported feature path) = Unsupported feature path
of_source (source.Limit which number) = Limit which number
of_source source.StoreFault = StoreFault

-- The Delta source refuses to tell the head, or to read the table there from scratch.
abbrev pub IsSourceRefusal : Files → SourceError → Type 0
IsSourceRefusal files e =
    IsHeadRefusal (IsAbsent files) (ShowsAtHead files) e ⊎ ((head : Head) × IsDeltaHead files head × IsReadRefusal (ShowsFromScratch files) e)

abbrev pub IsUnread : Files → CompactFault → Type 0
IsUnread files e = (cause : SourceError) × IsSourceRefusal files cause × (e ≡ of_source cause)

-- ---- joining a block's commits

-- how it is told why a block's commits can't be joined
abbrev pub TellsJoin : ℕ → CompactError → CompactFault → Type 0
TellsJoin block join.Memory e = e ≡ Memory
TellsJoin block (join.Malformed index line) e = (path : List ℕ) × IsVersionPath path (10 * block + index) × (e ≡ Malformed path)
TellsJoin block (join.Unsupported feature index line) e = (path : List ℕ) × IsVersionPath path (10 * block + index) × (e ≡ Unsupported feature path)
TellsJoin block (join.Limit which) e = e ≡ Limit which (limit_number Delta which)

-- The first of the commits that can't be joined is told.
abbrev pub IsUnjoined : ℕ → List (List ℕ) → CompactFault → Type 0
IsUnjoined block commits e = (cause : CompactError) × IsFirstRefused commits cause × TellsJoin block cause e

-- Together the commits have more bytes than one file may have.
abbrev pub IsLong : List (List ℕ) → CompactFault → Type 0
IsLong commits e = (MAX_FILE_BYTES < whole_length commits) × (e ≡ Limit limit.File MAX_FILE_BYTES)

-- They can be joined, and their newest lines have more file actions than one commit may have.
pub record HaveManyActions (commits : List (List ℕ)) (e : CompactFault) : Type 0 where
  pub said : List DeltaCommit
  pub taken : AreTaken commits said
  pub entries : List (LineKey × List ℕ)
  pub newest : AreNewest commits entries
  pub many : MAX_ACTIONS < file_count entries
  pub told : e ≡ Limit limit.Actions MAX_ACTIONS

-- Why the block's commits can't be joined. What is told first is that they are too long.
abbrev pub IsUnjoinable : Files → ℕ → CompactFault → Type 0
IsUnjoinable files block e =
    (commits : List (List ℕ)) × HoldsBlock files block commits
    × (IsLong commits e ⊎ ((whole_length commits ≤ MAX_FILE_BYTES) × (IsUnjoined block commits e ⊎ HaveManyActions commits e)))

-- Some block up to the newest version can't be joined, and is the first such one.
abbrev pub HasUnjoinable : Files → ℕ → CompactFault → Type 0
HasUnjoinable files newest e =
    (block : ℕ) × IsWithin newest block × ((earlier : ℕ) → earlier < block → IsJoinable files earlier) × IsUnjoinable files block e

-- ---- log compactions that are there

-- A file is there under the name of the block's log compaction that has more bytes than are read, or doesn't agree with the block's commits.
pub record IsStale (files : Files) (block : ℕ) : Type 0 where
  pub bytes : List ℕ
  pub there : HoldsCompaction files block bytes
  pub cause : (MAX_FILE_BYTES < length bytes) ⊎ ((commits : List (List ℕ)) × HoldsBlock files block commits × ¬ Agrees bytes commits)

-- The first such block up to the newest version is told.
abbrev pub HasStale : Files → ℕ → CompactFault → Type 0
HasStale files newest e =
    (block : ℕ) × (path : List ℕ) × IsWithin newest block × ((earlier : ℕ) → earlier < block → ¬ IsStale files earlier)
    × IsStale files block × IsBlockPath path block × (e ≡ Stale path)

-- ---- all causes, in the order in which they are told

-- Every block up to the newest version can be joined.
abbrev pub AreJoinable : Files → ℕ → Type 0
AreJoinable files newest = (block : ℕ) → IsWithin newest block → IsJoinable files block

-- The log can be read whole.
pub record IsWhole (files : Files) (newest : ℕ) (table : Table) : Type 0 where
  pub few : length (names_in files log_folder) ≤ MAX_NAMES
  pub is : IsNewest files newest
  pub head : IsTableAtHead files table

-- The log can't be read whole; or it can, and a block can't be joined; or each can, and a log compaction that is there is stale.
abbrev pub IsRefused : Files → CompactFault → Type 0
IsRefused files e =
    IsUnread files e
    ⊎ ((newest : ℕ) × (table : Table) × IsWhole files newest table
    × (HasUnjoinable files newest e ⊎ (AreJoinable files newest × HasStale files newest e)))

-- The refusal comes before the first write.
abbrev pub IsEarly : CompactFault → Type 0
IsEarly Memory = ⊥
IsEarly StoreFault = ⊥
IsEarly Contested = ⊥
IsEarly Absent = Unit {0}
IsEarly (Malformed path) = Unit {0}
IsEarly (Unsupported feature path) = Unit {0}
IsEarly (Limit which number) = Unit {0}
IsEarly (Stale path) = ⊥
