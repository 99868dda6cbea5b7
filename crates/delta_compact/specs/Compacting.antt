-- What compacting a Delta log leaves, at each moment and at the end.
use Rattle.std.specs.Prelude.{◌≡◌, ◌≢◌, ◌⊎◌, ◌<◌, ◌≤◌, ◌+◌, ◌*◌, ℕ, zero, suc, List, length, Option, Some, None, codes}
use Rattle.std.specs.FinMap as map
use Rattle.lake_store.specs.Disk.{Disk, Files, IsClean}
use Rattle.lake_store.specs.Runs.{IsEachMoment}
use Rattle.lake_store.specs.declared.store.Store.{Ghosts}
use Rattle.table_history.specs.declared.table.Table.{Table}
use Rattle.delta_compact.specs.Blocks.{HasCompaction, IsBlockPath, IsBlockText, IsCompacted, IsWithin}
use Rattle.delta_compact.specs.Refusals.{AreJoinable, IsStale, IsWhole}
use Rattle.delta_compact.specs.declared.compacting.Compacted.{Compacted}

-- the path under which a log compaction is written before it gets its name
abbrev pub staged_path : List ℕ
staged_path = codes ".lakebridge/compact.json"

-- ---- at each moment

-- At the path of a log compaction of one of these blocks there was no file, and now there are just these bytes: what is written for the block.
pub record IsGained (Blocks : ℕ → Type 0) (before : Files) (path : List ℕ) (now : Option (List ℕ)) : Type 0 where
  pub absent : map.get before path ≡ None
  pub block : ℕ
  pub among : Blocks block
  pub is : IsBlockPath path block
  pub text : List ℕ
  pub made : IsBlockText before block text
  pub there : now ≡ Some text

-- There was no file at the path of a block's log compaction, and another writer's may have come there.
pub record IsOthers (Taken : ℕ → Type 0) (before : Files) (path : List ℕ) : Type 0 where
  pub absent : map.get before path ≡ None
  pub block : ℕ
  pub taken : Taken block
  pub is : IsBlockPath path block

-- Each file stays as it was, but for the staged one; and log compactions that weren't there may be there now, each whole.
abbrev pub IsKeptOrGained : (ℕ → Type 0) → (ℕ → Type 0) → Files → List ℕ → Option (List ℕ) → Type 0
IsKeptOrGained Blocks Taken before path now =
    (now ≡ map.get before path) ⊎ (IsGained Blocks before path now ⊎ IsOthers Taken before path)

pub record IsCompactedOver (Blocks Taken : ℕ → Type 0) (old new : Disk) : Type 0 where
  pub files : (path : List ℕ) → path ≢ staged_path → IsKeptOrGained Blocks Taken old.files path (map.get new.files path)
  -- no path but the staged one has become dirty
  pub clean : (path : List ℕ) → path ≢ staged_path → IsClean old path → IsClean new path

-- So it is after a crash, at the paths that weren't dirty before.
abbrev pub IsCompactedImage : (ℕ → Type 0) → (ℕ → Type 0) → Disk → Files → Type 0
IsCompactedImage Blocks Taken old image =
    (path : List ℕ) → path ≢ staged_path → IsClean old path → IsKeptOrGained Blocks Taken old.files path (map.get image path)

-- So it is at return, and at each moment since: of these blocks a log compaction may have come, and of those another writer's.
pub record Compacts {S : Type 0} (store : Ghosts S) (Blocks Taken : ℕ → Type 0) (old new : S) : Type 0 where
  pub disk : IsCompactedOver Blocks Taken (store.disk old) (store.disk new)
  pub moments : IsEachMoment store old new (IsCompactedImage Blocks Taken (store.disk old))

abbrev pub NoBlock : ℕ → Type 0
NoBlock block = ⊥

-- The blocks before this one have log compactions that agree. Nothing is done behind it, and another writer was in the way there alone, where one was.
pub record CompactsUpTo {S : Type 0} (store : Ghosts S) (end : ℕ) (Contest : Type 0) (old new : S) : Type 0 where
  pub compacts : Compacts store (λ block. block ≤ end) (λ block. (block ≡ end) × Contest) old new
  pub earlier : (block : ℕ) → block < end → IsCompacted (store.disk new).files block

-- So have those before this one, and nothing is done at it.
pub record StopsBefore {S : Type 0} (store : Ghosts S) (end : ℕ) (old new : S) : Type 0 where
  pub compacts : Compacts store (λ block. block < end) NoBlock old new
  pub earlier : (block : ℕ) → block < end → IsCompacted (store.disk new).files block

-- ---- at the end

-- Of the blocks before this one, so many have a log compaction.
abbrev pub HaveCompactions : Files → ℕ → ℕ → Type 0
HaveCompactions files zero count = count ≡ 0
HaveCompactions files (suc block) count =
    (before : ℕ) × HaveCompactions files block before
    × ((HasCompaction files block × (count ≡ before + 1)) ⊎ ((¬ HasCompaction files block) × (count ≡ before)))

-- so many whole blocks of ten versions lie up to the newest one
pub record AreBlocksOf (newest blocks : ℕ) : Type 0 where
  pub all : 10 * blocks ≤ newest + 1
  pub last : newest + 1 < 10 * blocks + 10

-- Each block up to the newest version has a log compaction that agrees with its commits, and none was stale. Those that were there are counted as kept,
-- and the others as written.
pub record AreCompacted (before after : Files) (newest written kept : ℕ) : Type 0 where
  pub fresh : (block : ℕ) → IsWithin newest block → ¬ IsStale before block
  pub compacted : (block : ℕ) → IsWithin newest block → IsCompacted after block
  pub blocks : ℕ
  pub are : AreBlocksOf newest blocks
  pub kept_there : HaveCompactions before blocks kept
  pub others : written + kept ≡ blocks

-- So it is where the log could be read whole and each block could be joined. The files are those that are live at the newest version.
pub record IsDone (before after : Files) (compacted : Compacted) : Type 0 where
  pub table : Table
  pub whole : IsWhole before compacted.head table
  pub files : compacted.files ≡ length table.rows
  pub joinable : AreJoinable before compacted.head
  pub blocks : AreCompacted before after compacted.head compacted.written compacted.kept
