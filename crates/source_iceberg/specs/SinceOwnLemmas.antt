-- The commits of an Iceberg table after a snapshot, and the histories that its files hold, depend on the folder of its metadata alone.
use Rattle.std.proofs.Common.{inl, inr, ℕ, List, [], ◌∷◌}
use Rattle.std.specs.Prelude.{reverse}
use Rattle.lake_store.specs.Disk.{Files}
use Rattle.table_history.specs.History.{History}
use Rattle.table_history.specs.declared.table.Commit.{Commit}
use Rattle.table_history.specs.declared.table.Table.{Table}
use Rattle.iceberg_metadata.specs.declared.metadata.Metadata.{Metadata}
use Rattle.iceberg_metadata.specs.declared.metadata.Snapshot.{Snapshot}
use Rattle.iceberg_table.specs.Folder.{metadata_folder}
use Rattle.iceberg_table.specs.OwnFolder.{read_as_too, table_too}
use Rattle.iceberg_table.specs.declared.manifest.Manifest.{Manifest}
use Rattle.iceberg_table.specs.declared.snapshot.SnapshotTable.{SnapshotTable}
use Rattle.source_core.specs.declared.error.SourceError.{SourceError}
use Rattle.target_core.specs.Folders.{SameIn}
use Rattle.target_core.specs.FolderLemmas.{same_back}
use Rattle.source_iceberg.specs.Histories.{AreEntriesOf, HoldsHistory, IsEntryOf}
use Rattle.source_iceberg.specs.OwnLemmas.{newest_metadata_own, refused_own, states_own}
use Rattle.source_iceberg.specs.Since.{AreCommits, AreCommitsOver, IsCommitOf, IsReached, IsRefusedBehind, IsSince, Reaches, ShowsBehind, ShowsFromPosition, ShowsInLater, StopsBehind}

reached_own : (a b : Files) → SameIn metadata_folder a b → (position : List ℕ) (version : ℕ) (m : Metadata) (later : List Snapshot) → IsReached a position version m later → IsReached b position version m later
reached_own a b same position version m later h = record { metadata = newest_metadata_own a b same version m h.metadata; ancestors = h.ancestors; are = h.are; behind = h.behind }

pub reaches_own : (a b : Files) (position : List ℕ) → SameIn metadata_folder a b → Reaches a position → Reaches b position
reaches_own a b position same h = (h.0, h.1, h.2, reached_own a b same position h.0 h.1 h.2 h.3)

-- ---- the commits

commit_own : (a b : Files) → SameIn metadata_folder a b → (m : Metadata) (before : Table) (s : Snapshot) (commit : Commit) (own : SnapshotTable) → IsCommitOf a m before s commit own → IsCommitOf b m before s commit own
commit_own a b same m before s commit own h = record {
  position = h.position;
  read = read_as_too a b same m s own h.read;
  is = table_too a b same m s own.table h.is;
  partition = h.partition;
  unchanged = h.unchanged;
  rows = h.rows;
  schema = h.schema;
}

commits_own : (a b : Files) → SameIn metadata_folder a b → (m : Metadata) (base : Table) (snapshots : List Snapshot) (commits : List Commit) (last : Table) (read : List Manifest)
    → AreCommits a m base snapshots commits last read → AreCommits b m base snapshots commits last read
commits_own a b same m base [] commits last read h = h
commits_own a b same m base (s ∷ ss) commits last read h =
    (h.0, h.1, h.2, h.3, h.4, commit_own a b same m base s h.0 h.2 h.5, commits_own a b same m h.2.table ss h.1 last h.3 h.6, h.7)

over_own : (a b : Files) → SameIn metadata_folder a b → (m : Metadata) (base : Table) (snapshots : List Snapshot) (commits : List Commit) → AreCommitsOver a m base snapshots commits → AreCommitsOver b m base snapshots commits
over_own a b same m base snapshots commits h = record {
  unchanged = h.unchanged;
  few = h.few;
  behind = record {
    last = h.behind.last;
    read = h.behind.read;
    are = commits_own a b same m base snapshots commits h.behind.last h.behind.read h.behind.are;
    few = h.behind.few;
  };
}

pub since_own : (a b : Files) (position : List ℕ) (base : Table) (commits : List Commit) → SameIn metadata_folder a b → IsSince a position base commits → IsSince b position base commits
since_own a b position base commits same h = record {
  version = h.version;
  metadata = h.metadata;
  later = h.later;
  reached = reached_own a b same position h.version h.metadata h.later h.reached;
  over = over_own a b same h.metadata base h.later commits h.over;
}

-- ---- causes

refused_behind_own : (a b : Files) → SameIn metadata_folder a b → (version : ℕ) (m : Metadata) (before : Table) (read : List Manifest) (s : Snapshot) (e : SourceError) → IsRefusedBehind a version m before read s e → IsRefusedBehind b version m before read s e
refused_behind_own a b same version m before read s e (inl h) = inl h
refused_behind_own a b same version m before read s e (inr (kept, inl h)) = inr (kept, inl (refused_own a b same m version s e h))
refused_behind_own a b same version m before read s e (inr (kept, inr h)) = inr (kept, inr (h.0, read_as_too a b same m s h.0 h.1, h.2))

stops_own : (a b : Files) → SameIn metadata_folder a b → (version : ℕ) (m : Metadata) (base : Table) (snapshots : List Snapshot) (e : SourceError) → StopsBehind a version m base snapshots e → StopsBehind b version m base snapshots e
stops_own a b same version m base snapshots e h = record {
  front = h.front;
  snapshot = h.snapshot;
  behind = h.behind;
  split = h.split;
  commits = h.commits;
  before = h.before;
  read = h.read;
  taken = commits_own a b same m base h.front h.commits h.before h.read h.taken;
  few = h.few;
  refused = refused_behind_own a b same version m h.before h.read h.snapshot e h.refused;
}

in_later_own : (a b : Files) → SameIn metadata_folder a b → (version : ℕ) (m : Metadata) (base : Table) (later : List Snapshot) (e : SourceError) → ShowsInLater a version m base later e → ShowsInLater b version m base later e
in_later_own a b same version m base later e (inl h) = inl h
in_later_own a b same version m base later e (inr h) = inr (h.0, stops_own a b same version m base later e h.1)

behind_own : (a b : Files) → SameIn metadata_folder a b → (version : ℕ) (m : Metadata) (base : Table) (later : List Snapshot) (e : SourceError) → ShowsBehind a version m base later e → ShowsBehind b version m base later e
behind_own a b same version m base later e (inl h) = inl h
behind_own a b same version m base later e (inr h) = inr (h.0, in_later_own a b same version m base later e h.1)

pub from_position_own : (a b : Files) (position : List ℕ) (base : Table) (e : SourceError) → SameIn metadata_folder a b → ShowsFromPosition a position base e → ShowsFromPosition b position base e
from_position_own a b position base e same h = (h.0, h.1, h.2, reached_own a b same position h.0 h.1 h.2 h.3, behind_own a b same h.0 h.1 base h.2 e h.4)

-- ---- histories

entry_own : (a b : Files) → SameIn metadata_folder a b → (m : Metadata) (s : Snapshot) (entry : List ℕ × Table) → IsEntryOf a m s entry → IsEntryOf b m s entry
entry_own a b same m s entry h = record {
  position = h.position;
  table = λ read is. table_too a b same m s entry.1 (h.table read (read_as_too b a (same_back metadata_folder a b same) m s read is));
}

entries_own : (a b : Files) → SameIn metadata_folder a b → (m : Metadata) (snapshots : List Snapshot) (entries : History) → AreEntriesOf a m snapshots entries → AreEntriesOf b m snapshots entries
entries_own a b same m [] entries h = h
entries_own a b same m (s ∷ ss) entries h = (h.0, h.1, h.2, entry_own a b same m s h.0 h.3, entries_own a b same m ss h.1 h.4)

pub holds_own : (a b : Files) (history : History) → SameIn metadata_folder a b → HoldsHistory a history → HoldsHistory b history
holds_own a b history same h = record {
  version = h.version;
  metadata = h.metadata;
  newest = states_own a b same h.version h.metadata h.newest;
  ancestors = h.ancestors;
  are = h.are;
  earlier = h.earlier;
  kept = h.kept;
  split = h.split;
  entries = entries_own a b same h.metadata (reverse h.ancestors) h.kept h.entries;
}
