-- The snapshots behind a position, and what they have made so far.
use Rattle.std.specs.Prelude.{◌≡◌, ◌≢◌, ◌+◌, ℕ, List, [], ◌∷◌, ◌++◌, take, drop, reverse, Contains}
use Rattle.std.specs.Fmt.{signed_decimal}
use Rattle.lake_store.specs.Disk.{Files}
use Rattle.table_history.specs.Tables.{CanApply, IsAfter}
use Rattle.table_history.specs.declared.table.Commit.{Commit}
use Rattle.target_core.specs.Conditions.{IsPublishable}
use Rattle.iceberg_ancestry.specs.Ancestry.{IsAncestry}
use Rattle.iceberg_metadata.specs.declared.metadata.Metadata.{Metadata}
use Rattle.iceberg_metadata.specs.declared.metadata.Snapshot.{Snapshot}
use Rattle.iceberg_table.specs.declared.manifest.Manifest.{Manifest}
use Rattle.iceberg_table.specs.declared.snapshot.SnapshotTable.{SnapshotTable}
use Rattle.source_iceberg.specs.Counted.{Counts}
use Rattle.source_iceberg.specs.Since.{IsBehind, IsCommitOf}
use Rattle.source_iceberg.specs.declared.since.Later.{Later}

-- none of the snapshots has this position
abbrev pub HasNone : List Snapshot → List ℕ → Type 0
HasNone snapshots position = (s : Snapshot) → Contains snapshots s → position ≢ signed_decimal s.id

-- The snapshots ahead of the first that has this position are these.
pub record AreAhead (snapshots : List Snapshot) (position : List ℕ) (ahead : List Snapshot) : Type 0 where
  pub at : Snapshot
  pub rest : List Snapshot
  pub split : snapshots ≡ ahead ++ at ∷ rest
  pub spelled : position ≡ signed_decimal at.id
  pub others : HasNone ahead position

-- The snapshot at this place is the first of this position.
pub record IsFirstAt (snapshots : List Snapshot) (position : List ℕ) (place : ℕ) : Type 0 where
  pub at : Snapshot
  pub is : drop place snapshots ≡ at ∷ drop (place + 1) snapshots
  pub spelled : position ≡ signed_decimal at.id
  pub others : HasNone (take place snapshots) position

abbrev pub Begins : List ℕ → List Snapshot → Type 0
Begins position [] = Unit {0}
Begins position (s ∷ ss) = position ≡ signed_decimal s.id

-- These are the snapshots from the first of this position on, or none where there is no such snapshot.
pub record AreFrom (snapshots : List Snapshot) (position : List ℕ) (from : List Snapshot) : Type 0 where
  pub ahead : List Snapshot
  pub split : snapshots ≡ ahead ++ from
  pub others : HasNone ahead position
  pub begins : Begins position from

-- These are the current snapshot's ancestors from the head's snapshot on, or none where the head is that of no ancestor.
pub record AreUpTo (m : Metadata) (head : List ℕ) (ancestors : List Snapshot) : Type 0 where
  pub all : List Snapshot
  pub are : IsAncestry m all
  pub from : AreFrom all head ancestors

-- The position is that of none of these ancestors.
abbrev pub IsNotBehind : List Snapshot → List ℕ → Type 0
IsNotBehind ancestors position = (later : List Snapshot) → ¬ IsBehind (reverse ancestors) position later

-- The ancestors behind the one of this position are these, the oldest first.
abbrev pub IsFoundBehind : List Snapshot → List ℕ → List Snapshot → Type 0
IsFoundBehind ancestors position later = IsBehind (reverse ancestors) position later

-- The snapshot's commit is behind those before, the table is the snapshot's own, and its manifests count too.
pub record IsOneMore (files : Files) (m : Metadata) (s : Snapshot) (before after : Later) : Type 0 where
  pub commit : Commit
  pub own : SnapshotTable
  pub commits : after.commits ≡ before.commits ++ commit ∷ []
  pub is : IsCommitOf files m before.table s commit own
  pub table : after.table ≡ own.table
  pub counted : (read : List Manifest) → Counts read before.counted → Counts (read ++ own.manifests) after.counted

-- There is one commit more. Its change fits the table before it, leads to the one after it, and that one may be published.
pub record GoesOnBy (before after : Later) : Type 0 where
  pub commit : Commit
  pub commits : after.commits ≡ before.commits ++ commit ∷ []
  pub fits : CanApply before.table commit.change
  pub leads : IsAfter before.table commit.change after.table
  pub sound : IsPublishable after.table
