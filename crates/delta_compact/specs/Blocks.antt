-- Blocks of ten versions, 10 b to 10 b + 9, and their log compactions (Delta protocol, "Log Compaction Files").
use Rattle.std.specs.Prelude.{◌≡◌, ◌≤◌, ◌+◌, ◌*◌, ℕ, List, [], ◌∷◌, ◌++◌, length, Some, codes}
use Rattle.std.specs.FinMap as map
use Rattle.lake_store.specs.Disk.{Files}
use Rattle.delta_log.specs.declared.commit.DeltaCommit.{DeltaCommit}
use Rattle.delta_table.specs.Versions.{HoldsVersion}
use Rattle.delta_compaction.specs.Agreeing.{Agrees}
use Rattle.delta_compaction.specs.RangeName.{IsPaddedRange}
use Rattle.delta_compaction.specs.Reconciled.{IsReconciled}
use Rattle.delta_compaction.specs.Taken.{AreTaken}

-- The versions from this one on are there, one after another, with these bytes.
abbrev pub HoldVersions : Files → ℕ → List (List ℕ) → Type 0
HoldVersions files version [] = Unit {0}
HoldVersions files version (bytes ∷ commits) = HoldsVersion files version bytes × HoldVersions files (version + 1) commits

-- The ten versions of the block are there, with these bytes.
pub record HoldsBlock (files : Files) (block : ℕ) (commits : List (List ℕ)) : Type 0 where
  pub count : length commits ≡ 10
  pub there : HoldVersions files (10 * block) commits

-- The block lies up to the newest version.
abbrev pub IsWithin : ℕ → ℕ → Type 0
IsWithin newest block = 10 * block + 9 ≤ newest

-- the path of the block's log compaction
pub record IsBlockPath (path : List ℕ) (block : ℕ) : Type 0 where
  pub name : List ℕ
  pub named : IsPaddedRange name (10 * block) (10 * block + 9)
  pub split : path ≡ codes "_delta_log/" ++ name

-- A file is there under the name of the block's log compaction, with these bytes.
pub record HoldsCompaction (files : Files) (block : ℕ) (bytes : List ℕ) : Type 0 where
  pub path : List ℕ
  pub is : IsBlockPath path block
  pub there : map.get files path ≡ Some bytes

abbrev pub HasCompaction : Files → ℕ → Type 0
HasCompaction files block = (bytes : List ℕ) × HoldsCompaction files block bytes

-- what is written for the block: the newest lines of its commits
abbrev pub IsBlockText : Files → ℕ → List ℕ → Type 0
IsBlockText files block text = (commits : List (List ℕ)) × HoldsBlock files block commits × IsReconciled commits text

-- The block's commits can be joined, and its log compaction is there and agrees with them.
pub record IsCompacted (files : Files) (block : ℕ) : Type 0 where
  pub commits : List (List ℕ)
  pub held : HoldsBlock files block commits
  pub said : List DeltaCommit
  pub taken : AreTaken commits said
  pub text : List ℕ
  pub there : HoldsCompaction files block text
  pub agrees : Agrees text commits
