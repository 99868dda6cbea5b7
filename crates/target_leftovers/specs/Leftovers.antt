-- What interrupted commits leave in a target's folder that no published commit reaches.
use Rattle.std.specs.Prelude.{◌≡◌, ℕ, List, ◌++◌, codes}
use Rattle.lake_store.specs.Disk.{Files}
use Rattle.table_history.specs.declared.kind.Kind.{Kind}
use Rattle.table_history.specs.declared.kind.Kind.TheVariants.{Delta, Hudi, Iceberg}
use Rattle.hudi_names.specs.Time.{IsDigits}
use Rattle.hudi_commit.specs.Names.{IsThere, Stage, claim_path, completed_path, pending_path, staged_properties_path}
use Rattle.iceberg_table.specs.Folder.{path_of}
use Rattle.target_leftovers.specs.Names.{IsDeltaName, IsIcebergName}
use Rattle.target_leftovers.specs.Reached.{IsReached}

-- a version that was staged and not published
pub record IsDeltaLeftover (path : List ℕ) : Type 0 where
  pub name : List ℕ
  pub named : IsDeltaName name
  pub is : path ≡ codes "_delta_log/" ++ name

-- a file of a version that wasn't published: no version that is there reaches it
pub record IsIcebergLeftover (files : Files) (path : List ℕ) : Type 0 where
  pub name : List ℕ
  pub named : IsIcebergName name
  pub is : path ≡ path_of name
  pub unreached : ¬ IsReached files path

-- the claim of an instant of 17 digits
pub record IsClaim (path : List ℕ) : Type 0 where
  pub instant : List ℕ
  pub digits : IsDigits instant
  pub is : path ≡ claim_path instant

-- a pending name of an instant of 17 digits that is claimed and isn't completed
pub record IsPendingClaimed (files : Files) (path : List ℕ) : Type 0 where
  pub stage : Stage
  pub instant : List ℕ
  pub digits : IsDigits instant
  pub is : path ≡ pending_path stage instant
  pub claimed : IsThere files (claim_path instant)
  pub lacking : ¬ IsThere files (completed_path instant)

-- the properties before they were published, the claim of an instant, or a pending name of one that is claimed and isn't completed
pub data IsHudiLeftover (files : Files) (path : List ℕ) : Type 0 where
  properties : path ≡ staged_properties_path → IsHudiLeftover files path
  claim : IsClaim path → IsHudiLeftover files path
  pending : IsPendingClaimed files path → IsHudiLeftover files path

-- a leftover of a target of this format, where it is there
abbrev pub IsLeftoverOf : Kind → Files → List ℕ → Type 0
IsLeftoverOf Delta files path = IsDeltaLeftover path
IsLeftoverOf Iceberg files path = IsIcebergLeftover files path
IsLeftoverOf Hudi files path = IsHudiLeftover files path

-- The path is there, and it is a leftover.
pub record IsLeftover (kind : Kind) (files : Files) (path : List ℕ) : Type 0 where
  pub there : IsThere files path
  pub leftover : IsLeftoverOf kind files path
