-- When a crash can't change what a reader of the timeline sees.
use Rattle.std.specs.Prelude.{◌≡◌, ℕ, List, None}
use Rattle.std.specs.FinMap as map
use Rattle.lake_store.specs.Disk.{Disk, Files, IsClean, IsDirty}
use Rattle.lake_store.specs.Runs.{IsIn}
use Rattle.hudi_names.specs.Time.{IsDigits, IsSomeTime}
use Rattle.hudi_commit.specs.Names.{IsLeftover, IsThere, Stage, claim_path, pending_path, properties_path, timeline_folder}
use Rattle.hudi_commit.specs.Orderly.{IsAlike, IsOrderly}

-- no pending name of the instant is there, and none is dirty
pub record IsUnannounced (disk : Disk) (instant : List ℕ) : Type 0 where
  pub absent : (stage : Stage) → map.get disk.files (pending_path stage instant) ≡ None
  pub clean : (stage : Stage) → IsClean disk (pending_path stage instant)

-- the instant is a real day and time, its claim is durable, and the properties are there
pub record IsAnnounceable (disk : Disk) (instant : List ℕ) : Type 0 where
  pub real : IsSomeTime instant
  pub claim : IsThere disk.files (claim_path instant)
  pub durable : IsClean disk (claim_path instant)
  pub properties : IsThere disk.files properties_path

-- In the timeline's folder a crash may damage leftovers alone. A claim is durable before its instant is pending.
pub record IsSettled (disk : Disk) : Type 0 where
  pub leftovers : (path : List ℕ) → IsIn timeline_folder path → IsDirty disk path → IsLeftover path
  pub claim_first : (instant : List ℕ) → IsDigits instant → IsDirty disk (claim_path instant) → IsUnannounced disk instant
  pub pending_next : (stage : Stage) (instant : List ℕ) → IsDigits instant → IsDirty disk (pending_path stage instant) → IsAnnounceable disk instant

-- the disk is settled, and its files are orderly and read like these
pub record Stands (base : Files) (disk : Disk) : Type 0 where
  pub orderly : IsOrderly disk.files
  pub alike : IsAlike base disk.files
  pub settled : IsSettled disk

-- so are the files that a crash leaves
pub record StandsAt (base : Files) (image : Files) : Type 0 where
  pub orderly : IsOrderly image
  pub alike : IsAlike base image
