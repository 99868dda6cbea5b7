-- What has stayed beside a part of a store since a moment.
use Rattle.std.specs.Prelude.{◌⊎◌, ◌≤◌, ℕ, List}
use Rattle.lake_store.specs.Disk.{Disk, Files}
use Rattle.lake_store.specs.Runs.{Keeps, KeepsImage}
use Rattle.lake_store.specs.declared.store.Store.{Ghosts}
use Rattle.lake_batch.specs.Part.{IsBeside}

-- The paths beside the part have stayed at every moment since one at which the store told this of its disk, its time and its images.
pub record HasStayed {S : Type 0} (store : Ghosts S) (folder : List ℕ) (first : Disk) (start : ℕ) (left : ℕ → Files → Type 0) (now : S) : Type 0 where
  pub disk : Keeps (IsBeside folder) first (store.disk now)
  pub later : start ≤ store.time now
  pub each : (image : Files) → store.left_since now start image → KeepsImage (IsBeside folder) first image
  pub before : (t : ℕ) (image : Files) → t ≤ start → store.left_since now t image → left t image ⊎ KeepsImage (IsBeside folder) first image

-- so, where the store tells what it holds
abbrev pub IsFenced : {S : Type 0} → Ghosts S → List ℕ → Disk → ℕ → (ℕ → Files → Type 0) → S → Type 0
IsFenced store folder first start left now = store.tells → HasStayed store folder first start left now
