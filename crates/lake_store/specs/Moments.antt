-- How time goes on in a call of a store.
use Rattle.std.specs.Prelude.{◌⊎◌, ℕ, ◌≤◌}
use Rattle.lake_store.specs.Disk.{Disk, Files, MayLeave}

-- A crash since t might have left what it might have left before the call, or what it may leave after it.
pub record Elapses {S : Type 0} (disk : S → Disk) (time : S → ℕ) (left_since : S → ℕ → Files → Type 0) (old new : S) : Type 0 where
  pub later : time old ≤ time new
  pub nothing_else : (t : ℕ) (image : Files) → t ≤ time old → left_since new t image → left_since old t image ⊎ MayLeave (disk new) image
  pub keeps : (t : ℕ) (image : Files) → t ≤ time old → left_since old t image → left_since new t image
