-- What removing files leaves, at each moment.
use Rattle.std.specs.Prelude.{◌≡◌, ◌⊎◌, ◌≤◌, ℕ, List, length, take, Contains, None}
use Rattle.std.specs.FinMap as map
use Rattle.lake_store.specs.Disk.{Disk, Files, IsClean, MayLeave}
use Rattle.lake_store.specs.Runs.{IsEachMoment, OnlyReads}
use Rattle.lake_store.specs.declared.store.Store.{Ghosts}
use Rattle.table_history.specs.declared.kind.Kind.{Kind}
use Rattle.target_leftovers.specs.Leftovers.{IsLeftover}
use Rattle.lake_sweep.specs.Plan.{IsPlan}
use Rattle.lake_sweep.specs.declared.error.SweepError.{SweepError}
use Rattle.lake_sweep.specs.declared.error.SweepError.TheVariants as error

-- The files at these paths are gone, and all others are as before.
pub record AreGone (paths : List (List ℕ)) (before after : Files) : Type 0 where
  pub gone : (path : List ℕ) → Contains paths path → map.get after path ≡ None
  pub others : (path : List ℕ) → ¬ Contains paths path → map.get after path ≡ map.get before path

-- some first part of them is gone
pub record AreSomeGone (paths : List (List ℕ)) (before after : Files) : Type 0 where
  pub count : ℕ
  pub within : count ≤ length paths
  pub gone : AreGone (take count paths) before after

-- Before the first removal the disk is synced. So a crash leaves what it might have left before, or a first part of the paths is gone, in their order,
-- and nothing else is changed.
abbrev pub IsUnderWay : List (List ℕ) → Disk → Files → Type 0
IsUnderWay paths before image = MayLeave before image ⊎ AreSomeGone paths before.files image

-- So it is at return too, and no path becomes dirty.
pub record Removes {S : Type 0} (store : Ghosts S) (paths : List (List ℕ)) (old new : S) : Type 0 where
  pub files : AreSomeGone paths (store.disk old).files (store.disk new).files
  pub clean : (path : List ℕ) → IsClean (store.disk old) path → IsClean (store.disk new) path
  pub moments : IsEachMoment store old new (IsUnderWay paths (store.disk old))

-- Nothing is changed, or leftovers are removed in their order.
abbrev pub Sweeps : {S : Type 0} → Ghosts S → Kind → S → S → Type 0
Sweeps store kind old new = OnlyReads store old new ⊎ ((paths : List (List ℕ)) × IsPlan kind (store.disk old).files paths × Removes store paths old new)

-- All of these leftovers are gone, and there is no other.
pub record IsSwept (kind : Kind) (before after : Files) (paths : List (List ℕ)) : Type 0 where
  pub plan : IsPlan kind before paths
  pub gone : AreGone paths before after
  pub none : (path : List ℕ) → ¬ IsLeftover kind after path

-- The refusal comes before the first removal.
abbrev pub IsEarly : SweepError → Type 0
IsEarly error.Memory = ⊥
IsEarly error.StoreFault = ⊥
IsEarly (error.Foreign path) = Unit {0}
IsEarly (error.Limit which number) = Unit {0}
