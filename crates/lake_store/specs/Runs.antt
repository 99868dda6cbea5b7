-- What a run of calls of a store leaves, for the contracts above. `⟦<S as Store>⟧` in a clause is what the store tells.
use Rattle.std.specs.Prelude.{◌≡◌, ◌⊎◌, ℕ, ◌≤◌, List, ◌∷◌, ◌++◌}
use Rattle.lake_store.specs.Cause.{HasContest, HasFault, HasNoContest}
use Rattle.std.specs.FinMap as map
use Rattle.lake_store.specs.Disk.{Disk, Files, IsClean, MayLeave}
use Rattle.lake_store.specs.declared.store.Store.{Ghosts}

-- A crash at any moment since old leaves files that have P.
pub record IsEachMoment {S : Type 0} (store : Ghosts S) (old new : S) (P : Files → Type 0) : Type 0 where
  pub later : store.time old ≤ store.time new
  pub each : (image : Files) → store.left_since new (store.time old) image → P image
  -- for a run that began earlier
  pub before : (t : ℕ) (image : Files) → t ≤ store.time old → store.left_since new t image → store.left_since old t image ⊎ P image

-- the same, where the store tells what it holds
abbrev pub LeavesOnly : {S : Type 0} → Ghosts S → S → S → (Files → Type 0) → Type 0
LeavesOnly store old new P = store.tells → IsEachMoment store old new P

-- a run is refused so only where the store failed in it
abbrev pub FailsBy : {S : Type 0} → Ghosts S → S → S → Type 0 → Type 0
FailsBy store old new Refused = HasFault store.faults store.may_fail old new Refused

-- a run is refused so only where another writer was in the way, and else none was
abbrev pub IsContestedBy : {S : Type 0} → Ghosts S → S → S → Type 0 → Type 0
IsContestedBy store old new Refused = HasContest store.contests store.may_contest old new Refused

-- a run is never refused so, and no other writer was in the way
abbrev pub IsUncontestedBy : {S : Type 0} → Ghosts S → S → S → Type 0 → Type 0
IsUncontestedBy store old new Refused = HasNoContest store.contests store.may_contest old new Refused

-- No file changes and no path becomes dirty, at any moment.
pub record OnlyReads {S : Type 0} (store : Ghosts S) (old new : S) : Type 0 where
  pub disk : store.disk new ≡ store.disk old
  pub moments : IsEachMoment store old new (MayLeave (store.disk old))

-- the path begins with the folder and a slash
abbrev pub IsIn : List ℕ → List ℕ → Type 0
IsIn folder path = (rest : List ℕ) × (path ≡ folder ++ 47 ∷ rest)

abbrev pub IsOutside : List ℕ → List ℕ → Type 0
IsOutside folder path = IsIn folder path → ⊥

-- The files at these paths stay, and none of the paths becomes dirty.
pub record Keeps (Kept : List ℕ → Type 0) (old new : Disk) : Type 0 where
  pub files : (path : List ℕ) → Kept path → map.get new.files path ≡ map.get old.files path
  pub clean : (path : List ℕ) → Kept path → IsClean old path → IsClean new path

-- A crash leaves the files at those of these paths that weren't dirty.
abbrev pub KeepsImage : (List ℕ → Type 0) → Disk → Files → Type 0
KeepsImage Kept old image = (path : List ℕ) → Kept path → IsClean old path → map.get image path ≡ map.get old.files path

-- The files at these paths stay, at return and at any moment since.
pub record LeavesAlone {S : Type 0} (store : Ghosts S) (Kept : List ℕ → Type 0) (old new : S) : Type 0 where
  pub disk : Keeps Kept (store.disk old) (store.disk new)
  pub moments : IsEachMoment store old new (KeepsImage Kept (store.disk old))
