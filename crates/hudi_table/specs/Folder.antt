-- Which instants a timeline's folder holds, and which of them is the head (Hudi technical specification, "Timeline").
use Rattle.std.specs.Prelude.{◌≡◌, ◌≢◌, ℕ, true, List, [], ◌∷◌, Contains, Some}
use Rattle.std.specs.List.{AllByRecursion}
use Rattle.std.specs.Cmp.Lexicographic.{slice_cmp}
use Rattle.std.specs.Ordering.{nat_cmp}
use Rattle.std.specs.declared.cmp.Ordering.TheVariants.{Greater, Less}
use Rattle.lake_store.specs.Disk.{Files, names_in}
use Rattle.hudi_names.specs.Name.{instant_of}
use Rattle.hudi_names.specs.declared.name.Action.{Action}
use Rattle.hudi_names.specs.declared.name.State.{State}
use Rattle.hudi_names.specs.declared.name.State.TheVariants.{Completed}
use Rattle.hudi_table.specs.declared.instants.CompletedInstant.{CompletedInstant}
use Rattle.hudi_table.specs.Instants.{completed_name, is_commit, time_of, timeline_folder}

-- ---- the order of times, which is that of their bytes

abbrev pub IsEarlier : List ℕ → List ℕ → Type 0
IsEarlier a b = slice_cmp nat_cmp a b ≡ Less

abbrev pub IsUpTo : List ℕ → List ℕ → Type 0
IsUpTo a b = slice_cmp nat_cmp a b ≢ Greater

-- each instant is up to all later ones
abbrev pub AreInOrder : List CompletedInstant → Type 0
AreInOrder [] = Unit {0}
AreInOrder (c ∷ cs) = AllByRecursion (λ d. IsUpTo c.time d.time) cs × AreInOrder cs

-- ---- instants

-- a file of this name is directly in the folder
abbrev pub IsInFolder : Files → List ℕ → Type 0
IsInFolder files name = Contains (names_in files timeline_folder) name

-- A file of the folder is of an instant of this time and action, in this state.
pub record HasInstant (files : Files) (time : List ℕ) (action : Action) (state : State) : Type 0 where
  pub name : List ℕ
  pub there : IsInFolder files name
  pub digits : ℕ
  pub says : instant_of name ≡ Some (digits, action, state)
  pub is_time : time_of name ≡ time

-- A commit or replacecommit of this time is completed.
abbrev pub IsCompletedAt : Files → List ℕ → Type 0
IsCompletedAt files time = (action : Action) × (is_commit action ≡ true) × HasInstant files time action Completed

-- There is no file that completes a commit or replacecommit of this time.
abbrev pub LacksCompleted : Files → Action → List ℕ → Type 0
LacksCompleted files action time = (name : List ℕ) × (completed_name action time ≡ Some name) × ¬ IsInFolder files name

-- A commit or replacecommit of this time is pending: there is a file of it, and its own completed file isn't there.
abbrev pub IsPendingAt : Files → List ℕ → Type 0
IsPendingAt files time = (action : Action) × (state : State) × HasInstant files time action state × LacksCompleted files action time

-- ---- the head

abbrev pub IsFirstPending : Files → List ℕ → Type 0
IsFirstPending files pending = IsPendingAt files pending × ((other : List ℕ) → IsPendingAt files other → IsUpTo pending other)

-- It is completed, and earlier than every pending one.
abbrev pub IsReached : Files → List ℕ → Type 0
IsReached files time = IsCompletedAt files time × ((pending : List ℕ) → IsPendingAt files pending → IsEarlier time pending)

-- the last of these
abbrev pub IsHead : Files → List ℕ → Type 0
IsHead files head = IsReached files head × ((other : List ℕ) → IsReached files other → IsUpTo other head)
