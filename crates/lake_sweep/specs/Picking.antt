-- Which of a folder's names are picked for their leftovers, and in which order.
use Rattle.std.specs.Prelude.{◌≡◌, ◌⊎◌, ◌↔◌, ℕ, List, [], ◌∷◌, ◌++◌, Contains}
use Rattle.lake_store.specs.Disk.{Files}
use Rattle.hudi_names.specs.Time.{IsDigits}
use Rattle.hudi_commit.specs.Names.{Inflight, IsThere, Requested, Stage, claim_path, completed_path, pending_path}
use Rattle.lake_sweep.specs.Order.{AreInOrder, IsBeforeInTimeline, IsLess}

-- the path is that of one of these names that has P
abbrev pub IsPathOf : (List ℕ → Type 0) → List ℕ → List (List ℕ) → List ℕ → Type 0
IsPathOf P front names path = (name : List ℕ) × Contains names name × P name × (path ≡ front ++ name)

-- These are the paths of the names that have P, in byte order.
pub record ArePicked (P : List ℕ → Type 0) (front : List ℕ) (names paths : List (List ℕ)) : Type 0 where
  pub members : (path : List ℕ) → Contains paths path ↔ IsPathOf P front names path
  pub order : AreInOrder IsLess paths

-- with the name's path, where it has P
abbrev pub IsWithName : (List ℕ → Type 0) → List ℕ → List ℕ → List (List ℕ) → List (List ℕ) → Type 0
IsWithName P front name before after = (P name × (after ≡ before ++ (front ++ name) ∷ [])) ⊎ ((¬ P name) × (after ≡ before))

-- ---- a Hudi timeline

-- The claim of this name, which is an instant's, or a pending name of its instant that is there, where the instant isn't completed.
abbrev pub IsPartOf : Files → List ℕ → List ℕ → Type 0
IsPartOf files claim path =
    IsDigits claim
    × ((path ≡ claim_path claim) ⊎ ((stage : Stage) × (path ≡ pending_path stage claim) × IsThere files path × ¬ IsThere files (completed_path claim)))

-- These are what the claims of these names leave, in the order in which they are removed.
pub record AreParts (files : Files) (claims paths : List (List ℕ)) : Type 0 where
  pub members : (path : List ℕ) → Contains paths path ↔ ((claim : List ℕ) × Contains claims claim × IsPartOf files claim path)
  pub order : AreInOrder IsBeforeInTimeline paths

-- ---- its parts

-- the paths with this one more, where a file is there
abbrev pub IsWithFile : Files → List ℕ → List (List ℕ) → List (List ℕ) → Type 0
IsWithFile files path before after = (IsThere files path × (after ≡ before ++ path ∷ [])) ⊎ ((¬ IsThere files path) × (after ≡ before))

-- with the pending names of the instant, where it isn't completed
abbrev pub IsWithPending : Files → List ℕ → List (List ℕ) → List (List ℕ) → Type 0
IsWithPending files instant before after =
    (IsThere files (completed_path instant) × (after ≡ before))
    ⊎ ((¬ IsThere files (completed_path instant)) × ((middle : List (List ℕ)) × IsWithFile files (pending_path Inflight instant) before middle × IsWithFile files (pending_path Requested instant) middle after))

-- with what a claim of this name leaves, where it is an instant's
abbrev pub IsWithClaim : Files → List ℕ → List (List ℕ) → List (List ℕ) → Type 0
IsWithClaim files name before after =
    ((¬ IsDigits name) × (after ≡ before))
    ⊎ (IsDigits name × ((middle : List (List ℕ)) × IsWithPending files name before middle × (after ≡ middle ++ claim_path name ∷ [])))
