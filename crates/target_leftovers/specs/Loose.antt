-- Which leftovers can be removed so that a target reads as before.
use Rattle.std.specs.Prelude.{◌≡◌, ◌⊎◌, ℕ, List}
use Rattle.std.specs.FinMap as map
use Rattle.lake_store.specs.Disk.{Files}
use Rattle.table_history.specs.declared.kind.Kind.{Kind}
use Rattle.table_history.specs.declared.kind.Kind.TheVariants.{Delta, Hudi, Iceberg}
use Rattle.hudi_names.specs.Time.{IsDigits}
use Rattle.hudi_commit.specs.Names.{IsThere, Stage, claim_path, completed_path, pending_path}
use Rattle.target_core.specs.Meaning.{Meaning}
use Rattle.target_core.specs.Step.{IsBefore}
use Rattle.target_core.specs.Views.{View}
use Rattle.target_leftovers.specs.Leftovers.{IsLeftover}

-- The instant is completed, or no pending name of it is there.
abbrev pub IsDone : Files → List ℕ → Type 0
IsDone files instant = IsThere files (completed_path instant) ⊎ ((stage : Stage) → ¬ IsThere files (pending_path stage instant))

-- Where the path is a claim, its instant is done.
abbrev pub IsFree : Kind → Files → List ℕ → Type 0
IsFree Delta files path = Unit {0}
IsFree Iceberg files path = Unit {0}
IsFree Hudi files path = (instant : List ℕ) → IsDigits instant → path ≡ claim_path instant → IsDone files instant

-- It is a leftover of these files, and a claim only of an instant that is done.
pub record IsLoose (kind : Kind) (files : Files) (path : List ℕ) : Type 0 where
  pub leftover : IsLeftover kind files path
  pub free : IsFree kind files path

-- Whatever the target's files stand for, so they do without a file that is loose, and each commit carries what it carried.
abbrev pub ReadsWithoutLoose : Meaning → Type 0
ReadsWithoutLoose target = (files : Files) (view : View) (path : List ℕ) → target.reads files view → IsLoose target.kind files path → IsBefore target view files (map.remove files path)
