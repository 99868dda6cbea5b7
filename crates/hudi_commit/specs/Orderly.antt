-- Files that a reader of the timeline takes for whole, whatever is pending, and files that it reads alike.
use Rattle.std.specs.Prelude.{◌≡◌, ◌≢◌, ◌⊎◌, ◌↔◌, ℕ, List}
use Rattle.std.specs.FinMap as map
use Rattle.lake_store.specs.Disk.{Files, IsName}
use Rattle.lake_store.specs.Runs.{IsIn}
use Rattle.hudi_names.specs.Time.{IsDigits, IsSomeTime}
use Rattle.hudi_names.specs.declared.name.State.{State}
use Rattle.hudi_names.specs.declared.name.State.TheVariants.{Completed}
use Rattle.hudi_commit.specs.Names.{IsInstantIn, IsLeftover, IsThere, Stage, claim_path, completed_path, pending_name, pending_path, properties_path, timeline_folder, timeline_path}

-- Each instant that isn't completed is a replacecommit of 17 digits that spell a real day and time, and it is claimed or completed too.
-- The table's properties are there wherever an instant's name is.
pub record IsOrderly (files : Files) : Type 0 where
  pub pending : (state : State) (name : List ℕ) → state ≢ Completed → IsName name → IsInstantIn state name → IsThere files (timeline_path name)
      → (stage : Stage) × (instant : List ℕ) × IsSomeTime instant × (name ≡ pending_name stage instant)
  pub claimed : (stage : Stage) (instant : List ℕ) → IsDigits instant → IsThere files (pending_path stage instant)
      → IsThere files (claim_path instant) ⊎ IsThere files (completed_path instant)
  pub properties : (state : State) (name : List ℕ) → IsName name → IsInstantIn state name → IsThere files (timeline_path name) → IsThere files properties_path

-- the timeline's folder has the same files, but for leftovers
abbrev pub IsAlike : Files → Files → Type 0
IsAlike a b = (path : List ℕ) → IsIn timeline_folder path → (IsLeftover path → ⊥) → map.get b path ≡ map.get a path

-- ---- what a reader of the timeline sees

-- the same completed instants, whatever their actions, and the same properties
pub record IsSameTimeline (a b : Files) : Type 0 where
  pub completed : (name : List ℕ) → IsName name → IsInstantIn Completed name → map.get b (timeline_path name) ≡ map.get a (timeline_path name)
  pub properties : map.get b properties_path ≡ map.get a properties_path

-- An instant that isn't completed is at fault: it is no replacecommit of 17 digits that spell a real day and time, or it is neither claimed nor completed.
abbrev pub IsAtFault : Files → List ℕ → Type 0
IsAtFault files name =
    (state : State) × (state ≢ Completed) × IsName name × IsInstantIn state name × IsThere files (timeline_path name)
    × ((stage : Stage) (instant : List ℕ) → IsSomeTime instant → name ≡ pending_name stage instant
    → (IsThere files (claim_path instant) ⊎ IsThere files (completed_path instant)) → ⊥)

-- an instant's name is there, and no properties are
abbrev pub LacksProperties : Files → Type 0
LacksProperties files =
    (state : State) × (name : List ℕ) × IsName name × IsInstantIn state name × IsThere files (timeline_path name) × (IsThere files properties_path → ⊥)

-- no instant that isn't completed is at fault, and the properties are there wherever an instant's name is
pub record IsFaultless (files : Files) : Type 0 where
  pub instants : (name : List ℕ) → IsAtFault files name → ⊥
  pub properties : LacksProperties files → ⊥

-- A reader that looks at the properties, the completed instants and these faults alone can't tell the two apart.
pub record IsReadAlike (a b : Files) : Type 0 where
  pub timeline : IsSameTimeline a b
  pub faults : (name : List ℕ) → IsAtFault a name ↔ IsAtFault b name
  pub lacks : LacksProperties a ↔ LacksProperties b
