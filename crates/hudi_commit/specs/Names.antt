-- The files of a Hudi table that a commit writes, by their paths.
use Rattle.std.specs.Prelude.{◌≡◌, ◌⊎◌, ℕ, List, ◌++◌, None, Some, IsSome, codes}
use Rattle.std.specs.FinMap as map
use Rattle.lake_store.specs.Disk.{Files}
use Rattle.hudi_names.specs.Name.{instant_of}
use Rattle.hudi_names.specs.Time.{IsDigits, IsSomeTime}
use Rattle.hudi_names.specs.declared.name.Action.{Action}
use Rattle.hudi_names.specs.declared.name.State.{State}

-- An instant is pending under two names until it is completed.
pub data Stage : Type 0 where
  Requested : Stage
  Inflight : Stage

abbrev pub suffix_of : Stage → List ℕ
suffix_of Requested = codes ".replacecommit.requested"
suffix_of Inflight = codes ".replacecommit.inflight"

-- the folder of the timeline, and that of the files that aren't published yet
abbrev pub timeline_folder : List ℕ
timeline_folder = codes ".hoodie"

abbrev pub claims_folder : List ℕ
claims_folder = codes ".hoodie/.lakebridge"

-- the path of a name in the timeline's folder
abbrev pub timeline_path : List ℕ → List ℕ
timeline_path name = codes ".hoodie/" ++ name

abbrev pub pending_name : Stage → List ℕ → List ℕ
pending_name stage instant = instant ++ suffix_of stage

abbrev pub completed_name : List ℕ → List ℕ
completed_name instant = instant ++ codes ".replacecommit"

abbrev pub properties_path : List ℕ
properties_path = codes ".hoodie/hoodie.properties"

abbrev pub staged_properties_path : List ℕ
staged_properties_path = codes ".hoodie/.lakebridge/properties"

abbrev pub claim_path : List ℕ → List ℕ
claim_path instant = codes ".hoodie/.lakebridge/" ++ instant

abbrev pub pending_path : Stage → List ℕ → List ℕ
pending_path stage instant = timeline_path (pending_name stage instant)

abbrev pub completed_path : List ℕ → List ℕ
completed_path instant = timeline_path (completed_name instant)

-- A path that a stopped commit may leave: the staged properties, the claim of 17 digits, or one of the two pending names of a replacecommit of 17 digits.
abbrev pub IsLeftover : List ℕ → Type 0
IsLeftover path =
    (path ≡ staged_properties_path)
    ⊎ ((instant : List ℕ) × IsDigits instant × (path ≡ claim_path instant))
    ⊎ ((stage : Stage) × (instant : List ℕ) × IsDigits instant × (path ≡ pending_path stage instant))

-- the instant's claim, or one of its pending names
abbrev pub IsOf : List ℕ → List ℕ → Type 0
IsOf instant path = (path ≡ claim_path instant) ⊎ ((stage : Stage) × (path ≡ pending_path stage instant))

-- A leftover that a commit may write over or remove: the staged properties, or that of an instant that isn't completed, 17 digits that spell a real day and time.
abbrev pub IsOpenLeftover : Files → List ℕ → Type 0
IsOpenLeftover files path =
    (path ≡ staged_properties_path)
    ⊎ ((instant : List ℕ) × IsSomeTime instant × (IsSome (map.get files (completed_path instant)) → ⊥) × IsOf instant path)

-- The file is as before, or it is an open leftover and is gone.
abbrev pub StaysOrGoes : Files → Files → List ℕ → Type 0
StaysOrGoes before after path = (map.get after path ≡ map.get before path) ⊎ (IsOpenLeftover before path × (map.get after path ≡ None))

-- the name is that of an instant in this state
abbrev pub IsInstantIn : State → List ℕ → Type 0
IsInstantIn state name = (digits : ℕ) × (action : Action) × (instant_of name ≡ Some (digits, action, state))

abbrev pub IsThere : Files → List ℕ → Type 0
IsThere files path = IsSome (map.get files path)
