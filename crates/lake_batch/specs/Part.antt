-- What a store tells of its part in a folder.
use Rattle.std.specs.Prelude.{◌≡◌, ◌≢◌, ℕ, List, [], ◌∷◌, ◌++◌}
use Rattle.std.specs.List.{filter_map}
use Rattle.std.specs.Option.{option_map}
use Rattle.std.specs.FinMap as map
use Rattle.std.specs.FinSet as set
use Rattle.lake_store.specs.Disk.{Disk, Files, Paths, behind, front_of}
use Rattle.lake_store.specs.Moments.{Elapses}
use Rattle.lake_store.specs.Runs.{LeavesAlone}
use Rattle.lake_store.specs.declared.store.Store.{Ghosts}

-- The files whose path begins with the folder and a slash, under the rest of their path. In the empty folder lie all files.
unfoldable pub part_files : List ℕ → Files → Files
part_files folder files = map.from_entries (filter_map (λ e. option_map (λ rest. (rest, e.1)) (behind (front_of folder) e.0)) (map.entries files))

-- The paths that begin with the folder and a slash, each without them.
unfoldable pub part_paths : List ℕ → Paths → Paths
part_paths folder paths = set.from_list (filter_map (behind (front_of folder)) (set.items paths))

-- The files in the folder, and the paths there that a crash may damage.
abbrev pub part_disk : List ℕ → Disk → Disk
part_disk folder disk = record { files = part_files folder disk.files; dirty = part_paths folder disk.dirty }

-- The images that a crash of the part leaves are the parts of those that a crash of the whole leaves.
abbrev pub part_left_since : {S : Type 0} → (S → ℕ → Files → Type 0) → List ℕ → S → ℕ → Files → Type 0
part_left_since left_since folder s t image = (whole : Files) × left_since s t whole × (image ≡ part_files folder whole)

-- What the store tells of the part in the folder. Time and counts are those of the whole.
abbrev pub part_of : {S : Type 0} → Ghosts S → List ℕ → Ghosts S
part_of store folder = record {
  tells = store.tells;
  disk = λ s. part_disk folder (store.disk s);
  time = store.time;
  left_since = part_left_since store.left_since folder;
  faults = store.faults;
  may_fail = store.may_fail;
  contests = store.contests;
  may_contest = store.may_contest;
}

-- The path of a file of the part in the whole store.
abbrev pub path_in : List ℕ → List ℕ → List ℕ
path_in folder path = front_of folder ++ path

-- A folder of the part in the whole store. The empty one is the folder of the part itself.
abbrev pub folder_in : List ℕ → List ℕ → List ℕ
folder_in folder [] = folder
folder_in folder (c ∷ inner) = path_in folder (c ∷ inner)

-- The path isn't one of the part.
abbrev pub IsBeside : List ℕ → List ℕ → Type 0
IsBeside folder path = (rest : List ℕ) → path ≢ path_in folder rest

-- The moments of the part go on.
abbrev pub PartElapses : {S : Type 0} → Ghosts S → List ℕ → S → S → Type 0
PartElapses store folder old new = store.tells → Elapses (λ s. part_disk folder (store.disk s)) store.time (part_left_since store.left_since folder) old new

-- The paths beside the part stay, at every moment.
abbrev pub StaysBeside : {S : Type 0} → Ghosts S → List ℕ → S → S → Type 0
StaysBeside store folder old new = store.tells → LeavesAlone store (IsBeside folder) old new
