-- What a file's publication under a name leaves, where it is written under another name first.
use Rattle.std.specs.Prelude.{◌≡◌, ◌≢◌, ◌⊎◌, List, ℕ, None, Some}
use Rattle.std.specs.FinMap as map
use Rattle.lake_store.specs.Disk.{Disk, Files, IsClean}
use Rattle.lake_store.specs.Runs.{IsEachMoment}
use Rattle.lake_store.specs.declared.store.Store.{Ghosts}

-- The name has these bytes and the staged file is gone. All other files are as before, and no path is dirty.
pub record IsPublished (staged name bytes : List ℕ) (old new : Disk) : Type 0 where
  pub file : map.get new.files name ≡ Some bytes
  pub gone : map.get new.files staged ≡ None
  pub others : (path : List ℕ) → path ≢ staged → path ≢ name → map.get new.files path ≡ map.get old.files path
  pub clean : (path : List ℕ) → IsClean new path

-- The name is absent, or has these bytes, or another writer's where the call was refused for that.
abbrev pub IsAbsentOrWhole : List ℕ → List ℕ → Type 0 → Files → Type 0
IsAbsentOrWhole name bytes Taken files = (map.get files name ≡ None) ⊎ (map.get files name ≡ Some bytes) ⊎ Taken

-- So it is at return, whatever the answer. All files but it and the staged one are as before, and no path but the staged one has become dirty.
pub record IsStaged (staged name bytes : List ℕ) (Taken : Type 0) (old new : Disk) : Type 0 where
  pub file : IsAbsentOrWhole name bytes Taken new.files
  pub others : (path : List ℕ) → path ≢ staged → path ≢ name → map.get new.files path ≡ map.get old.files path
  pub clean : (path : List ℕ) → path ≢ staged → IsClean old path → IsClean new path

-- So it is too after a crash, as far as the paths weren't dirty before.
pub record IsStagedImage (staged name bytes : List ℕ) (Taken : Type 0) (old : Disk) (image : Files) : Type 0 where
  pub file : IsClean old name → IsAbsentOrWhole name bytes Taken image
  pub others : (path : List ℕ) → path ≢ staged → path ≢ name → IsClean old path → map.get image path ≡ map.get old.files path

-- Another writer's file has come to the name. It is there at return, and a crash at any moment since leaves it or no file.
-- The staged file is there, whole. All other files are as before, and no path is dirty.
pub record IsTaken {S : Type 0} (store : Ghosts S) (staged name bytes : List ℕ) (old new : S) : Type 0 where
  pub theirs : List ℕ
  pub file : map.get (store.disk new).files name ≡ Some theirs
  pub staged_file : map.get (store.disk new).files staged ≡ Some bytes
  pub others : (path : List ℕ) → path ≢ staged → path ≢ name → map.get (store.disk new).files path ≡ map.get (store.disk old).files path
  pub clean : (path : List ℕ) → IsClean (store.disk new) path
  -- as far as the name wasn't dirty before
  pub moments : IsEachMoment store old new (λ image. IsClean (store.disk old) name → (map.get image name ≡ None) ⊎ (map.get image name ≡ Some theirs))
