-- Of an image that a crash may leave in a part of the disk there is one of the whole disk that is the same there.
use Rattle.std.proofs.Common.{◌≡◌, ◌⊎◌, ◌||◌, inl, inr, ℕ, Bool, true, false, List, [], ◌∷◌, cond, refl, sym, ap, ◌∙◌}
use Rattle.std.specs.FinMap as map
use Rattle.std.specs.FinSet as set
use Rattle.std.specs.List.{list_any}
use Rattle.lake_store.specs.Disk.{Disk, Files, IsClean, MayLeave, with_file}
use Rattle.lake_store.specs.Runs.{IsIn, KeepsImage}
use Rattle.lake_store.proofs.DiskLaws.{is_path, path_cases, path_here, path_other}
use Rattle.lake_store.proofs.PastLaws.{get-with_here, get-with_other}
use Rattle.target_core.specs.Folders.{SameIn}

-- the files with those of the image at these paths
abbrev mixed : Files → Files → List (List ℕ) → Files
mixed files image [] = files
mixed files image (path ∷ paths) = with_file (mixed files image paths) path (map.get image path)

get_here : (files image : Files) (path : List ℕ) (paths : List (List ℕ)) (q : List ℕ) → map.get (mixed files image paths) q ≡ cond (list_any (is_path q) paths) (map.get image q) (map.get files q) → (q ≡ path) ⊎ ¬ (q ≡ path)
    → map.get (mixed files image (path ∷ paths)) q ≡ cond (list_any (is_path q) (path ∷ paths)) (map.get image q) (map.get files q)
get_here files image path paths q others (inl is) =
    ap (λ (r : List ℕ). map.get (mixed files image (path ∷ paths)) r) is ∙ get-with_here (mixed files image paths) path (map.get image path) ∙ ap (λ (r : List ℕ). map.get image r) (sym is)
    ∙ ap (λ (t : Bool). cond (t || list_any (is_path q) paths) (map.get image q) (map.get files q)) (sym (ap (λ (r : List ℕ). is_path r path) is ∙ path_here path))
get_here files image path paths q others (inr other) =
    get-with_other (mixed files image paths) path (map.get image path) q other ∙ others ∙ ap (λ (t : Bool). cond (t || list_any (is_path q) paths) (map.get image q) (map.get files q)) (sym (path_other q path other))

get-mixed : (files image : Files) (paths : List (List ℕ)) (q : List ℕ) → map.get (mixed files image paths) q ≡ cond (list_any (is_path q) paths) (map.get image q) (map.get files q)
get-mixed files image [] q = refl
get-mixed files image (path ∷ paths) q = get_here files image path paths q (get-mixed files image paths q) (path_cases q path)

module _ (disk : Disk) (image : Files) where
  -- the image at the dirty paths, and the files as they are at the others
  abbrev pub whole_image : Files
  whole_image = mixed disk.files image (set.items disk.dirty)

  get-whole : (q : List ℕ) → map.get whole_image q ≡ cond (set.contains disk.dirty q) (map.get image q) (map.get disk.files q)
  get-whole q = get-mixed disk.files image (set.items disk.dirty) q ∙ ap (λ (t : Bool). cond t (map.get image q) (map.get disk.files q)) (sym (set.contains-items disk.dirty q))

  pub whole_may_leave : MayLeave disk whole_image
  whole_may_leave q clean = get-whole q ∙ ap (λ (t : Bool). cond t (map.get image q) (map.get disk.files q)) clean

  at_path : (q : List ℕ) (dirty : Bool) → set.contains disk.dirty q ≡ dirty → (IsClean disk q → map.get image q ≡ map.get disk.files q) → map.get whole_image q ≡ map.get image q
  at_path q true is kept = get-whole q ∙ ap (λ (t : Bool). cond t (map.get image q) (map.get disk.files q)) is
  at_path q false is kept = whole_may_leave q is ∙ sym (kept is)

  pub whole_same : (folder : List ℕ) → KeepsImage (IsIn folder) disk image → SameIn folder image whole_image
  whole_same folder kept q own = at_path q (set.contains disk.dirty q) refl (kept q own)
