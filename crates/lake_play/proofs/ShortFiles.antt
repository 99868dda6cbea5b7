-- Which files of a folder are too large to be read: none becomes so, whatever a store's calls write, and whatever a crash leaves.
use Rattle.std.proofs.Common.{◌≡◌, ◌≢◌, ◌⊎◌, inl, inr, ⊎_elim, ℕ, ◌≤◌, ◌==◌, ◌/◌, ◌%◌, min, Bool, true, false, cond, List, [], ◌∷◌, length, take, Option, None, Some, refl, sym, ap, subst, ◌∙◌, arith}
use Rattle.std.specs.Prelude.{IfSome, option_map, replicate}
use Rattle.std.proofs.lemmas.List.{length-take, length-replicate}
use Rattle.std.specs.FinMap as map
use Rattle.std.proofs.lemmas.Option.{none-some, same_Some}
use Rattle.lake_basics.specs.declared.limits.TheConstants.{MAX_FILE_BYTES}
use Rattle.lake_store.specs.Crash.{IsCrashed, all_torn, left_by, torn}
use Rattle.lake_store.specs.Disk.{AddsShort, Disk, Files, with_file}
use Rattle.lake_store.specs.Runs.{IsIn}
use Rattle.lake_store.proofs.DiskLaws.{get-insert_here, get-insert_other, get-remove_here, get-remove_other, path_cases}
use Rattle.target_core.specs.Folders.{SameIn}

-- No file in the folder is too large to be read.
abbrev pub HoldsShort : List ℕ → Files → Type 0
HoldsShort folder files = (path bytes : List ℕ) → IsIn folder path → map.get files path ≡ Some bytes → length bytes ≤ MAX_FILE_BYTES

module _ (folder : List ℕ) where
  pub short_added : (a b : Files) → AddsShort MAX_FILE_BYTES a b → HoldsShort folder a → HoldsShort folder b
  short_added a b adds short path bytes within there = ⊎_elim (λ before. short path bytes within before) (λ few. few) (adds path bytes there)

  pub short_same_in : (a b : Files) → SameIn folder a b → HoldsShort folder a → HoldsShort folder b
  short_same_in a b same short path bytes within there = short path bytes within (sym (same path within) ∙ there)

chosen : {A : Type 0} (b : Bool) (x y z : A) → cond b x y ≡ z → ((b ≡ true) × (x ≡ z)) ⊎ ((b ≡ false) × (y ≡ z))
chosen true x y z is = inl (refl, is)
chosen false x y z is = inr (refl, is)

-- What a choice leaves of a file that can be read can be read.
torn_bytes : (choice : ℕ) (before : Option (List ℕ)) (bytes : List ℕ) → IfSome before (λ b. length b ≤ MAX_FILE_BYTES) → left_by choice before ≡ Some bytes → length bytes ≤ MAX_FILE_BYTES
torn_bytes choice before bytes short is = ⊎_elim
    (λ none. absurd (none-some bytes none.1))
    (λ other. ⊎_elim
    (λ all. whole before short all.1)
    (λ less. ⊎_elim
    (λ front. part before short front.1)
    (λ marks. subst (λ (b : List ℕ). length b ≤ MAX_FILE_BYTES) (same_Some (replicate (min (choice / 2) 65536) 35) bytes marks.1) filled)
    (chosen (choice % 2 == 1) (option_map (take (choice / 2)) before) (Some (replicate (min (choice / 2) 65536) 35)) (Some bytes) less.1))
    (chosen (choice == 1) before (cond (choice % 2 == 1) (option_map (take (choice / 2)) before) (Some (replicate (min (choice / 2) 65536) 35))) (Some bytes) other.1))
    (chosen (choice == 0) None (cond (choice == 1) before (cond (choice % 2 == 1) (option_map (take (choice / 2)) before) (Some (replicate (min (choice / 2) 65536) 35)))) (Some bytes) is)
  where
    whole : (before : Option (List ℕ)) → IfSome before (λ b. length b ≤ MAX_FILE_BYTES) → before ≡ Some bytes → length bytes ≤ MAX_FILE_BYTES
    whole None short is = absurd (none-some bytes is)
    whole (Some b) short is = subst (λ (x : List ℕ). length x ≤ MAX_FILE_BYTES) (same_Some b bytes is) short

    part : (before : Option (List ℕ)) → IfSome before (λ b. length b ≤ MAX_FILE_BYTES) → option_map (take (choice / 2)) before ≡ Some bytes → length bytes ≤ MAX_FILE_BYTES
    part None short is = absurd (none-some bytes is)
    part (Some b) short is =
        let few = length-take (choice / 2) b in
        subst (λ (x : List ℕ). length x ≤ MAX_FILE_BYTES) (same_Some (take (choice / 2) b) bytes is) (omega (arith, few, short))

    marks_of : ℕ → List ℕ
    marks_of n = replicate n 35

    filled : length (marks_of (min (choice / 2) 65536)) ≤ MAX_FILE_BYTES
    filled = let count : length (marks_of (min (choice / 2) 65536)) ≡ min (choice / 2) 65536 = length-replicate (min (choice / 2) 65536) 35 in omega (arith, count)

-- A file that is put there, or none.
put_here : (files : Files) (path bytes : List ℕ) (put : Option (List ℕ)) → map.get (with_file files path put) path ≡ Some bytes → put ≡ Some bytes
put_here files path bytes None there = absurd (none-some bytes (sym (get-remove_here files path) ∙ there))
put_here files path bytes (Some b) there = sym (get-insert_here files path b) ∙ there

put_other : (files : Files) (path other : List ℕ) (put : Option (List ℕ)) → other ≢ path → map.get (with_file files path put) other ≡ map.get files other
put_other files path other None apart = get-remove_other files path other apart
put_other files path other (Some b) apart = get-insert_other files path b other apart

if_there : (o : Option (List ℕ)) → ((bytes : List ℕ) → o ≡ Some bytes → length bytes ≤ MAX_FILE_BYTES) → IfSome o (λ b. length b ≤ MAX_FILE_BYTES)
if_there None each = tt
if_there (Some b) each = each b refl

module _ (folder : List ℕ) where
  torn_short : (files : Files) (path : List ℕ) (choice : ℕ) → HoldsShort folder files → HoldsShort folder (torn files path choice)
  torn_short files path choice short other bytes within there = ⊎_elim
      (λ (same : other ≡ path).
      let here : map.get (torn files path choice) path ≡ Some bytes = ap (map.get (torn files path choice)) (sym same) ∙ there in
      torn_bytes choice (map.get files path) bytes (if_there (map.get files path) (λ b is. short path b (subst (IsIn folder) same within) is))
      (put_here files path bytes (left_by choice (map.get files path)) here))
      (λ (apart : other ≢ path). short other bytes within (sym (put_other files path other (left_by choice (map.get files path)) apart) ∙ there))
      (path_cases other path)

  all_torn_short : (files : Files) (paths : List (List ℕ)) (choices : List ℕ) → HoldsShort folder files → HoldsShort folder (all_torn files paths choices)
  all_torn_short files [] choices short = short
  all_torn_short files (path ∷ paths) [] short = all_torn_short (torn files path 1) paths [] (torn_short files path 1 short)
  all_torn_short files (path ∷ paths) (choice ∷ choices) short = all_torn_short (torn files path choice) paths choices (torn_short files path choice short)

  -- whatever a crash leaves
  pub short_crashed : (old new : Disk) (choices : List ℕ) → IsCrashed old choices new → HoldsShort folder old.files → HoldsShort folder new.files
  short_crashed old new choices is short = subst (λ (d : Disk). HoldsShort folder d.files) (sym is.2) (all_torn_short old.files is.0 choices short)
