-- The drill's commits can be written, and what is read of one is the same commit.
use Rattle.std.proofs.Common.{◌≡◌, ℕ, ◌+◌, ◌-◌, ◌%◌, ◌<◌, ◌≤◌, Bool, true, false, List, [], ◌∷◌, ◌++◌, length, map, All, Contains, Option, Some, None, refl, sym, ap, subst, ◌∙◌, arith}
use Rattle.std.specs.Prelude.{◌==◌, nat_le, IfSome, codes, if◌then◌else◌}
use Rattle.std.specs.Fmt.{decimal}
use Rattle.std.specs.List.{AllByRecursion, IsDistinct}
use Rattle.std.specs.List.Sorted.{IsPermutation}
use Rattle.std.specs.Str.{bytes_eq}
use Rattle.std.proofs.lemmas.Bool.{and_parts, false≢true}
use Rattle.std.proofs.lemmas.Bool.Decides.{nat_tests}
use Rattle.std.proofs.lemmas.List.{append-nil, length-append}
use Rattle.std.proofs.lemmas.List.Elements.{All-append, All-nil}
use Rattle.std.proofs.lemmas.List.Sorted.{length_permutation}
use Rattle.std.proofs.lemmas.Map.Keys.{IsDistinct-cons}
use Rattle.table_history.proofs.RowListLemmas.{Contains-none, one_of_one}
use Rattle.delta_live.proofs.BehindLemmas.{distinct_nothing}
use Rattle.delta_log.specs.Commit.{file_paths}
use Rattle.delta_log.proofs.FilePathLemmas.{paths_append}
use Rattle.delta_log.specs.Sound.{HasNeededFeatures, HaveDistinctNames, IsSoundFile, IsWritable}
use Rattle.delta_log.specs.declared.commit.DeltaCommit.{DeltaCommit}
use Rattle.delta_log.specs.declared.commit.FileAction.{FileAction}
use Rattle.delta_log.specs.declared.commit.FileAction.TheVariants as file
use Rattle.delta_log.specs.declared.commit.MetaData.{MetaData}
use Rattle.delta_log.specs.Readable.{IsReadableCommit}
use Rattle.delta_text.specs.Writing.{SameCommit, SameFile, SameFiles, SameMeta, commit_text}
use Rattle.conformance.specs.Drill.{SaysDrill, added_file, drill_bytes, drill_commit, drill_files, drill_meta, drill_protocol, drill_time, file_count, folder_at, numbers_under, path_at, removed_file, removed_files, removes}
use Rattle.conformance.proofs.Numbers.{all_map, from_map, grown, length_map}
use Rattle.conformance.proofs.Paths.{one_path, path_is}

-- ---- each commit, whether it removes files or not

pub removed_by : (number i : ℕ) (P : List FileAction → Type 0) → (10 ≤ i → P (map (removed_file number (i - 10)) (numbers_under file_count))) → P [] → P (removed_files number i)
removed_by number i P some none = by (removes number i) refl
  where
    by : (b : Bool) → removes number i ≡ b → P (if b then map (removed_file number (i - 10)) (numbers_under file_count) else [])
    by true is = let late : nat_le 10 i ≡ true = (and_parts (nat_le 10 i) ((number + i) % 4 == 0) is).0 in some (grind (arith, nat_tests))
    by false is = none

-- what is pushed for it, by the answer of a test
pub none_more : (number i : ℕ) (files : List FileAction) (b : Bool) → b ≡ removes number i → b ≡ false → files ≡ files ++ removed_files number i
none_more number i files b is off = sym (ap (λ (c : Bool). files ++ (if c then map (removed_file number (i - 10)) (numbers_under file_count) else [])) (sym is ∙ off) ∙ append-nil files)

pub some_more : (number i : ℕ) (files new : List FileAction) (b : Bool) → b ≡ removes number i → b ≡ true → new ≡ files ++ map (removed_file number (i - 10)) (numbers_under file_count) → new ≡ files ++ removed_files number i
some_more number i files new b is on pushed = pushed ∙ sym (ap (λ (c : Bool). files ++ (if c then map (removed_file number (i - 10)) (numbers_under file_count) else [])) (sym is ∙ on))

-- ---- files

one_name : (p : List ℕ × Option (List ℕ)) → HaveDistinctNames (p ∷ [])
one_name p = IsDistinct-cons bytes_eq p.0 [] tt distinct_nothing

module _ (number i : ℕ) (small : i < 200) where
  sound_added : (j : ℕ) → j < 50 → IsSoundFile (added_file number i j)
  sound_added j lt = (path_is number i j (omega (arith, small)) (omega (arith, lt)), one_name (codes "d", Some (decimal (folder_at number i j))), omega arith, omega arith)

  sound_removed : (j : ℕ) → j < 50 → IsSoundFile (removed_file number i j)
  sound_removed j lt = path_is number i j (omega (arith, small)) (omega (arith, lt))

pub sound_files : (number i : ℕ) → i < 200 → All IsSoundFile (drill_files number i)
sound_files number i small =
    All-append IsSoundFile (map (added_file number i) (numbers_under file_count)) (removed_files number i)
    (all_map IsSoundFile (added_file number i) 50 (sound_added number i small) 50 (omega arith))
    (removed_by number i (All IsSoundFile) (λ late. all_map IsSoundFile (removed_file number (i - 10)) 50 (sound_removed number (i - 10) (omega (arith, small))) 50 (omega arith)) (All-nil IsSoundFile))

-- ---- paths

pub paths_added : (number i : ℕ) (ns : List ℕ) → file_paths (map (added_file number i) ns) ≡ map (path_at number i) ns
paths_added number i [] = refl
paths_added number i (n ∷ ns) = ap (λ (l : List (List ℕ)). path_at number i n ∷ l) (paths_added number i ns)

pub paths_removed : (number i : ℕ) (ns : List ℕ) → file_paths (map (removed_file number i) ns) ≡ map (path_at number i) ns
paths_removed number i [] = refl
paths_removed number i (n ∷ ns) = ap (λ (l : List (List ℕ)). path_at number i n ∷ l) (paths_removed number i ns)

module _ (number i : ℕ) (small : i < 200) where
  abbrev own_paths : List (List ℕ)
  own_paths = map (path_at number i) (numbers_under file_count)

  pub own : (j k : ℕ) → j < 50 → k < 50 → path_at number i j ≡ path_at number i k → j ≡ k
  own j k lt_j lt_k is = (one_path number i j i k (omega (arith, small)) (omega (arith, lt_j)) (omega (arith, small)) (omega (arith, lt_k)) is).1

  pub distinct_added : IsDistinct bytes_eq own_paths
  distinct_added = grown (path_at number i) 50 own [] (λ j lt there. Contains-none (path_at number i j) there) distinct_nothing 50 (omega arith)

module _ (number i : ℕ) (small : i < 200) where
  apart : 10 ≤ i → (j : ℕ) → j < 50 → Contains (own_paths number i small) (path_at number (i - 10) j) → ⊥
  apart late j lt there =
      let found = from_map (path_at number i) 50 (path_at number (i - 10) j) there in
      let lt' = found.1 in
      let same : i ≡ i - 10 = (one_path number i found.0 (i - 10) j (omega (arith, small)) (omega (arith, lt')) (omega (arith, small)) (omega (arith, lt)) found.2).0 in
      omega (arith, same, late)

  pub distinct_paths : IsDistinct bytes_eq (file_paths (drill_files number i))
  distinct_paths =
      subst (IsDistinct bytes_eq) (sym (paths_append (map (added_file number i) (numbers_under file_count)) (removed_files number i) ∙ ap (λ (l : List (List ℕ)). l ++ file_paths (removed_files number i)) (paths_added number i (numbers_under file_count))))
      (removed_by number i (λ fs. IsDistinct bytes_eq (own_paths number i small ++ file_paths fs))
      (λ late. subst (λ (l : List (List ℕ)). IsDistinct bytes_eq (own_paths number i small ++ l)) (sym (paths_removed number (i - 10) (numbers_under file_count)))
      (grown (path_at number (i - 10)) 50 (own number (i - 10) (omega (arith, small))) (own_paths number i small) (apart late) (distinct_added number i small) 50 (omega arith)))
      (subst (IsDistinct bytes_eq) (sym (append-nil (own_paths number i small))) (distinct_added number i small)))

-- ---- the commit

plain_needed : HasNeededFeatures drill_protocol
plain_needed three = absurd (false≢true three)

protocol_needed : (b : Bool) → IfSome (if b then Some drill_protocol else None) HasNeededFeatures
protocol_needed true = plain_needed
protocol_needed false = tt

no_settings : (b : Bool) → IfSome (if b then Some drill_meta else None) (λ m. HaveDistinctNames m.configuration)
no_settings true = distinct_nothing
no_settings false = tt

pub writable : (number i : ℕ) → i < 200 → IsWritable (drill_commit number i)
writable number i small = record {
  sound = record { files = sound_files number i small; distinct = distinct_paths number i small; configuration = no_settings (i == 0) };
  protocol = protocol_needed (i == 0);
  few =
      let both = length-append (map (added_file number i) (numbers_under file_count)) (removed_files number i) in
      let added = length_map (added_file number i) 50 in
      let removed : length (removed_files number i) ≤ 50 = removed_by number i (λ fs. length fs ≤ 50) (λ late. let all = length_map (removed_file number (i - 10)) 50 in omega (arith, all)) (omega arith) in
      omega (arith, both, added, removed);
}

-- ---- what is read of it

none_of_none : {X : Type 0} (ys : List X) → IsPermutation [] ys → ys ≡ []
none_of_none [] moves = refl
none_of_none (y ∷ ys) moves = absurd (let len = length_permutation [] (y ∷ ys) moves in omega (arith, len))

-- an add has one value
abbrev HasOneValue : FileAction → Type 0
HasOneValue (file.Add path values size count) = (p : List ℕ × Option (List ℕ)) × (values ≡ p ∷ [])
HasOneValue (file.Remove path) = Unit {0}

same_file : (f g : FileAction) → HasOneValue f → SameFile f g → f ≡ g
same_file (file.Add p vs size count) (file.Add q ws bytes records) one is =
    let values : ws ≡ vs = one_of_one one.0 ws (subst (λ (l : List (List ℕ × Option (List ℕ))). IsPermutation l ws) one.1 is.1) ∙ sym one.1 in
    λ i. file.Add (is.0 i) (sym values i) (is.2 i) (is.3 i)
same_file (file.Add p vs size count) (file.Remove q) one is = absurd is
same_file (file.Remove p) (file.Add q ws bytes records) one is = absurd is
same_file (file.Remove p) (file.Remove q) one is = ap file.Remove is

same_files : (fs gs : List FileAction) → AllByRecursion HasOneValue fs → SameFiles fs gs → fs ≡ gs
same_files [] [] one is = refl
same_files [] (g ∷ gs) one is = absurd is
same_files (f ∷ fs) [] one is = absurd is
same_files (f ∷ fs) (g ∷ gs) one is = λ i. same_file f g one.0 is.0 i ∷ same_files fs gs one.1 is.1 i

one_value_each : (number i : ℕ) (ns : List ℕ) (fs : List FileAction) → AllByRecursion HasOneValue fs → AllByRecursion HasOneValue (map (added_file number i) ns ++ fs)
one_value_each number i [] fs all = all
one_value_each number i (n ∷ ns) fs all = (((codes "d", Some (decimal (folder_at number i n))), refl), one_value_each number i ns fs all)

none_removed : (number i : ℕ) (ns : List ℕ) → AllByRecursion HasOneValue (map (removed_file number i) ns)
none_removed number i [] = tt
none_removed number i (n ∷ ns) = (tt, none_removed number i ns)

one_value : (number i : ℕ) → AllByRecursion HasOneValue (drill_files number i)
one_value number i = one_value_each number i (numbers_under file_count) (removed_files number i) (removed_by number i (AllByRecursion HasOneValue) (λ late. none_removed number (i - 10) (numbers_under file_count)) tt)

same_meta : (b : Bool) (o : Option MetaData) → SameMeta (if b then Some drill_meta else None) o → (if b then Some drill_meta else None) ≡ o
same_meta true None is = absurd is
same_meta true (Some m) is =
    let settings : m.configuration ≡ [] = none_of_none m.configuration is.3 in
    λ i. Some (record { id = is.0 i; schema = is.1 i; partition = is.2 i; configuration = sym settings i })
same_meta false None is = refl
same_meta false (Some m) is = absurd is

pub same_commit : (number i : ℕ) (d : DeltaCommit) → SameCommit (drill_commit number i) d → drill_commit number i ≡ d
same_commit number i d is =
    let meta = same_meta (i == 0) d.meta is.meta in
    let files = same_files (drill_files number i) d.files (one_value number i) is.files in
    λ k. record { protocol = is.protocol k; meta = meta k; files = files k }

pub says : (number i : ℕ) (commit : DeltaCommit) (bytes : List ℕ) → commit ≡ drill_commit number i → bytes ≡ commit_text drill_time commit
    → (d : DeltaCommit) × IsReadableCommit bytes d × IsWritable d × SameCommit commit d → SaysDrill number i
says number i commit bytes is text read =
    let same : drill_commit number i ≡ read.0 = same_commit number i read.0 (subst (λ (c : DeltaCommit). SameCommit c read.0) is read.3) in
    let here : bytes ≡ drill_bytes number i = text ∙ ap (commit_text drill_time) is in
    subst (λ (c : DeltaCommit). IsReadableCommit (drill_bytes number i) c) (sym same) (subst (λ (b : List ℕ). IsReadableCommit b read.0) here read.1)
