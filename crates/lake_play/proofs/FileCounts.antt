-- How many files a call of a store, or a crash, leaves.
use Rattle.std.proofs.Common.{◌≡◌, ◌≢◌, ◌⊎◌, inl, inr, ℕ, zero, suc, ◌+◌, ◌-◌, ◌≤◌, Bool, true, false, ◌||◌, cond, T, List, [], ◌∷◌, ◌++◌, length, filter_map, Contains, Option, Some, None, is_some, refl, sym, ap, ◌∙◌, arith}
use Rattle.std.proofs.Common.{map as map_list}
use Rattle.std.specs.Prelude.{IsSome, Result, IsErrOf, OnErr, OnOk}
use Rattle.std.specs.Cmp.Lexicographic.{slice_cmp, nat_list_cmp_total}
use Rattle.std.specs.FinMap as map
use Rattle.std.specs.FinMap.Entries.{below_all, is_sorted}
use Rattle.std.specs.List.{AllByRecursion, cons_option, list_any}
use Rattle.std.specs.List.Sorted.{IsStrictlySortedBy}
use Rattle.std.specs.Ordering.{is_lt, nat_cmp}
use Rattle.std.specs.declared.cmp.Ordering.TheVariants.{Less}
use Rattle.std.proofs.lemmas.Cmp.{eq_by_cmp_equiv}
use Rattle.std.proofs.lemmas.List.{length-append, length-map}
use Rattle.std.proofs.lemmas.Map.Keys.{IsDistinct-from_sorted}
use Rattle.std.proofs.lemmas.Map.Made.{length-le_from_is_member}
use Rattle.std.proofs.lemmas.Map.Views.{list_any-from_Contains}
use Rattle.lake_store.specs.Crash.{all_torn, left_by, torn}
use Rattle.lake_store.specs.Disk.{Disk, Files, Moves, SameElsewhere, front_of, name_behind, names_in, removed, stored, with_file, written}
use Rattle.lake_store.specs.declared.store.StoreError.{StoreError}
use Rattle.lake_store.specs.declared.store.StoreError.TheVariants.{Taken}
use Rattle.lake_store.proofs.DiskLaws.{get-insert_here, get-insert_other, get-remove_here, get-remove_other, is_path, path_cases, publish_leaves, remove_leaves, write_leaves}
use Rattle.lake_basics.proofs.Truth.{T_left, T_less, T_right}
use Rattle.source_core.proofs.Files.{same_files}

-- ---- one path

cond_more : (t : Bool) (n : ℕ) → cond t n (n + 1) ≤ n + 1
cond_more true n = omega arith
cond_more false n = omega arith

cond_less : (t : Bool) (n : ℕ) → cond t (n - 1) n ≤ n
cond_less true n = omega arith
cond_less false n = omega arith

pub inserted_count : (m : Files) (p b : List ℕ) → map.len (map.insert m p b) ≤ map.len m + 1
inserted_count m p b = let is = map.len-insert nat_list_cmp_total m p b in let most = cond_more (map.contains_key m p) (map.len m) in omega (arith, is, most)

pub removed_count : (m : Files) (p : List ℕ) → map.len (map.remove m p) ≤ map.len m
removed_count m p = let is = map.len-remove nat_list_cmp_total m p in let most = cond_less (map.contains_key m p) (map.len m) in omega (arith, is, most)

-- what is there again, or is taken out again, is no other file
unchanged : (m : Files) (p : List ℕ) → with_file m p (map.get m p) ≡ m
unchanged m p = by (map.get m p) refl
  where
    at : (o : Option (List ℕ)) → map.get m p ≡ o → (q : List ℕ) → (q ≡ p) ⊎ (q ≢ p) → map.get (with_file m p o) q ≡ map.get m q
    at None is q (inl same) = ap (map.get (map.remove m p)) same ∙ get-remove_here m p ∙ sym (ap (map.get m) same ∙ is)
    at None is q (inr other) = get-remove_other m p q other
    at (Some b) is q (inl same) = ap (map.get (map.insert m p b)) same ∙ get-insert_here m p b ∙ sym (ap (map.get m) same ∙ is)
    at (Some b) is q (inr other) = get-insert_other m p b q other

    by : (o : Option (List ℕ)) → map.get m p ≡ o → with_file m p o ≡ m
    by o is = same_files (with_file m p o) m (λ q. at o is q (path_cases q p))

with_count : (m : Files) (p : List ℕ) (o : Option (List ℕ)) → map.len (with_file m p o) ≤ map.len m + 1
with_count m p None = let most = removed_count m p in omega (arith, most)
with_count m p (Some b) = inserted_count m p b

-- files that differ at one path
pub elsewhere_count : (m n : Files) (p : List ℕ) → ((q : List ℕ) → q ≢ p → map.get n q ≡ map.get m q) → map.len n ≤ map.len m + 1
elsewhere_count m n p same =
    let most = with_count m p (map.get n p) in
    let is : with_file m p (map.get n p) ≡ n = by (map.get n p) refl in
    let count = ap map.len is in
    omega (arith, most, count)
  where
    at : (o : Option (List ℕ)) → map.get n p ≡ o → (q : List ℕ) → (q ≡ p) ⊎ (q ≢ p) → map.get (with_file m p o) q ≡ map.get n q
    at None is q (inl here) = ap (map.get (map.remove m p)) here ∙ get-remove_here m p ∙ sym (ap (map.get n) here ∙ is)
    at None is q (inr other) = get-remove_other m p q other ∙ sym (same q other)
    at (Some b) is q (inl here) = ap (map.get (map.insert m p b)) here ∙ get-insert_here m p b ∙ sym (ap (map.get n) here ∙ is)
    at (Some b) is q (inr other) = get-insert_other m p b q other ∙ sym (same q other)

    by : (o : Option (List ℕ)) → map.get n p ≡ o → with_file m p o ≡ n
    by o is = same_files (with_file m p o) n (λ q. at o is q (path_cases q p))

-- a file that is there counts
no_files : (m : Files) (p : List ℕ) → IsSome (map.get m p) → map.len m ≡ 0 → ⊥
no_files m p there none =
    let empty : map.get m p ≡ None = ap (λ (n : Files). map.get n p) (map.empty_of_len m none) ∙ map.get-empty _ p in
    cc (sym there ∙ ap is_some empty)

taken_count : (m : Files) (p : List ℕ) → IsSome (map.get m p) → map.len (map.remove m p) + 1 ≤ map.len m
taken_count m p there = by (map.len m) refl
  where
    is : map.len (map.remove m p) ≡ map.len m - 1
    is = map.len-remove nat_list_cmp_total m p ∙ ap (λ (t : Bool). cond t (map.len m - 1) (map.len m)) there

    by : (n : ℕ) → map.len m ≡ n → map.len (map.remove m p) + 1 ≤ map.len m
    by zero none = absurd (no_files m p there none)
    by (suc n) some = let less = is in omega (arith, less, some)

-- a file that moves
pub moved_count : (old new : Disk) (from to : List ℕ) → Moves from to old new → map.len new.files ≤ map.len old.files
moved_count old new from to moves =
    let less = taken_count old.files from (ap is_some moves.1) in
    let more = inserted_count (map.remove old.files from) to moves.0 in
    let is = ap (λ (d : Disk). map.len d.files) moves.2 in
    omega (arith, less, more, is)

-- ---- a crash

torn_count : (m : Files) (p : List ℕ) (choice : ℕ) → map.len (torn m p choice) ≤ map.len m + 1
torn_count m p choice = with_count m p (left_by choice (map.get m p))

-- a crash makes a file at most for each of its choices
pub all_torn_count : (m : Files) (paths : List (List ℕ)) (choices : List ℕ) → map.len (all_torn m paths choices) ≤ map.len m + length choices
all_torn_count m [] choices = omega arith
all_torn_count m (p ∷ paths) [] =
    let rest = all_torn_count (torn m p 1) paths [] in
    let same = ap map.len (unchanged m p) in
    omega (arith, rest, same)
all_torn_count m (p ∷ paths) (choice ∷ choices) =
    let rest = all_torn_count (torn m p choice) paths choices in
    let first = torn_count m p choice in
    omega (arith, rest, first)

-- ---- the calls that change files

pub write_count : {T : Type 0} (r : Result T StoreError) (old new : Disk) (p b : List ℕ) → OnOk r (new ≡ written old p b) → OnErr r (SameElsewhere p old new) → map.len new.files ≤ map.len old.files + 1
write_count r old new p b ok err = elsewhere_count old.files new.files p (write_leaves r old new p b ok err).files

pub remove_count : {T : Type 0} (r : Result T StoreError) (old new : Disk) (p : List ℕ) → OnOk r (new ≡ removed old p) → OnErr r ((new ≡ old) ⊎ (new ≡ removed old p)) → map.len new.files ≤ map.len old.files + 1
remove_count r old new p ok err = by (remove_leaves r old new p ok err)
  where
    by : (new ≡ old) ⊎ (new ≡ removed old p) → map.len new.files ≤ map.len old.files + 1
    by (inl same) = let is = ap (λ (d : Disk). map.len d.files) same in omega (arith, is)
    by (inr gone) = let is = ap (λ (d : Disk). map.len d.files) gone in let less = removed_count old.files p in omega (arith, is, less)

pub publish_count : {T : Type 0} (r : Result T StoreError) (old new : Disk) (from to : List ℕ) → OnOk r (Moves from to old new) → (IsErrOf r Taken → (b : List ℕ) × (new ≡ stored old to b)) → OnErr r ((IsErrOf r Taken → ⊥) → (new ≡ old) ⊎ Moves from to old new)
    → map.len new.files ≤ map.len old.files + 1
publish_count r old new from to ok taken err = by (publish_leaves r old new from to ok taken err)
  where
    by : (new ≡ old) ⊎ Moves from to old new ⊎ (IsErrOf r Taken × ((b : List ℕ) × (new ≡ stored old to b))) → map.len new.files ≤ map.len old.files + 1
    by (inl same) = let is = ap (λ (d : Disk). map.len d.files) same in omega (arith, is)
    by (inr (inl moves)) = let same = moved_count old new from to moves in omega (arith, same)
    by (inr (inr theirs)) = let is = ap (λ (d : Disk). map.len d.files) theirs.1.1 in let more = inserted_count old.files to theirs.1.0 in omega (arith, is, more)

-- ---- many paths

all_below : (x : List ℕ) (es : List (List ℕ × List ℕ)) → T (below_all (slice_cmp nat_cmp) x es) → AllByRecursion (λ y. slice_cmp nat_cmp x y ≡ Less) (map_list (λ e. e.0) es)
all_below x [] h = tt
all_below x (e ∷ es) h =
    (T_less (slice_cmp nat_cmp x e.0) (T_left (is_lt (slice_cmp nat_cmp x e.0)) (below_all (slice_cmp nat_cmp) x es) h), all_below x es (T_right (is_lt (slice_cmp nat_cmp x e.0)) (below_all (slice_cmp nat_cmp) x es) h))

rising : (es : List (List ℕ × List ℕ)) → T (is_sorted (slice_cmp nat_cmp) es) → IsStrictlySortedBy (slice_cmp nat_cmp) (map_list (λ e. e.0) es)
unfolding IsStrictlySortedBy
rising [] h = tt
rising (e ∷ es) h = (all_below e.0 es (T_left (below_all (slice_cmp nat_cmp) e.0 es) (is_sorted (slice_cmp nat_cmp) es) h), rising es (T_right (below_all (slice_cmp nat_cmp) e.0 es) (is_sorted (slice_cmp nat_cmp) es) h))

any_either : {X : Type 0} (test : X → Bool) (xs ys : List X) → (list_any test xs ≡ true) ⊎ (list_any test ys ≡ true) → list_any test (xs ++ ys) ≡ true
any_either test [] ys (inl found) = cc
any_either test [] ys (inr found) = found
any_either test (x ∷ xs) ys found = by (test x) refl (λ more. any_either test xs ys more) found
  where
    by : (b : Bool) → test x ≡ b → ((list_any test xs ≡ true) ⊎ (list_any test ys ≡ true) → list_any test (xs ++ ys) ≡ true) → ((test x || list_any test xs) ≡ true) ⊎ (list_any test ys ≡ true) → (test x || list_any test (xs ++ ys)) ≡ true
    by true is rest found = ap (λ (t : Bool). t || list_any test (xs ++ ys)) is
    by false is rest (inl found) = ap (λ (t : Bool). t || list_any test (xs ++ ys)) is ∙ rest (inl (sym (ap (λ (t : Bool). t || list_any test xs) is) ∙ found))
    by false is rest (inr found) = ap (λ (t : Bool). t || list_any test (xs ++ ys)) is ∙ rest (inr found)

keys_count : (m : Files) → length (map.keys m) ≡ map.len m
keys_count m = length-map (map.entries m) (λ e. e.0) ∙ sym (map.len-entries m)

-- Where each path of a file was there or is one of these, there are so many files more at most.
pub grown_count : (before after : Files) (more : List (List ℕ)) → ((q : List ℕ) → IsSome (map.get after q) → Contains more q ⊎ IsSome (map.get before q)) → map.len after ≤ map.len before + length more
grown_count before after more from =
    let eq = eq_by_cmp_equiv nat_list_cmp_total in
    let fewer = length-le_from_is_member eq (map.keys after) (map.keys before ++ more) (IsDistinct-from_sorted (slice_cmp nat_cmp) (map.keys after) (rising (map.entries after) (map.entries_sorted after)))
    (λ q there. any_either (is_path q) (map.keys before) more (by q (from q (map.contains_key-keys after q ∙ there)))) in
    let both = length-append (map.keys before) more in
    let old = keys_count before in
    let new = keys_count after in
    omega (arith, fewer, both, old, new)
  where
    by : (q : List ℕ) → Contains more q ⊎ IsSome (map.get before q) → (list_any (is_path q) (map.keys before) ≡ true) ⊎ (list_any (is_path q) more ≡ true)
    by q (inl new) = inr (list_any-from_Contains (eq_by_cmp_equiv nat_list_cmp_total) q more new)
    by q (inr old) = inl (sym (map.contains_key-keys before q) ∙ old)

-- ---- the names of a folder

fewer_names : {X Y : Type 0} (f : X → Option Y) (xs : List X) → length (filter_map f xs) ≤ length xs
fewer_names f [] = omega arith
fewer_names f (x ∷ xs) = by (f x) (fewer_names f xs)
  where
    by : (o : Option _) → length (filter_map f xs) ≤ length xs → length (cons_option o (filter_map f xs)) ≤ length (x ∷ xs)
    by None rest = omega (arith, rest)
    by (Some y) rest = omega (arith, rest)

-- A folder has no more names than there are files.
pub names_count : (files : Files) (folder : List ℕ) → length (names_in files folder) ≤ map.len files
names_count files folder = let few = fewer_names (name_behind (front_of folder)) (map.keys files) in let all = keys_count files in omega (arith, few, all)
