-- How many commits the names of a folder tell.
use Rattle.std.proofs.Common.{◌≡◌, inl, inr, ⊎_elim, ℕ, ◌≤◌, ◌-◌, ◌&&◌, List, [], ◌∷◌, ◌++◌, length, take, codes, Contains, Some, None, sym, ap, subst, ◌∙◌, arith, if◌then◌else◌}
use Rattle.std.specs.Prelude.{filter_map, fold, max, nat_le}
use Rattle.std.specs.Fmt.{decimal}
use Rattle.std.specs.Str.{bytes_eq}
use Rattle.std.specs.Str.Parse.{digits_value}
use Rattle.std.proofs.lemmas.Fmt.{decimal_is_IsNumeral}
use Rattle.std.proofs.lemmas.List.{length-append}
use Rattle.std.proofs.lemmas.Slice.Eq.{bytes_eq-Decides}
use Rattle.std.proofs.lemmas.Bool.{and_from, and_parts}
use Rattle.lake_basics.specs.declared.limits.TheConstants.{MAX_ICEBERG_VERSION}
use Rattle.lake_basics.proofs.Lists.{take_front}
use Rattle.lake_basics.proofs.Numbers.{le_by, le_test}
use Rattle.lake_basics.proofs.Options.{chosen}
use Rattle.lake_store.specs.Disk.{Files, names_in}
use Rattle.table_history.proofs.RowListLemmas.{Contains-cases, Contains-head, Contains-none, Contains-tail}
use Rattle.iceberg_metadata.specs.VersionName.{IsVersionName}
use Rattle.iceberg_table.specs.Folder.{HasVersion, IsNewest, metadata_folder}
use Rattle.target_core.specs.Views.{View}
use Rattle.target_core.proofs.Unpublished.{no_commits}
use Rattle.target_core.proofs.Lists.{picked, picked_from}
use Rattle.target_iceberg.specs.Reading.{Reads, commits_in, version_digits, version_name, version_named}

-- ---- the version that a name is of

name_digits : (v : ℕ) → version_digits (version_name v) ≡ decimal v
name_digits v =
    let long = length-append (decimal v) (codes ".metadata.json") in
    let front : length (version_name v) - 15 ≡ length (decimal v) = omega (arith, long) in
    ap (λ (n : ℕ). take n (decimal v ++ codes ".metadata.json")) front ∙ take_front (decimal v) (codes ".metadata.json")

name_value : (name : List ℕ) (v : ℕ) → IsVersionName name v → digits_value 10 (version_digits name) ≡ v
name_value name v h =
    let small = h.within in
    ap (λ (n : List ℕ). digits_value 10 (version_digits n)) h.spelled ∙ ap (digits_value 10) (name_digits v) ∙ (decimal_is_IsNumeral v (omega (arith, small))).1

named_version : (name : List ℕ) (v : ℕ) → IsVersionName name v → version_named name ≡ Some v
named_version name v h =
    let value = name_value name v h in
    let spelled : name ≡ version_name (digits_value 10 (version_digits name)) = h.spelled ∙ ap version_name (sym value) in
    let within = subst (λ (n : ℕ). n ≤ MAX_ICEBERG_VERSION) (sym value) h.within in
    let is = and_from (bytes_eq name (version_name (digits_value 10 (version_digits name)))) (nat_le (digits_value 10 (version_digits name)) MAX_ICEBERG_VERSION)
    ((bytes_eq-Decides name (version_name (digits_value 10 (version_digits name)))).1 spelled) (le_test (digits_value 10 (version_digits name)) MAX_ICEBERG_VERSION within) in
    ap (λ b. if b then Some (digits_value 10 (version_digits name)) else None) is ∙ ap (λ (n : ℕ). Some n) value

version_by_name : (name : List ℕ) (v : ℕ) → version_named name ≡ Some v → IsVersionName name v
version_by_name name v h =
    let n = digits_value 10 (version_digits name) in
    let whole = chosen (bytes_eq name (version_name n) && nat_le n MAX_ICEBERG_VERSION) n v h in
    let parts = and_parts (bytes_eq name (version_name n)) (nat_le n MAX_ICEBERG_VERSION) whole.0 in
    let spelled = (bytes_eq-Decides name (version_name n)).0 parts.0 in
    let within = le_by n MAX_ICEBERG_VERSION parts.1 in
    record { spelled = spelled ∙ ap version_name whole.1; within = subst (λ (m : ℕ). m ≤ MAX_ICEBERG_VERSION) whole.1 within }

-- ---- the greatest

greatest_within : (xs : List ℕ) (a n : ℕ) → a ≤ n → ((x : ℕ) → Contains xs x → x ≤ n) → fold max a xs ≤ n
greatest_within [] a n first all = first
greatest_within (x ∷ xs) a n first all = let here = all x (Contains-head x xs) in greatest_within xs (max a x) n (omega (arith, first, here)) (λ y later. all y (Contains-tail x xs y later))

greatest_from : (xs : List ℕ) (a : ℕ) → a ≤ fold max a xs
greatest_from [] a = omega arith
greatest_from (x ∷ xs) a = let rest = greatest_from xs (max a x) in omega (arith, rest)

greatest_there : (xs : List ℕ) (a n : ℕ) → Contains xs n → n ≤ fold max a xs
greatest_there [] a n there = absurd (Contains-none n there)
greatest_there (x ∷ xs) a n there =
    ⊎_elim
    (λ (same : x ≡ n). let rest = greatest_from xs (max a x) in omega (arith, rest, same))
    (λ later. greatest_there xs (max a x) n later)
    (Contains-cases x xs n there)

-- ---- the newest version

abbrev versions_in : Files → List ℕ
versions_in files = filter_map version_named (names_in files metadata_folder)

listed : (files : Files) (v : ℕ) → HasVersion files v → Contains (versions_in files) v
listed files v h = picked version_named (names_in files metadata_folder) h.0 v h.1 (named_version h.0 v h.2)

from_list : (files : Files) (v : ℕ) → Contains (versions_in files) v → HasVersion files v
from_list files v there =
    let found = picked_from version_named (names_in files metadata_folder) v there in
    (found.0, found.1, version_by_name found.0 v found.2)

pub commits_newest : (files : Files) (version : ℕ) → IsNewest (HasVersion files) version → commits_in files ≡ version
commits_newest files version newest =
    let most = greatest_within (versions_in files) 0 version (omega arith) (λ x there. newest.last x (from_list files x there)) in
    let least = greatest_there (versions_in files) 0 version (listed files version newest.there) in
    omega (arith, most, least)

pub commits_read : (files : Files) (v : View) → Reads files v → commits_in files ≡ v.commits
commits_read files v (inl h) =
    let none = no_commits v h.1 in
    let most = greatest_within (versions_in files) 0 0 (omega arith) (λ x there. absurd (h.0.versions x (from_list files x there))) in
    omega (arith, none, most)
commits_read files v (inr h) = commits_newest files v.commits h.newest
