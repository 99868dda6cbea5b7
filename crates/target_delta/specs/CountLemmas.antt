-- How many names of versions a folder has, where its versions are those under a number.
use Rattle.std.proofs.Common.{◌≡◌, inl, inr, ⊎_elim, ℕ, ◌<◌, ◌≤◌, ◌==◌, ◌&&◌, ◌||◌, true, false, eqb, List, [], ◌∷◌, ◌++◌, length, take, drop, filter_map, codes, Contains, Some, None, refl, sym, ap, subst, ◌∙◌, arith, if◌then◌else◌}
use Rattle.std.specs.Prelude.{IsSome, nat_le}
use Rattle.std.specs.Char.{digit_value}
use Rattle.std.specs.List.{AllByRecursion, IsDistinct, cons_option, list_all, list_any}
use Rattle.std.specs.List.Sorted.{IsStrictlySortedBy}
use Rattle.std.specs.Cmp.Lexicographic.{slice_cmp}
use Rattle.std.specs.Ordering.{nat_cmp}
use Rattle.std.specs.declared.cmp.Ordering.TheVariants.{Less}
use Rattle.std.specs.Str.{bytes_eq}
use Rattle.std.specs.Str.Parse.{AllDigits, digits_value}
use Rattle.std.specs.FinMap as map
use Rattle.std.proofs.Math.ListN.{length-take}
use Rattle.std.proofs.lemmas.Bool.{and_from, cases_Bool, cases_lt, false≢true, or_left, or_right}
use Rattle.std.proofs.lemmas.Str.Parse.{digit_from_value}
use Rattle.std.proofs.lemmas.Bool.Decides.{nat_tests}
use Rattle.std.proofs.lemmas.Map.Keys.{IsDistinct-cons}
use Rattle.std.proofs.lemmas.Map.Steps.{length-le_from_distinct_below, le-length_from_below}
use Rattle.std.proofs.lemmas.Slice.Eq.{bytes_eq-Decides}
use Rattle.lake_basics.specs.declared.limits.TheConstants.{MAX_DELTA_VERSION}
use Rattle.lake_basics.proofs.Truth.{left_true, right_true}
use Rattle.lake_basics.proofs.Numbers.{le_by, le_test}
use Rattle.lake_basics.proofs.Options.{chosen, some_there}
use Rattle.lake_store.specs.Disk.{Files, names_in}
use Rattle.lake_store.proofs.OrderLaws.{names_in_listed, names_in_sorted}
use Rattle.delta_log.specs.VersionName.{IsVersionName}
use Rattle.delta_log.proofs.VersionLemmas.{name_of_parts, parts_of}
use Rattle.delta_table.proofs.PathLaws.{path_once, version_is_name}
use Rattle.delta_table.specs.Versions.{HasVersion, log_folder}
use Rattle.table_history.proofs.RowListLemmas.{Contains-none, Contains-head, Contains-tail, Contains-cases}
use Rattle.table_history.proofs.OrderLemmas.{not_itself}
use Rattle.target_core.proofs.Lists.{picked, picked_from}
use Rattle.target_delta.specs.Names.{HasVersions, path_of}
use Rattle.target_delta.specs.NameLemmas.{same_behind}
use Rattle.target_delta.specs.ReadingLemmas.{reached_there}
use Rattle.target_delta.specs.Reading.{commits_in, is_digit, is_version_name, version_named, versions_in}

-- ---- the test of a name

digit_test : (c : ℕ) → digit_value c < 10 → is_digit c ≡ true
digit_test c lt = grind (arith, nat_tests)

digit_by : (c : ℕ) → is_digit c ≡ true → digit_value c < 10
digit_by c is = grind (arith, nat_tests)

digits_test : (ds : List ℕ) → AllDigits 10 ds → list_all is_digit ds ≡ true
digits_test [] all = refl
digits_test (c ∷ ds) all = and_from (is_digit c) (list_all is_digit ds) (digit_test c all.0) (digits_test ds all.1)

digits_by : (ds : List ℕ) → list_all is_digit ds ≡ true → AllDigits 10 ds
digits_by [] is = tt
digits_by (c ∷ ds) is = (digit_by c (left_true (is_digit c) (list_all is_digit ds) is), digits_by ds (right_true (is_digit c) (list_all is_digit ds) is))

same_test : (n m : ℕ) → n ≡ m → (n == m) ≡ true
same_test n m is = grind (arith, nat_tests)

same_by : (n m : ℕ) → (n == m) ≡ true → n ≡ m
same_by n m is = grind (arith, nat_tests)

pub named_version : (name : List ℕ) (v : ℕ) → IsVersionName name v → version_named name ≡ Some v
named_version name v h =
    let parts = parts_of name v h in
    let digits = parts.digits in
    let value : digits_value 10 (take 20 name) ≡ v = sym digits.value in
    let suffix = (bytes_eq-Decides (drop 20 name) (codes ".json")).1 parts.suffix in
    let within : nat_le (digits_value 10 (take 20 name)) MAX_DELTA_VERSION ≡ true = le_test (digits_value 10 (take 20 name)) MAX_DELTA_VERSION (subst (λ (n : ℕ). n ≤ MAX_DELTA_VERSION) (sym value) h.within) in
    let is : is_version_name name ≡ true =
    and_from (length name == 25) (list_all is_digit (take 20 name) && (bytes_eq (drop 20 name) (codes ".json") && nat_le (digits_value 10 (take 20 name)) MAX_DELTA_VERSION)) (same_test (length name) 25 parts.len)
    (and_from (list_all is_digit (take 20 name)) (bytes_eq (drop 20 name) (codes ".json") && nat_le (digits_value 10 (take 20 name)) MAX_DELTA_VERSION) (digits_test (take 20 name) digits.numeral.1)
    (and_from (bytes_eq (drop 20 name) (codes ".json")) (nat_le (digits_value 10 (take 20 name)) MAX_DELTA_VERSION) suffix within)) in
    ap (λ b. if b then Some (digits_value 10 (take 20 name)) else None) is ∙ ap (λ (n : ℕ). Some n) value

pub version_by_name : (name : List ℕ) (v : ℕ) → version_named name ≡ Some v → IsVersionName name v
version_by_name name v h =
    let whole = chosen (is_version_name name) (digits_value 10 (take 20 name)) v h in
    let len : length name ≡ 25 = same_by (length name) 25 (left_true (length name == 25) _ whole.0) in
    let rest = right_true (length name == 25) (list_all is_digit (take 20 name) && (bytes_eq (drop 20 name) (codes ".json") && nat_le (digits_value 10 (take 20 name)) MAX_DELTA_VERSION)) whole.0 in
    let numeral : AllDigits 10 (take 20 name) = digits_by (take 20 name) (left_true (list_all is_digit (take 20 name)) _ rest) in
    let last = right_true (list_all is_digit (take 20 name)) (bytes_eq (drop 20 name) (codes ".json") && nat_le (digits_value 10 (take 20 name)) MAX_DELTA_VERSION) rest in
    let suffix : drop 20 name ≡ codes ".json" = (bytes_eq-Decides (drop 20 name) (codes ".json")).0 (left_true (bytes_eq (drop 20 name) (codes ".json")) _ last) in
    let within : digits_value 10 (take 20 name) ≤ MAX_DELTA_VERSION = le_by (digits_value 10 (take 20 name)) MAX_DELTA_VERSION (right_true (bytes_eq (drop 20 name) (codes ".json")) (nat_le (digits_value 10 (take 20 name)) MAX_DELTA_VERSION) last) in
    let front : length (take 20 name) ≡ 20 = simp length-take (omega (arith, len)) in
    name_of_parts name (take 20 name) (drop 20 name) v refl refl suffix
    (record { len = front; numeral = (omega (arith, front), numeral); value = sym whole.1 })
    (subst (λ (n : ℕ). n ≤ MAX_DELTA_VERSION) whole.1 within)

-- ---- the versions in a folder

number_test : (q n : ℕ) → eqb q n ≡ true → q ≡ n
number_test q n is = grind (arith, nat_tests)

test_number : (q n : ℕ) → q ≡ n → eqb q n ≡ true
test_number q n is = grind (arith, nat_tests)

number_apart : (q n : ℕ) → (q ≡ n → ⊥) → eqb q n ≡ false
number_apart q n apart = ⊎_elim (λ is. absurd (apart (number_test q n is))) (λ is. is) (cases_Bool (eqb q n))

any_number : (q : ℕ) (xs : List ℕ) → Contains xs q → list_any (eqb q) xs ≡ true
any_number q [] there = absurd (Contains-none q there)
any_number q (x ∷ xs) there = ⊎_elim (λ (same : x ≡ q). or_left (eqb q x) (list_any (eqb q) xs) (test_number q x (sym same))) (λ later. or_right (eqb q x) (list_any (eqb q) xs) (any_number q xs later)) (Contains-cases x xs q there)

number_any : (q : ℕ) (xs : List ℕ) → list_any (eqb q) xs ≡ true → Contains xs q
number_any q [] is = absurd (false≢true is)
number_any q (x ∷ xs) is =
    elim (eqb q x) as (λ b. eqb q x ≡ b → (b || list_any (eqb q) xs) ≡ true → Contains (x ∷ xs) q) [
      | true ↦ λ same _. subst (λ n. Contains (x ∷ xs) n) (sym (number_test q x same)) (Contains-head x xs)
      | false ↦ λ _ later. Contains-tail x xs q (number_any q xs later)
    ] refl is

-- two names of one version are one
one_name : (name other : List ℕ) (v : ℕ) → version_named name ≡ Some v → version_named other ≡ Some v → name ≡ other
one_name name other v h k =
    same_behind name other (path_of name) refl (path_once v (path_of name) (path_of other) (record { name = name; named = version_by_name name v h; split = refl }) (record { name = other; named = version_by_name other v k; split = refl }))

all_less : (name : List ℕ) (names : List (List ℕ)) (other : List ℕ) → AllByRecursion (λ y. slice_cmp nat_cmp name y ≡ Less) names → Contains names other → slice_cmp nat_cmp name other ≡ Less
all_less name [] other all there = absurd (Contains-none other there)
all_less name (n ∷ names) other all there = ⊎_elim (λ (same : n ≡ other). subst (λ (m : List ℕ). slice_cmp nat_cmp name m ≡ Less) same all.0) (λ later. all_less name names other all.1 later) (Contains-cases n names other there)

apart_numbers : (q : ℕ) (xs : List ℕ) → (Contains xs q → ⊥) → AllByRecursion (λ y. eqb q y ≡ false) xs
apart_numbers q [] none = tt
apart_numbers q (x ∷ xs) none = (number_apart q x (λ (same : q ≡ x). none (subst (λ n. Contains (x ∷ xs) n) (sym same) (Contains-head x xs))), apart_numbers q xs (λ later. none (Contains-tail x xs q later)))

distinct_none : IsDistinct eqb []
unfolding IsDistinct
distinct_none = tt

distinct_versions : (names : List (List ℕ)) → IsStrictlySortedBy (slice_cmp nat_cmp) names → IsDistinct eqb (filter_map version_named names)
unfolding IsStrictlySortedBy
distinct_versions [] sorted = distinct_none
distinct_versions (name ∷ names) sorted =
    elim (version_named name) as (λ o. version_named name ≡ o → IsDistinct eqb (cons_option o (filter_map version_named names))) [
      | None ↦ λ is. distinct_versions names sorted.1
      | Some v ↦ λ is. IsDistinct-cons eqb v (filter_map version_named names)
          (apart_numbers v (filter_map version_named names) (λ there.
          let other = picked_from version_named names v there in
          let same : name ≡ other.0 = one_name name other.0 v is other.2 in
          not_itself name (subst (λ (m : List ℕ). slice_cmp nat_cmp name m ≡ Less) (sym same) (all_less name names other.0 sorted.0 other.1))))
          (distinct_versions names sorted.1)
    ] refl

-- ---- their number

-- a name of a version is a name
digit_byte : (c : ℕ) → digit_value c < 10 → c ≡ 47 → ⊥
digit_byte c lt is = let at = digit_from_value c lt in omega (arith, at, is)

no_slash : (ds : List ℕ) → AllDigits 10 ds → Contains (ds ++ codes ".json") 47 → ⊥
no_slash [] all there =
    ⊎_elim (λ (a : 46 ≡ 47). absurd (omega (arith, a))) (λ b. ⊎_elim (λ (a : 106 ≡ 47). absurd (omega (arith, a))) (λ d. ⊎_elim (λ (a : 115 ≡ 47). absurd (omega (arith, a))) (λ e. ⊎_elim (λ (a : 111 ≡ 47). absurd (omega (arith, a))) (λ f. ⊎_elim (λ (a : 110 ≡ 47). absurd (omega (arith, a))) (λ g. Contains-none 47 g)
    (Contains-cases 110 [] 47 f)) (Contains-cases 111 (110 ∷ []) 47 e)) (Contains-cases 115 (111 ∷ 110 ∷ []) 47 d)) (Contains-cases 106 (115 ∷ 111 ∷ 110 ∷ []) 47 b)) (Contains-cases 46 (106 ∷ 115 ∷ 111 ∷ 110 ∷ []) 47 there)
no_slash (c ∷ ds) all there = ⊎_elim (λ (same : c ≡ 47). digit_byte c all.0 same) (λ later. no_slash ds all.1 later) (Contains-cases c (ds ++ codes ".json") 47 there)

has_by_name : (files : Files) (name : List ℕ) (v : ℕ) → IsVersionName name v → IsSome (map.get files (path_of name)) → HasVersion files v
has_by_name files name v named there = reached_there files (path_of name) (record { version = v; named = record { name = name; named = named; split = refl }; there = there })

pub listed : (files : Files) (v : ℕ) → HasVersion files v → Contains (versions_in files) v
listed files v h =
    let is = h.1.is in
    let there : IsSome (map.get files (path_of is.name)) = subst (λ (p : List ℕ). IsSome (map.get files p)) is.split (some_there (map.get files h.1.path) h.0 h.1.there) in
    picked version_named (names_in files log_folder) is.name v (((names_in_listed files log_folder).members is.name).1 (version_is_name is.name v is.named, there)) (named_version is.name v is.named)

pub from_list : (files : Files) (v : ℕ) → Contains (versions_in files) v → HasVersion files v
from_list files v there =
    let found = picked_from version_named (names_in files log_folder) v there in
    let listed_name = ((names_in_listed files log_folder).members found.0).0 found.1 in
    has_by_name files found.0 v (version_by_name found.0 v found.2) listed_name.1

pub count_is : (files : Files) (n : ℕ) → HasVersions files n → commits_in files ≡ n
count_is files n h =
    let most = length-le_from_distinct_below (versions_in files) n (distinct_versions (names_in files log_folder) (names_in_sorted files log_folder))
    (λ q is. elim (cases_lt q n) [ inl lt ↦ lt | inr le ↦ absurd (h.none q le (from_list files q (number_any q (versions_in files) is))) ]) in
    let least = le-length_from_below (versions_in files) n (λ q lt. any_number q (versions_in files) (listed files q (h.there q lt))) in
    omega (arith, most, least)
