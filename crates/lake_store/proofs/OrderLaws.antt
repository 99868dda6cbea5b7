-- The names of a folder are in byte order, each once. For the crates above too.
use Rattle.std.proofs.Common.{◌≡◌, ◌⊎◌, ⊎_elim, inl, inr, ℕ, ◌==◌, Bool, true, false, ◌||◌, List, [], ◌∷◌, ◌++◌, map, filter_map, refl, sym, ◌∙◌, ap, subst, arith}
use Rattle.std.specs.Prelude.{T, Some, None, Contains, ◌↔◌}
use Rattle.std.specs.Str.{bytes_eq}
use Rattle.std.specs.Ordering.{nat_cmp, is_eq, is_lt, ordering_then}
use Rattle.std.specs.Cmp.Lexicographic.{slice_cmp, texts_ties}
use Rattle.std.specs.List.{AllByRecursion, cons_option, dedup, list_any}
use Rattle.std.specs.List.Retain.{DiffersFromLast, IsFiltered}
use Rattle.std.proofs.lemmas.Bool.{and_from, eqb-true}
use Rattle.std.proofs.lemmas.List.Elements.{Contains-append_cases, Contains-append_right, Contains-push_cases}
use Rattle.std.specs.List.Sorted.{IsPermutation, IsSorted, IsStrictlySortedBy}
use Rattle.std.proofs.lemmas.Cmp.{nat_list_cmp_total, nat_list_eq_equiv}
use Rattle.std.proofs.lemmas.List.Filters.{dedup_is}
use Rattle.std.proofs.lemmas.List.Kept.{Contains-dedup, Contains-from_dedup, IsStrictlySortedBy-dedup}
use Rattle.std.proofs.lemmas.List.Sorted.{Contains-permutation, IsPermutation-sym}
use Rattle.std.proofs.lemmas.Slice.Eq.{bytes_eq-Decides}
use Rattle.std.specs.FinMap as fin
use Rattle.std.specs.FinMap.Entries.{below_all, is_sorted}
use Rattle.std.specs.declared.cmp.Ordering.{Ordering}
use Rattle.std.specs.declared.cmp.Ordering.TheVariants.{Less, Equal, Greater}
use Rattle.lake_store.specs.Disk.{Files, IsName, ListsFolder, front_of, is_name, name_behind, names_in}
use Rattle.lake_store.proofs.DiskLaws.{is_path, path_here, same_path}
use Rattle.lake_store.proofs.FolderLaws.{any-names_in, named}
use Rattle.lake_basics.proofs.Truth.{T_left, T_less, T_right, left_true, never_both, not_by, right_true}

abbrev Entry : Type 0
Entry = List ℕ × List ℕ

abbrev cmp : List ℕ → List ℕ → Ordering
cmp = slice_cmp nat_cmp

nat_same : (c : ℕ) → nat_cmp c c ≡ Equal
nat_same c = equal_of (nat_cmp c c) (path_here (c ∷ []))
  where
    equal_of : (o : Ordering) → is_eq (ordering_then o Equal) ≡ true → o ≡ Equal
    equal_of Equal h = refl
    equal_of Less h = cc h
    equal_of Greater h = cc h

-- the keys of a map are in order
below : (x : List ℕ) (es : List Entry) → T (below_all cmp x es) → AllByRecursion (λ y. cmp x y ≡ Less) (map (λ e. e.0) es)
below x [] h = tt
below x (e ∷ es) h = (T_less (cmp x e.0) (T_left (is_lt (cmp x e.0)) (below_all cmp x es) h), below x es (T_right (is_lt (cmp x e.0)) (below_all cmp x es) h))

keys_sorted : (es : List Entry) → T (is_sorted cmp es) → IsStrictlySortedBy cmp (map (λ e. e.0) es)
unfolding IsStrictlySortedBy
keys_sorted [] h = tt
keys_sorted (e ∷ es) h = (below e.0 es (T_left (below_all cmp e.0 es) (is_sorted cmp es) h), keys_sorted es (T_right (below_all cmp e.0 es) (is_sorted cmp es) h))

-- behind a common front the order is the same
pub same_front : (front a b : List ℕ) → cmp (front ++ a) (front ++ b) ≡ cmp a b
same_front [] a b = refl
same_front (c ∷ front) a b = ap (λ o. ordering_then o (cmp (front ++ a) (front ++ b))) (nat_same c) ∙ same_front front a b

module _ (front : List ℕ) where
  names_below : (k m : List ℕ) (ks : List (List ℕ)) → name_behind front k ≡ Some m → AllByRecursion (λ y. cmp k y ≡ Less) ks → AllByRecursion (λ y. cmp m y ≡ Less) (filter_map (name_behind front) ks)
  names_below k m [] is all = tt
  names_below k m (l ∷ ks) is all =
      let rest = names_below k m ks is all.1 in
      elim (name_behind front l) as (λ o. name_behind front l ≡ o → AllByRecursion (λ y. cmp m y ≡ Less) (cons_option o (filter_map (name_behind front) ks))) [
        | None ↦ λ other. rest
        | Some n ↦ λ other.
            (sym (same_front front m n) ∙ (λ i. cmp (sym (named front m k m is).0 i) (sym (named front n l n other).0 i)) ∙ all.0, rest)
      ] refl

  names_sorted : (ks : List (List ℕ)) → IsStrictlySortedBy cmp ks → IsStrictlySortedBy cmp (filter_map (name_behind front) ks)
  unfolding IsStrictlySortedBy
  names_sorted [] sorted = tt
  names_sorted (k ∷ ks) sorted =
      let rest = names_sorted ks sorted.1 in
      elim (name_behind front k) as (λ o. name_behind front k ≡ o → IsStrictlySortedBy cmp (cons_option o (filter_map (name_behind front) ks))) [
        | None ↦ λ is. rest
        | Some m ↦ λ is. (names_below k m ks is sorted.0, rest)
      ] refl

pub names_in_sorted : (files : Files) (folder : List ℕ) → IsStrictlySortedBy (slice_cmp nat_cmp) (names_in files folder)
names_in_sorted files folder = names_sorted (front_of folder) (fin.keys files) (keys_sorted (fin.entries files) (fin.entries_sorted files))

pub sorted_none : IsStrictlySortedBy (slice_cmp nat_cmp) []
unfolding IsStrictlySortedBy
sorted_none = tt

-- what a test finds is in the list
module _ {X : Type 0} (test : X → Bool) (x : X) (found : (y : X) → test y ≡ true → y ≡ x) (finds : (y : X) → y ≡ x → test y ≡ true) where
  Contains-from_any : (ys : List X) → list_any test ys ≡ true → Contains ys x
  Contains-from_any [] is = cc
  Contains-from_any (y ∷ ys) is =
      elim (test y) as (λ b. test y ≡ b → (b || list_any test ys) ≡ true → Contains (y ∷ ys) x) [
        | true ↦ λ here _. (0, omega arith, found y here)
        | false ↦ λ _ later. Contains-append_right (y ∷ []) ys x (Contains-from_any ys later)
      ] refl is

  or_true : (a b : Bool) → (a ≡ true) ⊎ (b ≡ true) → (a || b) ≡ true
  or_true true b is = refl
  or_true false b (inl is) = cc
  or_true false b (inr is) = is

  any_from_Contains : (ys : List X) → Contains ys x → list_any test ys ≡ true
  any_from_Contains [] within = let lt = within.1 in absurd (omega arith)
  any_from_Contains (y ∷ ys) within = or_true (test y) (list_any test ys) (⊎_elim
      (λ (left : Contains (y ∷ []) x). inl (⊎_elim (λ (none : Contains [] x). let lt = none.1 in absurd (omega arith)) (finds y) (Contains-push_cases [] y x left)))
      (λ (right : Contains ys x). inr (any_from_Contains ys right)) (Contains-append_cases (y ∷ []) ys x within))

slash_found : (b : ℕ) → (b == 47) ≡ true → b ≡ 47
slash_found b is = eqb-true b 47 is

slash_finds : (b : ℕ) → b ≡ 47 → (b == 47) ≡ true
slash_finds b is = ap (λ c. c == 47) is

name_is : (name : List ℕ) → is_name name ≡ true → IsName name
name_is [] is = cc
name_is (c ∷ name) is = (λ none. cc, λ within. never_both _ is (any_from_Contains (λ b. b == 47) 47 slash_found slash_finds (c ∷ name) within))

is_name_of : (name : List ℕ) → IsName name → is_name name ≡ true
is_name_of [] is = absurd (is.0 refl)
is_name_of (c ∷ name) is = not_by _ (λ any. is.1 (Contains-from_any (λ b. b == 47) 47 slash_found slash_finds (c ∷ name) any))

-- the names of a folder are those of its files
pub names_in_listed : (files : Files) (folder : List ℕ) → ListsFolder files folder (names_in files folder)
names_in_listed files folder = record {
  sorted = names_in_sorted files folder;
  members = λ name.
      let found : (y : List ℕ) → is_path name y ≡ true → y ≡ name = λ y is. sym (same_path name y is) in
      let finds : (y : List ℕ) → y ≡ name → is_path name y ≡ true = λ y is. ap (is_path name) is ∙ path_here name in (
        (λ within.
            let both = sym (any-names_in files folder name) ∙ any_from_Contains (is_path name) name found finds (names_in files folder) within in
            (name_is name (left_true _ _ both), right_true _ _ both)),
        (λ is. Contains-from_any (is_path name) name found finds (names_in files folder)
            (any-names_in files folder name ∙ and_from _ _ (is_name_of name is.0) is.1)),
      );
}

-- sorting and dropping what stands twice
module _ (xs ys zs : List (List ℕ)) (permuted : IsPermutation xs ys) (once : IsFiltered (DiffersFromLast bytes_eq) [] ys zs) where
  made : zs ≡ dedup bytes_eq ys
  made = dedup_is bytes_eq ys zs once

  pub sorted_once : IsSorted (slice_cmp nat_cmp) ys → IsStrictlySortedBy (slice_cmp nat_cmp) zs
  sorted_once sorted = subst (IsStrictlySortedBy (slice_cmp nat_cmp)) (sym made) (IsStrictlySortedBy-dedup nat_list_cmp_total texts_ties ys sorted)

  pub same_members : (name : List ℕ) → Contains zs name ↔ Contains xs name
  same_members name = (
    (λ within. Contains-permutation ys xs name (IsPermutation-sym xs ys permuted) (Contains-from_dedup bytes_eq ys name (subst (λ l. Contains l name) made within))),
    (λ within. subst (λ l. Contains l name) (sym made) (Contains-dedup nat_list_eq_equiv (λ x y. (bytes_eq-Decides x y).0) ys name (Contains-permutation xs ys name permuted within))),
  )
