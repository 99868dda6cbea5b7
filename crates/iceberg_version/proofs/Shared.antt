-- What this crate and those above it share: truth values, tests of numbers, and lists of any kind of member.
use Rattle.std.proofs.Common.{◌≡◌, ⊎_elim, ℕ, zero, suc, ◌<◌, ◌≤◌, Bool, true, nat_lt, List, [], ◌∷◌, ◌++◌, map, length, take, drop, Contains, Some, slice_get, refl, sym, ap, subst, arith}
use Rattle.std.specs.Prelude.{flat_map}
use Rattle.std.specs.List.{IsDistinct, list_all}
use Rattle.std.proofs.lemmas.Bool.{and_from}
use Rattle.std.proofs.lemmas.Bool.Decides.{nat_tests}
use Rattle.std.proofs.lemmas.List.Elements.{Contains-append_cases, Contains-append_left, Contains-append_right}
use Rattle.std.proofs.lemmas.Option.{get_or_from_slice_get, slice_get_within}
use Rattle.table_history.proofs.RowListLemmas.{Contains-cases, Contains-head, Contains-none, Contains-tail}
use Rattle.iceberg_manifest.specs.Lists.{AreEach}

-- ---- tests of numbers

pub lt_by : (n m : ℕ) → nat_lt n m ≡ true → n < m
lt_by n m is = grind (arith, nat_tests)

pub lt_test : (n m : ℕ) → n < m → nat_lt n m ≡ true
lt_test n m is = grind (arith, nat_tests)

-- ---- lists

pub all_tested : {X : Type 0} (p : X → Bool) (xs : List X) → ((x : X) → Contains xs x → p x ≡ true) → list_all p xs ≡ true
all_tested p [] all = refl
all_tested p (x ∷ xs) all = and_from (p x) (list_all p xs) (all x (Contains-head x xs)) (all_tested p xs (λ y there. all y (Contains-tail x xs y there)))

pub nothing_twice : {K : Type 0} (eq : K → K → Bool) → IsDistinct eq []
unfolding IsDistinct
nothing_twice eq = tt

pub slice_there : {X : Type 0} (xs : List X) (i : ℕ) (x : X) → slice_get xs i ≡ Some x → Contains xs x
slice_there xs i x at = (i, slice_get_within xs i x at, get_or_from_slice_get xs i x x at)

pub in_map : {A B : Type 0} (f : A → B) (xs : List A) (x : A) → Contains xs x → Contains (map f xs) (f x)
in_map f [] x there = absurd (Contains-none x there)
in_map {B = B} f (y ∷ xs) x there = ⊎_elim (λ same. subst (λ (z : B). Contains (f y ∷ map f xs) z) (ap f same) (Contains-head (f y) (map f xs))) (λ later. Contains-tail (f y) (map f xs) (f x) (in_map f xs x later)) (Contains-cases y xs x there)

pub of_map : {A B : Type 0} (f : A → B) (xs : List A) (y : B) → Contains (map f xs) y → (x : A) × Contains xs x × (f x ≡ y)
of_map f [] y there = absurd (Contains-none y there)
of_map f (x ∷ xs) y there =
    ⊎_elim (λ same. (x, Contains-head x xs, same)) (λ later. let rest = of_map f xs y later in (rest.0, Contains-tail x xs rest.0 rest.1, rest.2)) (Contains-cases (f x) (map f xs) y there)

pub map_push : {A B : Type 0} (f : A → B) (xs : List A) (x : A) → map f (xs ++ x ∷ []) ≡ map f xs ++ f x ∷ []
map_push f [] x = refl
map_push f (y ∷ xs) x = ap (λ l. f y ∷ l) (map_push f xs x)

pub in_flat : {A B : Type 0} (f : A → List B) (xs : List A) (x : A) (y : B) → Contains xs x → Contains (f x) y → Contains (flat_map f xs) y
in_flat f [] x y there here = absurd (Contains-none x there)
in_flat f (z ∷ xs) x y there here =
    ⊎_elim
    (λ same. Contains-append_left (f z) (flat_map f xs) y (subst (λ w. Contains (f w) y) (sym same) here))
    (λ later. Contains-append_right (f z) (flat_map f xs) y (in_flat f xs x y later here))
    (Contains-cases z xs x there)

pub of_flat : {A B : Type 0} (f : A → List B) (xs : List A) (y : B) → Contains (flat_map f xs) y → (x : A) × Contains xs x × Contains (f x) y
of_flat f [] y there = absurd (Contains-none y there)
of_flat f (x ∷ xs) y there =
    ⊎_elim (λ here. (x, Contains-head x xs, here)) (λ later. let rest = of_flat f xs y later in (rest.0, Contains-tail x xs rest.0 rest.1, rest.2)) (Contains-append_cases (f x) (flat_map f xs) y there)

pub in_drop : {A : Type 0} (k : ℕ) (xs : List A) (x : A) → Contains (drop k xs) x → Contains xs x
in_drop zero xs x there = there
in_drop (suc k) [] x there = there
in_drop (suc k) (y ∷ xs) x there = Contains-tail y xs x (in_drop k xs x there)

pub in_take : {A : Type 0} (k : ℕ) (xs : List A) (x : A) → Contains (take k xs) x → Contains xs x
in_take zero xs x there = absurd (Contains-none x there)
in_take (suc k) [] x there = there
in_take (suc k) (y ∷ xs) x there = ⊎_elim (λ same. subst (λ z. Contains (y ∷ xs) z) same (Contains-head y xs)) (λ later. Contains-tail y xs x (in_take k xs x later)) (Contains-cases y (take k xs) x there)

pub short_take : {A : Type 0} (k : ℕ) (xs : List A) → length (take k xs) ≤ k
short_take zero xs = omega arith
short_take (suc k) [] = omega arith
short_take (suc k) (y ∷ xs) = let rest = short_take k xs in omega (arith, rest)

pub drop_push : {A : Type 0} (k : ℕ) (xs : List A) (x : A) → k ≤ length xs → drop k (xs ++ x ∷ []) ≡ drop k xs ++ x ∷ []
drop_push zero xs x within = refl
drop_push (suc k) [] x within = absurd (omega (arith, within))
drop_push (suc k) (y ∷ xs) x within = drop_push k xs x (omega (arith, within))

pub each_length : {A B : Type 0} (P : A → B → Type 0) (xs : List A) (ys : List B) → AreEach P xs ys → length xs ≡ length ys
each_length P [] [] are = refl
each_length P [] (y ∷ ys) are = absurd are
each_length P (x ∷ xs) [] are = absurd are
each_length P (x ∷ xs) (y ∷ ys) are = ap suc (each_length P xs ys are.1)
