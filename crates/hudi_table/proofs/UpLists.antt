-- Lists in which each element stands in a relation to all later ones.
use Rattle.std.proofs.Common.{◌≡◌, ◌⊎◌, ℕ, ◌+◌, ◌-◌, List, [], ◌∷◌, cond, length, take, Bool, true, false, Contains, Option, Some, None, refl, sym, ap, subst, ◌∙◌, arith, inl, inr, ⊎_elim}
use Rattle.std.specs.Prelude.{find, slice_get, suc}
use Rattle.std.specs.List.{AllByRecursion, cons_option, filter_map, prefix_len}
use Rattle.std.specs.List.Sorted.{IsStrictlySortedBy}
use Rattle.std.specs.declared.cmp.Ordering.{Ordering}
use Rattle.std.specs.declared.cmp.Ordering.TheVariants.{Less}
use Rattle.std.proofs.lemmas.Bool.{cases_Bool, false≢true}
use Rattle.table_history.proofs.RowListLemmas.{Contains-cases, Contains-head, Contains-none, Contains-tail, all_at}

abbrev pub Up : {X : Type 0} → (X → X → Type 0) → List X → Type 0
Up R [] = Unit {0}
Up R (x ∷ xs) = AllByRecursion (R x) xs × Up R xs

pub sorted_up : {K : Type 0} (c : K → K → Ordering) (ks : List K) → IsStrictlySortedBy c ks → Up (λ a b. c a b ≡ Less) ks
unfolding IsStrictlySortedBy
sorted_up c [] sorted = tt
sorted_up c (k ∷ ks) sorted = (sorted.0, sorted_up c ks sorted.1)

-- ---- what is picked

module _ {X Y : Type 0} (h : X → Option Y) where
  pub picked : (xs : List X) (x : X) (y : Y) → Contains xs x → h x ≡ Some y → Contains (filter_map h xs) y
  picked [] x y there is = absurd (Contains-none x there)
  picked (z ∷ zs) x y there is =
      ⊎_elim
      (λ same. subst (λ l. Contains l y) (sym (ap (λ o. cons_option o (filter_map h zs)) (ap h same ∙ is))) (Contains-head y (filter_map h zs)))
      (λ later. onto (h z) (picked zs x y later is))
      (Contains-cases z zs x there)
    where
      onto : (o : Option Y) → Contains (filter_map h zs) y → Contains (cons_option o (filter_map h zs)) y
      onto None there = there
      onto (Some w) there = Contains-tail w (filter_map h zs) y there

  pub picked_from : (xs : List X) (y : Y) → Contains (filter_map h xs) y → (x : X) × Contains xs x × (h x ≡ Some y)
  picked_from [] y there = absurd (Contains-none y there)
  picked_from (z ∷ zs) y there =
      elim (h z) as (λ o. h z ≡ o → Contains (cons_option o (filter_map h zs)) y → (x : X) × Contains (z ∷ zs) x × (h x ≡ Some y)) [
        | None ↦ λ is within. let rest = picked_from zs y within in (rest.0, Contains-tail z zs rest.0 rest.1, rest.2)
        | Some w ↦ λ is within.
            ⊎_elim
            (λ same. (z, Contains-head z zs, is ∙ ap (λ (v : Y). Some v) same))
            (λ later. let rest = picked_from zs y later in (rest.0, Contains-tail z zs rest.0 rest.1, rest.2))
            (Contains-cases w (filter_map h zs) y within)
      ] refl there

  module _ (R : X → X → Type 0) (Q : Y → Y → Type 0) (keeps : (x z : X) (y w : Y) → R x z → h x ≡ Some y → h z ≡ Some w → Q y w) where
    all_picked : (x : X) (y : Y) → h x ≡ Some y → (xs : List X) → AllByRecursion (R x) xs → AllByRecursion (Q y) (filter_map h xs)
    all_picked x y is [] all = tt
    all_picked x y is (z ∷ zs) all =
        elim (h z) as (λ o. h z ≡ o → AllByRecursion (Q y) (cons_option o (filter_map h zs))) [
          | None ↦ λ other. all_picked x y is zs all.1
          | Some w ↦ λ other. (keeps x z y w all.0 is other, all_picked x y is zs all.1)
        ] refl

    pub up_picked : (xs : List X) → Up R xs → Up Q (filter_map h xs)
    up_picked [] up = tt
    up_picked (x ∷ xs) up =
        elim (h x) as (λ o. h x ≡ o → Up Q (cons_option o (filter_map h xs))) [
          | None ↦ λ other. up_picked xs up.1
          | Some y ↦ λ is. (all_picked x y is xs up.0, up_picked xs up.1)
        ] refl

-- ---- the first that passes

some_is_none : {X : Type 0} (x : X) → Some x ≡ None → ⊥
some_is_none x e = cc

module _ {X : Type 0} (p : X → Bool) (Q : X → X → Type 0) where
  pub found_there : (xs : List X) (i : X) → find p xs ≡ Some i → Contains xs i × (p i ≡ true)
  found_there [] i is = cc
  found_there (x ∷ xs) i is =
      elim (p x) as (λ b. p x ≡ b → cond b (Some x) (find p xs) ≡ Some i → Contains (x ∷ xs) i × (p i ≡ true)) [
        | true ↦ λ passes found. let same : x ≡ i = cc (found) in (subst (Contains (x ∷ xs)) same (Contains-head x xs), subst (λ z. p z ≡ true) same passes)
        | false ↦ λ fails found. let rest = found_there xs i found in (Contains-tail x xs i rest.0, rest.1)
      ] refl is

  pub found_first : (xs : List X) (i j : X) → find p xs ≡ Some i → Up Q xs → Contains xs j → p j ≡ true → (i ≡ j) ⊎ Q i j
  found_first [] i j is up there passes = absurd (Contains-none j there)
  found_first (x ∷ xs) i j is up there passes =
      elim (p x) as (λ b. p x ≡ b → cond b (Some x) (find p xs) ≡ Some i → (i ≡ j) ⊎ Q i j) [
        | true ↦ λ here found.
            let same : x ≡ i = cc (found) in
            ⊎_elim (λ e. inl (sym same ∙ e)) (λ later. inr (subst (λ z. Q z j) same (all_at (Q x) xs j up.0 later))) (Contains-cases x xs j there)
        | false ↦ λ fails found.
            ⊎_elim (λ e. absurd (false≢true (sym fails ∙ ap p e ∙ passes))) (λ later. found_first xs i j found up.1 later passes) (Contains-cases x xs j there)
      ] refl is

  pub none_found : (xs : List X) (j : X) → find p xs ≡ None → Contains xs j → p j ≡ true → ⊥
  none_found [] j is there passes = Contains-none j there
  none_found (x ∷ xs) j is there passes =
      elim (p x) as (λ b. p x ≡ b → cond b (Some x) (find p xs) ≡ None → ⊥) [
        | true ↦ λ here found. some_is_none x found
        | false ↦ λ fails found.
            ⊎_elim (λ e. false≢true (sym fails ∙ ap p e ∙ passes)) (λ later. none_found xs j found later passes) (Contains-cases x xs j there)
      ] refl is

-- ---- those from the front on that pass, and the last of them

abbrev front : {X : Type 0} → (X → Bool) → List X → List X
front p xs = take (prefix_len p xs) xs

module _ {X : Type 0} (p : X → Bool) where
  one_more : (k : ℕ) (x : X) (xs : List X) → take (1 + k) (x ∷ xs) ≡ x ∷ take k xs
  one_more k x xs = let one : 1 + k ≡ suc k = omega arith in ap (λ n. take n (x ∷ xs)) one

  front_more : (x : X) (xs : List X) → p x ≡ true → front p (x ∷ xs) ≡ x ∷ front p xs
  front_more x xs passes = ap (λ b. take (cond b (1 + prefix_len p xs) 0) (x ∷ xs)) passes ∙ one_more (prefix_len p xs) x xs

  front_none : (x : X) (xs : List X) → p x ≡ false → front p (x ∷ xs) ≡ []
  front_none x xs fails = ap (λ b. take (cond b (1 + prefix_len p xs) 0) (x ∷ xs)) fails

  -- each of them is there, and passes
  pub front_passes : (xs : List X) (y : X) → Contains (front p xs) y → Contains xs y × (p y ≡ true)
  front_passes [] y there = absurd (Contains-none y there)
  front_passes (x ∷ xs) y there =
      ⊎_elim
      (λ passes.
      ⊎_elim
      (λ same. (subst (Contains (x ∷ xs)) same (Contains-head x xs), subst (λ z. p z ≡ true) same passes))
      (λ later. let rest = front_passes xs y later in (Contains-tail x xs y rest.0, rest.1))
      (Contains-cases x (front p xs) y (subst (λ l. Contains l y) (front_more x xs passes) there)))
      (λ fails. absurd (Contains-none y (subst (λ l. Contains l y) (front_none x xs fails) there)))
      (cases_Bool (p x))

  module _ (Q : X → X → Type 0) (closed : (x y : X) → Q x y → p y ≡ true → p x ≡ true) where
    -- where what stands in the relation to one that passes does so too, each that passes is among them
    pub passes_front : (xs : List X) (y : X) → Up Q xs → Contains xs y → p y ≡ true → Contains (front p xs) y
    passes_front [] y up there passes = absurd (Contains-none y there)
    passes_front (x ∷ xs) y up there passes =
        ⊎_elim
        (λ here.
        subst (λ l. Contains l y) (sym (front_more x xs here))
        (⊎_elim (λ same. subst (Contains (x ∷ front p xs)) same (Contains-head x (front p xs))) (λ later. Contains-tail x (front p xs) y (passes_front xs y up.1 later passes)) (Contains-cases x xs y there)))
        (λ fails. ⊎_elim (λ same. absurd (false≢true (sym fails ∙ ap p same ∙ passes))) (λ later. absurd (false≢true (sym fails ∙ closed x y (all_at (Q x) xs y up.0 later) passes))) (Contains-cases x xs y there))
        (cases_Bool (p x))

  all_front : (P : X → Type 0) (ys : List X) → AllByRecursion P ys → AllByRecursion P (front p ys)
  all_front P [] all = tt
  all_front P (z ∷ zs) all =
      ⊎_elim
      (λ passes. subst (AllByRecursion P) (sym (front_more z zs passes)) (all.0, all_front P zs all.1))
      (λ fails. subst (AllByRecursion P) (sym (front_none z zs fails)) tt)
      (cases_Bool (p z))

  pub up_front : (Q : X → X → Type 0) (xs : List X) → Up Q xs → Up Q (front p xs)
  up_front Q [] up = tt
  up_front Q (x ∷ xs) up =
      ⊎_elim
      (λ passes. subst (Up Q) (sym (front_more x xs passes)) (all_front (Q x) xs up.0, up_front Q xs up.1))
      (λ fails. subst (Up Q) (sym (front_none x xs fails)) tt)
      (cases_Bool (p x))

-- ---- the last

module _ {X : Type 0} (Q : X → X → Type 0) where
  -- the last of a list, and all others stand in the relation to it
  pub last_there : (l : List X) (c : X) → slice_get l (length l - 1) ≡ Some c → Contains l c
  last_there [] c is = cc
  last_there (x ∷ []) c is = let same : x ≡ c = cc in subst (Contains (x ∷ [])) same (Contains-head x [])
  last_there (x ∷ y ∷ l) c is = Contains-tail x (y ∷ l) c (last_there (y ∷ l) c (ap (λ k. slice_get (x ∷ y ∷ l) k) (sym (before_last l)) ∙ is))
    where
      before_last : (l : List X) → length (x ∷ y ∷ l) - 1 ≡ suc (length (y ∷ l) - 1)
      before_last l = omega arith

  pub last_of_all : (l : List X) (c d : X) → slice_get l (length l - 1) ≡ Some c → Up Q l → Contains l d → (d ≡ c) ⊎ Q d c
  last_of_all [] c d is up there = absurd (Contains-none d there)
  last_of_all (x ∷ []) c d is up there =
      let same : x ≡ c = cc in
      ⊎_elim (λ e. inl (sym e ∙ same)) (λ none. absurd (Contains-none d none)) (Contains-cases x [] d there)
  last_of_all (x ∷ y ∷ l) c d is up there =
      let rest : slice_get (y ∷ l) (length (y ∷ l) - 1) ≡ Some c = ap (λ k. slice_get (x ∷ y ∷ l) k) (sym shorter) ∙ is in
      ⊎_elim
      (λ e. inr (subst (λ z. Q z c) e (all_at (Q x) (y ∷ l) c up.0 (last_there (y ∷ l) c rest))))
      (λ later. last_of_all (y ∷ l) c d rest up.1 later)
      (Contains-cases x (y ∷ l) d there)
    where
      shorter : length (x ∷ y ∷ l) - 1 ≡ suc (length (y ∷ l) - 1)
      shorter = omega arith

  pub no_last : (l : List X) (d : X) → slice_get l (length l - 1) ≡ None → Contains l d → ⊥
  no_last [] d is there = Contains-none d there
  no_last (x ∷ []) d is there = cc
  no_last (x ∷ y ∷ l) d is there = no_last (y ∷ l) y (ap (λ k. slice_get (x ∷ y ∷ l) k) (sym shorter) ∙ is) (Contains-head y l)
    where
      shorter : length (x ∷ y ∷ l) - 1 ≡ suc (length (y ∷ l) - 1)
      shorter = omega arith
