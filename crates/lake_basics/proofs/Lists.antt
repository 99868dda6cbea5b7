-- Lists of any kind of member.
use Rattle.std.proofs.Common.{[], All, Contains, List, Some, ap, append_assoc, arith, drop, get_or, length, map, refl, slice_get, subst, suc, sym, take, zero, ℕ, ◌++◌, ◌+◌, ◌-◌, ◌<◌, ◌∙◌, ◌∷◌, ◌≡◌, ◌≤◌}
use Rattle.std.proofs.Math.Seq.{take-length}
use Rattle.std.proofs.lemmas.List.{drop_more, length-drop, map-append, take-append-drop, take_more}
use Rattle.std.proofs.lemmas.List.Elements.{All-head, All-tail}
use Rattle.std.proofs.lemmas.List.Sorted.{IsPermutation-cons, IsPermutation-refl, IsPermutation-swap, IsPermutation-trans}
use Rattle.std.specs.List.{AllByRecursion}
use Rattle.std.specs.List.Sorted.{IsPermutation}

pub all_append : {A : Type 0} (Q : A → Type 0) (xs ys : List A) → AllByRecursion Q xs → AllByRecursion Q ys → AllByRecursion Q (xs ++ ys)
all_append Q [] ys a b = b
all_append Q (x ∷ xs) ys a b = (a.0, all_append Q xs ys a.1 b)

pub more_behind : (bytes front rest more : List ℕ) → bytes ≡ front ++ rest → bytes ++ more ≡ front ++ (rest ++ more)
more_behind bytes front rest more parts = ap (λ (l : List ℕ). l ++ more) parts ∙ append_assoc front rest more

pub pushed_behind : {X : Type 0} (xs : List X) (x : X) (rest : List X) → (xs ++ x ∷ []) ++ rest ≡ xs ++ x ∷ rest
pushed_behind [] x rest = refl
pushed_behind (y ∷ xs) x rest = ap (λ l. y ∷ l) (pushed_behind xs x rest)

pub all_middle : {X : Type 0} (P : X → Type 0) (front : List X) (x : X) (later : List X) → All P (front ++ x ∷ later) → P x
all_middle P [] x later all = All-head P x later all
all_middle P (y ∷ front) x later all = all_middle P front x later (All-tail P y (front ++ x ∷ later) all)

pub front_two : {X : Type 0} (x y : X) (xs : List X) → IsPermutation (x ∷ y ∷ xs) (y ∷ x ∷ xs)
front_two x y xs = IsPermutation-swap (x ∷ y ∷ xs) (y ∷ x ∷ xs) 0 1 (omega arith) (omega arith) refl

pub permuted_behind : {X : Type 0} (zs xs ys : List X) → IsPermutation xs ys → IsPermutation (zs ++ xs) (zs ++ ys)
permuted_behind [] xs ys h = h
permuted_behind (z ∷ zs) xs ys h = IsPermutation-cons z _ _ (permuted_behind zs xs ys h)

pub moved_back : {X : Type 0} (y : X) (xs ys : List X) → IsPermutation (y ∷ (xs ++ ys)) (xs ++ y ∷ ys)
moved_back y [] ys = IsPermutation-refl _
moved_back y (x ∷ xs) ys = IsPermutation-trans _ _ _ (front_two y x (xs ++ ys)) (IsPermutation-cons x _ _ (moved_back y xs ys))

pub none_longer : {X : Type 0} (before : List X) (x : X) (later : List X) → [] ≡ before ++ x ∷ later → ⊥
none_longer [] x later e = cc
none_longer (w ∷ before) x later e = cc

pub next_of : {X : Type 0} (xs : List X) (i : ℕ) (x : X) → i < length xs → x ≡ get_or xs i x → drop i xs ≡ x ∷ drop (i + 1) xs
next_of xs i x within at = drop_more xs i x within ∙ ap (λ y. y ∷ drop (i + 1) xs) (sym at)

pub last_of : {X : Type 0} (xs : List X) (i : ℕ) (x : X) → i < length xs → x ≡ get_or xs i x → take (i + 1) xs ≡ take i xs ++ x ∷ []
last_of xs i x within at = take_more xs i x within ∙ ap (λ y. take i xs ++ y ∷ []) (sym at)

pub there_at : {X : Type 0} (xs : List X) (i : ℕ) (x : X) → i < length xs → x ≡ get_or xs i x → Contains xs x
there_at xs i x within at = (i, within, sym at)

pub empty_of : {X : Type 0} (xs : List X) → length xs ≡ 0 → xs ≡ []
empty_of [] h = refl
empty_of (x ∷ xs) h = absurd (omega (arith, h))

pub mapped_more : {A B C : Type 0} (f : A → C) (g : B → C) (done more : List A) (a : A) (xs : List B) (k : ℕ) (x : B) → more ≡ done ++ a ∷ [] → f a ≡ g x → drop k xs ≡ x ∷ drop (k + 1) xs → map f done ++ map g (drop k xs) ≡ map g xs → map f more ++ map g (drop (k + 1) xs) ≡ map g xs
mapped_more {A} {B} {C} f g done more a xs k x pushed same next before =
    let at_item : map f done ++ (g x ∷ map g (drop (k + 1) xs)) ≡ map g xs = subst (λ (ys : List B). map f done ++ map g ys ≡ map g xs) next before in
    rw (pushed, map-append, same, append_assoc) at_item

pub holds_more : {A : Type 0} (P : A → Type 0) (xs : List A) (k : ℕ) (x : A) → drop k xs ≡ x ∷ drop (k + 1) xs → P x → (AllByRecursion P (drop k xs) → AllByRecursion P xs) → AllByRecursion P (drop (k + 1) xs) → AllByRecursion P xs
holds_more {A} P xs k x next here before rest = before (subst (AllByRecursion P) (sym next) (here, rest))

pub all_front : {X : Type 0} (P : X → Type 0) (xs ys : List X) → AllByRecursion P (xs ++ ys) → AllByRecursion P xs
all_front P [] ys all = tt
all_front P (x ∷ xs) ys all = (all.0, all_front P xs ys all.1)

pub take_front : (xs ys : List ℕ) → take (length xs) (xs ++ ys) ≡ xs
take_front [] ys = refl
take_front (x ∷ xs) ys = ap (λ l. x ∷ l) (take_front xs ys)

pub take_one_more : (k : ℕ) (x : ℕ) (xs : List ℕ) → take (1 + k) (x ∷ xs) ≡ x ∷ take k xs
take_one_more k x xs = let one : 1 + k ≡ suc k = omega arith in ap (λ n. take n (x ∷ xs)) one

pub mapped_itself : (xs : List (List ℕ)) → map (λ (x : List ℕ). x) xs ≡ xs
mapped_itself [] = refl
mapped_itself (x ∷ xs) = ap (λ (ys : List (List ℕ)). x ∷ ys) (mapped_itself xs)

pub all_taken : {X : Type 0} (xs : List X) (i : ℕ) → i ≤ length xs → length xs ≤ i → take i xs ≡ xs
all_taken xs i le ge = let end : i ≡ length xs = omega (arith, le, ge) in ap (λ n. take n xs) end ∙ take-length xs

pub split_of : {X : Type 0} (xs : List X) (i : ℕ) (x : X) → i < length xs → x ≡ get_or xs i x → xs ≡ take i xs ++ x ∷ drop (i + 1) xs
split_of xs i x within at = sym (take-append-drop i xs) ∙ ap (λ (l : List _). take i xs ++ l) (next_of xs i x within at)

pub get_pushed : {X : Type 0} (xs : List X) (x : X) → slice_get (xs ++ x ∷ []) (length xs) ≡ Some x
get_pushed [] x = refl
get_pushed (y ∷ ys) x = get_pushed ys x

pub get_behind : {X : Type 0} (xs : List X) (x : X) (rest : List X) → slice_get (xs ++ x ∷ rest) (length xs) ≡ Some x
get_behind [] x rest = refl
get_behind (y ∷ xs) x rest = get_behind xs x rest

pub behind_place : (n : ℕ) (xs : List ℕ) → take (length xs - n) (drop n xs) ≡ drop n xs
behind_place n xs = ap (λ k. take k (drop n xs)) (sym (length-drop n xs)) ∙ take-length (drop n xs)

pub some_at : {X : Type 0} (xs : List X) (i : ℕ) → i < length xs → (x : X) × (slice_get xs i ≡ Some x)
some_at [] i within = absurd (omega (arith, within))
some_at (x ∷ xs) zero within = (x, refl)
some_at (x ∷ xs) (suc i) within = some_at xs i (omega (arith, within))

pub all_at_place : {X : Type 0} (P : X → Type 0) (xs : List X) (n : ℕ) (x : X) → AllByRecursion P xs → slice_get xs n ≡ Some x → P x
all_at_place P [] n x all at = absurd (cc at)
all_at_place P (y ∷ xs) zero x all at = let same : y ≡ x = cc at in subst P same all.0
all_at_place P (y ∷ xs) (suc n) x all at = all_at_place P xs n x all.1 at
