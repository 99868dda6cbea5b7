-- Texts as lists of bytes, and lists of texts without one twice.
use Rattle.std.proofs.Common.{[], Bool, Bor, Contains, List, None, Option, Some, ap, arith, cond, false, filter, get_or, length, refl, replicate, suc, sym, true, zero, ℕ, ⊎_elim, ◌&&◌, ◌++◌, ◌+◌, ◌<◌, ◌^◌, ◌||◌, ◌∙◌, ◌∷◌, ◌≡◌, ◌≢◌, ◌≤◌}
use Rattle.std.proofs.lemmas.Bool.{cases_Bool}
use Rattle.std.proofs.lemmas.Cmp.{nat_list_cmp_total, nat_list_eq_equiv}
use Rattle.std.proofs.lemmas.Fmt.{length-decimal-le}
use Rattle.std.proofs.lemmas.List.{append_cancel_left, append_cancel_right}
use Rattle.std.proofs.lemmas.List.Folds.{list_any-append, list_any_at}
use Rattle.std.proofs.lemmas.Map.Keys.{IsDistinct-cons, IsDistinct-from_apart, IsDistinct-head, IsDistinct-tail}
use Rattle.std.proofs.lemmas.Map.Made.{is_member-Decides, length-le_from_is_member}
use Rattle.std.proofs.lemmas.Map.Views.{Contains-from_any}
use Rattle.std.proofs.lemmas.Slice.Eq.{bytes_eq-Decides}
use Rattle.std.proofs.lemmas.Str.Parse.{digit_at}
use Rattle.std.specs.Char.{is_ascii_digit}
use Rattle.std.specs.Cmp.Lexicographic.{slice_cmp}
use Rattle.std.specs.List.{AllByRecursion, IsDistinct, list_all, list_any}
use Rattle.std.specs.Ordering.{nat_cmp, ordering_reverse}
use Rattle.std.specs.Prelude.{MatchOption, decimal}
use Rattle.std.specs.Str.{all_ascii_digits, bytes_eq}
use Rattle.std.specs.Str.Parse.{AllDigits, IsNumeral, digits_value}
use Rattle.std.specs.declared.cmp.Ordering.TheVariants.{Greater, Less}
use Rattle.lake_basics.proofs.Lists.{all_front}
use Rattle.lake_basics.proofs.Truth.{or_nothing}

pub contains_from_any : (path : List ℕ) (paths : List (List ℕ)) → list_any (bytes_eq path) paths ≡ true → Contains paths path
contains_from_any path paths h = Contains-from_any {eq = bytes_eq} (λ x y. (bytes_eq-Decides x y).0) path paths h

pub bytes_itself : (x : List ℕ) → bytes_eq x x ≡ true
bytes_itself x = (bytes_eq-Decides x x).1 refl

pub apart_from_same : (bs cs ks : List ℕ) → bytes_eq bs cs ≡ false → bytes_eq bs ks ≡ true → bytes_eq cs ks ≡ false
apart_from_same bs cs ks n y = nat_list_eq_equiv.symm cs ks ∙ sym (nat_list_eq_equiv.congr bs ks cs y) ∙ n

pub bytes_apart : (xs ys : List ℕ) → bytes_eq xs ys ≡ false → xs ≡ ys → ⊥
bytes_apart xs ys fails same = let holds = (bytes_eq-Decides xs ys).1 same in absurd (cc)

pub AllDigits-zeros : (k : ℕ) (ds : List ℕ) → AllDigits 10 ds → AllDigits 10 (replicate k 48 ++ ds)
AllDigits-zeros zero ds h = h
AllDigits-zeros (suc k) ds h = (omega arith, AllDigits-zeros k ds h)

pub digits_value-zeros : (k : ℕ) (ds : List ℕ) → digits_value 10 (replicate k 48 ++ ds) ≡ digits_value 10 ds
digits_value-zeros zero ds = refl
digits_value-zeros (suc k) ds = digits_value-zeros k ds

pub length-zeros : (k : ℕ) (ds : List ℕ) → length (replicate k 48 ++ ds) ≡ k + length ds
length-zeros zero ds = sym (omega arith)
length-zeros (suc k) ds = rw (length-zeros k ds) (omega arith)

pub no_plus : (bs : List ℕ) → IsNumeral 10 bs → get_or bs 0 0 ≢ 43
no_plus bs h e = let at = digit_at bs 0 h.1 h.0 in omega (arith, at, e)

pub fewer : (xs ys : List (List ℕ)) → IsDistinct bytes_eq xs → ((x : List ℕ) → Contains xs x → Contains ys x) → length xs ≤ length ys
fewer xs ys distinct among =
    length-le_from_is_member nat_list_eq_equiv xs ys distinct (λ q there. (is_member-Decides bytes_eq-Decides ys q).1 (among q ((is_member-Decides bytes_eq-Decides xs q).0 there)))

pub digits_most : (n : ℕ) → n < 10 ^ 15 → length (decimal n) ≤ 15
digits_most n lt = length-decimal-le 15 n (omega arith) lt (omega (arith, lt))

pub same_any : (keys : List (List ℕ)) (path given : List ℕ) (b : Bool) → bytes_eq path given ≡ b → list_any (bytes_eq given) keys ≡ true → list_any (bytes_eq path) keys ≡ (list_any (bytes_eq path) keys || b)
same_any keys path given true is there =
    let here : list_any (bytes_eq path) keys ≡ true = ap (λ (p : List ℕ). list_any (bytes_eq p) keys) ((bytes_eq-Decides path given).0 is) ∙ there in
    here ∙ sym (ap (λ (b : Bool). b || true) here)
same_any keys path given false is there = sym (or_nothing (list_any (bytes_eq path) keys))

pub key_more : (keys : List (List ℕ)) (path given : List ℕ) (b : Bool) → list_any (bytes_eq given) keys ≡ b → list_any (bytes_eq path) (cond b keys (keys ++ given ∷ [])) ≡ (list_any (bytes_eq path) keys || bytes_eq path given)
key_more keys path given true there = same_any keys path given (bytes_eq path given) refl there
key_more keys path given false there = list_any-append (bytes_eq path) keys (given ∷ []) ∙ ap (λ (b : Bool). list_any (bytes_eq path) keys || b) (or_nothing (bytes_eq path given))

pub key_put : (keys after : List (List ℕ)) (path value : List ℕ) → value ≡ path → list_any (bytes_eq path) keys ≡ false → after ≡ cond (list_any (bytes_eq value) keys) keys (keys ++ value ∷ []) → after ≡ keys ++ path ∷ []
key_put keys after path value same new is =
    is ∙ ap (λ (v : List ℕ). cond (list_any (bytes_eq v) keys) keys (keys ++ v ∷ [])) same ∙ ap (λ (b : Bool). cond b keys (keys ++ path ∷ [])) new

pub bytes_differ : (a b : List ℕ) → (a ≡ b → ⊥) → bytes_eq a b ≡ false
bytes_differ a b n = ⊎_elim (λ t. absurd (n ((bytes_eq-Decides a b).0 t))) (λ f. f) (cases_Bool (bytes_eq a b))

pub same_digits : (ds : List ℕ) → list_all is_ascii_digit ds ≡ all_ascii_digits ds
same_digits [] = refl
same_digits (c ∷ ds) = ap (λ b. is_ascii_digit c && b) (same_digits ds)

pub filter_apart : (p : List ℕ → Bool) (x : List ℕ) (xs : List (List ℕ)) → AllByRecursion (λ y. bytes_eq x y ≡ false) xs → AllByRecursion (λ y. bytes_eq x y ≡ false) (filter p xs)
filter_apart p x [] all = tt
filter_apart p x (y ∷ xs) all =
    elim (p y) as (λ b. AllByRecursion (λ z. bytes_eq x z ≡ false) (cond b (y ∷ filter p xs) (filter p xs))) [
      | true ↦ (all.0, filter_apart p x xs all.1)
      | false ↦ filter_apart p x xs all.1
    ]

pub distinct_filter : (p : List ℕ → Bool) (xs : List (List ℕ)) → IsDistinct bytes_eq xs → IsDistinct bytes_eq (filter p xs)
distinct_filter p [] distinct = distinct
distinct_filter p (x ∷ xs) distinct =
    let rest = distinct_filter p xs (IsDistinct-tail bytes_eq x xs distinct) in
    elim (p x) as (λ b. IsDistinct bytes_eq (cond b (x ∷ filter p xs) (filter p xs))) [
      | true ↦ IsDistinct-cons bytes_eq x (filter p xs) (filter_apart p x xs (IsDistinct-head bytes_eq x xs distinct)) rest
      | false ↦ rest
    ]

abbrev pub IsBelow : List ℕ → List ℕ → Type 0
IsBelow k l = slice_cmp nat_cmp k l ≡ Less

pub above : (k l : List ℕ) → IsBelow k l → slice_cmp nat_cmp l k ≡ Greater
above k l h = nat_list_cmp_total.antisymm l k ∙ ap ordering_reverse h

pub front_distinct : (xs ys : List (List ℕ)) → IsDistinct bytes_eq (xs ++ ys) → IsDistinct bytes_eq xs
front_distinct [] ys distinct = IsDistinct-from_apart bytes_eq [] (λ i j d _ within. absurd (omega arith))
front_distinct (x ∷ xs) ys distinct = IsDistinct-cons bytes_eq x xs (all_front (λ y. bytes_eq x y ≡ false) xs ys (IsDistinct-head bytes_eq x (xs ++ ys) distinct)) (front_distinct xs ys (IsDistinct-tail bytes_eq x (xs ++ ys) distinct))

pub greater_turned : (a b : List ℕ) → slice_cmp nat_cmp a b ≡ Greater → slice_cmp nat_cmp b a ≡ Less
greater_turned a b is = nat_list_cmp_total.antisymm b a ∙ ap ordering_reverse is

pub between_unique : (front behind a b : List ℕ) → front ++ (a ++ behind) ≡ front ++ (b ++ behind) → a ≡ b
between_unique front behind a b same = append_cancel_right a b behind (append_cancel_left front (a ++ behind) (b ++ behind) same)

pub between_by : (name front behind rest : List ℕ) → name ≡ front ++ rest → (r : Option (Bor (List ℕ))) → MatchOption r ((first : List ℕ) → rest ≢ first ++ behind) (λ x. rest ≡ x.now ++ behind)
    → MatchOption r ((middle : List ℕ) → name ≢ front ++ (middle ++ behind)) (λ x. name ≡ front ++ (x.now ++ behind))
between_by name front behind rest at None none = λ middle is. none middle (append_cancel_left front rest (middle ++ behind) (sym at ∙ is))
between_by name front behind rest at (Some x) is = at ∙ ap (λ (l : List ℕ). front ++ l) is

pub any_there : (keys : List (List ℕ)) (q : List ℕ) → Contains keys q → list_any (bytes_eq q) keys ≡ true
any_there keys q within = list_any_at (bytes_eq q) keys within.0 q within.1 ((bytes_eq-Decides q _).1 (sym within.2))

pub behind_distinct : (p : List ℕ) (ys : List (List ℕ)) → IsDistinct bytes_eq (p ∷ ys) → IsDistinct bytes_eq ys
unfolding IsDistinct
behind_distinct p ys distinct = distinct.1
