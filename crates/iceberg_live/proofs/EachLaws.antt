-- What each of a list gives, item by item.
use Rattle.std.proofs.Common.{◌≡◌, List, [], ◌∷◌, ◌++◌, Bool, true, false, Result, Ok, Err, refl, ap, subst, ◌∙◌}
use Rattle.std.specs.List.{filter}
use Rattle.lake_basics.specs.Outcome.{◌>>=◌, each}
use Rattle.iceberg_manifest.specs.Lists.{AreEach}

-- a list whose items all pass the test
abbrev pub AllPass : {A : Type 0} → (A → Bool) → List A → Type 0
AllPass p [] = Unit {0}
AllPass p (x ∷ xs) = (p x ≡ true) × AllPass p xs

pass_by : {A : Type 0} (p : A → Bool) (x : A) (xs : List A) (b : Bool) → p x ≡ b → AllPass p (filter p xs) → AllPass p (filter p (x ∷ xs))
pass_by p x xs true is rest = rw is (is, rest)
pass_by p x xs false is rest = rw is rest

pub filter_passes : {A : Type 0} (p : A → Bool) (xs : List A) → AllPass p (filter p xs)
filter_passes p [] = tt
filter_passes p (x ∷ xs) = pass_by p x xs (p x) refl (filter_passes p xs)

-- ---- found

found_rest : {A B E : Type 0} (f : A → Result B E) (P : A → B → Type 0) (x : A) (xs : List A) (ys : List B) (w : B) (r : Result (List B) E)
    → each f xs ≡ r → (r >>= λ ws. Ok (w ∷ ws)) ≡ Ok ys → P x w → ((ws : List B) → each f xs ≡ Ok ws → AreEach P xs ws) → AreEach P (x ∷ xs) ys
found_rest f P x xs ys w (Ok ws) is h one others = let same : w ∷ ws ≡ ys = cc in subst (AreEach P (x ∷ xs)) same (one, others ws is)
found_rest f P x xs ys w (Err d) is h one others = absurd (cc)

found_first : {A B E : Type 0} (f : A → Result B E) (P : A → B → Type 0) (x : A) (xs : List A) (ys : List B) (r : Result B E)
    → f x ≡ r → (r >>= λ w. each f xs >>= λ ws. Ok (w ∷ ws)) ≡ Ok ys → ((w : B) → f x ≡ Ok w → P x w) → ((ws : List B) → each f xs ≡ Ok ws → AreEach P xs ws) → AreEach P (x ∷ xs) ys
found_first f P x xs ys (Ok w) is h one others = found_rest f P x xs ys w (each f xs) refl h (one w is) others
found_first f P x xs ys (Err d) is h one others = absurd (cc)

found_none : {A B : Type 0} (P : A → B → Type 0) (ys : List B) → [] ≡ ys → AreEach P [] ys
found_none P ys same = subst (AreEach P []) same tt

-- Where each item that passes is found, what is given belongs to the items.
pub each_found : {A B E : Type 0} (p : A → Bool) (f : A → Result B E) (P : A → B → Type 0) → ((x : A) (w : B) → p x ≡ true → f x ≡ Ok w → P x w) → (xs : List A) (ys : List B) → AllPass p xs → each f xs ≡ Ok ys → AreEach P xs ys
each_found p f P found [] ys passes h = let same : [] ≡ ys = cc in found_none P ys same
each_found p f P found (x ∷ xs) ys passes h = found_first f P x xs ys (f x) refl h (λ w is. found x w passes.0 is) (λ ws is. each_found p f P found xs ws passes.1 is)

-- What belongs to the items is given.
pub each_given : {A B E : Type 0} (f : A → Result B E) (P : A → B → Type 0) → ((x : A) (w : B) → P x w → f x ≡ Ok w) → (xs : List A) (ys : List B) → AreEach P xs ys → each f xs ≡ Ok ys
each_given f P given [] [] are = refl
each_given f P given [] (y ∷ ys) are = absurd are
each_given f P given (x ∷ xs) [] are = absurd are
each_given f P given (x ∷ xs) (y ∷ ys) are =
    let one : f x ≡ Ok y = given x y are.0 in
    let others : each f xs ≡ Ok ys = each_given f P given xs ys are.1 in
    rw (one, others) refl

-- ---- refused

-- The items before one are found, and that one is refused.
pub record Stops {A B E : Type 0} (f : A → Result B E) (P : A → B → Type 0) (xs : List A) (e : E) : Type 0 where
  pub before : List A
  pub item : A
  pub after : List A
  pub found : List B
  pub split : xs ≡ before ++ item ∷ after
  pub are : AreEach P before found
  pub refused : f item ≡ Err e

stops_here : {A B E : Type 0} (f : A → Result B E) (P : A → B → Type 0) (x : A) (xs : List A) (e : E) → f x ≡ Err e → Stops f P (x ∷ xs) e
stops_here f P x xs e is = record { before = []; item = x; after = xs; found = []; split = refl; are = tt; refused = is }

stops_behind : {A B E : Type 0} (f : A → Result B E) (P : A → B → Type 0) (x : A) (w : B) (xs : List A) (e : E) → P x w → Stops f P xs e → Stops f P (x ∷ xs) e
stops_behind f P x w xs e one s = record { before = x ∷ s.before; item = s.item; after = s.after; found = w ∷ s.found; split = ap (λ l. x ∷ l) s.split; are = (one, s.are); refused = s.refused }

stops_rest : {A B E : Type 0} (f : A → Result B E) (P : A → B → Type 0) (x : A) (xs : List A) (e : E) (w : B) (r : Result (List B) E)
    → each f xs ≡ r → (r >>= λ ws. Ok (w ∷ ws)) ≡ Err e → P x w → (each f xs ≡ Err e → Stops f P xs e) → Stops f P (x ∷ xs) e
stops_rest f P x xs e w (Ok ws) is h one others = absurd (cc)
stops_rest f P x xs e w (Err d) is h one others = let same : Err d ≡ Err e = h in stops_behind f P x w xs e one (others (is ∙ same))

stops_first : {A B E : Type 0} (f : A → Result B E) (P : A → B → Type 0) (x : A) (xs : List A) (e : E) (r : Result B E)
    → f x ≡ r → (r >>= λ w. each f xs >>= λ ws. Ok (w ∷ ws)) ≡ Err e → ((w : B) → f x ≡ Ok w → P x w) → (each f xs ≡ Err e → Stops f P xs e) → Stops f P (x ∷ xs) e
stops_first f P x xs e (Ok w) is h one others = stops_rest f P x xs e w (each f xs) refl h (one w is) others
stops_first f P x xs e (Err d) is h one others = let same : d ≡ e = cc in stops_here f P x xs e (is ∙ ap Err same)

pub each_stops : {A B E : Type 0} (p : A → Bool) (f : A → Result B E) (P : A → B → Type 0) → ((x : A) (w : B) → p x ≡ true → f x ≡ Ok w → P x w) → (xs : List A) (e : E) → AllPass p xs → each f xs ≡ Err e → Stops f P xs e
each_stops p f P found [] e passes h = absurd (cc)
each_stops p f P found (x ∷ xs) e passes h = stops_first f P x xs e (f x) refl h (λ w is. found x w passes.0 is) (λ is. each_stops p f P found xs e passes.1 is)

-- the item that is refused passes the test
pub passes_there : {A : Type 0} (p : A → Bool) (before : List A) (x : A) (after : List A) → AllPass p (before ++ x ∷ after) → p x ≡ true
passes_there p [] x after passes = passes.0
passes_there p (y ∷ before) x after passes = passes_there p before x after passes.1
