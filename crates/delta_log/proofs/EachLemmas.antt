-- What each of a list gives, cut in front of an item or behind one.
use Rattle.std.proofs.Common.{◌≡◌, List, [], ◌∷◌, ◌++◌, Result, Ok, Err, refl, sym, ap, ◌∙◌}
use Rattle.lake_basics.specs.Outcome.{◌>>=◌, each}

unfoldable pub Splits : {A B E : Type 0} → (A → Result B E) → A → List A → List B → Type 0
Splits {A} {B} f x xs ys = (w : B) × (ws : List B) × (f x ≡ Ok w) × (each f xs ≡ Ok ws) × (ys ≡ w ∷ ws)

split_rest : {A B E : Type 0} (f : A → Result B E) (x : A) (xs : List A) (ys : List B) (w : B) (r : Result (List B) E) → f x ≡ Ok w → each f xs ≡ r → (r >>= λ ws. Ok (w ∷ ws)) ≡ Ok ys → Splits f x xs ys
unfolding Splits
split_rest f x xs ys w (Ok ws) first others e = (w, ws, first, others, sym (cc))
split_rest f x xs ys w (Err d) first others e = absurd (cc)

split_first : {A B E : Type 0} (f : A → Result B E) (x : A) (xs : List A) (ys : List B) (r : Result B E) → f x ≡ r → (r >>= λ w. each f xs >>= λ ws. Ok (w ∷ ws)) ≡ Ok ys → Splits f x xs ys
unfolding Splits
split_first f x xs ys (Ok w) first e = split_rest f x xs ys w (each f xs) first refl e
split_first f x xs ys (Err d) first e = absurd (cc)

pub split_each : {A B E : Type 0} (f : A → Result B E) (x : A) (xs : List A) (ys : List B) → each f (x ∷ xs) ≡ Ok ys → Splits f x xs ys
split_each f x xs ys e = split_first f x xs ys (f x) refl e

pub each_cons : {A B E : Type 0} (f : A → Result B E) (x : A) (xs : List A) (y : B) (ys : List B) → f x ≡ Ok y → each f xs ≡ Ok ys → each f (x ∷ xs) ≡ Ok (y ∷ ys)
each_cons f x xs y ys first others = rw (first, others)

pub each_push : {A B E : Type 0} (f : A → Result B E) (xs : List A) (x : A) (ys : List B) (y : B) → each f xs ≡ Ok ys → f x ≡ Ok y → each f (xs ++ x ∷ []) ≡ Ok (ys ++ y ∷ [])
unfolding Splits
each_push f [] x [] y all one = each_cons f x [] y [] one refl
each_push f [] x (z ∷ ys) y all one = absurd (cc)
each_push f (w ∷ xs) x ys y all one =
    let parts = split_each f w xs ys all in
    rw parts.4 (each_cons f w (xs ++ x ∷ []) parts.0 (parts.1 ++ y ∷ []) parts.2 (each_push f xs x parts.1 y parts.3 one))

-- The list is what these give, what one more gives, and what the others give.
unfoldable pub Cuts : {A B E : Type 0} → (A → Result B E) → List A → A → List B → Type 0
Cuts {A} {B} f xs x ys = (front : List B) × (w : B) × (rest : List B) × (each f xs ≡ Ok front) × (f x ≡ Ok w) × (ys ≡ front ++ w ∷ rest)

pub cut_each : {A B E : Type 0} (f : A → Result B E) (xs : List A) (x : A) (more : List A) (ys : List B) → each f (xs ++ x ∷ more) ≡ Ok ys → Cuts f xs x ys
unfolding Splits Cuts
cut_each f [] x more ys all =
    let parts = split_each f x more ys all in ([], parts.0, parts.1, refl, parts.2, parts.4)
cut_each f (w ∷ xs) x more ys all =
    let parts = split_each f w (xs ++ x ∷ more) ys all in
    let cut = cut_each f xs x more parts.1 parts.3 in
    (parts.0 ∷ cut.0, cut.1, cut.2, each_cons f w xs parts.0 cut.0 parts.2 cut.3, cut.4, parts.4 ∙ ap (λ l. parts.0 ∷ l) cut.5)
