-- A loop that reads each of a list: what it has read, before what the rest gives.
use Rattle.std.proofs.Common.{◌≡◌, List, [], ◌∷◌, ◌++◌, Result, Ok, Err, refl, ap, append_assoc}
use Rattle.std.proofs.lemmas.List.{append-nil}
use Rattle.lake_basics.specs.Outcome.{◌>>=◌, each, with_front}

pub with_front-none : {B E : Type 0} (reading : Result (List B) E) → with_front [] reading ≡ reading
with_front-none (Ok xs) = refl
with_front-none (Err e) = refl

pub with_front-end : {B E : Type 0} (front : List B) → with_front {E = E} front (Ok []) ≡ Ok front
with_front-end front = ap Ok (append-nil front)

pub with_front-append : {B E : Type 0} (front : List B) (y : B) (reading : Result (List B) E) → with_front (front ++ y ∷ []) reading ≡ with_front front (reading >>= λ ys. Ok (y ∷ ys))
with_front-append front y (Ok ys) = ap Ok (append_assoc front (y ∷ []) ys)
with_front-append front y (Err e) = refl

pub with_front-push : {A B E : Type 0} (f : A → Result B E) (front : List B) (x : A) (xs : List A) (y : B) → f x ≡ Ok y → with_front (front ++ y ∷ []) (each f xs) ≡ with_front front (each f (x ∷ xs))
with_front-push f front x xs y is = rw is (with_front-append front y (each f xs))

pub with_front-stop : {A B E : Type 0} (f : A → Result B E) (front : List B) (x : A) (xs : List A) (e : E) → f x ≡ Err e → with_front front (each f (x ∷ xs)) ≡ Err e
with_front-stop f front x xs e is = rw is
