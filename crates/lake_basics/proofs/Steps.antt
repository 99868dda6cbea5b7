-- Readings one after another: what each gave, and what they refuse.
use Rattle.std.proofs.Common.{◌≡◌, ◌⊎◌, List, [], ◌∷◌, Option, None, Some, Result, Ok, Err, refl, ap, subst, ◌∙◌, inl, inr}
use Rattle.lake_basics.specs.Outcome.{◌>>=◌, required, each}

abbrev pub gave : (A E : Type 0) → A → Result A E
gave A E x = Ok x

abbrev pub given : (A E : Type 0) → E → Result A E
given A E e = Err e

pub ok_is : {A E : Type 0} (x y : A) → gave A E x ≡ Ok y → x ≡ y
ok_is x y is = cc is

pub err_is : {A E : Type 0} (x y : E) → given A E x ≡ Err y → x ≡ y
err_is x y is = cc is

pub bind_ok : {A B E : Type 0} (r : Result A E) (f : A → Result B E) (b : B) → (r >>= f) ≡ Ok b → (a : A) × (r ≡ Ok a) × (f a ≡ Ok b)
bind_ok (Ok a) f b is = (a, refl, is)
bind_ok (Err e) f b is = absurd (cc)

pub bind_err : {A B E : Type 0} (r : Result A E) (f : A → Result B E) (e : E) → (r >>= f) ≡ Err e → (r ≡ Err e) ⊎ ((a : A) × (r ≡ Ok a) × (f a ≡ Err e))
bind_err (Ok a) f e is = inr (a, refl, is)
bind_err {A} {B} {E} (Err x) f e is = inl (ap (given A E) (err_is {A = B} x e is))

pub bind_by : {A B E : Type 0} (r : Result A E) (f : A → Result B E) (a : A) (x : Result B E) → r ≡ Ok a → f a ≡ x → (r >>= f) ≡ x
bind_by r f a x is more = ap (λ q. q >>= f) is ∙ more

pub required_some : {A E : Type 0} (fault : E) (o : Option A) (a : A) → required fault o ≡ Ok a → o ≡ Some a
required_some fault None a is = absurd (cc)
required_some fault (Some x) a is = ap Some (ok_is x a is)

pub each_cons : {A B E : Type 0} (f : A → Result B E) (x : A) (xs : List A) (ys : List B) → each f (x ∷ xs) ≡ Ok ys → (y : B) × (rest : List B) × (f x ≡ Ok y) × (each f xs ≡ Ok rest) × (y ∷ rest ≡ ys)
each_cons f x xs ys is =
    let first = bind_ok (f x) (λ y. each f xs >>= λ others. Ok (y ∷ others)) ys is in
    let others = bind_ok (each f xs) (λ rest. Ok (first.0 ∷ rest)) ys first.2 in
    (first.0, others.0, first.1, others.1, ok_is (first.0 ∷ others.0) ys others.2)

-- ---- refusals

-- Each refusal is one of these.
abbrev pub Refuses : {A E : Type 0} → (E → Type 0) → Result A E → Type 0
Refuses {A} {E} P r = (e : E) → r ≡ Err e → P e

module _ {E : Type 0} (P : E → Type 0) where
  pub refuses_ok : {A : Type 0} (a : A) → Refuses P (gave A E a)
  refuses_ok a e is = absurd (cc)

  pub refuses_err : {A : Type 0} (x : E) → P x → Refuses P (given A E x)
  refuses_err x p e is = subst P (err_is x e is) p

  pub refuses_bind : {A B : Type 0} (r : Result A E) (f : A → Result B E) → Refuses P r → ((a : A) → Refuses P (f a)) → Refuses P (r >>= f)
  refuses_bind (Ok a) f first more = more a
  refuses_bind (Err x) f first more = λ e is. subst P (err_is x e is) (first x refl)

  pub refuses_required : {A : Type 0} (fault : E) (o : Option A) → P fault → Refuses P (required fault o)
  refuses_required fault None p = refuses_err fault p
  refuses_required fault (Some a) p = refuses_ok a

  pub refuses_each : {A B : Type 0} (f : A → Result B E) (xs : List A) → ((x : A) → Refuses P (f x)) → Refuses P (each f xs)
  refuses_each f [] all = refuses_ok []
  refuses_each f (x ∷ xs) all =
      refuses_bind (f x) (λ first. each f xs >>= λ others. Ok (first ∷ others)) (all x)
      (λ first. refuses_bind (each f xs) (λ others. Ok (first ∷ others)) (refuses_each f xs all) (λ others. refuses_ok (first ∷ others)))
