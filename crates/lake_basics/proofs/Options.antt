-- Options and results.
use Rattle.std.proofs.Common.{Bool, Decides, Err, List, None, Ok, Option, Result, Some, ap, cond, false, refl, sym, true, ℕ, ◌∙◌, ◌≡◌}
use Rattle.std.proofs.lemmas.Bool.{false≢true}
use Rattle.std.specs.Option.{option_eq}
use Rattle.std.specs.Prelude.{IfOk, IsSome, is_some, option_to_list}

pub some_or_none : {A : Type 0} (o : Option A) (x : A) → o ≡ Some x → o ≡ None → ⊥
some_or_none o x p q = cc

pub same_options : {X : Type 0} (a b : Option X) → option_to_list a ≡ option_to_list b → a ≡ b
same_options None None is = refl
same_options None (Some y) is = absurd cc
same_options (Some x) None is = absurd cc
same_options (Some x) (Some y) is = let same : x ≡ y = cc in ap (λ z. Some z) same

pub chosen : (b : Bool) (n i : ℕ) → cond b (Some n) None ≡ Some i → (b ≡ true) × (n ≡ i)
chosen true n i e = (refl, cc)
chosen false n i e = absurd (cc)

pub not_chosen : (b : Bool) (n : ℕ) → cond b (Some n) None ≡ None → b ≡ false
not_chosen true n e = absurd (cc)
not_chosen false n e = refl

pub some_of : (o : Option (List ℕ)) → IsSome o → (x : List ℕ) × (o ≡ Some x)
some_of (Some x) is = (x, refl)
some_of None is = absurd cc

pub some_once : {A : Type 0} (o : Option A) (x y : A) → o ≡ Some x → o ≡ Some y → x ≡ y
some_once o x y p q = cc

pub ok_once : {A E : Type 0} (r : Result A E) (x y : A) → r ≡ Ok x → r ≡ Ok y → x ≡ y
ok_once r x y p q = cc (sym p ∙ q)

pub ok_also : {A E : Type 0} (r : Result A E) (P Q : A → Type 0) → IfOk r P → ((a : A) → P a → Q a) → IfOk r Q
ok_also (Ok a) P Q p so = so a p
ok_also (Err e) P Q p so = tt

pub option_decides : {A : Type 0} {E : A → A → Bool} → ((a b : A) → Decides (E a b) (a ≡ b)) → (a b : Option A) → Decides (option_eq E a b) (a ≡ b)
option_decides each None None = (λ _. refl, λ _. refl)
option_decides each None (Some y) = (λ is. absurd (false≢true is), λ same. absurd (cc))
option_decides each (Some x) None = (λ is. absurd (false≢true is), λ same. absurd (cc))
option_decides each (Some x) (Some y) = (λ is. ap (λ z. Some z) ((each x y).0 is), λ same. (each x y).1 (cc))

pub none_there : (o : Option (List ℕ)) → o ≡ None → IsSome o → ⊥
none_there o is there = false≢true (sym (ap is_some is) ∙ there)

pub some_there : (o : Option (List ℕ)) (bytes : List ℕ) → o ≡ Some bytes → IsSome o
some_there o bytes is = ap is_some is

pub none_or_some : {A : Type 0} (o : Option A) (x : A) → o ≡ None → o ≡ Some x → ⊥
none_or_some o x p q = cc (sym p ∙ q)
