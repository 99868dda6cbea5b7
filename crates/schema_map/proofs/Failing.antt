-- What follows of the steps of a reading that failed.
use Rattle.std.proofs.Common.{◌≡◌, ℕ, List, [], ◌∷◌, Bool, true, false, Option, Some, None, Result, Ok, Err, refl, sym, ◌∙◌, cond}
use Rattle.std.specs.Prelude.{◌⊎◌}
use Rattle.std.specs.Str.{bytes_eq}
use Rattle.std.proofs.lemmas.Bool.{true≢false}
use Rattle.std.proofs.lemmas.Slice.Eq.{bytes_eq-Decides}
use Rattle.schema_map.specs.declared.fault.Fault.{Fault}
use Rattle.schema_map.specs.declared.fault.Fault.TheVariants.{BadSchema}
use Rattle.schema_map.specs.declared.fault.MapError.{MapError}
use Rattle.lake_basics.specs.Outcome.{◌>>=◌, required, each}
use Rattle.schema_map.specs.Errors.{in_column, error_in}
use Rattle.schema_map.specs.Among.{IsAmong}
use mathlib.Core.Logic.{inl, inr}

-- The first step failed, or the second did behind it.
abbrev pub Failed : {A B E : Type 0} → Result A E → (A → Result B E) → E → Type 0
Failed {A} r f e = (r ≡ Err e) ⊎ ((x : A) × (r ≡ Ok x) × (f x ≡ Err e))

pub failed : {A B E : Type 0} (r : Result A E) (f : A → Result B E) (e : E) → (r >>= f) ≡ Err e → Failed r f e
failed (Ok x) f e h = inr (x, refl, h)
failed (Err d) f e h = inl (cc)

-- What must be there isn't, or the next step failed.
abbrev pub Missed : {A B : Type 0} → Option A → (A → Result B Fault) → Fault → Type 0
Missed {A} o f e = ((e ≡ BadSchema) × (o ≡ None)) ⊎ ((x : A) × (o ≡ Some x) × (f x ≡ Err e))

pub missed : {A B : Type 0} (o : Option A) (f : A → Result B Fault) (e : Fault) → (required BadSchema o >>= f) ≡ Err e → Missed o f e
missed (Some x) f e h = inr (x, refl, h)
missed None f e h = inl (cc, refl)

-- One of these failed.
pub record FailedAt {A B E : Type 0} (f : A → Result B E) (xs : List A) (e : E) : Type 0 where
  pub at : A
  pub among : IsAmong at xs
  pub fails : f at ≡ Err e

pub each_failed : {A B E : Type 0} (f : A → Result B E) (xs : List A) (e : E) → each f xs ≡ Err e → FailedAt f xs e
each_failed f [] e h = absurd (cc)
each_failed f (x ∷ xs) e h =
    elim (failed (f x) _ e h) as (λ _. FailedAt f (x ∷ xs) e) [
      | inl here ↦ record { at = x; among = inl refl; fails = here }
      | inr first ↦ elim (failed (each f xs) _ e first.2) as (λ _. FailedAt f (x ∷ xs) e) [
        | inl later ↦ (let found = each_failed f xs e later in record { at = found.at; among = inr found.among; fails = found.fails })
        | inr others ↦ absurd (let h = others.2 in cc)
      ]
    ]

-- A choice failed: by which branch.
pub chose : {A E : Type 0} (P : Type 0) (b : Bool) (r s : Result A E) (e : E) → (b ≡ true → r ≡ Err e → P) → (b ≡ false → s ≡ Err e → P) → cond b r s ≡ Err e → P
chose P true r s e here there h = here refl h
chose P false r s e here there h = there refl h

-- a fault told by the name of a column
pub record ToldOf {A : Type 0} (name : List ℕ) (r : Result A Fault) (e : MapError) : Type 0 where
  pub fault : Fault
  pub was : r ≡ Err fault
  pub is : error_in name fault ≡ e

pub told_of : {A : Type 0} (name : List ℕ) (r : Result A Fault) (e : MapError) → in_column name r ≡ Err e → ToldOf name r e
told_of name (Ok x) e h = absurd (cc)
told_of name (Err f) e h = record { fault = f; was = refl; is = cc }

pub not_word : (word name : List ℕ) → bytes_eq word name ≡ false → Some word ≡ Some name → ⊥
not_word word name other same = let eq : word ≡ name = cc in true≢false (sym ((bytes_eq-Decides word name).1 eq) ∙ other)
