-- What an outline tells, and what is put into it, one after another.
use Rattle.std.proofs.Common.{◌≡◌, ◌⊎◌, ◌++◌, ℤ, List, [], ◌∷◌, true, Option, Some, None, refl, sym, ap, subst, inl, inr, ⊎_elim}
use Rattle.schema_map.specs.Among.{IsAmong}
use Rattle.schema_map.specs.Paths.{Path}
use Rattle.iceberg_metadata.specs.declared.outline.Outline.{Outline}
use Rattle.iceberg_metadata.specs.Outlines.{with_column, with_other}

-- a column path with its field id, or else that a type isn't supported
abbrev pub Fact : Type 0
Fact = Option (Path × ℤ)

abbrev pub Tells : Outline → Fact → Type 0
Tells o None = o.has_other ≡ true
Tells o (Some column) = IsAmong column o.paths

-- The second tells what the first does and these facts, and no more.
pub record Adds (New : Fact → Type 0) (one other : Outline) : Type 0 where
  pub kept : (f : Fact) → Tells one f → Tells other f
  pub told : (f : Fact) → New f → Tells other f
  pub only : (f : Fact) → Tells other f → Tells one f ⊎ New f

-- ---- columns

among_left : {X : Type 0} (x : X) (xs ys : List X) → IsAmong x xs → IsAmong x (xs ++ ys)
among_left x [] ys h = absurd h
among_left x (z ∷ xs) ys (inl same) = inl same
among_left x (z ∷ xs) ys (inr later) = inr (among_left x xs ys later)

among_last : {X : Type 0} (x : X) (xs : List X) → IsAmong x (xs ++ x ∷ [])
among_last x [] = inl refl
among_last x (z ∷ xs) = inr (among_last x xs)

pub among_cases : {X : Type 0} (x : X) (xs ys : List X) → IsAmong x (xs ++ ys) → IsAmong x xs ⊎ IsAmong x ys
among_cases x [] ys h = inr h
among_cases x (z ∷ xs) ys (inl same) = inl (inl same)
among_cases x (z ∷ xs) ys (inr later) = ⊎_elim (λ there. inl (inr there)) (λ last. inr last) (among_cases x xs ys later)

among_either : {X : Type 0} (x y : X) (xs : List X) → IsAmong x (xs ++ y ∷ []) → IsAmong x xs ⊎ (x ≡ y)
among_either x y xs h = ⊎_elim (λ there. inl there) (λ last. inr (⊎_elim (λ same. sym same) (λ none. absurd none) last)) (among_cases x xs (y ∷ []) h)

-- ---- one fact, none, and more

pub adds_column : (o : Outline) (path : Path) (id : ℤ) → Adds (λ f. f ≡ Some (path, id)) o (with_column o path id)
adds_column o path id = record { kept = kept; told = told; only = only }
  where
    kept : (f : Fact) → Tells o f → Tells (with_column o path id) f
    kept None h = h
    kept (Some c) h = among_left c o.paths ((path, id) ∷ []) h

    told : (f : Fact) → f ≡ Some (path, id) → Tells (with_column o path id) f
    told f same = subst (Tells (with_column o path id)) (sym same) (among_last (path, id) o.paths)

    only : (f : Fact) → Tells (with_column o path id) f → Tells o f ⊎ (f ≡ Some (path, id))
    only None h = inl h
    only (Some c) h = ⊎_elim (λ there. inl there) (λ same. inr (ap Some same)) (among_either c (path, id) o.paths h)

pub adds_other : (o : Outline) → Adds (λ f. f ≡ None) o (with_other o)
adds_other o = record { kept = kept; told = told; only = only }
  where
    kept : (f : Fact) → Tells o f → Tells (with_other o) f
    kept None h = refl
    kept (Some c) h = h

    told : (f : Fact) → f ≡ None → Tells (with_other o) f
    told f same = subst (Tells (with_other o)) (sym same) refl

    only : (f : Fact) → Tells (with_other o) f → Tells o f ⊎ (f ≡ None)
    only None h = inr refl
    only (Some c) h = inl h

pub adds_none : (New : Fact → Type 0) (o : Outline) → ((f : Fact) → New f → ⊥) → Adds New o o
adds_none New o none = record { kept = λ f h. h; told = λ f h. absurd (none f h); only = λ f h. inl h }

pub adds_then : (A B : Fact → Type 0) (o p q : Outline) → Adds A o p → Adds B p q → Adds (λ f. A f ⊎ B f) o q
adds_then A B o p q first second =
    record {
      kept = λ f h. second.kept f (first.kept f h);
      told = λ f. ⊎_elim (λ a. second.kept f (first.told f a)) (λ b. second.told f b);
      only = λ f h. ⊎_elim (λ before. ⊎_elim (λ there. inl there) (λ a. inr (inl a)) (first.only f before)) (λ b. inr (inr b)) (second.only f h);
    }

pub adds_as : (A B : Fact → Type 0) (o p : Outline) → Adds A o p → ((f : Fact) → A f → B f) → ((f : Fact) → B f → A f) → Adds B o p
adds_as A B o p adds to from =
    record {
      kept = adds.kept;
      told = λ f b. adds.told f (from f b);
      only = λ f h. ⊎_elim (λ there. inl there) (λ a. inr (to f a)) (adds.only f h);
    }
