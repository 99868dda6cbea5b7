-- What has gone out of texts that are put out one behind the other.
use Rattle.std.proofs.Common.{◌≡◌, ◌+◌, ◌<◌, ℕ, List, [], ◌∷◌, ◌++◌, length, get_or, map, take, drop, sym, ap, ◌∙◌, append_assoc, arith}
use Rattle.std.proofs.Math.Seq.{take-append_seam, take-append-add}
use Rattle.std.proofs.lemmas.List.{append-nil, map-append, take-append-drop, take_more}
use Rattle.std.proofs.lemmas.List.Folds.{concat-append}
use Rattle.std.specs.List.{concat}
use Rattle.lake_store.specs.Cause.{HasFault}

-- a front of the first text is one of both
pub front_within : (out a b : List ℕ) (n : ℕ) → (m : ℕ) × (out ++ take n a ≡ out ++ take m (a ++ b))
front_within out a b n =
    let p = take n a in
    let split : a ++ b ≡ p ++ (drop n a ++ b) = ap (λ (l : List ℕ). l ++ b) (sym (take-append-drop n a)) ∙ append_assoc p (drop n a) b in
    (length p, ap (λ (l : List ℕ). out ++ l) (sym (ap (λ (l : List ℕ). take (length p) l) split ∙ take-append_seam p (drop n a ++ b))))

-- a front of the second text, behind the first, is one of both
pub front_behind : (out a b : List ℕ) (n : ℕ) → (m : ℕ) × ((out ++ a) ++ take n b ≡ out ++ take m (a ++ b))
front_behind out a b n = (length a + n, append_assoc out a (take n b) ∙ ap (λ (l : List ℕ). out ++ l) (sym (take-append-add a b n)))

module _ {A : Type 0} (f : A → List ℕ) (xs : List A) (i : ℕ) (x : A) (within : i < length xs) (is : x ≡ get_or xs i x) where
  -- the texts so far, and one more
  pub one_more : concat (map f (take (i + 1) xs)) ≡ concat (map f (take i xs)) ++ f x
  one_more =
      ap (λ (l : List A). concat (map f l)) (take_more xs i x within ∙ ap (λ (y : A). take i xs ++ y ∷ []) (sym is))
      ∙ ap concat (map-append f (take i xs) (x ∷ []))
      ∙ concat-append (map f (take i xs)) (f x ∷ [])
      ∙ ap (λ (l : List ℕ). concat (map f (take i xs)) ++ l) (append-nil (f x))

  -- a front of one text, behind those before it, is one of all
  pub front_of_all : (out : List ℕ) (n : ℕ) → (m : ℕ) × ((out ++ concat (map f (take i xs))) ++ take n (f x) ≡ out ++ take m (concat (map f xs)))
  front_of_all out n =
      let before = concat (map f (take i xs)) in
      let rest = concat (map f (drop (i + 1) xs)) in
      let first = front_behind out before (f x) n in
      let second = front_within out (before ++ f x) rest first.0 in
      let whole : concat (map f xs) ≡ (before ++ f x) ++ rest =
      ap (λ (l : List A). concat (map f l)) (sym (take-append-drop (i + 1) xs))
      ∙ ap concat (map-append f (take (i + 1) xs) (drop (i + 1) xs))
      ∙ concat-append (map f (take (i + 1) xs)) (map f (drop (i + 1) xs))
      ∙ ap (λ (l : List ℕ). l ++ rest) one_more in
      (second.0, first.1 ∙ second.1 ∙ ap (λ (l : List ℕ). out ++ take second.0 l) (sym whole))

-- behind a line, the rest or a front of it
module _ (new mid out l line rest all : List ℕ) where
  pub line_and_rest : mid ≡ out ++ l → l ≡ line → rest ≡ all → new ≡ mid ++ rest → new ≡ out ++ (line ++ all)
  line_and_rest so_far is whole end = end ∙ ap (λ (m : List ℕ). m ++ rest) so_far ∙ append_assoc out l rest ∙ ap (λ (m : List ℕ). out ++ (m ++ rest)) is ∙ ap (λ (m : List ℕ). out ++ (line ++ m)) whole

  pub line_and_front : mid ≡ out ++ l → l ≡ line → rest ≡ all → (n : ℕ) × (new ≡ mid ++ take n rest) → (m : ℕ) × (new ≡ out ++ take m (line ++ all))
  line_and_front so_far is whole front =
      let both = front_behind out l rest front.0 in (
        both.0,
        front.1 ∙ ap (λ (m : List ℕ). m ++ take front.0 rest) so_far ∙ both.1 ∙ ap (λ (m : List ℕ). out ++ take both.0 (m ++ rest)) is ∙ ap (λ (m : List ℕ). out ++ take both.0 (line ++ m)) whole,
      )

-- a run without a refusal for a fault goes on
pub fails_never : {S : Type 0} (count : S → ℕ) (may : S → Type 0) (old mid new : S) (Refused : Type 0) → HasFault count may old mid ⊥ → HasFault count may mid new Refused → HasFault count may old new ⊥
fails_never count may old mid new Refused run call =
    let one = run.later in
    let two = call.later in
    record { later = omega (arith, one, two); still = λ m. run.still (call.still m); rose = λ never. absurd never; allowed = λ never. absurd never }
