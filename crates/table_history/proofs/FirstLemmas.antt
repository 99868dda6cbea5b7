-- What the first of several causes tells, and that none is the first where the fact is true of none.
use Rattle.std.proofs.Common.{List, [], ◌∷◌, sym, subst, ⊎_elim}
use Rattle.table_history.specs.First.{IsFirst, NoneOf}

pub first_in : {X : Type 0} (P : X → Type 0) (xs : List X) (x : X) → IsFirst P xs x → P x
first_in P [] x first = absurd first
first_in P (y ∷ ys) x first = ⊎_elim (λ h. subst P (sym h.0) h.1) (λ h. first_in P ys x h.1) first

pub none_first : {X : Type 0} (P : X → Type 0) (xs : List X) (x : X) → NoneOf P xs → IsFirst P xs x → ⊥
none_first P [] x none first = first
none_first P (y ∷ ys) x none first = ⊎_elim (λ h. none.0 h.1) (λ h. none_first P ys x none.1 h.1) first
