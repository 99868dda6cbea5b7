-- The rows of a table, one by one.
use Rattle.std.proofs.Common.{◌≡◌, ◌<◌, ◌+◌, ℕ, List, [], ◌∷◌, ◌++◌, Contains, Result, Ok, Err, length, get_or, take, sym, ap, subst, ◌∙◌, ⊎_elim}
use Rattle.std.specs.Prelude.{IfOk}
use Rattle.std.proofs.lemmas.List.{take_more}
use Rattle.std.proofs.lemmas.List.Elements.{Contains-push_cases}
use Rattle.table_history.specs.Rows.{HasPath}
use Rattle.table_history.specs.declared.row.FileRow.{FileRow}

-- ---- what a result is, if it is one

pub if_both : {A E : Type 0} (r : Result A E) (P Q R : A → Type 0) → IfOk r P → IfOk r Q → ((a : A) → P a → Q a → R a) → IfOk r R
if_both (Ok a) P Q R p q both = both a p q
if_both (Err e) P Q R p q both = tt

-- what is so of each row at the front is so of one more
pub each_more : (before went : List FileRow) (rows : List FileRow) (i : ℕ) (row : FileRow) → i < length rows → row ≡ get_or rows i row → ((r : FileRow) → Contains (take i rows) r → HasPath before r.path → HasPath went r.path) → (HasPath before row.path → HasPath went row.path)
    → (r : FileRow) → Contains (take (i + 1) rows) r → HasPath before r.path → HasPath went r.path
each_more before went rows i row within at so_far here r there =
    let longer : take (i + 1) rows ≡ take i rows ++ row ∷ [] = take_more rows i row within ∙ ap (λ (w : FileRow). take i rows ++ w ∷ []) (sym at) in
    ⊎_elim (λ was. so_far r was) (λ same. subst (λ (w : FileRow). HasPath before w.path → HasPath went w.path) same here) (Contains-push_cases (take i rows) row r (subst (λ (l : List FileRow). Contains l r) longer there))
