-- The first of the rows that the commits add and that has a value without a text.
use Rattle.std.proofs.Common.{◌≡◌, ⊎_elim, ℕ, ◌+◌, ◌<◌, List, [], ◌∷◌, ◌++◌, length, get_or, take, drop, Contains, refl, sym, ap, subst, ◌∙◌, append_assoc}
use Rattle.std.proofs.lemmas.List.{take-append-drop}
use Rattle.std.proofs.lemmas.List.Elements.{Contains-append_cases}
use Rattle.table_history.specs.Row.{Row}
use Rattle.table_history.specs.declared.table.Commit.{Commit}
use Rattle.table_history.proofs.RowListLemmas.{Contains-none, Contains-cases}
use Rattle.target_delta.specs.Fitting.{HasValueForm, IsFirstValueForm, added_rows}
use Rattle.lake_basics.proofs.Lists.{last_of, next_of}

-- ---- one more that isn't so

pub none_more : {X : Type 0} (P : X → Type 0) (xs : List X) (i : ℕ) (x : X) → i < length xs → x ≡ get_or xs i x → ((y : X) → Contains (take i xs) y → P y → ⊥) → (P x → ⊥) → (y : X) → Contains (take (i + 1) xs) y → P y → ⊥
none_more P xs i x within at before here y there is =
    ⊎_elim
    (λ earlier. before y earlier is)
    (λ last. ⊎_elim (λ (same : x ≡ y). here (subst P (sym same) is)) (λ none. Contains-none y none) (Contains-cases x [] y last))
    (Contains-append_cases (take i xs) (x ∷ []) y (subst (λ (l : List _). Contains l y) (last_of xs i x within at) there))

-- ---- the first row

pub first_here : (rows : List Row) (i : ℕ) (row : Row) → i < length rows → row ≡ get_or rows i row → ((other : Row) → Contains (take i rows) other → HasValueForm other → ⊥) → HasValueForm row → IsFirstValueForm rows row.path
first_here rows i row within at before here = record {
  front = take i rows;
  row = row;
  behind = drop (i + 1) rows;
  split = sym (take-append-drop i rows) ∙ ap (λ (l : List Row). take i rows ++ l) (next_of rows i row within at);
  here = here;
  none = before;
  is = refl;
}

-- ---- along the commits

pub added_append : (a b : List Commit) → added_rows (a ++ b) ≡ added_rows a ++ added_rows b
added_append [] b = refl
added_append (c ∷ a) b = ap (λ (l : List Row). c.change.added ++ l) (added_append a b) ∙ sym (append_assoc c.change.added (added_rows a) (added_rows b))

module _ (commits : List Commit) (i : ℕ) (commit : Commit) (within : i < length commits) (at : commit ≡ get_or commits i commit) where
  added_split : added_rows commits ≡ added_rows (take i commits) ++ (commit.change.added ++ added_rows (drop (i + 1) commits))
  added_split =
      ap added_rows (sym (take-append-drop i commits) ∙ ap (λ (l : List Commit). take i commits ++ l) (next_of commits i commit within at))
      ∙ added_append (take i commits) (commit ∷ drop (i + 1) commits)

  pub first_among : (path : List ℕ) → ((row : Row) → Contains (added_rows (take i commits)) row → HasValueForm row → ⊥) → IsFirstValueForm commit.change.added path → IsFirstValueForm (added_rows commits) path
  first_among path before first = record {
    front = added_rows (take i commits) ++ first.front;
    row = first.row;
    behind = first.behind ++ added_rows (drop (i + 1) commits);
    split = added_split
        ∙ ap (λ (l : List Row). added_rows (take i commits) ++ l) (ap (λ (l : List Row). l ++ added_rows (drop (i + 1) commits)) first.split ∙ append_assoc first.front (first.row ∷ first.behind) (added_rows (drop (i + 1) commits)))
        ∙ sym (append_assoc (added_rows (take i commits)) first.front (first.row ∷ (first.behind ++ added_rows (drop (i + 1) commits))));
    here = first.here;
    none = λ other there has. ⊎_elim (λ left. before other left has) (λ right. first.none other right has) (Contains-append_cases (added_rows (take i commits)) first.front other there);
    is = first.is;
  }

  pub none_among : ((row : Row) → Contains (added_rows (take i commits)) row → HasValueForm row → ⊥) → ((row : Row) → Contains commit.change.added row → HasValueForm row → ⊥) → (row : Row) → Contains (added_rows (take (i + 1) commits)) row → HasValueForm row → ⊥
  none_among before here row there has =
      let rows : added_rows (take (i + 1) commits) ≡ added_rows (take i commits) ++ added_rows (commit ∷ []) = ap added_rows (last_of commits i commit within at) ∙ added_append (take i commits) (commit ∷ []) in
      ⊎_elim
      (λ left. before row left has)
      (λ right. ⊎_elim (λ l. here row l has) (λ none. Contains-none row none) (Contains-append_cases commit.change.added [] row right))
      (Contains-append_cases (added_rows (take i commits)) (added_rows (commit ∷ [])) row (subst (λ (l : List Row). Contains l row) rows there))
