-- The paths that file actions are on.
use Rattle.std.proofs.Common.{◌≡◌, ⊎_elim, ℕ, List, [], ◌∷◌, ◌++◌, Contains, refl, ap, subst}
use Rattle.table_history.proofs.RowListLemmas.{Contains-none, Contains-head, Contains-tail, Contains-cases}
use Rattle.delta_log.specs.Commit.{file_path, file_paths}
use Rattle.delta_log.specs.declared.commit.FileAction.{FileAction}

pub action_named : (files : List FileAction) (f : FileAction) → Contains files f → Contains (file_paths files) (file_path f)
action_named [] f there = absurd (Contains-none f there)
action_named (g ∷ files) f there = ⊎_elim
    (λ here. subst (λ x. Contains (file_paths (g ∷ files)) (file_path x)) here (Contains-head (file_path g) (file_paths files)))
    (λ later. Contains-tail (file_path g) (file_paths files) (file_path f) (action_named files f later))
    (Contains-cases g files f there)

pub paths_append : (fs gs : List FileAction) → file_paths (fs ++ gs) ≡ file_paths fs ++ file_paths gs
paths_append [] gs = refl
paths_append (f ∷ fs) gs = ap (λ (l : List (List ℕ)). file_path f ∷ l) (paths_append fs gs)
