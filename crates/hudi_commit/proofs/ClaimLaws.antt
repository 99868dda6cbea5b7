-- The claims' folder doesn't grow, since none of the files that a commit adds lies there.
use Rattle.std.proofs.Common.{◌≡◌, ◌≢◌, ⊎_elim, ℕ, List, ◌∷◌, ◌++◌, sym, ◌∙◌, ap}
use Rattle.std.specs.Prelude.{Option, None, Some, codes}
use Rattle.std.specs.FinMap as map
use Rattle.lake_store.specs.Disk.{Files, behind}
use Rattle.hudi_names.specs.Time.{IsDigits}
use Rattle.hudi_commit.specs.Names.{IsOpenLeftover, Stage, StaysOrGoes, claims_folder, completed_name, completed_path, pending_name, pending_path, properties_path}
use Rattle.hudi_commit.specs.Runs.{HasNotGrown, IsOther, NotGiven}
use Rattle.hudi_commit.proofs.NameLaws.{cancel, completed_is_name, no_inner, pending_is_name}
use Rattle.hudi_commit.proofs.OrderlyLaws.{there, there_none}

-- the properties' file lies elsewhere
not_properties : (rest : List ℕ) → claims_folder ++ 47 ∷ rest ≢ properties_path
not_properties rest e = none (ap (behind (codes ".hoodie/.lakebridge/")) e)
  where
    none : Some rest ≡ None → ⊥
    none same = absurd (cc same)

pub others_not_grown : (properties : Option (List ℕ)) (t : List ℕ) → IsDigits t → (old new : Files) → ((q : List ℕ) → IsOther properties t q → StaysOrGoes old new q) → HasNotGrown claims_folder old new
others_not_grown properties t is old new others q inside found =
    let outside : q ≢ completed_path t = λ e. no_inner (completed_name t) inside.0 (completed_is_name t is) (cancel (completed_name t) (codes ".lakebridge/" ++ inside.0) (sym e ∙ inside.1)) in
    let not_pending : (s : Stage) → q ≢ pending_path s t = λ s e. no_inner (pending_name s t) inside.0 (pending_is_name s t is) (cancel (pending_name s t) (codes ".lakebridge/" ++ inside.0) (sym e ∙ inside.1)) in
    ⊎_elim
    (λ same. there new old q (sym same) found)
    (λ (gone : IsOpenLeftover old q × (map.get new q ≡ None)). there_none new q found gone.1)
    (others q (record { completed = outside; pending = not_pending; given = not_given properties }))
  where
    not_given : (properties : Option (List ℕ)) → NotGiven properties q
    not_given None = tt
    not_given (Some p) = λ e. not_properties inside.0 (sym inside.1 ∙ e)
