-- What publishing commits writes goes on by one commit at its end.
use Rattle.std.proofs.Common.{◌≡◌, ℕ, ◌+◌, List, [], ◌∷◌, ◌++◌, append-nil, take, Some, refl, ◌∙◌, subst}
use Rattle.std.specs.Prelude.{slice_get}
use Rattle.lake_store.specs.Disk.{Files}
use Rattle.table_history.specs.declared.table.Commit.{Commit}
use Rattle.target_core.specs.Written.{AreWritten}
use Rattle.target_core.proofs.Along.{more_before}

module _ {K : Type 0} (stands_for : K → Files → Type 0) (writes : K → Files → Commit → Files → Type 0) where
  written_more : (kept : K) (before : Files) (commits : List Commit) (here : K) (mid : Files) (commit : Commit) (next : K) (after : Files) → AreWritten stands_for writes kept before commits here mid → writes here mid commit after
      → stands_for next after → AreWritten stands_for writes kept before (commits ++ commit ∷ []) next after
  written_more kept before [] here mid commit next after is step stands = (
    next,
    after,
    subst (λ (k : K). writes k before commit after) is.0 (subst (λ (files : Files). writes here files commit after) is.1 step),
    stands,
    (refl, refl),
  )
  written_more kept before (first ∷ commits) here mid commit next after is step stands = (is.0, is.1, is.2, is.3, written_more is.0 is.1 commits here mid commit next after is.4 step stands)

  pub written_take : (kept : K) (before : Files) (commits : List Commit) (i : ℕ) (here : K) (mid : Files) (commit : Commit) (next : K) (after : Files) → slice_get commits i ≡ Some commit
      → AreWritten stands_for writes kept before (take i commits) here mid → writes here mid commit after → stands_for next after → AreWritten stands_for writes kept before (take (i + 1) commits) next after
  written_take kept before commits i here mid commit next after at is step stands =
      subst (λ (cs : List Commit). AreWritten stands_for writes kept before cs next after) (more_before commits i commit at [] ∙ append-nil (take (i + 1) commits))
      (written_more kept before (take i commits) here mid commit next after is step stands)
