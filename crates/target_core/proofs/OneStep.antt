-- For the targets: what one commit publishes, from what the files read as before and after it.
use Rattle.std.proofs.Common.{◌≡◌, ⊎_elim, ℕ, ◌+◌, [], ◌∷◌, Some, Bool, true, false, subst, arith}
use Rattle.std.specs.Prelude.{slice_get}
use Rattle.lake_store.specs.Disk.{Files}
use Rattle.lake_store.specs.Runs.{IsEachMoment, LeavesAlone}
use Rattle.lake_store.specs.declared.store.Store.{Ghosts}
use Rattle.lake_store.proofs.MomentLaws.{weaker}
use Rattle.table_history.specs.declared.table.Commit.{Commit}
use Rattle.target_core.specs.Folders.{after_crash}
use Rattle.target_core.specs.Gained.{Gained, GainedSome, StillCarries}
use Rattle.target_core.specs.Meaning.{Meaning}
use Rattle.target_core.specs.Publishing.{LeavesSome, Publishes}
use Rattle.target_core.specs.Step.{IsBefore, IsBeforeOrBehind, IsBehind}
use Rattle.target_core.specs.Views.{IsAdvanced, Origin, View, standing_at}
use Rattle.target_core.proofs.Same.{same_refl}
use Rattle.target_core.proofs.Steps.{gained_none}

module _ (target : Meaning) (origin : Origin) (start : View) (before : Files) (commit : Commit) where
  some_before : (files : Files) → IsBefore target start before files → GainedSome target origin start before (commit ∷ []) files
  some_before files old = record { count = 0; gained = gained_none target origin start before (commit ∷ []) files old.reads old.earlier }

  module _ (next : View) (step : IsAdvanced target.image origin start commit next) where
    gained_one : (files : Files) → IsBehind target origin start before commit next files → Gained target origin start before (commit ∷ []) 1 files
    gained_one files behind = record {
      within = omega arith;
      view = next;
      leads = (next, step, same_refl next);
      stands = behind.reads;
      each = λ i c lt at.
          let first : i ≡ 0 = omega (arith, lt) in
          let here : slice_get (commit ∷ []) 0 ≡ Some c = subst (λ (k : ℕ). slice_get (commit ∷ []) k ≡ Some c) first at in
          let one : commit ≡ c = cc in
          let number : start.commits + 1 ≡ start.commits + i + 1 = omega (arith, first) in
          subst (λ (d : Commit). target.carries files (start.commits + i + 1) d.change (standing_at origin d.position)) one
          (subst (λ (n : ℕ). target.carries files n commit.change (standing_at origin commit.position)) number behind.carries);
      earlier = behind.earlier;
    }

    some_of : (files : Files) → IsBeforeOrBehind target origin start before commit next files → GainedSome target origin start before (commit ∷ []) files
    some_of files is = ⊎_elim (some_before files) (λ new. record { count = 1; gained = gained_one files new }) is

module _ {S : Type 0} (store : Ghosts S) (target : Meaning) (origin : Origin) (start : View) (commit : Commit) (old new : S) (told : store.tells)
    (earlier : StillCarries target start.commits (store.disk old).files (store.disk new).files) (bytes : LeavesAlone store (target.reached (store.disk old).files) old new) (U : Type 0) where
  -- a commit that is refused before it publishes anything
  pub publishes_none : (U → IsBefore target start (store.disk old).files (store.disk new).files × target.settled (store.disk new))
      → (U → IsEachMoment store old new (λ files. IsBefore target start (store.disk old).files files × target.settled (after_crash files)))
      → Publishes store target origin start (commit ∷ []) U false old new
  publishes_none at_return moments = record {
    all = λ never. cc;
    at_return = λ u. some_before target origin start (store.disk old).files commit (store.disk new).files (at_return u).0;
    moments = λ u. weaker store old new (λ files. IsBefore target start (store.disk old).files files × target.settled (after_crash files)) (LeavesSome target origin start (store.disk old).files (commit ∷ []))
        (λ files left. (some_before target origin start (store.disk old).files commit files left.0, left.1)) (λ t. moments u) told;
    settled = λ u. (at_return u).1;
    earlier = earlier;
    bytes = bytes;
  }

  -- a commit that leaves the files as before or as after it
  pub publishes_one : (next : View) → IsAdvanced target.image origin start commit next → (done : Bool)
      → (done ≡ true → IsBehind target origin start (store.disk old).files commit next (store.disk new).files)
      → (U → IsBeforeOrBehind target origin start (store.disk old).files commit next (store.disk new).files × target.settled (store.disk new))
      → (U → IsEachMoment store old new (λ files. IsBeforeOrBehind target origin start (store.disk old).files commit next files × target.settled (after_crash files)))
      → Publishes store target origin start (commit ∷ []) U done old new
  publishes_one next step done all at_return moments = record {
    all = λ is_done. gained_one target origin start (store.disk old).files commit next step (store.disk new).files (all is_done);
    at_return = λ u. some_of target origin start (store.disk old).files commit next step (store.disk new).files (at_return u).0;
    moments = λ u. weaker store old new (λ files. IsBeforeOrBehind target origin start (store.disk old).files commit next files × target.settled (after_crash files)) (LeavesSome target origin start (store.disk old).files (commit ∷ []))
        (λ files left. (some_of target origin start (store.disk old).files commit next step files left.0, left.1)) (λ t. moments u) told;
    settled = λ u. (at_return u).1;
    earlier = earlier;
    bytes = bytes;
  }
