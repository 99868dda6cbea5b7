-- What was gained or published from one view was so from each view that shows the same.
use Rattle.std.proofs.Common.{ℕ, List, take, Bool, subst}
use Rattle.lake_store.specs.Disk.{Files}
use Rattle.lake_store.specs.declared.store.Store.{Ghosts}
use Rattle.lake_store.proofs.MomentLaws.{weaker}
use Rattle.table_history.specs.declared.table.Commit.{Commit}
use Rattle.target_core.specs.Gained.{Carries, Gained, GainedSome, StillCarries}
use Rattle.target_core.specs.Meaning.{Meaning}
use Rattle.target_core.specs.Publishing.{LeavesSome, Publishes}
use Rattle.target_core.specs.Views.{Origin, SameView, View}
use Rattle.target_core.proofs.Same.{advanced_from}

module _ (target : Meaning) (origin : Origin) (a b : View) (same : SameView a b) where
  pub gained_same : (before : Files) (commits : List Commit) (n : ℕ) (files : Files) → Gained target origin a before commits n files → Gained target origin b before commits n files
  gained_same before commits n files gained = record {
    within = gained.within;
    view = gained.view;
    leads = advanced_from target.image origin a b (take n commits) gained.view same gained.leads;
    stands = gained.stands;
    each = subst (λ (c : ℕ). Carries target origin c commits n files) same.commits gained.each;
    earlier = subst (λ (c : ℕ). StillCarries target c before files) same.commits gained.earlier;
  }

  gained_some_same : (before : Files) (commits : List Commit) (files : Files) → GainedSome target origin a before commits files → GainedSome target origin b before commits files
  gained_some_same before commits files some = record { count = some.count; gained = gained_same before commits some.count files some.gained }

  pub publishes_same : {S : Type 0} (store : Ghosts S) (commits : List Commit) (U : Type 0) (done : Bool) (old new : S) → store.tells → Publishes store target origin a commits U done old new → Publishes store target origin b commits U done old new
  publishes_same store commits U done old new told was = record {
    all = λ is_done. gained_same (store.disk old).files commits _ (store.disk new).files (was.all is_done);
    at_return = λ u. gained_some_same (store.disk old).files commits (store.disk new).files (was.at_return u);
    moments = λ u. weaker store old new (LeavesSome target origin a (store.disk old).files commits) (LeavesSome target origin b (store.disk old).files commits)
        (λ files left. (gained_some_same (store.disk old).files commits files left.0, left.1)) (λ t. was.moments u) told;
    settled = was.settled;
    earlier = subst (λ (c : ℕ). StillCarries target c (store.disk old).files (store.disk new).files) same.commits was.earlier;
    bytes = was.bytes;
  }
