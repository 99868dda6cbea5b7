-- How a list of commits is gone along.
use Rattle.std.proofs.Common.{◌≡◌, ℕ, suc, ◌+◌, ◌<◌, List, [], ◌∷◌, ◌++◌, length, take, drop, get_or, Option, Some, sym, ◌∙◌, ap, subst, add-one, drop-cons, append_assoc, arith}
use Rattle.std.proofs.lemmas.List.{take_more}
use Rattle.std.proofs.lemmas.Option.{slice_get_within, get_or_from_slice_get}
use Rattle.std.specs.Prelude.{slice_get}
use Rattle.lake_basics.specs.declared.limits.TheConstants.{MAX_FILE_BYTES}
use Rattle.lake_store.specs.Cause.{HasContest, HasFault, HasNoContest}
use Rattle.lake_store.specs.declared.store.Store.{Ghosts}
use Rattle.lake_store.proofs.RunLaws.{alone_further}
use Rattle.lake_store.proofs.ShortLaws.{short_then}
use Rattle.table_history.specs.TypeTree.{ColumnTrees}
use Rattle.table_history.specs.declared.kind.Kind.{Kind}
use Rattle.table_history.specs.declared.limit.LimitKind.{LimitKind}
use Rattle.table_history.specs.declared.table.Commit.{Commit}
use Rattle.target_core.specs.declared.target.TargetError.{TargetError}
use Rattle.target_core.specs.declared.target.TargetError.TheVariants.{Memory, StoreFault, Contested, Limit, Unsupported}
use Rattle.target_core.specs.Conditions.{CanPublishAll, Fits}
use Rattle.target_core.specs.OneCommit.{StaysInOwn}
use Rattle.target_core.specs.OwnFiles.{MayNotTouch}
use Rattle.target_core.specs.Refusals.{IsCommitRefusal}
use Rattle.target_core.specs.Views.{Origin, View}

-- the next one stands first in what is left
left_here : (commits : List Commit) (i : ℕ) (commit : Commit) → slice_get commits i ≡ Some commit → drop i commits ≡ commit ∷ drop (i + 1) commits
left_here commits i commit at =
    let within : i < length commits = slice_get_within commits i commit at in
    let next : drop (suc i) commits ≡ drop (i + 1) commits = ap (λ (n : ℕ). drop n commits) (sym (add-one i)) in
    drop-cons commits i commit within ∙ ap (λ (cs : List Commit). get_or commits i commit ∷ cs) next ∙ ap (λ (x : Commit). x ∷ drop (i + 1) commits) (get_or_from_slice_get commits i commit commit at)

pub can_here : (image : ColumnTrees → Option ColumnTrees) (origin : Origin) (view : View) (commits : List Commit) (i : ℕ) (commit : Commit) → slice_get commits i ≡ Some commit → CanPublishAll image origin view (drop i commits) → CanPublishAll image origin view (commit ∷ drop (i + 1) commits)
can_here image origin view commits i commit at can = subst (CanPublishAll image origin view) (left_here commits i commit at) can

pub fits_here : (unfit : List (List ℕ) → List Commit → TargetError → Type 0) (partition : List (List ℕ)) (commits : List Commit) (i : ℕ) (commit : Commit) → slice_get commits i ≡ Some commit → Fits unfit partition (drop i commits) → Fits unfit partition (commit ∷ drop (i + 1) commits)
fits_here unfit partition commits i commit at fits = subst (Fits unfit partition) (left_here commits i commit at) fits

pub more_before : (commits : List Commit) (i : ℕ) (commit : Commit) → slice_get commits i ≡ Some commit → (rest : List Commit) → take i commits ++ commit ∷ rest ≡ take (i + 1) commits ++ rest
more_before commits i commit at rest =
    let within : i < length commits = slice_get_within commits i commit at in
    let more : take (i + 1) commits ≡ take i commits ++ commit ∷ [] = take_more commits i commit within ∙ ap (λ (x : Commit). take i commits ++ x ∷ []) (get_or_from_slice_get commits i commit commit at) in
    sym (append_assoc (take i commits) (commit ∷ []) rest) ∙ ap (λ (cs : List Commit). cs ++ rest) (sym more)

pub refused_in : (P Q : LimitKind → ℕ → Type 0) (e : TargetError) → ((which : LimitKind) (number : ℕ) → P which number → Q which number) → IsCommitRefusal P e → IsCommitRefusal Q e
refused_in P Q Memory is was = was
refused_in P Q StoreFault is was = was
refused_in P Q Contested is was = was
refused_in P Q (Limit which number) is was = is which number was
refused_in P Q (Unsupported feature path) is was = was

-- counts of a store, over a run and one call more
module _ {S : Type 0} (count : S → ℕ) (may : S → Type 0) (old mid new : S) (Refused : Type 0) where
  pub fails_further : HasFault count may old mid ⊥ → HasFault count may mid new Refused → HasFault count may old new ⊥
  fails_further run call = record {
    later = omega (arith, run.later, call.later);
    still = λ m. run.still (call.still m);
    rose = λ never. absurd never;
    allowed = λ never. absurd never;
  }

  pub uncontested_further : HasNoContest count may old mid ⊥ → HasContest count may mid new Refused → (Refused → ⊥) → HasNoContest count may old new ⊥
  uncontested_further run call never = record {
    same = call.same never ∙ run.same;
    still = λ m. run.still (call.still m);
    never = λ none. none;
  }

-- a run that stays in a target's own files, and one call more
pub stays_further : {S : Type 0} (store : Ghosts S) (kind : Kind) (old mid new : S) → (store.tells → StaysInOwn store kind old mid) → (store.tells → StaysInOwn store kind mid new) → store.tells → StaysInOwn store kind old new
stays_further store kind old mid new run call told = record {
  alone = alone_further store (MayNotTouch kind) old mid new (λ t. (run t).alone) (λ t. (call t).alone) told;
  short = short_then MAX_FILE_BYTES (store.disk old).files (store.disk mid).files (store.disk new).files (run told).short (call told).short;
}
