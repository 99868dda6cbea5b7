-- What publishing one commit promises.
use Rattle.std.specs.Prelude.{◌≢◌, ◌≤◌, ◌+◌, ℕ, List, [], ◌∷◌, Option, Result, IfErr, IsErrOf, is_ok}
use Rattle.lake_basics.specs.declared.limits.TheConstants.{MAX_FILE_BYTES}
use Rattle.lake_store.specs.Disk.{AddsShort, Files}
use Rattle.lake_store.specs.Runs.{FailsBy, IsContestedBy, IsEachMoment, OnlyReads}
use Rattle.lake_store.specs.declared.store.Store.{Ghosts}
use Rattle.table_history.specs.TypeTree.{ColumnTrees}
use Rattle.table_history.specs.declared.kind.Kind.{Kind}
use Rattle.table_history.specs.declared.limit.LimitKind.{LimitKind}
use Rattle.table_history.specs.declared.limit.LimitKind.TheVariants.{Names}
use Rattle.table_history.specs.declared.table.Commit.{Commit}
use Rattle.target_core.specs.Conditions.{Fits}
use Rattle.target_core.specs.Gained.{CarriesAll}
use Rattle.target_core.specs.Meaning.{Meaning}
use Rattle.target_core.specs.Outcome.{HasCome, Uncontested}
use Rattle.target_core.specs.OwnFiles.{TouchesOwn}
use Rattle.target_core.specs.Publishing.{Publishes}
use Rattle.target_core.specs.Refusals.{IsCommitRefusal, IsOfCommit}
use Rattle.target_core.specs.Views.{IsAdvanced, Origin, View}
use Rattle.target_core.specs.Written.{HasReached, IsAsLeft}
use Rattle.target_core.specs.declared.target.TargetError.{TargetError}
use Rattle.target_core.specs.declared.target.TargetError.TheVariants.{StoreFault, Contested, Limit}

-- What a call does to files, whatever it answers.
pub record StaysInOwn {S : Type 0} (store : Ghosts S) (kind : Kind) (old new : S) : Type 0 where
  -- It touches only files that a target of this format writes, at each moment.
  pub alone : TouchesOwn store kind old new
  -- Each file is as before, or can be read whole.
  pub short : AddsShort MAX_FILE_BYTES (store.disk old).files (store.disk new).files

-- What is kept goes on by the commit. `next` is kept then, and these are the files before the commit and after it.
pub record GoesOnBy {K : Type 0} (told : Type 0) (image : ColumnTrees → Option ColumnTrees) (view : K → View) (unfit : K → List (List ℕ) → List Commit → TargetError → Type 0) (counted : K → Files → Type 0)
    (passes : K → Files → Origin → ℕ → List Commit → LimitKind → ℕ → Type 0) (origin : Origin) (now : ℕ) (kept : K) (before : Files) (commit : Commit) (next : K) (after : Files) : Type 0 where
  -- What is kept now shows the view of one commit more.
  pub advanced : IsAdvanced image origin (view kept) commit (view next)
  -- Of a list that fitted, the rest fits what is kept now.
  pub fits : (commits : List Commit) → Fits (unfit kept) (view kept).table.partition (commit ∷ commits) → Fits (unfit next) (view next).table.partition commits
  -- What is kept now has the files' number of commits and their newest version or instant.
  pub counts : told → counted next after
  -- What is passed later was passed from here on.
  pub ahead : told → (commits : List Commit) (which : LimitKind) (number : ℕ) → passes next after origin now commits which number → passes kept before origin now (commit ∷ commits) which number

-- What a commit leaves of files that what is kept stands for and that are settled. `Stands` says that what is kept now stands for files, and `Written`
-- that just what the commit writes has come.
pub record PublishesOne {S A : Type 0} (store : Ghosts S) (target : Meaning) (Stands Written : Files → Type 0) (origin : Origin) (start : View) (commit : Commit) (result : Result A TargetError) (old new : S) : Type 0 where
  -- Once it has come, nothing is left to do that could fail: what is kept stands for the files, whatever is answered then.
  pub stands : HasCome result start.commits (target.commits_in (store.disk new).files) → Stands (store.disk new).files
  -- The files read as before or as after, at return and after a crash at any moment. At `Ok` the commit is there.
  pub publishes : Publishes store target origin start (commit ∷ []) (Uncontested result) (is_ok result) old new
  -- Where it has come and is refused all the same, what commits reach is just what it writes.
  pub came : HasCome result start.commits (target.commits_in (store.disk new).files) → IsAsLeft target.reached (λ left. Written left × Stands left) (store.disk new).files
  -- Behind another writer's commit nothing is published.
  pub contested : IsErrOf result Contested → target.commits_in (store.disk new).files ≤ start.commits + 1
  -- And what a crash since entry would have shown as published stays.
  pub kept : IsErrOf result Contested → IsEachMoment store old new (λ shown. CarriesAll target shown (store.disk new).files)
  -- That writer's commit stays byte for byte, as does each other: no file goes or changes that a crash since entry would have shown as reached.
  pub theirs : IsErrOf result Contested → IsEachMoment store old new (HasReached target (store.disk new).files)
  -- Where a number is passed, the files read as before.
  pub limited : (which : LimitKind) (number : ℕ) → IsErrOf result (Limit which number) → target.reads (store.disk new).files start

-- How a commit is refused.
pub record Refuses {S A : Type 0} (store : Ghosts S) (passes : LimitKind → ℕ → Type 0) (result : Result A TargetError) (old new : S) : Type 0 where
  -- A number is told where it is passed at this commit.
  pub refusal : store.tells → IfErr result (IsCommitRefusal passes)
  -- It is no refusal but these, also where the store tells nothing.
  pub few : IfErr result IsOfCommit
  -- Its texts are built, and its time is drawn, before anything is written. Names are listed behind the first sync.
  pub untouched : store.tells → (which : LimitKind) (number : ℕ) → IsErrOf result (Limit which number) → which ≢ Names → OnlyReads store old new
  -- A fault is told only where the store failed.
  pub cause : FailsBy store old new (IsErrOf result StoreFault)
  -- A contest is told just where another writer was in the way.
  pub contest : IsContestedBy store old new (IsErrOf result Contested)
