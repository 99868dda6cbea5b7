-- At which commit of a list publishing was refused.
use Rattle.std.specs.Prelude.{◌≡◌, ◌≢◌, ◌≤◌, ℕ, ◌+◌, ◌<◌, List, length, take}
use Rattle.lake_store.specs.Disk.{Files}
use Rattle.lake_store.specs.Runs.{OnlyReads}
use Rattle.lake_store.specs.declared.store.Store.{Ghosts}
use Rattle.table_history.specs.declared.limit.LimitKind.{LimitKind}
use Rattle.table_history.specs.declared.limit.LimitKind.TheVariants.{Names}
use Rattle.table_history.specs.declared.table.Commit.{Commit}
use Rattle.target_core.specs.Gained.{Carries, CarriesAt, Gained}
use Rattle.target_core.specs.Meaning.{Meaning}
use Rattle.target_core.specs.Refusals.{IsCommitRefusal}
use Rattle.target_core.specs.Views.{Origin, View}
use Rattle.target_core.specs.Written.{IsAsLeft, KeepsTheirs, StayAfter}
use Rattle.target_core.specs.declared.target.TargetError.{TargetError}
use Rattle.target_core.specs.declared.target.TargetError.TheVariants.{Contested, Limit}

-- A commit is refused with a cause of its own, behind those before it. Where the target was settled, all of these are published, and it perhaps,
-- but not where a number is passed. Those before it left just what they write, and that stays byte for byte; where it is published too, what commits
-- reach is just what it leaves. Where another writer was in the way, nothing is published behind that writer's commit, and that one stays byte for byte.
-- Where another number than that of names is passed, nothing of it is written.
pub record IsRefusedAt {S : Type 0} (store : Ghosts S) (target : Meaning) (passes : List Commit → LimitKind → ℕ → Type 0) (left : List Commit → Files → Type 0) (Settled : Type 0) (origin : Origin) (start : View) (commits : List Commit) (old new : S) (e : TargetError) : Type 0 where
  pub place : ℕ
  pub within : place < length commits
  pub cause : IsCommitRefusal (passes (take (place + 1) commits)) e
  pub before : Settled → Carries target origin start.commits commits place (store.disk new).files
  pub stay : Settled → StayAfter store target (left (take place commits)) new
  pub gained : Settled → (e ≡ Contested → ⊥) → (n : ℕ) × (place ≤ n) × (n ≤ place + 1) × Gained target origin start (store.disk old).files commits n (store.disk new).files
      × IsAsLeft target.reached (left (take n commits)) (store.disk new).files
  pub contested : Settled → e ≡ Contested → target.commits_in (store.disk new).files ≤ start.commits + place + 1
  pub theirs : (settled : Settled) → e ≡ Contested → KeepsTheirs store target (stay settled).middle new
  pub limited : Settled → (which : LimitKind) (number : ℕ) → e ≡ Limit which number → Gained target origin start (store.disk old).files commits place (store.disk new).files
  pub untouched : Settled → (which : LimitKind) (number : ℕ) → e ≡ Limit which number → which ≢ Names → left (take place commits) (store.disk new).files
  pub unmoved : (which : LimitKind) (number : ℕ) → e ≡ Limit which number → which ≢ Names → place ≡ 0 → OnlyReads store old new

-- A crash would have left this image. Of the commits that it shows all but the last are published, and where another writer was in the way all of them.
pub record KeepsShown (target : Meaning) (origin : Origin) (start : View) (commits : List Commit) (files : Files) (e : TargetError) (image : Files) : Type 0 where
  pub before : (e ≡ Contested → ⊥) → (i : ℕ) → CarriesAt target origin start.commits commits i image → Carries target origin start.commits commits i files
  pub contested : e ≡ Contested → (i : ℕ) → CarriesAt target origin start.commits commits i image → CarriesAt target origin start.commits commits i files
