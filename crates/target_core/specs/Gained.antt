-- How far a target has come through a list of commits.
use Rattle.std.specs.Prelude.{◌≡◌, ℕ, ◌+◌, ◌<◌, ◌≤◌, List, length, take, Some, slice_get}
use Rattle.lake_store.specs.Disk.{Files}
use Rattle.table_history.specs.declared.table.Change.{Change}
use Rattle.table_history.specs.declared.table.Commit.{Commit}
use Rattle.target_core.specs.Meaning.{Meaning}
use Rattle.target_core.specs.Views.{IsAdvancedAll, Origin, Standing, View, standing_at}

-- The first n of these commits stand behind the first `count` ones, each with its own change and mark.
abbrev pub Carries : Meaning → Origin → ℕ → List Commit → ℕ → Files → Type 0
Carries target origin count commits n files = (i : ℕ) (commit : Commit) → i < n → slice_get commits i ≡ Some commit → target.carries files (count + i + 1) commit.change (standing_at origin commit.position)

-- the commit of this place among them stands there
abbrev pub CarriesAt : Meaning → Origin → ℕ → List Commit → ℕ → Files → Type 0
CarriesAt target origin count commits i files = (commit : Commit) × (slice_get commits i ≡ Some commit) × target.carries files (count + i + 1) commit.change (standing_at origin commit.position)

-- the first `count` commits still carry what they carried
abbrev pub StillCarries : Meaning → ℕ → Files → Files → Type 0
StillCarries target count before files = (c : ℕ) (change : Change) (standing : Standing) → c ≤ count → target.carries before c change standing → target.carries files c change standing

-- each commit that the one files hold is in the others too, and carries there what it carried
abbrev pub CarriesAll : Meaning → Files → Files → Type 0
CarriesAll target before files = (c : ℕ) (change : Change) (standing : Standing) → target.carries before c change standing → target.carries files c change standing

-- Of these commits the target has gained the first n, in order, none skipped and none in part. Each is published as a commit of its own
-- that carries its own change and nothing more, and what was published before is still there.
pub record Gained (target : Meaning) (origin : Origin) (start : View) (before : Files) (commits : List Commit) (n : ℕ) (files : Files) : Type 0 where
  pub within : n ≤ length commits
  pub view : View
  pub leads : IsAdvancedAll target.image origin start (take n commits) view
  pub stands : target.reads files view
  pub each : Carries target origin start.commits commits n files
  pub earlier : StillCarries target start.commits before files

-- it has gained some first part of them
pub record GainedSome (target : Meaning) (origin : Origin) (start : View) (before : Files) (commits : List Commit) (files : Files) : Type 0 where
  pub count : ℕ
  pub gained : Gained target origin start before commits count files
