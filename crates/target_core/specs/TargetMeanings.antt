-- What the files of a `Target` mean, and why it refuses.
use Rattle.std.specs.Prelude.{ℕ, List}
use Rattle.lake_store.specs.Disk.{Files}
use Rattle.table_history.specs.declared.kind.Kind.{Kind}
use Rattle.table_history.specs.declared.limit.LimitKind.{LimitKind}
use Rattle.table_history.specs.declared.table.Commit.{Commit}
use Rattle.target_core.specs.Meaning.{Meaning, meaning_of}
use Rattle.target_core.specs.Views.{Origin}
use Rattle.target_core.specs.declared.target.Target.{Ghosts}
use Rattle.target_core.specs.declared.target.TargetError.{TargetError}

abbrev pub meaning : {T K : Type 0} → Ghosts T K → T → Meaning
meaning target t = meaning_of (target.kind t) (target.image t) (target.reads t) (target.commits_in t) (target.carries t) (target.reached t) (target.settled t)

pub record TargetMeaning (K : Type 0) : Type 1 where
  pub files : Meaning
  pub is_foreign : Kind → Files → List ℕ → Type 0
  pub is_crowded : Kind → Files → LimitKind → ℕ → Type 0
  pub unfit : K → List (List ℕ) → List Commit → TargetError → Type 0
  pub passes : K → Files → Origin → ℕ → List Commit → LimitKind → ℕ → Type 0

abbrev pub target_meaning : {T K : Type 0} → Ghosts T K → T → TargetMeaning K
target_meaning target t = record { files = meaning target t; is_foreign = target.is_foreign t; is_crowded = target.is_crowded t; unfit = target.unfit t; passes = target.passes t }
