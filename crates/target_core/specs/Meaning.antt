-- What a target's files mean, whatever code publishes them.
use Rattle.std.specs.Prelude.{ℕ, List, Option}
use Rattle.lake_store.specs.Disk.{Disk, Files}
use Rattle.table_history.specs.TypeTree.{ColumnTrees}
use Rattle.table_history.specs.declared.kind.Kind.{Kind}
use Rattle.table_history.specs.declared.table.Change.{Change}
use Rattle.target_core.specs.Views.{Standing, View}

pub record Meaning : Type 1 where
  pub kind : Kind
  -- a schema as the target's types hold it, where they can
  pub image : ColumnTrees → Option ColumnTrees
  -- the files stand for the view
  pub reads : Files → View → Type 0
  -- how many commits the files hold, whoever published them
  pub commits_in : Files → ℕ
  -- the published commit of this number carries this change and this mark
  pub carries : Files → ℕ → Change → Standing → Type 0
  -- a published commit reaches the path
  pub reached : Files → List ℕ → Type 0
  -- a crash can't change what the files stand for
  pub settled : Disk → Type 0

abbrev pub meaning_of : Kind → (ColumnTrees → Option ColumnTrees) → (Files → View → Type 0) → (Files → ℕ) → (Files → ℕ → Change → Standing → Type 0) → (Files → List ℕ → Type 0) → (Disk → Type 0) → Meaning
meaning_of kind image reads commits_in carries reached settled = record { kind = kind; image = image; reads = reads; commits_in = commits_in; carries = carries; reached = reached; settled = settled }
