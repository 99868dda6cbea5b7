-- What the versions after a position have made so far.
use Rattle.std.specs.Prelude.{◌≡◌, ◌+◌, ℕ, [], ◌∷◌, ◌++◌, length}
use Rattle.lake_store.specs.Disk.{Files}
use Rattle.table_history.specs.Tables.{CanApply, IsAfter}
use Rattle.table_history.specs.declared.table.Commit.{Commit}
use Rattle.table_history.specs.declared.table.Table.{Table}
use Rattle.delta_change.specs.Change.{IsTableOfLog}
use Rattle.source_delta.specs.Since.{IsCommitOf}
use Rattle.source_delta.specs.declared.since.Later.{Later}

-- The version's commit is behind those before, the table is what it makes of theirs, and its file actions count too.
pub record IsOneMore (files : Files) (version : ℕ) (before after : Later) : Type 0 where
  pub commit : Commit
  pub commits : after.commits ≡ before.commits ++ commit ∷ []
  pub is : IsCommitOf files version before.table commit after.table
  pub actions : after.actions ≡ before.actions + length is.says.files

-- There is one commit more. Its change fits the table before it, and where commits may leave that one, they may leave each table after it.
pub record GoesOnBy (before after : Later) : Type 0 where
  pub commit : Commit
  pub commits : after.commits ≡ before.commits ++ commit ∷ []
  pub fits : CanApply before.table commit.change
  pub leads : IsAfter before.table commit.change after.table
  pub leaves : IsTableOfLog before.table → (table : Table) → IsAfter before.table commit.change table → IsTableOfLog table
