-- For the targets: files as before a commit, and as after it.
use Rattle.std.specs.Prelude.{◌⊎◌, ◌+◌}
use Rattle.lake_store.specs.Disk.{Files}
use Rattle.table_history.specs.declared.table.Commit.{Commit}
use Rattle.target_core.specs.Gained.{StillCarries}
use Rattle.target_core.specs.Meaning.{Meaning}
use Rattle.target_core.specs.Views.{Origin, View, standing_at}

-- They read as before, and each commit carries what it carried.
pub record IsBefore (target : Meaning) (start : View) (before files : Files) : Type 0 where
  pub reads : target.reads files start
  pub earlier : StillCarries target start.commits before files

-- They read as after the commit, which carries its own change and mark, and each earlier one carries what it carried.
pub record IsBehind (target : Meaning) (origin : Origin) (start : View) (before : Files) (commit : Commit) (next : View) (files : Files) : Type 0 where
  pub reads : target.reads files next
  pub carries : target.carries files (start.commits + 1) commit.change (standing_at origin commit.position)
  pub earlier : StillCarries target start.commits before files

abbrev pub IsBeforeOrBehind : Meaning → Origin → View → Files → Commit → View → Files → Type 0
IsBeforeOrBehind target origin start before commit next files = IsBefore target start before files ⊎ IsBehind target origin start before commit next files
