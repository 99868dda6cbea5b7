-- What is kept of a Hudi target, and when it is what the files hold.
use Rattle.std.specs.Prelude.{◌≡◌, ℕ, List, [], ◌∷◌, ◌++◌, None, Option, Some, option_map}
use Rattle.lake_store.specs.Disk.{Files}
use Rattle.target_core.specs.Views.{View, standing_of}
use Rattle.hudi_table.specs.declared.instants.CompletedInstant.{CompletedInstant}
use Rattle.target_hudi.specs.Fitting.{Held}
use Rattle.target_hudi.specs.Reading.{Reads, commits_in, completed_in}
use Rattle.target_hudi.specs.Writing.{TimelineEnd}
use Rattle.target_hudi.specs.declared.kept.HudiKept.{HudiKept}

abbrev pub view_of : HudiKept → View
view_of kept = record { commits = kept.commits; mark = option_map standing_of kept.mark; table = kept.table }

-- `name` is that of the table of a first commit
abbrev pub end_of : List ℕ → HudiKept → TimelineEnd
end_of name kept = record { name = name; newest = kept.newest; schema = kept.table.schema; partition = kept.table.partition }

abbrev pub held_of : HudiKept → Option Held
held_of kept = option_map (λ newest. record { partition = kept.table.partition; columns = kept.table.schema }) kept.newest

-- the time of the newest completed instant, if there is one
abbrev pub IsNewest : Files → Option (List ℕ) → Type 0
IsNewest files None = completed_in files ≡ []
IsNewest files (Some time) = (front : List CompletedInstant) × (newest : CompletedInstant) × (completed_in files ≡ front ++ newest ∷ []) × (newest.time ≡ time)

-- What is kept has the files' number of commits and their newest instant.
pub record IsCounted (kept : HudiKept) (files : Files) : Type 0 where
  pub commits : kept.commits ≡ commits_in files
  pub newest : IsNewest files kept.newest

-- All that is kept is what the files hold.
pub record StandsFor (kept : HudiKept) (files : Files) : Type 0 where
  pub reads : Reads files (view_of kept)
  pub counted : IsCounted kept files
  -- the kept mark names the newest instant
  pub at : option_map (λ m. m.at) kept.mark ≡ kept.newest
