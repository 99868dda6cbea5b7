-- What publishing a commit writes.
use Rattle.std.specs.Prelude.{◌≡◌, ◌≢◌, ℕ, List, [], None, Some}
use Rattle.std.specs.FinMap as map
use Rattle.lake_store.specs.Disk.{Files}
use Rattle.hudi_commit.specs.Names.{IsOf, IsThere, Stage, StaysOrGoes, claim_path, completed_path, pending_path, properties_path, staged_properties_path}
use Rattle.table_history.specs.declared.table.Commit.{Commit}
use Rattle.hudi_names.specs.Time.{IsSomeTime}
use Rattle.hudi_instant.specs.InstantText.{instant_text}
use Rattle.hudi_properties.specs.Written.{properties_text}
use Rattle.hudi_instant.specs.declared.instant.Instant.{Instant}
use Rattle.target_core.specs.Views.{Origin}
use Rattle.target_hudi.specs.Kept.{end_of}
use Rattle.target_hudi.specs.TableName.{new_pairs}
use Rattle.target_hudi.specs.Writing.{IsNextInstant, IsWritten}
use Rattle.target_hudi.specs.declared.kept.HudiKept.{HudiKept}

-- Over the files `before`, of which `kept` is kept, publishing the commit leaves the files `after`: the instant that comes next is completed, with the
-- text of what is written for the commit. Its pending names are empty files, and the first one's table has the properties of this name and these
-- partition columns. What stopped commits left is gone: nothing of an instant that isn't completed is there, nor the claim of this one, nor, behind
-- the first one, staged properties. All other files are as before.
pub record Writes (name : List ℕ) (kept : HudiKept) (before : Files) (origin : Origin) (now : ℕ) (commit : Commit) (after : Files) : Type 0 where
  pub time : List ℕ
  pub next_time : IsNextInstant (end_of name kept) now time
  pub written : Instant
  pub is : IsWritten (end_of name kept) origin time commit written
  pub completed : map.get after (completed_path time) ≡ Some (instant_text written)
  pub pending : (stage : Stage) → map.get after (pending_path stage time) ≡ Some []
  pub properties : kept.newest ≡ None → map.get after properties_path ≡ Some (properties_text (new_pairs name kept.table.partition))
  pub recovered : (instant : List ℕ) → IsSomeTime instant → (IsThere after (completed_path instant) → ⊥) → (path : List ℕ) → IsOf instant path → IsThere after path → ⊥
  pub claim : map.get after (claim_path time) ≡ None
  pub staged : kept.newest ≡ None → map.get after staged_properties_path ≡ None
  pub others : (path : List ℕ) → path ≢ completed_path time → ((stage : Stage) → path ≢ pending_path stage time) → (kept.newest ≡ None → path ≢ properties_path)
      → StaysOrGoes before after path
