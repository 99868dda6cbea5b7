-- What publishing a commit writes.
use Rattle.std.specs.Prelude.{◌≡◌, ◌≢◌, ◌<◌, ◌≤◌, ◌+◌, ◌-◌, ◌/◌, ℕ, List, length, None, Some, slice_get}
use Rattle.std.specs.FinMap as map
use Rattle.lake_basics.specs.declared.limits.TheConstants.{MAX_MANIFEST_ENTRIES}
use Rattle.lake_store.specs.Disk.{Files}
use Rattle.table_history.specs.declared.table.Change.{Change}
use Rattle.table_history.specs.declared.table.Commit.{Commit}
use Rattle.iceberg_metadata.specs.Writing.{metadata_text}
use Rattle.iceberg_commit.specs.NextVersion.{IsReadBack}
use Rattle.target_core.specs.Views.{Origin}
use Rattle.iceberg_table.specs.Folder.{path_of, version_path}
use Rattle.iceberg_version.specs.Names.{list_name, manifest_name, staged_name}
use Rattle.iceberg_version.specs.Writing.{IsWritten, NewVersion, TableEnd, next_version}

-- the fewest manifests that hold so many rows
abbrev pub manifests_for : ℕ → ℕ
manifests_for count = (count + (MAX_MANIFEST_ENTRIES - 1)) / MAX_MANIFEST_ENTRIES

-- how many manifests are written at most: one for each path that is removed, and as few as hold the rows that are added
abbrev pub most_manifests : Change → ℕ
most_manifests change = length change.removed + manifests_for (length change.added)

-- Publishing the commit over the files before has left those after: the new version's metadata, its list and its new manifests have the bytes that are
-- written for it, the name that the metadata was staged under is gone, and all other files are as before. The new manifests are few. The bytes that
-- are written can be read, and reading gives back the metadata with its mark, the rows of the list, and the entries of the new manifests.
pub record Writes (end : TableEnd) (before : Files) (origin : Origin) (now : ℕ) (commit : Commit) (after : Files) : Type 0 where
  pub written : NewVersion
  pub is : IsWritten end origin now commit written
  pub metadata : map.get after (version_path (next_version end)) ≡ Some (metadata_text written.metadata)
  pub list : map.get after (path_of (list_name (next_version end))) ≡ Some written.list
  pub manifests : (number : ℕ) → number < length written.texts → map.get after (path_of (manifest_name (next_version end) number)) ≡ slice_get written.texts number
  pub few : length written.texts ≤ most_manifests commit.change
  pub back : IsReadBack end origin now commit written is
  pub staged : map.get after (path_of (staged_name (next_version end))) ≡ None
  pub others : (path : List ℕ) → path ≢ version_path (next_version end) → path ≢ path_of (list_name (next_version end))
      → ((number : ℕ) → number < length written.texts → path ≢ path_of (manifest_name (next_version end) number)) → path ≢ path_of (staged_name (next_version end))
      → map.get after path ≡ map.get before path
