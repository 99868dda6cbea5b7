-- Which instants of a timeline a table is read from, and which can't be read (Hudi technical specification, "Timeline").
use Rattle.std.specs.Prelude.{◌≡◌, ◌&&◌, ℕ, true, false, Bool, not, List, [], ◌∷◌, ◌++◌, codes, Some, Option, None}
use Rattle.std.specs.Cmp.Lexicographic.{slice_cmp}
use Rattle.std.specs.Ordering.{is_le, nat_cmp}
use Rattle.lake_store.specs.Disk.{Files, names_in}
use Rattle.table_history.specs.declared.feature.Feature.{Feature}
use Rattle.table_history.specs.declared.feature.Feature.TheVariants as feature
use Rattle.hudi_names.specs.Name.{instant_of}
use Rattle.hudi_names.specs.declared.name.Action.{Action}
use Rattle.hudi_names.specs.declared.name.Action.TheVariants as action
use Rattle.hudi_names.specs.declared.name.State.{State}
use Rattle.hudi_table.specs.Folder.{IsInFolder, IsUpTo}
use Rattle.hudi_table.specs.Instants.{time_of, timeline_folder, timeline_of, up_to_head}
use Rattle.hudi_table.specs.declared.instants.CompletedInstant.{CompletedInstant}
use Rattle.hudi_table.specs.declared.instants.InstantName.{InstantName}

-- the completed commits and replacecommits up to the head, the oldest first
abbrev pub reached_in : Files → List CompletedInstant
reached_in files = up_to_head (timeline_of (names_in files timeline_folder))

-- ---- actions

-- Commits and replacecommits are read, and those that are ignored change no row.
abbrev pub is_read : Action → Bool
is_read action.Commit = true
is_read action.ReplaceCommit = true
is_read action.Ignored = true
is_read action.MergeOnRead = false
is_read action.Restore = false
is_read action.Unknown = false

-- what an instant of another action shows
abbrev pub feature_of : Action → Feature
feature_of action.MergeOnRead = feature.MergeOnRead
feature_of action.Restore = feature.Restore
feature_of _ = feature.UnknownAction

-- the time isn't later than the head's
abbrev pub is_up_to : List ℕ → List ℕ → Bool
is_up_to head time = is_le (slice_cmp nat_cmp time head)

-- the instant isn't later than the head, and its action isn't read
abbrev pub is_unread : List ℕ → InstantName → Bool
is_unread head i = is_up_to head i.time && not (is_read i.action)

-- A file of the folder is of an instant that isn't later than the head, and whose action isn't read.
pub record IsUnread (files : Files) (head name : List ℕ) (action : Action) : Type 0 where
  pub there : IsInFolder files name
  pub digits : ℕ
  pub state : State
  pub says : instant_of name ≡ Some (digits, action, state)
  pub up_to : IsUpTo (time_of name) head
  pub unread : is_read action ≡ false

-- the first of these names in byte order
pub record IsFirstUnread (files : Files) (head name : List ℕ) (action : Action) : Type 0 where
  pub is : IsUnread files head name action
  pub first : (other : List ℕ) (a : Action) → IsUnread files head other a → IsUpTo name other

-- All instants up to the head are of actions that are read.
abbrev pub AreAllRead : Files → List ℕ → Type 0
AreAllRead files head = (name : List ℕ) (action : Action) → ¬ IsUnread files head name action

-- ---- the archive

-- the folder of the instants that have left the timeline
abbrev pub archive_folder : List ℕ
archive_folder = codes ".hoodie/archived"

abbrev pub IsArchiveEmpty : Files → Type 0
IsArchiveEmpty files = names_in files archive_folder ≡ []

-- the path of the first of its files in byte order
abbrev pub first_archived : List (List ℕ) → Option (List ℕ)
first_archived [] = None
first_archived (name ∷ names) = Some (codes ".hoodie/archived/" ++ name)
