-- Which blocks of commits can be joined into a log compaction that is read again.
use Rattle.std.specs.Prelude.{◌≤◌, ◌+◌, ◌-◌, ◌==◌, ◌&&◌, nat_lt, ℕ, List, length, get_or, Bool, if◌then◌else◌}
use Rattle.std.specs.List.{count_by, sum_by}
use Rattle.std.specs.Map.{keys_of}
use Rattle.lake_basics.specs.declared.limits.TheConstants.{MAX_ACTIONS, MAX_FILE_BYTES}
use Rattle.lake_store.specs.Disk.{Files}
use Rattle.delta_log.specs.declared.commit.DeltaCommit.{DeltaCommit}
use Rattle.delta_compaction.specs.declared.key.LineKey.{LineKey}
use Rattle.delta_compaction.specs.Kinds.{is_file}
use Rattle.delta_compaction.specs.Reconciled.{AreNewest}
use Rattle.delta_compaction.specs.Taken.{AreTaken}
use Rattle.delta_compact.specs.Blocks.{HoldsBlock}

-- there is a last byte, and it is a newline
abbrev pub ends_line : List ℕ → Bool
ends_line bytes = nat_lt 0 (length bytes) && (get_or bytes (length bytes - 1) 0 == 10)

-- the number of the bytes, where a newline ends the last line
abbrev pub ended_length : List ℕ → ℕ
ended_length bytes = if ends_line bytes then length bytes else length bytes + 1

abbrev pub whole_length : List (List ℕ) → ℕ
whole_length commits = sum_by ended_length commits

-- how many of these lines add or remove a file
abbrev pub file_count : List (LineKey × List ℕ) → ℕ
file_count entries = count_by is_file (keys_of entries)

-- The block's commits can be joined: each of them can be read and has no line that can't stand in a log compaction. Together they have no more bytes than
-- one file may have, and their newest lines no more file actions than one commit may have.
pub record IsJoinable (files : Files) (block : ℕ) : Type 0 where
  pub commits : List (List ℕ)
  pub held : HoldsBlock files block commits
  pub short : whole_length commits ≤ MAX_FILE_BYTES
  pub said : List DeltaCommit
  pub taken : AreTaken commits said
  pub entries : List (LineKey × List ℕ)
  pub newest : AreNewest commits entries
  pub few : file_count entries ≤ MAX_ACTIONS
