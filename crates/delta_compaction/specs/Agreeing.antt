-- When the text of a log compaction agrees with its commits.
use Rattle.std.specs.Prelude.{◌≡◌, ◌↔◌, List, ℕ, Contains, option_to_list, Ok}
use Rattle.std.specs.Map.{values_of}
use Rattle.lake_basics.specs.Outcome.{each}
use Rattle.delta_log.specs.declared.action.LineAction.{LineAction}
use Rattle.delta_log.specs.declared.commit.DeltaCommit.{DeltaCommit}
use Rattle.delta_log.specs.declared.commit.FileAction.{FileAction}
use Rattle.delta_log.specs.Grammar.{line_action}
use Rattle.delta_log.specs.Readable.{IsReadableCommit, files, metas, protocols}
use Rattle.delta_compaction.specs.declared.key.LineKey.{LineKey}
use Rattle.delta_compaction.specs.Reconciled.{AreNewest}

-- The commit has the protocol, the metadata and the file actions of these actions, in whatever order.
pub record SaysThese (actions : List LineAction) (c : DeltaCommit) : Type 0 where
  pub protocol : option_to_list c.protocol ≡ protocols actions
  pub meta : option_to_list c.meta ≡ metas actions
  pub files : (f : FileAction) → Contains c.files f ↔ Contains (files actions) f

-- The text can be read, and says what the newest lines of the commits say.
pub record Agrees (compacted : List ℕ) (commits : List (List ℕ)) : Type 0 where
  pub commit : DeltaCommit
  pub readable : IsReadableCommit compacted commit
  pub entries : List (LineKey × List ℕ)
  pub newest : AreNewest commits entries
  pub actions : List LineAction
  pub read : each line_action (values_of entries) ≡ Ok actions
  pub says : SaysThese actions commit

-- The two have the same protocol, the same metadata, and the same file actions in whatever order.
pub record SaysSame (c d : DeltaCommit) : Type 0 where
  pub protocol : c.protocol ≡ d.protocol
  pub meta : c.meta ≡ d.meta
  pub files : (f : FileAction) → Contains c.files f ↔ Contains d.files f

-- Both can be read, and say the same.
pub record SaySame (one other : List ℕ) : Type 0 where
  pub commit : DeltaCommit
  pub read : IsReadableCommit one commit
  pub stated : DeltaCommit
  pub readable : IsReadableCommit other stated
  pub same : SaysSame commit stated
