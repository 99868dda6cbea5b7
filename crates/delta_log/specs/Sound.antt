-- What is true of each commit that was read.
use Rattle.std.specs.Prelude.{◌≡◌, ℕ, ◌<◌, ◌≤◌, ◌^◌, List, map, length, All, IfSome, IsSome, true}
use Rattle.std.specs.List.{IsDistinct}
use Rattle.std.specs.Str.{bytes_eq}
use Rattle.lake_basics.specs.declared.limits.TheConstants.{MAX_ACTIONS}
use Rattle.table_history.specs.Path.{IsPath}
use Rattle.delta_log.specs.declared.action.LineAction.{LineAction}
use Rattle.delta_log.specs.declared.action.LineAction.TheVariants as action
use Rattle.delta_log.specs.declared.commit.DeltaCommit.{DeltaCommit}
use Rattle.delta_log.specs.declared.commit.FileAction.{FileAction}
use Rattle.delta_log.specs.declared.commit.FileAction.TheVariants as file
use Rattle.delta_log.specs.declared.commit.Protocol.{Protocol}
use Rattle.delta_log.specs.Commit.{file_paths}
use Rattle.delta_log.specs.Grammar.{lists_features}

-- ---- parts

-- no two of the pairs have one name
abbrev pub HaveDistinctNames : {A : Type 0} → List (List ℕ × A) → Type 0
HaveDistinctNames pairs = IsDistinct bytes_eq (map (λ p. p.0) pairs)

-- a number of records or of bytes
abbrev pub IsCount : ℕ → Type 0
IsCount n = n < 2 ^ 63

-- Reader version 3 has the list of its features.
abbrev pub HasNeededFeatures : Protocol → Type 0
HasNeededFeatures p = lists_features p.reader ≡ true → IsSome p.reader_features

-- an action as a line spells it
abbrev pub IsSoundAction : LineAction → Type 0
IsSoundAction action.NoAction = Unit {0}
IsSoundAction (action.Protocol p) = HasNeededFeatures p
IsSoundAction (action.MetaData m is_parquet) = HaveDistinctNames m.configuration
IsSoundAction (action.Add uri values size count has_deletion_vector) = HaveDistinctNames values × IsCount size × IfSome count IsCount
IsSoundAction (action.Remove uri has_deletion_vector) = Unit {0}

-- an action on a path of the table, with whole numbers from 0 that fit 63 bits
abbrev pub IsSoundFile : FileAction → Type 0
IsSoundFile (file.Add path values size count) = IsPath path × HaveDistinctNames values × IsCount size × IsCount count
IsSoundFile (file.Remove path) = IsPath path

-- ---- commits

-- The file actions are on paths of the table, no two on one path, and no names are given twice.
pub record IsSound (c : DeltaCommit) : Type 0 where
  pub files : All IsSoundFile c.files
  pub distinct : IsDistinct bytes_eq (file_paths c.files)
  pub configuration : IfSome c.meta (λ m. HaveDistinctNames m.configuration)

-- A sound commit that a text can say: its protocol has the list that it needs, and it has no more file actions than are read.
pub record IsWritable (c : DeltaCommit) : Type 0 where
  pub sound : IsSound c
  pub protocol : IfSome c.protocol HasNeededFeatures
  pub few : length c.files ≤ MAX_ACTIONS
