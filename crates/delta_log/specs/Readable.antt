-- Which bytes are a commit, which features and limits its lines show, and which line is the first at fault.
use Rattle.std.specs.Prelude.{◌≡◌, ◌⊎◌, ℕ, ◌+◌, ◌<◌, ◌≤◌, List, [], ◌∷◌, ◌++◌, length, flat_map, All, false, true, Option, Some, None, option_to_list}
use Rattle.std.specs.List.{AllZip, IsDistinct}
use Rattle.std.specs.Str.{bytes_eq}
use Rattle.percent_encoding.specs.Percent.{percent_decode}
use Rattle.lake_basics.specs.declared.limits.TheConstants.{MAX_ACTIONS}
use Rattle.table_history.specs.First.{IsFirst, NoneOf}
use Rattle.table_history.specs.declared.feature.Feature.{Feature}
use Rattle.table_history.specs.declared.feature.Feature.TheVariants.{DeletionVector, OutsideTable, NoRecordCount, FileFormat}
use Rattle.table_history.specs.declared.limit.LimitKind.{LimitKind}
use Rattle.table_history.specs.declared.limit.LimitKind.TheVariants.{Path, Actions}
use Rattle.partition_map.specs.UriPath.{uri_path, too_long, outside_table, no_path}
use Rattle.delta_log.specs.declared.action.LineAction.{LineAction}
use Rattle.delta_log.specs.declared.action.LineAction.TheVariants as action
use Rattle.delta_log.specs.declared.commit.DeltaCommit.{DeltaCommit}
use Rattle.delta_log.specs.declared.commit.FileAction.{FileAction}
use Rattle.delta_log.specs.declared.commit.FileAction.TheVariants as file
use Rattle.delta_log.specs.declared.commit.MetaData.{MetaData}
use Rattle.delta_log.specs.declared.commit.Protocol.{Protocol}
use Rattle.delta_log.specs.declared.error.DeltaError.{DeltaError}
use Rattle.delta_log.specs.declared.error.DeltaError.TheVariants as errors
use Rattle.delta_log.specs.Actions.{LineSays}
use Rattle.delta_log.specs.Judging.{lines_of}

-- ---- what an action says

abbrev pub protocol_in : LineAction → Option Protocol
protocol_in (action.Protocol p) = Some p
protocol_in _ = None

abbrev pub meta_in : LineAction → Option MetaData
meta_in (action.MetaData m is_parquet) = Some m
meta_in _ = None

-- the URI of the file that it is about
abbrev pub uri_in : LineAction → Option (List ℕ)
uri_in (action.Add uri values size count has_deletion_vector) = Some uri
uri_in (action.Remove uri has_deletion_vector) = Some uri
uri_in _ = None

-- the path without escapes
abbrev pub path_in : LineAction → Option (List ℕ)
path_in (action.Add uri values size count has_deletion_vector) = Some (percent_decode uri)
path_in (action.Remove uri has_deletion_vector) = Some (percent_decode uri)
path_in _ = None

abbrev counted_add : List ℕ → List (List ℕ × Option (List ℕ)) → ℕ → Option ℕ → Option FileAction
counted_add path values size None = None
counted_add path values size (Some count) = Some (file.Add path values size count)

-- the file action, where it has what it needs
abbrev pub file_in : LineAction → Option FileAction
file_in (action.Add uri values size count has_deletion_vector) = counted_add (percent_decode uri) values size count
file_in (action.Remove uri has_deletion_vector) = Some (file.Remove (percent_decode uri))
file_in _ = None

abbrev pub protocols : List LineAction → List Protocol
protocols actions = flat_map (λ a. option_to_list (protocol_in a)) actions

abbrev pub metas : List LineAction → List MetaData
metas actions = flat_map (λ a. option_to_list (meta_in a)) actions

abbrev pub paths : List LineAction → List (List ℕ)
paths actions = flat_map (λ a. option_to_list (path_in a)) actions

abbrev pub files : List LineAction → List FileAction
files actions = flat_map (λ a. option_to_list (file_in a)) actions

-- The commit has what the actions say, and no more.
pub record States (actions : List LineAction) (c : DeltaCommit) : Type 0 where
  pub protocol : option_to_list c.protocol ≡ protocols actions
  pub meta : option_to_list c.meta ≡ metas actions
  pub files : c.files ≡ files actions

-- ---- the grammar

-- The action is about a file, and its URI names no path of any length in the table, and none outside of it.
abbrev pub NamesNoPath : LineAction → Type 0
NamesNoPath a = (uri : List ℕ) × (uri_in a ≡ Some uri) × (uri_path uri ≡ no_path)

-- The lines are in the grammar of lines: line by line they say these actions, at most one of them is a protocol and one the table's metadata, each URI names something, and no two are on one path without escapes.
pub record AreLinesInGrammar (lines : List (List ℕ)) (actions : List LineAction) : Type 0 where
  pub says : AllZip LineSays lines actions
  pub protocols : length (protocols actions) ≤ 1
  pub metas : length (metas actions) ≤ 1
  pub uris : All (λ a. ¬ NamesNoPath a) actions
  pub distinct : IsDistinct bytes_eq (paths actions)

-- ---- features

abbrev pub HasDeletionVector : LineAction → Type 0
HasDeletionVector (action.Add uri values size count has_deletion_vector) = has_deletion_vector ≡ true
HasDeletionVector (action.Remove uri has_deletion_vector) = has_deletion_vector ≡ true
HasDeletionVector _ = ⊥

abbrev pub LiesOutside : LineAction → Type 0
LiesOutside a = (uri : List ℕ) × (uri_in a ≡ Some uri) × (uri_path uri ≡ outside_table)

abbrev pub LacksCount : LineAction → Type 0
LacksCount (action.Add uri values size count has_deletion_vector) = count ≡ None
LacksCount _ = ⊥

abbrev pub IsNotParquet : LineAction → Type 0
IsNotParquet (action.MetaData m is_parquet) = is_parquet ≡ false
IsNotParquet _ = ⊥

-- The action shows this feature by itself. What a commit shows as a whole is judged over a table.
abbrev pub ShowsOnLine : Feature → LineAction → Type 0
ShowsOnLine DeletionVector a = HasDeletionVector a
ShowsOnLine OutsideTable a = LiesOutside a
ShowsOnLine NoRecordCount a = LacksCount a
ShowsOnLine FileFormat a = IsNotParquet a
ShowsOnLine _ a = ⊥

-- the features that a line may show, in the order in which they are told
abbrev pub line_features : List Feature
line_features = DeletionVector ∷ OutsideTable ∷ NoRecordCount ∷ FileFormat ∷ []

-- ---- limits

abbrev pub HasLongPath : LineAction → Type 0
HasLongPath a = (uri : List ℕ) × (path : List ℕ) × (uri_in a ≡ Some uri) × (uri_path uri ≡ too_long path)

-- Behind these actions, the action passes this number by itself.
abbrev pub PassesOnLine : List LineAction → LineAction → LimitKind → Type 0
PassesOnLine before a Path = HasLongPath a
PassesOnLine before a Actions = (path : List ℕ) × (path_in a ≡ Some path) × (MAX_ACTIONS < length (files before) + 1)
PassesOnLine before a _ = ⊥

abbrev pub line_limits : List LimitKind
line_limits = Path ∷ Actions ∷ []

-- ---- commits

-- The lines are in the grammar with these actions, show no feature that isn't supported, and pass no limit.
pub record AreReadable (lines : List (List ℕ)) (actions : List LineAction) : Type 0 where
  pub grammar : AreLinesInGrammar lines actions
  pub supported : All (λ a. NoneOf (λ f. ShowsOnLine f a) line_features) actions
  pub short : All (λ a. ¬ HasLongPath a) actions
  pub few : length (files actions) ≤ MAX_ACTIONS

-- The bytes are a commit that can be read, and it says this.
pub record IsReadableCommit (bytes : List ℕ) (c : DeltaCommit) : Type 0 where
  pub actions : List LineAction
  pub readable : AreReadable (lines_of bytes) actions
  pub states : States actions c

-- ---- faults

abbrev pub IsSecond : List LineAction → LineAction → Type 0
IsSecond before a = (0 < length (protocols (a ∷ [])) × 0 < length (protocols before)) ⊎ (0 < length (metas (a ∷ [])) × 0 < length (metas before))

-- The action can't stand behind these: its URI names nothing, or it is a second protocol or a second metadata.
abbrev pub IsMisplaced : List LineAction → LineAction → Type 0
IsMisplaced before a = NamesNoPath a ⊎ IsSecond before a

-- The line says this action, which may stand behind these.
abbrev pub IsPlaced : List LineAction → List ℕ → LineAction → Type 0
IsPlaced before line a = LineSays line a × ¬ IsMisplaced before a

-- The action is on a path on which one of these is.
abbrev pub ActsAgain : List LineAction → LineAction → Type 0
ActsAgain before a = ¬ IsDistinct bytes_eq (paths (before ++ a ∷ []))

-- A line behind these actions, the n-th of the commit, has this fault. On one line Malformed goes before Unsupported, that before Limit, and that before DoublePath.
abbrev pub IsAtFault : List LineAction → List ℕ → ℕ → DeltaError → Type 0
IsAtFault before line n errors.Memory = ⊥
IsAtFault before line n (errors.Malformed m) = (m ≡ n) × (((a : LineAction) → ¬ LineSays line a) ⊎ ((a : LineAction) × LineSays line a × IsMisplaced before a))
IsAtFault before line n (errors.Unsupported f m) = (m ≡ n) × (a : LineAction) × IsPlaced before line a × IsFirst (λ g. ShowsOnLine g a) line_features f
IsAtFault before line n (errors.Limit w) = (a : LineAction) × IsPlaced before line a × NoneOf (λ g. ShowsOnLine g a) line_features × IsFirst (PassesOnLine before a) line_limits w
IsAtFault before line n (errors.DoublePath m) =
    (m ≡ n) × (a : LineAction) × IsPlaced before line a × NoneOf (λ g. ShowsOnLine g a) line_features × NoneOf (PassesOnLine before a) line_limits × ActsAgain before a

-- The lines before one can be read, and that line has the fault.
pub record IsFirstFault (bytes : List ℕ) (e : DeltaError) : Type 0 where
  pub front : List (List ℕ)
  pub line : List ℕ
  pub behind : List (List ℕ)
  pub before : List LineAction
  pub split : lines_of bytes ≡ front ++ line ∷ behind
  pub readable : AreReadable front before
  pub fault : IsAtFault before line (1 + length front) e

-- Memory ran out, or this is the first line's fault.
abbrev pub IsRefusal : List ℕ → DeltaError → Type 0
IsRefusal bytes errors.Memory = Unit {0}
IsRefusal bytes (errors.Malformed n) = IsFirstFault bytes (errors.Malformed n)
IsRefusal bytes (errors.DoublePath n) = IsFirstFault bytes (errors.DoublePath n)
IsRefusal bytes (errors.Unsupported f n) = IsFirstFault bytes (errors.Unsupported f n)
IsRefusal bytes (errors.Limit w) = IsFirstFault bytes (errors.Limit w)

-- The error tells that the bytes are in no grammar.
abbrev pub IsGrammarError : DeltaError → Type 0
IsGrammarError (errors.Malformed n) = Unit {0}
IsGrammarError (errors.DoublePath n) = Unit {0}
IsGrammarError _ = ⊥
