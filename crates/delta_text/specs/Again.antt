-- That the texts in a commit are read as what they were written for.
use Rattle.std.specs.Prelude.{◌≡◌, ◌<◌, ◌^◌, ℕ, IfSome, FitsSigned}
use Rattle.std.specs.Int.{w64}
use Rattle.std.specs.List.{AllByRecursion}
use Rattle.json_reading.specs.Json.{IsReadAgain}
use Rattle.delta_log.specs.declared.commit.DeltaCommit.{DeltaCommit}
use Rattle.delta_log.specs.declared.commit.FileAction.{FileAction}
use Rattle.delta_log.specs.declared.commit.FileAction.TheVariants as file
use Rattle.delta_log.specs.declared.commit.Protocol.{Protocol}
use Rattle.table_history.specs.Path.{IsPath}
use Rattle.partition_map.specs.Uri.{escaped_path}
use Rattle.partition_map.specs.UriPath.{inside_table, uri_path}
use Rattle.delta_log.specs.Commit.{file_path}
use Rattle.delta_text.specs.Writing.{protocol_data, meta_data_data, stats_data, file_data}

-- the text of the statistics is read as them
abbrev pub HasReadableStats : FileAction → Type 0
HasReadableStats (file.Add path values size count) = IsReadAgain (stats_data count)
HasReadableStats (file.Remove path) = Unit {0}

-- the URI that is written for a path names it
abbrev pub HasReadableUri : FileAction → Type 0
HasReadableUri f = IsPath (file_path f) → uri_path (escaped_path (file_path f)) ≡ inside_table (file_path f)

-- the numbers are of 64 bits
abbrev pub HasSmallNumbers : ℕ → FileAction → Type 0
HasSmallNumbers now (file.Add path values size count) = (now < 2 ^ 64) × (size < 2 ^ 64) × (count < 2 ^ 64)
HasSmallNumbers now (file.Remove path) = now < 2 ^ 64

-- the line of the protocol is read as it, and its versions are of 64 bits
pub record IsProtocolAgain (p : Protocol) : Type 0 where
  pub line : IsReadAgain (protocol_data p)
  pub reader : FitsSigned w64 p.reader
  pub writer : FitsSigned w64 p.writer

pub record IsFileAgain (now : ℕ) (f : FileAction) : Type 0 where
  pub line : IsReadAgain (file_data now f)
  pub stats : HasReadableStats f
  pub uri : HasReadableUri f

-- each line is read as the JSON that was written
pub record HasReadableParts (now : ℕ) (c : DeltaCommit) : Type 0 where
  pub protocol : IfSome c.protocol IsProtocolAgain
  pub meta : IfSome c.meta (λ m. IsReadAgain (meta_data_data m))
  pub files : AllByRecursion (IsFileAgain now) c.files
