-- The version that a commit is written as, and what is kept behind it.
use Rattle.std.specs.Prelude.{◌≡◌, ◌||◌, ◌+◌, ℕ, ◌∷◌, [], List, ◌<◌, ◌≤◌, length, Ok, None, Some}
use Rattle.std.specs.FinMap as map
use Rattle.serde_json.specs.Written.{compact_text}
use Rattle.lake_basics.specs.declared.limits.TheConstants.{MAX_DELTA_VERSION, MAX_FILE_BYTES}
use Rattle.lake_store.specs.Disk.{Files}
use Rattle.table_history.specs.SchemaSize.{IsWithinLimits}
use Rattle.table_history.specs.Sound.{IsSound}
use Rattle.table_history.specs.Tables.{IsAfter}
use Rattle.table_history.specs.declared.limit.LimitKind.{LimitKind}
use Rattle.table_history.specs.declared.limit.LimitKind.TheVariants.{File}
use Rattle.table_history.specs.declared.table.Change.{Change}
use Rattle.table_history.specs.declared.table.Commit.{Commit}
use Rattle.schema_delta.specs.Delta.{delta_schema_of}
use Rattle.schema_delta.specs.DeltaWriting.{delta_text}
use Rattle.delta_log.specs.Readable.{IsReadableCommit}
use Rattle.delta_text.specs.Writing.{SameCommit, commit_text}
use Rattle.delta_log.specs.declared.commit.DeltaCommit.{DeltaCommit}
use Rattle.delta_table.specs.Versions.{HoldsVersion, IsVersionPath}
use Rattle.target_core.specs.Mark.{IsMarkText, mark_data}
use Rattle.target_core.specs.Views.{Origin}
use Rattle.target_core.specs.declared.mark.Mark.{Mark}
use Rattle.target_core.specs.declared.target.TargetError.{TargetError}
use Rattle.target_core.specs.declared.target.TargetError.TheVariants.{Memory, StoreFault, Contested, Limit, Unsupported}
use Rattle.target_delta.specs.Kept.{end_of}
use Rattle.target_delta.specs.Names.{IsStagedPath}
use Rattle.target_delta.specs.Reading.{mark_setting}
use Rattle.target_delta.specs.Writing.{AreActions, IsWritten, LogEnd, end_behind, have_ntz, mark_of, protocol_due}
use Rattle.target_delta.specs.declared.kept.DeltaKept.{DeltaKept}

-- This is written for a change with this mark, where the table of `behind` is that behind the change and all else of it stands before.
pub record IsWrittenOf (behind : DeltaKept) (change : Change) (mark : Mark) (written : DeltaCommit) : Type 0 where
  pub protocol : written.protocol ≡ protocol_due behind.commits behind.names_ntz (have_ntz behind.table.schema)
  pub meta : written.meta ≡ Some (record {
    id = behind.id;
    schema = delta_text behind.table.schema;
    partition = behind.table.partition;
    configuration = (mark_setting, compact_text (mark_data mark)) ∷ [];
  })
  pub files : AreActions behind.table.partition change written.files

-- The bytes are the text of what is written, and are read as it.
pub record IsTextOf (behind : DeltaKept) (change : Change) (mark : Mark) (now : ℕ) (bytes : List ℕ) : Type 0 where
  pub written : DeltaCommit
  pub is : IsWrittenOf behind change mark written
  pub text : bytes ≡ commit_text now written
  pub again : DeltaCommit
  pub readable : IsReadableCommit bytes again
  pub same : SameCommit written again
  pub reads_back : IsMarkText (compact_text (mark_data mark)) mark
  pub spells : IsSound behind.table.schema → IsWithinLimits behind.table.schema → delta_schema_of (delta_text behind.table.schema) ≡ Ok behind.table.schema

-- The text of what is written has too many bytes.
pub record IsTooLongFor (behind : DeltaKept) (change : Change) (mark : Mark) (now : ℕ) : Type 0 where
  pub written : DeltaCommit
  pub is : IsWrittenOf behind change mark written
  pub long : MAX_FILE_BYTES < length (commit_text now written)

abbrev pub IsTextRefusal : DeltaKept → Change → Mark → ℕ → TargetError → Type 0
IsTextRefusal behind change mark now Memory = Unit {0}
IsTextRefusal behind change mark now StoreFault = ⊥
IsTextRefusal behind change mark now Contested = ⊥
IsTextRefusal behind change mark now (Limit which number) = (which ≡ File) × (number ≡ MAX_FILE_BYTES) × IsTooLongFor behind change mark now
IsTextRefusal behind change mark now (Unsupported feature path) = ⊥

-- What is kept has gone on by one commit with this mark, where its table has gone on already.
pub record IsGoneOn (kept : DeltaKept) (mark : Mark) (next : DeltaKept) : Type 0 where
  pub table : next.table ≡ kept.table
  pub mark_is : next.mark ≡ Some mark
  pub commits : next.commits ≡ kept.commits + 1
  pub id : next.id ≡ kept.id
  pub ntz : next.names_ntz ≡ (kept.names_ntz || have_ntz kept.table.schema)

-- The bytes are those of the version that the commit is written as, and `next` is what is kept behind it.
pub record IsNewVersion (origin : Origin) (now : ℕ) (kept : DeltaKept) (commit : Commit) (bytes : List ℕ) (next : DeltaKept) : Type 0 where
  pub within : kept.commits ≤ MAX_DELTA_VERSION
  pub after : IsAfter kept.table commit.change next.table
  pub end : end_of next ≡ end_behind (end_of kept) commit
  pub mark : next.mark ≡ Some (mark_of (end_of kept) origin commit.position)
  pub written : DeltaCommit
  pub is : IsWritten (end_of kept) origin commit written
  pub text : bytes ≡ commit_text now written
  pub again : DeltaCommit
  pub readable : IsReadableCommit bytes again
  pub same : SameCommit written again
  pub reads_back : IsMarkText (compact_text (mark_data (mark_of (end_of kept) origin commit.position))) (mark_of (end_of kept) origin commit.position)
  pub spells : delta_schema_of (delta_text next.table.schema) ≡ Ok next.table.schema

-- The version behind this end is there, and its bytes are the text of what is written for the commit at this time.
pub record HoldsText (files : Files) (end : LogEnd) (origin : Origin) (now : ℕ) (commit : Commit) : Type 0 where
  pub written : DeltaCommit
  pub is : IsWritten end origin commit written
  pub holds : HoldsVersion files end.version (commit_text now written)

-- Publishing the commit over the files before has left those after: the version behind this end has its text, the name that it was staged under is
-- gone, and all other files are as before.
pub record Writes (end : LogEnd) (before : Files) (origin : Origin) (now : ℕ) (commit : Commit) (after : Files) : Type 0 where
  pub text : HoldsText after end origin now commit
  pub gone : (path : List ℕ) → IsStagedPath path end.version → map.get after path ≡ None
  pub others : (path : List ℕ) → ¬ IsVersionPath path end.version → ¬ IsStagedPath path end.version → map.get after path ≡ map.get before path

-- A number is passed, or memory runs out.
abbrev pub IsVersionRefusal : (LimitKind → ℕ → Type 0) → TargetError → Type 0
IsVersionRefusal passes Memory = Unit {0}
IsVersionRefusal passes StoreFault = ⊥
IsVersionRefusal passes Contested = ⊥
IsVersionRefusal passes (Limit which number) = passes which number
IsVersionRefusal passes (Unsupported feature path) = ⊥
