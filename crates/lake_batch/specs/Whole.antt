-- What the top call does with all words, a batch among them.
use Rattle.std.specs.Prelude.{◌≡◌, ◌≤◌, ◌++◌, ℕ, List, map, length, codes, Some, None, Result, Ok, Err}
use Rattle.std.specs.FinMap as fin
use Rattle.lake_store.specs.Disk.{Files}
use Rattle.lake_store.specs.Runs.{FailsBy, IsUncontestedBy, OnlyReads}
use Rattle.lake_store.specs.declared.sink.Sink as sinks
use Rattle.lake_store.specs.declared.store.Store.{Ghosts}
use Rattle.table_history.specs.Path.{IsPath}
use Rattle.table_lines.specs.Lines.{line}
use Rattle.target_sync.specs.Statuses.{number_of}
use Rattle.target_sync.specs.declared.status.Status.{Status}
use Rattle.target_sync.specs.declared.status.Status.TheVariants.{Done, Memory, StoreFault}
use Rattle.sync_driver.specs.Answers.{Command}
use Rattle.sync_driver.specs.Formats.{Formats}
use Rattle.sync_driver.specs.Forms.{NamesPlace, Words, word}
use Rattle.sync_driver.specs.Lines.{refusal_line}
use Rattle.sync_driver.specs.Tellings.{Tells}
use Rattle.lake_batch.specs.Batch.{AreApart, AreFolders, IsBatch, IsFault, folder_of}
use Rattle.lake_batch.specs.Tables.{RunsBatch}
use Rattle.lake_batch.specs.declared.batch.Batch.{Batch}
use Rattle.lake_batch.specs.declared.batch.Why.{Why}
use Rattle.lake_batch.specs.declared.batch.Why.TheVariants.{Missing, Long, Syntax, Shape, Many, Folder, Overlap}
use Rattle.lake_batch.specs.declared.file.FileError.{FileError}
use Rattle.lake_batch.specs.declared.file.FileError.TheVariants as unread
use Rattle.lake_batch.specs.declared.top.BatchStatus.{BatchStatus}
use Rattle.lake_batch.specs.declared.top.BatchStatus.TheVariants.{File, Run}

-- ---- the words

-- a place, `batch` and a file's path
pub record IsBatchCommand (words : Words) (place file : List ℕ) : Type 0 where
  pub place_is : NamesPlace words place
  pub three : length words ≡ 3
  pub verb : word words 1 ≡ Some (codes "batch")
  pub file_is : word words 2 ≡ Some file
  pub path : IsPath file

abbrev pub IsNoBatch : Words → Type 0
IsNoBatch words = (place file : List ℕ) → IsBatchCommand words place file → ⊥

-- ---- the file

abbrev pub why_word : Why → List ℕ
why_word Missing = codes "Missing"
why_word Long = codes "Long"
why_word Syntax = codes "Syntax"
why_word Shape = codes "Shape"
why_word Many = codes "Many"
why_word Folder = codes "Folder"
why_word Overlap = codes "Overlap"

abbrev pub why_line : Why → List ℕ
why_line why = line (codes "status 15: BatchFile " ++ why_word why)

-- the file isn't there, or holds no batch for this location
abbrev pub IsFileFault : List ℕ → Files → List ℕ → Why → Type 0
IsFileFault place files file Missing = fin.get files file ≡ None
IsFileFault place files file why = (bytes : List ℕ) × (fin.get files file ≡ Some bytes) × IsFault place bytes why

-- what the file gives
abbrev pub IsFileRead : List ℕ → Files → List ℕ → Result Batch FileError → Type 0
IsFileRead place files file (Ok batch) = (bytes : List ℕ) × (fin.get files file ≡ Some bytes) × IsBatch place bytes batch.tables
IsFileRead place files file (Err unread.Memory) = Unit {0}
IsFileRead place files file (Err unread.Failed) = Unit {0}
IsFileRead place files file (Err (unread.No why)) = IsFileFault place files file why

-- also where the store tells nothing, the tables are few, and their folders fit and lie apart
abbrev pub AreTables : List ℕ → Result Batch FileError → Type 0
AreTables place (Ok batch) = (length batch.tables ≤ 1000) × AreFolders (length place) batch.tables × AreApart (map folder_of batch.tables)
AreTables place (Err e) = Unit {0}

-- The file is read, and nothing else is done.
pub record ReadsFile {S : Type 0} (store : Ghosts S) (place file : List ℕ) (old new : S) (answer : Result Batch FileError) : Type 0 where
  pub reads : store.tells → OnlyReads store old new
  pub cause : FailsBy store old new (answer ≡ Err unread.Failed)
  pub contest : IsUncontestedBy store old new ⊥
  pub given : store.tells → IsFileRead place (store.disk old).files file answer
  pub tables : AreTables place answer

-- ---- the end

abbrev pub batch_number : BatchStatus → ℕ
batch_number (Run status) = number_of status
batch_number (File why) = 15

-- the file's cause where its line went out whole, and else how the put ended
abbrev pub file_status : Why → Status → BatchStatus
file_status why Done = File why
file_status why cut = Run cut

-- The cause is told.
abbrev pub TellsWhy : {O : Type 0} → sinks.Ghosts O → O → O → Why → BatchStatus → Type 0
TellsWhy sink out_old out_new why given = (status : Status) × (given ≡ file_status why status) × Tells sink out_old out_new (why_line why) Done status

-- Behind the reading of the file: its tables are run, or its cause or the store's fault is told.
abbrev pub GoesOnBy : {S O : Type 0} → Ghosts S → sinks.Ghosts O → Formats → (ℕ → Type 0) → List ℕ → Result Batch FileError → S → S → O → O → BatchStatus → Type 0
GoesOnBy store sink formats gives place (Ok batch) old new out_old out_new given = (status : Status) × (given ≡ Run status) × RunsBatch store sink formats gives place batch.tables old new out_old out_new status
GoesOnBy store sink formats gives place (Err unread.Memory) old new out_old out_new given = (given ≡ Run Memory) × (new ≡ old) × (out_new ≡ out_old)
GoesOnBy store sink formats gives place (Err unread.Failed) old new out_old out_new given = (status : Status) × (given ≡ Run status) × (new ≡ old) × Tells sink out_old out_new (refusal_line StoreFault) StoreFault status
GoesOnBy store sink formats gives place (Err (unread.No why)) old new out_old out_new given = (new ≡ old) × TellsWhy sink out_old out_new why given

-- A batch: its file is read, and then its tables are run in order.
pub record RunsFile {S O : Type 0} (store : Ghosts S) (sink : sinks.Ghosts O) (formats : Formats) (gives : ℕ → Type 0) (place file : List ℕ) (old new : S) (out_old out_new : O) (given : BatchStatus) : Type 0 where
  pub seen : S
  pub answer : Result Batch FileError
  pub read : ReadsFile store place file old seen answer
  pub goes_on : GoesOnBy store sink formats gives place answer seen new out_old out_new given

-- Words that are no batch are one command over the whole store.
pub record RunsAll {S O : Type 0} (store : Ghosts S) (sink : sinks.Ghosts O) (formats : Formats) (gives : ℕ → Type 0) (words : Words) (old new : S) (out_old out_new : O) (given : BatchStatus) : Type 0 where
  pub batch : (place file : List ℕ) → IsBatchCommand words place file → RunsFile store sink formats gives place file old new out_old out_new given
  pub other : IsNoBatch words → (status : Status) × (given ≡ Run status) × Command store sink formats gives words old new out_old out_new status
