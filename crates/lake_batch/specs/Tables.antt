-- What a run over the tables of a batch does.
use Rattle.std.specs.Prelude.{◌≡◌, ◌⊎◌, ◌++◌, ℕ, Bool, true, false, List, [], ◌∷◌, map, length, take, slice_get, codes, string_bytes, Some, Result, Ok, Err, Contains}
use Rattle.std.specs.Fmt.{decimal}
use Rattle.std.specs.List.{AllByRecursion, count_by}
use Rattle.lake_store.specs.Cause.{Rose}
use Rattle.lake_store.specs.Runs.{LeavesAlone}
use Rattle.lake_store.specs.declared.sink.Sink as sinks
use Rattle.lake_store.specs.declared.store.Store.{Ghosts}
use Rattle.table_lines.specs.Lines.{line}
use Rattle.target_sync.specs.declared.status.Status.{Status}
use Rattle.target_sync.specs.declared.status.Status.TheVariants.{Done, Memory, SinkFault, StoreFault}
use Rattle.sync_driver.specs.Answers.{Command}
use Rattle.sync_driver.specs.Both.{first_refusal}
use Rattle.sync_driver.specs.Formats.{Formats}
use Rattle.sync_driver.specs.Forms.{Words}
use Rattle.sync_driver.specs.Tellings.{Tells}
use Rattle.lake_batch.specs.Part.{IsBeside, StaysBeside, part_of}
use Rattle.lake_batch.specs.declared.batch.Item.{Item}
use Rattle.lake_batch.specs.declared.tables.Tally.{Tally}

-- ---- lines

-- the line before a table's own
abbrev pub table_line : List ℕ → List ℕ
table_line folder = line (codes "table " ++ folder)

-- the last line: how many tables there are, and how many of them are done
abbrev pub batch_line : ℕ → ℕ → List ℕ
batch_line tables done = line (codes "batch: tables " ++ (decimal tables ++ (codes ", done " ++ decimal done)))

-- ---- statuses

-- it ends the batch
abbrev pub IsEnd : Status → Type 0
IsEnd Memory = Unit {0}
IsEnd StoreFault = Unit {0}
IsEnd SinkFault = Unit {0}
IsEnd _ = ⊥

abbrev pub GoOn : List Status → Type 0
GoOn statuses = AllByRecursion (λ status. ¬ IsEnd status) statuses

abbrev pub is_done : Status → Bool
is_done Done = true
is_done _ = false

abbrev pub done_count : List Status → ℕ
done_count statuses = count_by is_done statuses

-- the first that isn't `Done`, or `Done`
abbrev pub first_of : List Status → Status
first_of [] = Done
first_of (status ∷ statuses) = first_refusal status (first_of statuses)

-- ---- one table

-- The words of a table's command: its own place, which lies at that of the batch, and the words of the item.
abbrev pub AreWords : List ℕ → Item → Words → Type 0
AreWords place item words = map string_bytes words ≡ (place ++ 47 ∷ item.folder) ∷ item.command

-- The table's line goes out whole, and its command runs over the part of the store in its folder, whatever lies beside it.
-- What lies beside it stays, at every moment.
pub record RunsTable {S O : Type 0} (store : Ghosts S) (sink : sinks.Ghosts O) (formats : Formats) (gives : ℕ → Type 0) (place : List ℕ) (item : Item) (old new : S) (out_old out_new : O) (status : Status) : Type 0 where
  pub out_told : O
  pub told : Tells sink out_old out_told (table_line item.folder) Done Done
  pub words : Words
  pub words_are : AreWords place item words
  pub command : Command (part_of store item.folder) sink formats gives words old new out_told out_new status
  pub beside : StaysBeside store item.folder old new

-- ---- the tables

-- The first of the tables were run with these statuses, each from what the one before left.
abbrev pub AreRun : {S O : Type 0} → Ghosts S → sinks.Ghosts O → Formats → (ℕ → Type 0) → List ℕ → List Item → List Status → S → S → O → O → Type 0
AreRun store sink formats gives place items [] old new out_old out_new = (new ≡ old) × (out_new ≡ out_old)
AreRun store sink formats gives place [] (status ∷ statuses) old new out_old out_new = ⊥
AreRun {S} {O} store sink formats gives place (item ∷ items) (status ∷ statuses) old new out_old out_new =
    (mid : S) × (out_mid : O) × RunsTable store sink formats gives place item old mid out_old out_mid status × AreRun store sink formats gives place items statuses mid new out_mid out_new

-- Each table was run, and the last line is put out.
abbrev pub IsWhole : {O : Type 0} → sinks.Ghosts O → List Item → List Status → O → O → Status → Type 0
IsWhole sink items statuses out_ran out_new given =
    (length statuses ≡ length items) × GoOn statuses × Tells sink out_ran out_new (batch_line (length items) (done_count statuses)) (first_of statuses) given

-- The last run ended the batch.
abbrev pub IsEnded : {O : Type 0} → List Status → O → O → Status → Type 0
IsEnded statuses out_ran out_new given = (front : List Status) × (statuses ≡ front ++ given ∷ []) × GoOn front × IsEnd given × (out_new ≡ out_ran)

-- The line of the next table was cut, or memory ran out before it.
abbrev pub IsCutShort : {O : Type 0} → sinks.Ghosts O → List Item → List Status → O → O → Status → Type 0
IsCutShort sink items statuses out_ran out_new given =
    (item : Item) × (slice_get items (length statuses) ≡ Some item) × GoOn statuses × Tells sink out_ran out_new (table_line item.folder) Done given × ¬ (given ≡ Done)

-- ---- the steps

-- One table's run, or why there was none: its line was cut, or memory ran out before it.
abbrev pub RanTable : {S O : Type 0} → Ghosts S → sinks.Ghosts O → Formats → (ℕ → Type 0) → List ℕ → Item → S → S → O → O → Result Status Status → Type 0
RanTable store sink formats gives place item old new out_old out_new (Ok status) = RunsTable store sink formats gives place item old new out_old out_new status
RanTable store sink formats gives place item old new out_old out_new (Err given) = (new ≡ old) × Tells sink out_old out_new (table_line item.folder) Done given × ¬ (given ≡ Done)

-- the tables were run so far with these statuses, none of which ends the batch
pub record HasRun {S O : Type 0} (store : Ghosts S) (sink : sinks.Ghosts O) (formats : Formats) (gives : ℕ → Type 0) (place : List ℕ) (items : List Item) (count : ℕ) (old new : S) (out_old out_new : O) (tally : Tally) : Type 0 where
  pub statuses : List Status
  pub ran : AreRun store sink formats gives place items statuses old new out_old out_new
  pub count_is : length statuses ≡ count
  pub go_on : GoOn statuses
  pub done : tally.done ≡ done_count statuses
  pub status : tally.status ≡ first_of statuses

-- They were all run, or a run or a cut line ended the batch.
abbrev pub HaveRun : {S O : Type 0} → Ghosts S → sinks.Ghosts O → Formats → (ℕ → Type 0) → List ℕ → List Item → S → S → O → O → Result Tally Status → Type 0
HaveRun store sink formats gives place items old new out_old out_new (Ok tally) = HasRun store sink formats gives place items (length items) old new out_old out_new tally
HaveRun {S} {O} store sink formats gives place items old new out_old out_new (Err given) =
    (statuses : List Status) × (out_ran : O) × AreRun store sink formats gives place items statuses old new out_old out_ran
    × (IsEnded statuses out_ran out_new given ⊎ IsCutShort sink items statuses out_ran out_new given)

-- ---- the whole

-- The path lies in none of the tables' folders.
abbrev pub IsBesideEach : List Item → List ℕ → Type 0
IsBesideEach items path = (item : Item) → Contains items item → IsBeside item.folder path

-- The tables of a batch are run in order. A run that ends the batch is the last one. Where no count of faults rises, each table is run, or memory ran out: this follows
-- from how commands end, and stands here since it is asked first.
-- A path in the folder of no table that was run stays, at every moment.
pub record RunsBatch {S O : Type 0} (store : Ghosts S) (sink : sinks.Ghosts O) (formats : Formats) (gives : ℕ → Type 0) (place : List ℕ) (items : List Item) (old new : S) (out_old out_new : O) (given : Status) : Type 0 where
  pub statuses : List Status
  pub out_ran : O
  pub ran : AreRun store sink formats gives place items statuses old new out_old out_ran
  pub ends : IsWhole sink items statuses out_ran out_new given ⊎ (IsEnded statuses out_ran out_new given ⊎ IsCutShort sink items statuses out_ran out_new given)
  pub complete : ¬ Rose (store.faults old) (store.faults new) → ¬ Rose (sink.faults out_old) (sink.faults out_new) → (length statuses ≡ length items) ⊎ (given ≡ Memory)
  pub elsewhere : store.tells → LeavesAlone store (IsBesideEach (take (length statuses) items)) old new
