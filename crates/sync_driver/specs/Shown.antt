-- What showing a table answers.
use Rattle.std.specs.Prelude.{◌≡◌, ◌⊎◌, ◌++◌, List, [], ℕ, Option, Some, None, Result, Ok, Err}
use Rattle.lake_store.specs.Cause.{Rose}
use Rattle.lake_store.specs.Disk.{Files}
use Rattle.lake_store.specs.Runs.{FailsBy, IsUncontestedBy, OnlyReads}
use Rattle.lake_store.specs.declared.store.Store.{Ghosts}
use Rattle.lake_store.specs.declared.sink.Sink as sinks
use Rattle.table_history.specs.declared.table.Table.{Table}
use Rattle.source_core.specs.Answers.{IsHeadRefusal, IsReadRefusal, IsReadable}
use Rattle.source_core.specs.declared.error.SourceError.{SourceError}
use Rattle.source_core.specs.declared.error.SourceError.TheVariants as source
use Rattle.source_core.specs.declared.head.Head.{Head}
use Rattle.table_lines.specs.TableLines.{AreTableLines}
use Rattle.target_sync.specs.Applied.{status_of_source}
use Rattle.sync_driver.specs.Commands.{IsPending}
use Rattle.sync_driver.specs.Lines.{pending_line, refusal_line}
use Rattle.target_sync.specs.Sources.{SourceMeaning}
use Rattle.sync_driver.specs.Tellings.{Tells}
use Rattle.target_sync.specs.declared.status.Status.{Status}
use Rattle.target_sync.specs.declared.status.Status.TheVariants.{Done, Memory}

-- These lines, or why the table wasn't read; none where the command ended before.
abbrev pub ShowAnswer : Type 0
ShowAnswer = Option (Result (List ℕ) SourceError)

abbrev pub shown_status : ShowAnswer → Status
shown_status None = Done
shown_status (Some (Ok lines)) = Done
shown_status (Some (Err e)) = status_of_source e

abbrev pub shown_text : ShowAnswer → List ℕ
shown_text None = []
shown_text (Some (Ok lines)) = lines
shown_text (Some (Err e)) = refusal_line (status_of_source e)

-- the lines of the table at the head, whose rows are those that are live
abbrev pub AreShown : SourceMeaning → Files → List ℕ → Type 0
AreShown meaning files lines = (head : Head) × (table : Table) × meaning.is_head files head × meaning.is_table files table × AreTableLines meaning.kind head.position table lines

-- what finding the head is refused for, or, where there is one, reading the table
abbrev pub IsShowRefusal : SourceMeaning → Files → SourceError → Type 0
IsShowRefusal meaning files e = IsHeadRefusal (meaning.is_absent files) (meaning.at_head files) e ⊎ ((head : Head) × meaning.is_head files head × IsReadRefusal (meaning.from_scratch files) e)

abbrev pub IsShownSo : SourceMeaning → Files → ShowAnswer → Type 0
IsShownSo meaning files None = Unit {0}
IsShownSo meaning files (Some (Ok lines)) = AreShown meaning files lines
IsShownSo meaning files (Some (Err e)) = IsShowRefusal meaning files e

-- No file changes, whatever is answered.
pub record IsShow {S : Type 0} (store : Ghosts S) (meaning : SourceMeaning) (old new : S) (answer : ShowAnswer) : Type 0 where
  pub reads : store.tells → OnlyReads store old new
  pub cause : FailsBy store old new (answer ≡ Some (Err source.StoreFault))
  pub contest : IsUncontestedBy store old new ⊥
  pub shown : store.tells → IsShownSo meaning (store.disk old).files answer

-- The answer is told, behind the line of a pending commit. There is none only where that line was cut.
-- Where the source can be read and neither count rises, the status is `Done`, or memory ran out.
pub record Shows {S O : Type 0} (store : Ghosts S) (sink : sinks.Ghosts O) (meaning : SourceMeaning) (old new : S) (out_old out_new : O) (status : Status) : Type 0 where
  pub pending : Option (List ℕ)
  pub answer : ShowAnswer
  pub show : IsShow store meaning old new answer
  pub pending_is : store.tells → IsPending meaning (store.disk old).files pending (λ e. answer ≡ Some (Err e))
  pub told : Tells sink out_old out_new (pending_line pending ++ shown_text answer) (shown_status answer) status
  pub answered : answer ≡ None → ¬ (status ≡ Done)
  pub complete : store.tells → IsReadable (meaning.is_absent (store.disk old).files) (meaning.at_head (store.disk old).files) (meaning.from_scratch (store.disk old).files)
      → ¬ Rose (store.faults old) (store.faults new) → ¬ Rose (sink.faults out_old) (sink.faults out_new) → (status ≡ Done) ⊎ (status ≡ Memory)
