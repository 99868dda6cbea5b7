-- What a command does.
use Rattle.std.specs.Prelude.{◌≡◌, ◌≢◌, ◌⊎◌, ℕ, List, Option, Some, None}
use Rattle.lake_play.specs.Drilled.{Drills}
use Rattle.lake_store.specs.declared.fuse.FuseStore.{FuseStore}
use Rattle.lake_store.specs.declared.store.Store.{Ghosts}
use Rattle.lake_store.specs.declared.sink.Sink as sinks
use Rattle.table_history.specs.declared.kind.Kind.{Kind}
use Rattle.sync_driver.specs.Both.{SyncsBoth}
use Rattle.sync_driver.specs.Checked.{Checks}
use Rattle.sync_driver.specs.Commands.{Syncs}
use Rattle.sync_driver.specs.Compacted.{TellsCompaction}
use Rattle.sync_driver.specs.Formats.{Formats, FromSource, ToTarget}
use Rattle.sync_driver.specs.Forms.{Words, IsCommand, IsNoCommand}
use Rattle.sync_driver.specs.Lines.{refusal_line}
use Rattle.sync_driver.specs.Shown.{Shows}
use Rattle.sync_driver.specs.Swept.{TellsSweep}
use Rattle.target_sync.specs.Sources.{SourceMeaning}
use Rattle.sync_driver.specs.Tellings.{Tells}
use Rattle.target_sync.specs.declared.plan.Mode.{Mode}
use Rattle.target_sync.specs.declared.plan.Mode.TheVariants as modes
use Rattle.sync_driver.specs.declared.words.Form.{Form}
use Rattle.sync_driver.specs.declared.words.Form.TheVariants.{Check, Compact, Drill, Full, Show, Sweep, Sync}
use Rattle.target_sync.specs.declared.status.Status.{Status}
use Rattle.target_sync.specs.declared.status.Status.TheVariants.{Memory, Usage}

-- the form that brings a target, and another one if it names one, to the source's head in this way
abbrev pub form_of : Mode → Kind → Kind → Option Kind → Form
form_of modes.Sync source first second = Sync source first second
form_of modes.Full source first second = Full source first second

-- memory ran out before anything was done
abbrev pub GivesUp : {S O : Type 0} → S → S → O → O → Status → Type 0
GivesUp old new out_old out_new status = (status ≡ Memory) × (new ≡ old) × (out_new ≡ out_old)

-- The target of this format is synced with the source; or memory ran out before anything was done.
abbrev pub BringsTo : {S O : Type 0} → Ghosts S → sinks.Ghosts O → Formats → List ℕ → SourceMeaning → Kind → Mode → ℕ → S → S → O → O → Status → Type 0
BringsTo store sink formats place source target mode now old new out_old out_new status =
    GivesUp old new out_old out_new status ⊎ ToTarget formats place target (λ t. Syncs store sink source t mode now old new out_old out_new status)

-- The target of this format is compared with the source; or memory ran out before anything was done.
abbrev pub ComparesTo : {S O : Type 0} → Ghosts S → sinks.Ghosts O → Formats → List ℕ → SourceMeaning → Kind → S → S → O → O → Status → Type 0
ComparesTo store sink formats place source target old new out_old out_new status =
    GivesUp old new out_old out_new status ⊎ ToTarget formats place target (λ t. Checks store sink source t old new out_old out_new status)

-- The targets of these formats are synced with the source in one command; or memory ran out before anything was done.
abbrev pub BringsTwo : {S O : Type 0} → Ghosts S → sinks.Ghosts O → Formats → List ℕ → SourceMeaning → Kind → Kind → Mode → ℕ → S → S → O → O → Status → Type 0
BringsTwo store sink formats place source first second mode now old new out_old out_new status =
    GivesUp old new out_old out_new status ⊎ ToTarget formats place first (λ t. ToTarget formats place second (λ u. SyncsBoth store sink source t u mode now old new out_old out_new status))

-- so of one target, and of the other one if there is one
abbrev pub BringsEach : {S O : Type 0} → Ghosts S → sinks.Ghosts O → Formats → List ℕ → SourceMeaning → Kind → Option Kind → Mode → ℕ → S → S → O → O → Status → Type 0
BringsEach store sink formats place source first None mode now old new out_old out_new status = BringsTo store sink formats place source first mode now old new out_old out_new status
BringsEach store sink formats place source first (Some second) mode now old new out_old out_new status = BringsTwo store sink formats place source first second mode now old new out_old out_new status

-- so from a source to the targets of these formats
abbrev pub Brings : {S O : Type 0} → Ghosts S → sinks.Ghosts O → Formats → List ℕ → Kind → Kind → Option Kind → Mode → ℕ → S → S → O → O → Status → Type 0
Brings store sink formats place source first second mode now old new out_old out_new status =
    FromSource formats source (λ s. BringsEach store sink formats place s first second mode now old new out_old out_new status)

-- two targets are of other formats than the source, and than each other
abbrev pub AreApart : Kind → Kind → Option Kind → Type 0
AreApart source first None = Unit {0}
AreApart source first (Some second) = (source ≢ first) × (source ≢ second) × (first ≢ second)

abbrev pub Compares : {S O : Type 0} → Ghosts S → sinks.Ghosts O → Formats → List ℕ → Kind → Kind → S → S → O → O → Status → Type 0
Compares store sink formats place source target old new out_old out_new status =
    FromSource formats source (λ s. ComparesTo store sink formats place s target old new out_old out_new status)

-- the source of this format is shown
abbrev pub Prints : {S O : Type 0} → Ghosts S → sinks.Ghosts O → Formats → Kind → S → S → O → O → Status → Type 0
Prints store sink formats source old new out_old out_new status = FromSource formats source (λ s. Shows store sink s old new out_old out_new status)

-- The target of this format is swept; or memory ran out before anything was done.
abbrev pub SweepsTo : {S O : Type 0} → Ghosts S → sinks.Ghosts O → Formats → List ℕ → Kind → S → S → O → O → Status → Type 0
SweepsTo store sink formats place target old new out_old out_new status =
    GivesUp old new out_old out_new status ⊎ ToTarget formats place target (λ t. TellsSweep store sink t old new out_old out_new status)

-- The drill of this number is played over a store of its own. The command's store stays as it is.
abbrev pub PlaysDrill : {S O : Type 0} → sinks.Ghosts O → ℕ → S → S → O → O → Status → Type 0
PlaysDrill sink number old new out_old out_new status = (new ≡ old) × ((store : FuseStore) × Drills sink number out_old out_new status store)

-- A command's answer and what it has done. `now` is the time that the clock gave, one of those that it may give. Words that are no command look at no
-- file.
pub record Command {S O : Type 0} (store : Ghosts S) (sink : sinks.Ghosts O) (formats : Formats) (gives : ℕ → Type 0) (words : Words) (old new : S) (out_old out_new : O) (status : Status) : Type 0 where
  pub usage : IsNoCommand words → Tells sink out_old out_new (refusal_line Usage) Usage status × (new ≡ old)
  pub brought : (place : List ℕ) (mode : Mode) (source first : Kind) (second : Option Kind) → IsCommand words place (form_of mode source first second)
      → (now : ℕ) × gives now × Brings store sink formats place source first second mode now old new out_old out_new status
  pub shown : (place : List ℕ) (source : Kind) → IsCommand words place (Show source) → Prints store sink formats source old new out_old out_new status
  pub checked : (place : List ℕ) (source target : Kind) → IsCommand words place (Check source target) → Compares store sink formats place source target old new out_old out_new status
  pub swept : (place : List ℕ) (target : Kind) → IsCommand words place (Sweep target) → SweepsTo store sink formats place target old new out_old out_new status
  pub compacted : (place : List ℕ) → IsCommand words place Compact → TellsCompaction store sink old new out_old out_new status
  pub drilled : (place : List ℕ) (number : ℕ) → IsCommand words place (Drill number) → PlaysDrill sink number old new out_old out_new status
