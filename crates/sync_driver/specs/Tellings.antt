-- What a command has put out.
use Rattle.std.specs.Prelude.{◌≡◌, ◌≢◌, ◌⊎◌, ℕ, ◌≤◌, List, [], ◌++◌, take, Result, Ok, Err}
use Rattle.lake_store.specs.Cause.{Rose}
use Rattle.lake_store.specs.declared.sink.Sink.{Ghosts}
use Rattle.lake_store.specs.declared.sink.SinkError.{SinkError}
use Rattle.lake_store.specs.declared.sink.SinkError.TheVariants as sink_error
use Rattle.target_sync.specs.declared.status.Status.{Status}
use Rattle.target_sync.specs.declared.status.Status.TheVariants.{Done, Memory, SinkFault}

-- its line went out whole
abbrev pub IsSaid : Status → Type 0
IsSaid Memory = ⊥
IsSaid SinkFault = ⊥
IsSaid _ = Unit {0}

-- The line is put out, and the status is the one that is due; or memory ran out, or the put failed. Where there is no line, nothing is put.
pub record Tells {O : Type 0} (sink : Ghosts O) (old new : O) (line : List ℕ) (due given : Status) : Type 0 where
  pub faults : sink.faults old ≤ sink.faults new
  pub can_fail : sink.may_fail new → sink.may_fail old
  pub status : (given ≡ due) ⊎ (given ≡ Memory) ⊎ ((given ≡ SinkFault) × ((line ≢ []) × (Rose (sink.faults old) (sink.faults new) × sink.may_fail old)))
  pub silent : line ≡ [] → new ≡ old
  pub whole : sink.tells → IsSaid given → sink.output new ≡ sink.output old ++ line
  pub front : sink.tells → (n : ℕ) × (sink.output new ≡ sink.output old ++ take n line)

-- how a command ends whose lines were put out so
abbrev pub put_status : Result (Unit {0}) SinkError → Status
put_status (Ok x) = Done
put_status (Err sink_error.Memory) = Memory
put_status (Err sink_error.Failed) = SinkFault

-- the command goes on behind a put, or ends with it
abbrev pub cut_of_put : Result (Unit {0}) SinkError → Result (Unit {0}) Status
cut_of_put (Ok x) = Ok x
cut_of_put (Err sink_error.Memory) = Err Memory
cut_of_put (Err sink_error.Failed) = Err SinkFault

-- The line is put out, if it isn't empty, and the command goes on; or the line is cut, and the command ends so.
abbrev pub Puts : {O : Type 0} → Ghosts O → O → O → List ℕ → Result (Unit {0}) Status → Type 0
Puts sink old new line (Ok x) = Tells sink old new line Done Done
Puts sink old new line (Err cut) = Tells sink old new line Done cut × ¬ (cut ≡ Done)
