-- What a sync of two targets tells.
use Rattle.std.specs.Prelude.{◌≡◌, ◌⊎◌, ◌++◌, ◌+◌, ◌-◌, ◌^◌, ◌≤◌, ℕ, Bool, true, false, List, [], Option, Some, None, Ok, Err, min}
use Rattle.lake_store.specs.Cause.{Rose}
use Rattle.lake_store.specs.Disk.{Files}
use Rattle.lake_store.specs.Runs.{FailsBy, OnlyReads}
use Rattle.lake_store.specs.declared.sink.Sink as sinks
use Rattle.lake_store.specs.declared.store.Store.{Ghosts}
use Rattle.source_core.specs.Answers.{IsHeadRefusal}
use Rattle.source_core.specs.declared.error.SourceError.{SourceError}
use Rattle.table_history.specs.declared.kind.Kind.{Kind}
use Rattle.target_core.specs.Conditions.{GoesOn}
use Rattle.target_sync.specs.Along.{IsAlong}
use Rattle.target_sync.specs.Answered.{Answer, CanSync, IsAbsent, IsDone, IsEarly, IsLate, IsNotForeign, IsOfLook, IsReadFault, IsSync, StandsAt}
use Rattle.target_sync.specs.Applied.{status_of_source}
use Rattle.target_sync.specs.Sources.{SourceMeaning}
use Rattle.target_sync.specs.Targets.{TargetFacts}
use Rattle.target_sync.specs.declared.plan.Mode.{Mode}
use Rattle.target_sync.specs.declared.status.Side.TheVariants as side
use Rattle.target_sync.specs.declared.status.Status.{Status}
use Rattle.target_sync.specs.declared.status.Status.TheVariants as status
use Rattle.sync_driver.specs.Commands.{IsPending, answer_line, answer_status}
use Rattle.sync_driver.specs.Lines.{pending_line}
use Rattle.sync_driver.specs.Tellings.{Tells}

-- ---- how a command goes on behind an answer

-- it is a refusal of this kind
abbrev pub IsRefused : (Status → Type 0) → Answer → Type 0
IsRefused P None = ⊥
IsRefused P (Some (Ok report)) = ⊥
IsRefused P (Some (Err e)) = P e

-- reading the source was refused
abbrev pub IsOfSource : Status → Type 0
IsOfSource status.Absent = Unit {0}
IsOfSource (status.Malformed path) = Unit {0}
IsOfSource (status.Unsupported side.Source feature path) = Unit {0}
IsOfSource (status.Limit side.Source which number) = Unit {0}
IsOfSource _ = ⊥

-- The command ends with it, whatever target is left.
abbrev pub IsEnd : Status → Type 0
IsEnd status.Memory = Unit {0}
IsEnd status.StoreFault = Unit {0}
IsEnd status.Absent = Unit {0}
IsEnd (status.Malformed path) = Unit {0}
IsEnd (status.Unsupported side.Source feature path) = Unit {0}
IsEnd (status.Limit side.Source which number) = Unit {0}
IsEnd _ = ⊥

-- a line was cut
abbrev pub IsCut : Status → Type 0
IsCut given = (given ≡ status.Memory) ⊎ (given ≡ status.SinkFault)

-- another writer was in the target's way
abbrev pub IsContested : TargetFacts → Answer → Type 0
IsContested target answer = answer ≡ Some (Err (status.Contested target.files.kind))

-- a count of 64 bits went up twice, or stands at its last number
abbrev pub RoseTwice : ℕ → ℕ → Type 0
RoseTwice before now = min (before + 2) (2 ^ 64 - 1) ≤ now

-- want of memory, a fault of the store and one of the output
abbrev pub IsAtOnce : Status → Type 0
IsAtOnce status.Memory = Unit {0}
IsAtOnce status.StoreFault = Unit {0}
IsAtOnce status.SinkFault = Unit {0}
IsAtOnce _ = ⊥

-- ---- lines and status

-- the answer came as the target was inspected
abbrev pub CameEarly : SourceMeaning → TargetFacts → Files → Answer → Type 0
CameEarly source target files answer = IsRefused (IsEarly source target files) answer

-- it came when each target had been inspected, if there is one
abbrev pub CameLate : SourceMeaning → TargetFacts → Mode → ℕ → Files → Answer → Type 0
CameLate source target mode now files None = Unit {0}
CameLate source target mode now files (Some (Ok report)) = Unit {0}
CameLate source target mode now files (Some (Err e)) = IsLate source target mode now files e

-- The answers are told in the order of the words, but that of a second target that came early goes before that of a first one that came late.
abbrev pub AreInOrder : SourceMeaning → TargetFacts → TargetFacts → Mode → ℕ → Files → Bool → Answer → Answer → Type 0
AreInOrder source first second mode now files false one two = CameEarly source first files one ⊎ CameLate source second mode now files two
AreInOrder source first second mode now files true one two = CameLate source first mode now files one × CameEarly source second files two

-- so far as the answers alone show it, also where the store tells nothing
abbrev pub IsToldEarly : TargetFacts → Answer → Type 0
IsToldEarly target answer = IsRefused (IsOfLook target.files.kind) answer

abbrev pub IsToldLate : Answer → Type 0
IsToldLate None = Unit {0}
IsToldLate (Some (Ok report)) = Unit {0}
IsToldLate (Some (Err e)) = IsNotForeign e

abbrev pub AreToldInOrder : TargetFacts → TargetFacts → Bool → Answer → Answer → Type 0
AreToldInOrder first second false one two = IsToldEarly first one ⊎ IsToldLate two
AreToldInOrder first second true one two = IsToldLate one × IsToldEarly second two

-- the first of the two that isn't `Done`
abbrev pub first_refusal : Status → Status → Status
first_refusal status.Done next = next
first_refusal so_far next = so_far

-- The status behind one line more: want of memory and a fault at once, and else that of the first line that isn't `Done`.
abbrev pub status_behind : Status → Status → Status
status_behind so_far status.Memory = status.Memory
status_behind so_far status.StoreFault = status.StoreFault
status_behind so_far status.SinkFault = status.SinkFault
status_behind so_far next = first_refusal so_far next

-- the two answers' lines, where the second's goes first or the first's does
abbrev pub both_lines : Kind → Kind → Bool → Answer → Answer → List ℕ
both_lines first second false one two = answer_line first one ++ answer_line second two
both_lines first second true one two = answer_line second two ++ answer_line first one

abbrev pub both_status : Bool → Answer → Answer → Status
both_status false one two = status_behind (answer_status one) (answer_status two)
both_status true one two = status_behind (answer_status two) (answer_status one)

-- the answer whose line goes first, and the other one
abbrev pub told_first : Bool → Answer → Answer → Answer
told_first false one two = one
told_first true one two = two

abbrev pub told_last : Bool → Answer → Answer → Answer
told_last false one two = two
told_last true one two = one

-- the line that goes first
abbrev pub first_line : Kind → Kind → Bool → Answer → Answer → List ℕ
first_line first second false one two = answer_line first one
first_line first second true one two = answer_line second two

-- ---- how far a command goes

-- finding the source's head was refused
abbrev pub IsOfHead : SourceMeaning → Files → Answer → Type 0
IsOfHead source files answer = (e : SourceError) × IsHeadRefusal (source.is_absent files) (source.at_head files) e × (answer ≡ Some (Err (status_of_source e)))

-- Inspecting the target ended it alone, or found it absent or ours; in that case it has no answer.
abbrev pub IsLeft : SourceMeaning → TargetFacts → Files → Answer → Type 0
IsLeft source target files answer = CameEarly source target files answer ⊎ ((answer ≡ None) × StandsAt target files (GoesOn source.kind))

-- The head is found once; both targets are inspected in the order of the words, and one that is ended so has its line put out then; the source is read
-- for each that is left; and then each is brought to the head, and its line put out. `before` is what went out before the targets' lines.
pub record InPhases {S O : Type 0} (store : Ghosts S) (sink : sinks.Ghosts O) (source : SourceMeaning) (first second : TargetFacts) (old new : S) (out_old out_new : O) (before : List ℕ) (given : Status) (one two : Answer) (second_first : Bool) : Type 0 where
  -- Behind want of memory and a fault of the store nothing more is done, nor behind a refusal of the source.
  pub at_once : IsRefused IsAtOnce (told_first second_first one two) → told_last second_first one two ≡ None
  pub ended : IsRefused IsOfSource (told_first second_first one two) → told_last second_first one two ≡ None
  -- Where reading the source was refused for one target, nothing was written, and the other one had been inspected; unless the head was refused.
  pub unread : store.tells → IsRefused IsOfSource one ⊎ IsRefused IsOfSource two → OnlyReads store old new
  pub first_left : store.tells → IsRefused IsOfSource two → IsLeft source first (store.disk old).files one
  pub second_left : store.tells → IsRefused IsOfSource one → IsOfHead source (store.disk old).files one ⊎ IsLeft source second (store.disk old).files two
  -- Nothing is written before the first target has its turn, nor before the second was inspected.
  pub untouched : store.tells → one ≡ None → OnlyReads store old new
  pub looked : store.tells → two ≡ None → OnlyReads store old new ⊎ StandsAt second (store.disk old).files (GoesOn source.kind)
  -- Where a line was cut, nothing more is done.
  pub went : sink.tells → ¬ (told_last second_first one two ≡ None) → (rest : List ℕ) × (sink.output out_new ≡ sink.output out_old ++ (before ++ first_line first.files.kind second.files.kind second_first one two) ++ rest)
  -- A target has no answer only where the command ended before it: with the other's, or with a line that was cut.
  pub first_answered : one ≡ None → IsRefused IsEnd two ⊎ (IsCut given × (store.tells → (two ≡ None) ⊎ CameEarly source second (store.disk old).files two))
  pub second_answered : two ≡ None → IsRefused IsEnd one ⊎ (IsCut given × (store.tells → (one ≡ None) ⊎ (CameEarly source first (store.disk old).files one ⊎ StandsAt second (store.disk old).files (GoesOn source.kind))))

-- ---- the command

-- The two targets' syncs. For each of the two all is so that is of one, from the files at entry to those at return, whatever the other is and answers, but
-- that the other's folder changes too.
pub record AreSynced {S : Type 0} (store : Ghosts S) (source : SourceMeaning) (first second : TargetFacts) (mode : Mode) (now : ℕ) (old new : S) (one two : Answer) (second_first : Bool) : Type 0 where
  pub first_sync : IsSync store source first (Some second.files.kind) mode now old new one
  pub second_sync : IsSync store source second (Some first.files.kind) mode now old new two
  pub order : store.tells → AreInOrder source first second mode now (store.disk old).files second_first one two
  pub told_order : AreToldInOrder first second second_first one two
  pub fault : FailsBy store old new ((one ≡ Some (Err status.StoreFault)) ⊎ (two ≡ Some (Err status.StoreFault)))
  -- Other writers are counted once for each target that met one.
  pub uncontested : ¬ IsContested first one → ¬ IsContested second two → store.contests new ≡ store.contests old
  pub contested : IsContested first one → IsContested second two → RoseTwice (store.contests old) (store.contests new)

-- The line goes out behind others, which gave this status so far.
abbrev pub TellsBehind : {O : Type 0} → sinks.Ghosts O → O → O → Status → Kind → Answer → Status → Type 0
TellsBehind sink old new so_far target answer given = (last : Status) × Tells sink old new (answer_line target answer) (answer_status answer) last × (given ≡ status_behind so_far last)

-- The two targets are brought to the head that was found, and their lines go out.
pub record GoesBoth {S O : Type 0} (store : Ghosts S) (sink : sinks.Ghosts O) (source : SourceMeaning) (first second : TargetFacts) (mode : Mode) (now : ℕ) (old new : S) (out_old out_new : O) (given : Status) : Type 0 where
  pub one : Answer
  pub two : Answer
  pub second_first : Bool
  pub synced : AreSynced store source first second mode now old new one two second_first
  pub phases : InPhases store sink source first second old new out_old out_new [] given one two second_first
  pub told : Tells sink out_old out_new (both_lines first.files.kind second.files.kind second_first one two) (both_status second_first one two) given

-- what can be done of a target is done, unless memory ran out or another writer was in the way
abbrev pub IsDoneBut : TargetFacts → Answer → Status → Type 0
IsDoneBut target answer given = (given ≡ status.Memory) ⊎ (IsDone answer ⊎ IsContested target answer)

-- A sync of two targets, its lines and its status.
pub record SyncsBoth {S O : Type 0} (store : Ghosts S) (sink : sinks.Ghosts O) (source : SourceMeaning) (first second : TargetFacts) (mode : Mode) (now : ℕ) (old new : S) (out_old out_new : O) (given : Status) : Type 0 where
  pub pending : Option (List ℕ)
  pub one : Answer
  pub two : Answer
  pub second_first : Bool
  pub synced : AreSynced store source first second mode now old new one two second_first
  pub first_along : IsAlong store source first.files mode old new one
  pub second_along : IsAlong store source second.files mode old new two
  pub phases : InPhases store sink source first second old new out_old out_new (pending_line pending) given one two second_first
  pub pending_is : store.tells → IsPending source (store.disk old).files pending (λ e. (one ≡ Some (Err (status_of_source e))) × (two ≡ None) × OnlyReads store old new)
  pub told : Tells sink out_old out_new (pending_line pending ++ both_lines first.files.kind second.files.kind second_first one two) (both_status second_first one two) given
  -- where there is an answer, the pending commit's line went out whole before it
  pub began : sink.tells → ¬ ((one ≡ None) × (two ≡ None)) → (rest : List ℕ) × (sink.output out_new ≡ sink.output out_old ++ pending_line pending ++ rest)
  pub absent : store.tells → source.is_absent (store.disk old).files → IsAbsent None source (store.disk old).files one
  -- What can be done of one target is done, where the source can be read for the other too.
  pub first_complete : store.tells → CanSync source first mode now (store.disk old).files → ((e : SourceError) → ¬ IsReadFault source second mode (store.disk old).files e)
      → ¬ Rose (store.faults old) (store.faults new) → ¬ Rose (sink.faults out_old) (sink.faults out_new) → IsDoneBut first one given
  pub second_complete : store.tells → CanSync source second mode now (store.disk old).files → ((e : SourceError) → ¬ IsReadFault source first mode (store.disk old).files e)
      → ¬ Rose (store.faults old) (store.faults new) → ¬ Rose (sink.faults out_old) (sink.faults out_new) → IsDoneBut second two given
  pub complete : store.tells → CanSync source first mode now (store.disk old).files → CanSync source second mode now (store.disk old).files → ¬ Rose (store.faults old) (store.faults new) → ¬ IsContested first one → ¬ IsContested second two
      → ¬ Rose (sink.faults out_old) (sink.faults out_new) → (given ≡ status.Done) ⊎ (given ≡ status.Memory)
