-- What sweeping a target answers, and what is told of it.
use Rattle.std.specs.Prelude.{◌≡◌, ◌⊎◌, ℕ, List, [], Result, Ok, Err, IfErr, IfOk, IsErrOf, OnOk}
use Rattle.lake_store.specs.Cause.{Rose}
use Rattle.lake_store.specs.Runs.{FailsBy, IsEachMoment, IsUncontestedBy, LeavesAlone, OnlyReads}
use Rattle.lake_store.specs.declared.sink.Sink as sinks
use Rattle.lake_store.specs.declared.store.Store.{Ghosts}
use Rattle.lake_sweep.specs.Plan.{IsKnown}
use Rattle.lake_sweep.specs.Refusals.{HasCause, IsCrowdedForOne, IsReadable, IsReadingRefused, IsSweepRefused}
use Rattle.lake_sweep.specs.Removing.{IsEarly, IsSwept, Sweeps}
use Rattle.lake_sweep.specs.declared.error.SweepError.{SweepError}
use Rattle.lake_sweep.specs.declared.error.SweepError.TheVariants as error
use Rattle.lake_sweep.specs.declared.plan.Swept.{Swept}
use Rattle.table_history.specs.declared.kind.Kind.{Kind}
use Rattle.table_history.specs.declared.limit.LimitKind.{LimitKind}
use Rattle.target_core.specs.Step.{IsBefore}
use Rattle.target_core.specs.Views.{View}
use Rattle.target_leftovers.specs.Leftovers.{IsLeftover}
use Rattle.target_sync.specs.Targets.{TargetFacts}
use Rattle.target_sync.specs.declared.status.Side.TheVariants.{Target}
use Rattle.target_sync.specs.declared.status.Status.{Status}
use Rattle.target_sync.specs.declared.status.Status.TheVariants as status
use Rattle.sync_driver.specs.Lines.{refusal_line, swept_lines}
use Rattle.sync_driver.specs.Tellings.{Tells}

-- the removed paths, or why the target isn't swept
abbrev pub SweepAnswer : Type 0
SweepAnswer = Result Swept SweepError

abbrev pub status_of_sweep : Kind → SweepError → Status
status_of_sweep target error.Memory = status.Memory
status_of_sweep target (error.Foreign path) = status.Foreign target path
status_of_sweep target (error.Limit which number) = status.Limit (Target target) which number
status_of_sweep target error.StoreFault = status.StoreFault

abbrev pub swept_status : Kind → SweepAnswer → Status
swept_status target (Ok swept) = status.Done
swept_status target (Err e) = status_of_sweep target e

abbrev pub swept_text : Kind → SweepAnswer → List ℕ
swept_text target (Ok swept) = swept_lines target swept.removed
swept_text target (Err e) = refusal_line (status_of_sweep target e)

-- What a sweep answers and leaves. At `Ok` all leftovers are gone, these are their paths, and all other files are as before. Whatever it answers, a first
-- part of them is gone, in their order and at each moment, and the target reads as before.
pub record IsSweep {S : Type 0} (store : Ghosts S) (target : TargetFacts) (old new : S) (answer : SweepAnswer) : Type 0 where
  pub swept : store.tells → IfOk answer (λ swept. IsSwept target.files.kind (store.disk old).files (store.disk new).files swept.removed)
  pub none : store.tells → IfOk answer (λ swept. swept.removed ≡ [] → OnlyReads store old new)
  pub sweeps : store.tells → Sweeps store target.files.kind old new
  pub alone : store.tells → LeavesAlone store (λ path. ¬ IsLeftover target.files.kind (store.disk old).files path) old new
  pub reads : store.tells → (view : View) → target.files.reads (store.disk old).files view → IsBefore target.files view (store.disk old).files (store.disk new).files
  pub moments : store.tells → target.files.settled (store.disk old) → (view : View) → target.files.reads (store.disk old).files view
      → IsEachMoment store old new (IsBefore target.files view (store.disk old).files)
  pub known : store.tells → OnOk answer (IsKnown target.files (store.disk old).files)
  pub readable : store.tells → OnOk answer (IsReadable target.files.kind (store.disk old).files)
  pub refused : store.tells → IfErr answer (HasCause (IsSweepRefused target.is_foreign target.is_crowded target.files (store.disk old).files))
  pub early : store.tells → IfErr answer (λ e. IsEarly e → OnlyReads store old new)
  pub fault : FailsBy store old new (IsErrOf answer error.StoreFault)
  pub contest : IsUncontestedBy store old new ⊥

-- The answer is told. Lines of removed paths are those of an answer that is `Ok`, so all of the leftovers are gone by then. Where the target is absent or
-- ours for a source of one of the other two formats, no number is passed, all that is read for leftovers can be read, and no count rises, the status is
-- `Done`, or memory ran out.
pub record TellsSweep {S O : Type 0} (store : Ghosts S) (sink : sinks.Ghosts O) (target : TargetFacts) (old new : S) (out_old out_new : O) (given : Status) : Type 0 where
  pub answer : SweepAnswer
  pub sweep : IsSweep store target old new answer
  pub told : Tells sink out_old out_new (swept_text target.files.kind answer) (swept_status target.files.kind answer) given
  pub complete : store.tells → IsKnown target.files (store.disk old).files
      → ((which : LimitKind) (number : ℕ) → ¬ IsCrowdedForOne target.is_foreign target.is_crowded target.files.kind (store.disk old).files which number)
      → ((e : SweepError) → ¬ IsReadingRefused target.files.kind (store.disk old).files e)
      → ¬ Rose (store.faults old) (store.faults new) → ¬ Rose (sink.faults out_old) (sink.faults out_new) → (given ≡ status.Done) ⊎ (given ≡ status.Memory)
