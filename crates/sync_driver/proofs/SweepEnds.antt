-- What a sweep and a compaction tell, by how they end.
use Rattle.std.proofs.Common.{◌≡◌, ◌⊎◌, ◌++◌, ◌∷◌, ℕ, List, [], inl, inr, ⊎_elim, refl}
use Rattle.std.specs.Prelude.{IfErr, IsErrOf, Ok, Err}
use Rattle.lake_store.specs.Cause.{Rose}
use Rattle.lake_store.specs.Disk.{Files}
use Rattle.lake_store.specs.declared.sink.Sink.{Ghosts}
use Rattle.delta_compact.specs.Refusals as compaction
use Rattle.delta_compact.specs.declared.error.CompactFault.{CompactFault}
use Rattle.delta_compact.specs.declared.error.CompactFault.TheVariants as fault
use Rattle.lake_sweep.specs.Plan.{IsKnown, IsKnownFor, first_source, second_source}
use Rattle.lake_sweep.specs.Refusals.{HasCause, IsCrowdedForOne, IsReadingRefused, IsSweepRefused, IsUnknown}
use Rattle.lake_sweep.specs.declared.error.SweepError.{SweepError}
use Rattle.lake_sweep.specs.declared.error.SweepError.TheVariants as error
use Rattle.table_history.specs.declared.kind.Kind.{Kind}
use Rattle.table_history.specs.declared.limit.LimitKind.{LimitKind}
use Rattle.target_core.specs.Views.{IsOfSource, IsUnpublished, View}
use Rattle.target_sync.specs.Targets.{TargetFacts}
use Rattle.target_sync.specs.declared.status.Status.{Status}
use Rattle.target_sync.specs.declared.status.Status.TheVariants as status
use Rattle.sync_driver.specs.Compacted.{CompactionAnswer, compacted_status}
use Rattle.sync_driver.specs.Lines.{swept_lines}
use Rattle.sync_driver.specs.Swept.{SweepAnswer, swept_status}
use Rattle.sync_driver.specs.Tellings.{Tells}
use Rattle.sync_driver.proofs.Saying.{line_is_there}

-- ---- the lines of a sweep

nothing_before : (first second : List ℕ) → first ++ second ≡ [] → second ≡ []
nothing_before [] second none = none
nothing_before (c ∷ first) second none = absurd (cc none)

-- there is a line of their number at least
pub swept_there : (target : Kind) (paths : List (List ℕ)) → swept_lines target paths ≡ [] → ⊥
swept_there target paths none = line_is_there _ (nothing_before _ _ none)

-- ---- a target that is known has no cause of a refusal

module _ (target : TargetFacts) (not_foreign : (source : Kind) (files : Files) (path : List ℕ) (view : View) → target.is_foreign source files path → target.files.reads files view → (IsUnpublished view → ⊥) × (IsOfSource source view → ⊥)) where
  not_foreign_to : (source : Kind) (files : Files) → IsKnownFor target.files source files → (path : List ℕ) → target.is_foreign source files path → ⊥
  not_foreign_to source files known path is = let never = not_foreign source files path known.view is known.reads in ⊎_elim never.0 never.1 known.ours

  not_unknown : (files : Files) → IsKnown target.files files → ((which : LimitKind) (number : ℕ) → IsCrowdedForOne target.is_foreign target.is_crowded target.files.kind files which number → ⊥)
      → (e : SweepError) → IsUnknown target.is_foreign target.is_crowded target.files.kind files e → ⊥
  not_unknown files known few error.Memory unknown = unknown
  not_unknown files known few error.StoreFault unknown = unknown
  not_unknown files known few (error.Foreign path) unknown =
      ⊎_elim (λ one. not_foreign_to (first_source target.files.kind) files one path unknown.0) (λ other. not_foreign_to (second_source target.files.kind) files other unknown.1.0 unknown.1.1) known
  not_unknown files known few (error.Limit which number) unknown = few which number unknown

  pub no_cause : (files : Files) → IsKnown target.files files → ((which : LimitKind) (number : ℕ) → IsCrowdedForOne target.is_foreign target.is_crowded target.files.kind files which number → ⊥)
      → ((e : SweepError) → IsReadingRefused target.files.kind files e → ⊥) → (e : SweepError) → IsSweepRefused target.is_foreign target.is_crowded target.files files e → ⊥
  no_cause files known few read e refused = ⊎_elim (λ unknown. not_unknown files known few e unknown) (λ unread. read e unread.1) refused

-- ---- the status where no count rises

module _ {O : Type 0} (sink : Ghosts O) (old new : O) (given : Status) where
  due_or_memory : (line : List ℕ) (due : Status) → Tells sink old new line due given → (Rose (sink.faults old) (sink.faults new) → ⊥) → (given ≡ due) ⊎ (given ≡ status.Memory)
  due_or_memory line due told no_sink = ⊎_elim (λ is. inl is) (λ other. ⊎_elim (λ memory. inr memory) (λ failed. absurd (no_sink failed.1.1.0)) other) told.status

  memory_at_least : (given ≡ status.Memory) ⊎ (given ≡ status.Memory) → (given ≡ status.Done) ⊎ (given ≡ status.Memory)
  memory_at_least either = ⊎_elim (λ is. inr is) (λ is. inr is) either

  pub sweep_ends : (Shows : SweepError → Type 0) (target : Kind) (answer : SweepAnswer) (line : List ℕ) → ((e : SweepError) → Shows e → ⊥) → IfErr answer (HasCause Shows) → (IsErrOf answer error.StoreFault → ⊥)
      → Tells sink old new line (swept_status target answer) given → (Rose (sink.faults old) (sink.faults new) → ⊥) → (given ≡ status.Done) ⊎ (given ≡ status.Memory)
  sweep_ends Shows target (Ok swept) line never cause no_fault told no_sink = due_or_memory line status.Done told no_sink
  sweep_ends Shows target (Err error.Memory) line never cause no_fault told no_sink = memory_at_least (due_or_memory line status.Memory told no_sink)
  sweep_ends Shows target (Err (error.Foreign path)) line never cause no_fault told no_sink = absurd (never (error.Foreign path) cause)
  sweep_ends Shows target (Err (error.Limit which number)) line never cause no_fault told no_sink = absurd (never (error.Limit which number) cause)
  sweep_ends Shows target (Err error.StoreFault) line never cause no_fault told no_sink = absurd (no_fault refl)

  pub compaction_ends : (Shows : CompactFault → Type 0) (answer : CompactionAnswer) (line : List ℕ) → ((e : CompactFault) → Shows e → ⊥) → IfErr answer (compaction.HasCause Shows) → (IsErrOf answer fault.StoreFault → ⊥)
      → (IsErrOf answer fault.Contested → ⊥) → Tells sink old new line (compacted_status answer) given → (Rose (sink.faults old) (sink.faults new) → ⊥) → (given ≡ status.Done) ⊎ (given ≡ status.Memory)
  compaction_ends Shows (Ok compacted) line never cause no_fault no_contest told no_sink = due_or_memory line status.Done told no_sink
  compaction_ends Shows (Err fault.Memory) line never cause no_fault no_contest told no_sink = memory_at_least (due_or_memory line status.Memory told no_sink)
  compaction_ends Shows (Err fault.Absent) line never cause no_fault no_contest told no_sink = absurd (never fault.Absent cause)
  compaction_ends Shows (Err (fault.Malformed path)) line never cause no_fault no_contest told no_sink = absurd (never (fault.Malformed path) cause)
  compaction_ends Shows (Err (fault.Unsupported feature path)) line never cause no_fault no_contest told no_sink = absurd (never (fault.Unsupported feature path) cause)
  compaction_ends Shows (Err (fault.Limit which number)) line never cause no_fault no_contest told no_sink = absurd (never (fault.Limit which number) cause)
  compaction_ends Shows (Err fault.Contested) line never cause no_fault no_contest told no_sink = absurd (no_contest refl)
  compaction_ends Shows (Err (fault.Stale path)) line never cause no_fault no_contest told no_sink = absurd (never (fault.Stale path) cause)
  compaction_ends Shows (Err fault.StoreFault) line never cause no_fault no_contest told no_sink = absurd (no_fault refl)
