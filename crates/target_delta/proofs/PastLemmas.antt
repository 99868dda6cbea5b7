-- What a Delta log stands at of which as many versions were read as are ever read.
use Rattle.std.proofs.Common.{◌≡◌, ◌⊎◌, true, inl, inr, ⊎_elim, ℕ, ◌+◌, ◌≤◌, List, Bool, Some, refl, sym, subst, ◌∙◌}
use Rattle.std.specs.Prelude.{◌↔◌, IfErr, IfOk, IsTrue, Result, Ok, Err}
use Rattle.std.proofs.lemmas.Bool.{false≢true}
use Rattle.lake_basics.specs.declared.limits.TheConstants.{MAX_COMMITS}
use Rattle.lake_store.specs.Disk.{Files}
use Rattle.table_history.specs.declared.kind.Kind.{Kind}
use Rattle.table_history.specs.declared.limit.LimitKind.TheVariants.{Commits}
use Rattle.delta_table.specs.Log.{IsLogOf, IsReadLog}
use Rattle.delta_table.specs.Versions.{HasVersion, IsVersionPath}
use Rattle.delta_table.specs.declared.log.Log.{Log}
use Rattle.delta_table.proofs.LogLaws.{read_is_log}
use Rattle.target_core.specs.Refusals.{IsInspectRefusal}
use Rattle.target_core.specs.SeenView.{IsSeen}
use Rattle.target_core.specs.declared.target.Seen.{Seen}
use Rattle.target_core.specs.declared.target.Seen.TheVariants.{Absent, Ours, Foreign}
use Rattle.target_core.specs.declared.target.TargetError.{TargetError}
use Rattle.target_core.specs.declared.target.TargetError.TheVariants.{Memory}
use Rattle.target_delta.specs.Inspecting.{GoesPast, IsCrowded, IsFirstFaulty, IsForeign}
use Rattle.target_delta.specs.InspectSteps.{IsGapBehind, IsRefusalBehind, limit_of}
use Rattle.target_delta.specs.Kept.{view_of}
use Rattle.target_delta.specs.Reading.{Reads}
use Rattle.target_delta.specs.declared.kept.DeltaKept.{DeltaKept}

-- a refusal of a longer log, of which as many versions were read as are ever read
pub refused_behind : {X : Type 0} (newest : ℕ) (longer : Bool) → MAX_COMMITS ≤ newest → (r : Result X TargetError) → IfErr r (λ e. (e ≡ Memory) ⊎ ((longer ≡ true) × (e ≡ limit_of Commits))) → IfErr r (IsRefusalBehind newest longer)
refused_behind newest longer past (Ok seen) refused = tt
refused_behind newest longer past (Err e) refused = ⊎_elim (λ memory. inl memory) (λ many. inr (past, many.0, many.1)) refused

module _ (files : Files) (newest last count : ℕ) (log : Log) (is : IsLogOf files (last + 1) log) (ends : last + 1 ≡ count) where
  read : IsReadLog files count (Some log.table)
  read = subst (λ (n : ℕ). IsReadLog files n (Some log.table)) ends is.table

  pub goes_past : HasVersion files count → GoesPast files count
  goes_past next = record { table = Some log.table; log = read; next = next }

  pub gap_behind : count ≤ newest → HasVersion files newest → (path : List ℕ) → (HasVersion files count → ⊥) → IsVersionPath path count → IsFirstFaulty files path
  gap_behind past there path missing named = record {
    version = count;
    named = named;
    base = Some log.table;
    log = read_is_log files count (Some log.table) read;
    later = newest;
    within = past;
    there = there;
    faulty = inl missing;
  }

module _ (files : Files) (newest last : ℕ) (log : Log) (is : IsLogOf files (last + 1) log) (longer : Bool) (next : IsTrue longer ↔ HasVersion files MAX_COMMITS) (ends : MAX_COMMITS ≤ newest → last + 1 ≡ MAX_COMMITS) where
  pub seen_behind : MAX_COMMITS ≤ newest → HasVersion files newest → (source : Kind) (P : DeltaKept → Type 0) (r : Result (Seen DeltaKept) TargetError) → IfOk r (IsGapBehind longer) → IfOk r (IsSeen (Reads files) (IsForeign source files) view_of P source)
  seen_behind past there source P (Err e) gap = tt
  seen_behind past there source P (Ok Absent) gap = absurd gap
  seen_behind past there source P (Ok (Ours kept)) gap = absurd gap
  seen_behind past there source P (Ok (Foreign path)) gap =
      inr (inl (gap_behind files newest last MAX_COMMITS log is (ends past) past there path (λ has. false≢true (sym gap.0 ∙ next.1 has)) gap.1))

  pub refusal_behind : (r : Result (Seen DeltaKept) TargetError) → IfErr r (IsRefusalBehind newest longer) → IfErr r (IsInspectRefusal (IsCrowded files))
  refusal_behind (Ok seen) refused = tt
  refusal_behind (Err e) refused = ⊎_elim
      (λ memory. subst (IsInspectRefusal (IsCrowded files)) (sym memory) tt)
      (λ past. subst (IsInspectRefusal (IsCrowded files)) (sym past.2) (inr (inl (refl, refl, goes_past files newest last MAX_COMMITS log is (ends past.0) (next.0 past.1)))))
      refused
