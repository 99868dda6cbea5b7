-- What is told of a Delta log that wasn't read.
use Rattle.std.proofs.Common.{◌≡◌, inl, inr, ℕ, ◌<◌, ◌≤◌, Option, refl, sym, subst, ◌∙◌, arith}
use Rattle.std.specs.Prelude.{IfErr, IfOk, Result, Ok, Err}
use Rattle.lake_basics.specs.declared.limits.TheConstants.{MAX_COMMITS, MAX_FILE_BYTES}
use Rattle.lake_store.specs.Disk.{Files}
use Rattle.table_history.specs.Words.{limit_number}
use Rattle.table_history.specs.declared.kind.Kind.{Kind}
use Rattle.table_history.specs.declared.kind.Kind.TheVariants.{Delta}
use Rattle.table_history.specs.declared.limit.LimitKind.{LimitKind}
use Rattle.table_history.specs.declared.limit.LimitKind.TheVariants as limit
use Rattle.table_history.specs.declared.table.Table.{Table}
use Rattle.delta_log.specs.declared.error.DeltaError.{DeltaError}
use Rattle.delta_log.specs.declared.error.DeltaError.TheVariants as delta
use Rattle.delta_table.specs.Log.{IsLog, IsReadLog}
use Rattle.delta_table.specs.Refusals.{IsLogRefusal, StopsAt, TellsOf}
use Rattle.delta_table.specs.Versions.{HasVersion}
use Rattle.delta_table.specs.declared.error.LogError.{LogError}
use Rattle.delta_table.specs.declared.error.LogError.TheVariants as log
use Rattle.delta_table.proofs.LogLaws.{read_is_log}
use Rattle.target_core.specs.Refusals.{IsInspectRefusal}
use Rattle.target_core.specs.SeenView.{IsSeen}
use Rattle.target_core.specs.declared.target.Seen.{Seen}
use Rattle.target_core.specs.declared.target.Seen.TheVariants.{Absent, Ours, Foreign}
use Rattle.target_core.specs.declared.target.TargetError.{TargetError}
use Rattle.target_delta.specs.Inspecting.{IsCrowded, IsFault, IsFaulty, IsForeign, PassesIn}
use Rattle.target_delta.specs.InspectSteps.{IsRefusalOf, IsToldOf, faulty_version}
use Rattle.target_delta.specs.Kept.{view_of}
use Rattle.target_delta.specs.Reading.{Reads}
use Rattle.target_delta.specs.declared.kept.DeltaKept.{DeltaKept}

abbrev answers : ℕ → Result ℕ TargetError
answers version = Ok version

abbrev refuses : TargetError → Result ℕ TargetError
refuses e = Err e

ok_once : (a b : ℕ) → answers a ≡ answers b → a ≡ b
ok_once a b e = cc

err_once : (a b : TargetError) → refuses a ≡ refuses b → a ≡ b
err_once a b e = cc

ok_err : (a : ℕ) (e : TargetError) → answers a ≡ refuses e → ⊥
ok_err a e h = absurd cc

err_ok : (a : ℕ) (e : TargetError) → refuses e ≡ answers a → ⊥
err_ok a e h = absurd cc

-- ---- the version at fault

pub faulty_within : (error : LogError) (version n : ℕ) → faulty_version error ≡ Ok version → TellsOf (λ v. v ≤ n) error → version ≤ n
faulty_within log.Memory version n is told = absurd (err_ok version _ is)
faulty_within log.StoreFault version n is told = absurd (err_ok version _ is)
faulty_within log.ManyNames version n is told = absurd (err_ok version _ is)
faulty_within log.ManyCommits version n is told = absurd (err_ok version _ is)
faulty_within (log.Missing v) version n is told = subst (λ (w : ℕ). w ≤ n) (ok_once v version is) told
faulty_within (log.Large v) version n is told = absurd (err_ok version _ is)
faulty_within (log.Refused v delta.Memory) version n is told = absurd (err_ok version _ is)
faulty_within (log.Refused v (delta.Malformed line)) version n is told = subst (λ (w : ℕ). w ≤ n) (ok_once v version is) told
faulty_within (log.Refused v (delta.DoublePath line)) version n is told = subst (λ (w : ℕ). w ≤ n) (ok_once v version is) told
faulty_within (log.Refused v (delta.Unsupported feature line)) version n is told = subst (λ (w : ℕ). w ≤ n) (ok_once v version is) told
faulty_within (log.Refused v (delta.Limit which)) version n is told = absurd (err_ok version _ is)

module _ (files : Files) (newest last : ℕ) (upto : last ≤ newest) (few : last < MAX_COMMITS) where
  -- where the log stops at this version
  abbrev StopsFaulty : ℕ → Type 0
  StopsFaulty version = (base : Option Table) × (version ≤ last) × IsLog files version base × IsFaulty files version base

  refused : (v : ℕ) (e : DeltaError) (version : ℕ) → v ≡ version → IsFault e → StopsAt files last (log.Refused v e) → StopsFaulty version
  refused v e version is fault stops =
      let same : stops.0 ≡ version = sym stops.4.0 ∙ is in
      subst StopsFaulty same (stops.1, stops.2, read_is_log files stops.0 stops.1 stops.3, inr (e, fault, stops.4.1))

  stops_faulty : (error : LogError) (version : ℕ) → faulty_version error ≡ Ok version → IsLogRefusal files last error → StopsFaulty version
  stops_faulty log.Memory version is stops = absurd (err_ok version _ is)
  stops_faulty log.StoreFault version is stops = absurd (err_ok version _ is)
  stops_faulty log.ManyNames version is stops = absurd (err_ok version _ is)
  stops_faulty log.ManyCommits version is stops = absurd (err_ok version _ is)
  stops_faulty (log.Missing v) version is (within, stops) =
      let same : stops.0 ≡ version = sym stops.4.0 ∙ ok_once v version is in
      subst StopsFaulty same (stops.1, stops.2, read_is_log files stops.0 stops.1 stops.3, inl stops.4.1)
  stops_faulty (log.Large v) version is stops = absurd (err_ok version _ is)
  stops_faulty (log.Refused v delta.Memory) version is stops = absurd (err_ok version _ is)
  stops_faulty (log.Refused v (delta.Malformed line)) version is stops = refused v (delta.Malformed line) version (ok_once v version is) tt stops.1
  stops_faulty (log.Refused v (delta.DoublePath line)) version is stops = refused v (delta.DoublePath line) version (ok_once v version is) tt stops.1
  stops_faulty (log.Refused v (delta.Unsupported feature line)) version is stops = refused v (delta.Unsupported feature line) version (ok_once v version is) tt stops.1
  stops_faulty (log.Refused v (delta.Limit which)) version is stops = absurd (err_ok version _ is)

  pub told_here : HasVersion files newest → (source : Kind) (error : LogError) (seen : Seen DeltaKept) (P : DeltaKept → Type 0) → IsLogRefusal files last error → IsToldOf error seen → IsSeen (Reads files) (IsForeign source files) view_of P source seen
  told_here there source error Absent P stops told = absurd told
  told_here there source error (Ours kept) P stops told = absurd told
  told_here there source error (Foreign path) P stops told =
      let at = stops_faulty error told.0 told.1 stops in
      inr (inl (record { version = told.0; named = told.2; base = at.0; log = at.2; later = newest; within = (let within = at.1 in omega (arith, within, upto)); there = there; faulty = at.3 }))

  pub told_all : HasVersion files newest → (source : Kind) (error : LogError) (P : DeltaKept → Type 0) → IsLogRefusal files last error → (r : Result (Seen DeltaKept) TargetError) → IfOk r (IsToldOf error)
      → IfOk r (IsSeen (Reads files) (IsForeign source files) view_of P source)
  told_all there source error P stops (Ok seen) told = told_here there source error seen P stops told
  told_all there source error P stops (Err e) told = tt

  -- ---- the target's refusal

  -- a version that is read and passes a number
  crowded_at : (which : LimitKind) (number : ℕ) (version : ℕ) (base : Option Table) → version ≤ last → IsReadLog files version base → PassesIn files version base which number → IsCrowded files which number
  crowded_at which number version base within read passes = inr (inr (version, base, omega (arith, within, few), read, passes))

  pub refusal_here : (error : LogError) (e : TargetError) → IsLogRefusal files last error → IsRefusalOf error e → IsInspectRefusal (IsCrowded files) e
  refusal_here error e stops (inl memory) = subst (IsInspectRefusal (IsCrowded files)) (sym memory) tt
  refusal_here log.Memory e stops (inr is) = subst (IsInspectRefusal (IsCrowded files)) (err_once _ e is) tt
  refusal_here log.StoreFault e stops (inr is) = subst (IsInspectRefusal (IsCrowded files)) (err_once _ e is) tt
  refusal_here log.ManyNames e stops (inr is) = absurd stops
  refusal_here log.ManyCommits e stops (inr is) = absurd (omega (arith, stops, few))
  refusal_here (log.Missing v) e stops (inr is) = absurd (ok_err v e is)
  refusal_here (log.Large v) e stops (inr is) = subst (IsInspectRefusal (IsCrowded files)) (err_once _ e is) (crowded_at limit.File MAX_FILE_BYTES stops.1.0 stops.1.1 stops.1.2 stops.1.3 (inl (refl, refl, stops.1.4.1)))
  refusal_here (log.Refused v delta.Memory) e stops (inr is) = subst (IsInspectRefusal (IsCrowded files)) (err_once _ e is) tt
  refusal_here (log.Refused v (delta.Malformed line)) e stops (inr is) = absurd (ok_err v e is)
  refusal_here (log.Refused v (delta.DoublePath line)) e stops (inr is) = absurd (ok_err v e is)
  refusal_here (log.Refused v (delta.Unsupported feature line)) e stops (inr is) = absurd (ok_err v e is)
  refusal_here (log.Refused v (delta.Limit which)) e stops (inr is) = subst (IsInspectRefusal (IsCrowded files)) (err_once _ e is) (crowded_at which (limit_number Delta which) stops.1.0 stops.1.1 stops.1.2 stops.1.3 (inr (refl, stops.1.4.1)))

  pub refusal_all : (error : LogError) → IsLogRefusal files last error → (r : Result (Seen DeltaKept) TargetError) → IfErr r (IsRefusalOf error) → IfErr r (IsInspectRefusal (IsCrowded files))
  refusal_all error stops (Ok seen) refused = tt
  refusal_all error stops (Err e) refused = refusal_here error e stops refused
