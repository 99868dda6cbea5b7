-- Which refusals have a cause.
use Rattle.std.proofs.Common.{Result, Ok, Err}
use Rattle.std.specs.Prelude.{IfErr}
use Rattle.lake_sweep.specs.Refusals.{HasCause}
use Rattle.lake_sweep.specs.Removing.{IsEarly}
use Rattle.lake_sweep.specs.declared.error.SweepError.{SweepError}
use Rattle.lake_sweep.specs.declared.error.SweepError.TheVariants.{Foreign, Limit, Memory, StoreFault}

-- what has a cause has a weaker one
pub cause_weaker : (P Q : SweepError → Type 0) → ((e : SweepError) → P e → Q e) → (e : SweepError) → HasCause P e → HasCause Q e
cause_weaker P Q so Memory h = tt
cause_weaker P Q so StoreFault h = tt
cause_weaker P Q so (Foreign path) h = so (Foreign path) h
cause_weaker P Q so (Limit which number) h = so (Limit which number) h

pub refused_weaker : {A : Type 0} (P Q : SweepError → Type 0) → ((e : SweepError) → P e → Q e) → (r : Result A SweepError) → IfErr r (HasCause P) → IfErr r (HasCause Q)
refused_weaker P Q so (Ok x) h = tt
refused_weaker P Q so (Err e) h = cause_weaker P Q so e h

-- a refusal without a cause doesn't come early
pub not_early : (e : SweepError) → HasCause (λ (other : SweepError). ⊥) e → IsEarly e → ⊥
not_early Memory h early = early
not_early StoreFault h early = early
not_early (Foreign path) h early = h
not_early (Limit which number) h early = h
