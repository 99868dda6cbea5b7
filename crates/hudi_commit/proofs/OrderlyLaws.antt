-- What orderly files have, and that they are read alike.
use Rattle.std.proofs.Common.{◌≡◌, ℕ, List, sym, ◌∙◌, ap, subst}
use Rattle.std.specs.Prelude.{None, is_some}
use Rattle.std.specs.FinMap as map
use Rattle.lake_store.specs.Disk.{Files}
use Rattle.hudi_names.specs.Time.{IsDigits, IsSomeTime}
use Rattle.hudi_names.specs.declared.name.State.TheVariants.{Completed}
use Rattle.hudi_commit.specs.Names.{IsThere, Stage, completed_name, completed_path, pending_name, pending_path, properties_path, timeline_path}
use Rattle.hudi_commit.specs.Orderly.{IsAtFault, IsFaultless, IsOrderly, IsReadAlike, IsSameTimeline, LacksProperties}
use Rattle.hudi_commit.proofs.NameLaws.{completed_instant, completed_is_name, not_completed, pending_instant, pending_is_name, same_instant, state_of}

-- what is there in one is there in the other
pub there : (a b : Files) (path : List ℕ) → map.get b path ≡ map.get a path → IsThere a path → IsThere b path
there a b path same is = ap is_some same ∙ is

pub there_none : {A : Type 0} (files : Files) (q : List ℕ) → IsThere files q → map.get files q ≡ None → A
there_none files q found none = absurd (cc (sym found ∙ ap is_some none))

module _ (files : Files) (orderly : IsOrderly files) where
  pub orderly_real : (s : Stage) (t : List ℕ) → IsDigits t → IsThere files (pending_path s t) → IsSomeTime t
  orderly_real s t is found =
      let real = orderly.pending (state_of s) (pending_name s t) (not_completed s) (pending_is_name s t is) (pending_instant s t is) found in
      subst IsSomeTime (same_instant s real.0 t real.1 is real.2.1.digits real.3) real.2

  pub orderly_properties : (s : Stage) (t : List ℕ) → IsDigits t → IsThere files (pending_path s t) → IsThere files properties_path
  orderly_properties s t is = orderly.properties (state_of s) (pending_name s t) (pending_is_name s t is) (pending_instant s t is)

  pub completed_properties : (t : List ℕ) → IsDigits t → IsThere files (completed_path t) → IsThere files properties_path
  completed_properties t is = orderly.properties Completed (completed_name t) (completed_is_name t is) (completed_instant t is)

  no_fault : (name : List ℕ) → IsAtFault files name → ⊥
  no_fault name fault =
      let real = orderly.pending fault.0 name fault.1 fault.2 fault.3 fault.4 in
      fault.5 real.0 real.1 real.2 real.3 (orderly.claimed real.0 real.1 real.2.1.digits (subst (λ n. IsThere files (timeline_path n)) real.3 fault.4))

  lacks_none : LacksProperties files → ⊥
  lacks_none lacks = lacks.5 (orderly.properties lacks.0 lacks.1 lacks.2 lacks.3 lacks.4)

  pub faultless : IsFaultless files
  faultless = record { instants = no_fault; properties = lacks_none }

alike : (a b : Files) → IsOrderly a → IsOrderly b → IsSameTimeline a b → IsReadAlike a b
alike a b orderly_a orderly_b same = record {
  timeline = same;
  faults = λ name. ((λ fault. absurd (no_fault a orderly_a name fault)), (λ fault. absurd (no_fault b orderly_b name fault)));
  lacks = ((λ lacks. absurd (lacks_none a orderly_a lacks)), (λ lacks. absurd (lacks_none b orderly_b lacks)));
}

-- the reading lemma
pub read_alike : (a b : Files) → IsOrderly a → IsOrderly b → IsSameTimeline a b → IsReadAlike a b × IsFaultless a × IsFaultless b
read_alike a b orderly_a orderly_b same = (alike a b orderly_a orderly_b same, faultless a orderly_a, faultless b orderly_b)
