-- Which leftovers a commit may change.
use Rattle.std.proofs.Common.{◌≡◌, inl, inr, ⊎_elim, ℕ, List, refl, sym, ◌∙◌}
use Rattle.std.specs.Prelude.{Option, None, Some, option_map}
use Rattle.std.specs.FinMap as map
use Rattle.lake_store.specs.Disk.{Files}
use Rattle.hudi_names.specs.Time.{IsDigits, IsSomeTime}
use Rattle.hudi_commit.specs.Names.{IsLeftover, IsOf, IsOpenLeftover, IsThere, Stage, StaysOrGoes, completed_path, pending_path}
use Rattle.hudi_commit.specs.Runs.{IsNotOf, IsNotOpen}
use Rattle.hudi_commit.proofs.NameLaws.{completed_stays}
use Rattle.hudi_commit.proofs.OrderlyLaws.{there, there_none}

module _ (files : Files) (q : List ℕ) where
  abbrev Open : Type 0
  Open = (t : List ℕ) × IsSomeTime t × (IsThere files (completed_path t) → ⊥) × IsOf t q

  pub open_leftover : IsOpenLeftover files q → IsLeftover q
  open_leftover = ⊎_elim inl (λ (o : Open). ⊎_elim
      (λ c. inr (inl (o.0, o.1.1.digits, c)))
      (λ (p : (s : Stage) × (q ≡ pending_path s o.0)). inr (inr (p.0, o.0, o.1.1.digits, p.1))) o.3)

  -- an instant that isn't completed may change
  pub not_of : (t : List ℕ) → IsSomeTime t → map.get files (completed_path t) ≡ None → IsNotOpen files q → IsNotOf t q
  not_of t real none free of = free (inr (t, real, (λ found. there_none files (completed_path t) found none), of))

  -- where the same instants are completed
  module _ (other : Files) (same : (t : List ℕ) → IsDigits t → map.get other (completed_path t) ≡ map.get files (completed_path t)) where
    open_before : IsOpenLeftover other q → IsOpenLeftover files q
    open_before = ⊎_elim inl
        (λ (o : (t : List ℕ) × IsSomeTime t × (IsThere other (completed_path t) → ⊥) × IsOf t q). inr (o.0, o.1, (λ done. o.2 (there files other (completed_path o.0) (same o.0 o.1.1.digits) done)), o.3))

    pub open_same : IsNotOpen files q → IsNotOpen other q
    open_same free open_ = free (open_before open_)

    -- one run behind another
    pub stays_then : (last : Files) → StaysOrGoes files other q → StaysOrGoes other last q → StaysOrGoes files last q
    stays_then last (inl one) (inl two) = inl (two ∙ one)
    stays_then last (inr gone) (inl two) = inr (gone.0, two ∙ gone.1)
    stays_then last one (inr gone) = inr (open_before gone.0, gone.1)

pub completed_not_open : (files : Files) (t : List ℕ) → IsDigits t → IsNotOpen files (completed_path t)
completed_not_open files t is leftover = completed_stays t is (open_leftover files (completed_path t) leftover)

-- a part is read of no file where there is none
pub read_none : (f : List ℕ → List ℕ) (part o : Option (List ℕ)) → part ≡ option_map f o → part ≡ None → o ≡ None
read_none f part None is none = refl
read_none f part (Some x) is none = absurd (cc (sym none ∙ is))
