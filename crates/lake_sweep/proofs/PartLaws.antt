-- The parts of a Hudi instant are told apart by their paths, and none comes before itself.
use Rattle.std.proofs.Common.{◌≡◌, inl, inr, ℕ, List, refl, sym, ap, subst, ◌∙◌}
use Rattle.std.specs.Ordering.{is_eq}
use Rattle.lake_store.proofs.DiskLaws.{path_here}
use Rattle.table_history.specs.declared.kind.Kind.{Kind}
use Rattle.table_history.specs.declared.kind.Kind.TheVariants.{Delta, Hudi, Iceberg}
use Rattle.hudi_names.specs.Time.{IsDigits}
use Rattle.hudi_commit.specs.Names.{Inflight, Requested, Stage, claim_path, pending_path, staged_properties_path}
use Rattle.hudi_commit.proofs.NameLaws.{Claim, Name, Pending, StagedProperties, name_of, name_of-claim, name_of-pending, name_of-staged_properties}
use Rattle.lake_sweep.specs.Order.{IsBeforeInTimeline, IsEarlierPart, IsLess, IsPartAt, IsRemovedBefore, OfClaim, OfInflight, OfRequested, Part, path_of_part}

pub not_less : (a : List ℕ) → IsLess a a → ⊥
not_less a less = cc (sym (path_here a) ∙ ap is_eq less)

abbrev name_of_part : Part → List ℕ → Name
name_of_part OfInflight instant = Pending Inflight instant
name_of_part OfRequested instant = Pending Requested instant
name_of_part OfClaim instant = Claim instant

named : (part : Part) (instant : List ℕ) → IsDigits instant → name_of (path_of_part part instant) ≡ name_of_part part instant
named OfInflight instant digits = name_of-pending Inflight instant digits
named OfRequested instant digits = name_of-pending Requested instant digits
named OfClaim instant digits = name_of-claim instant digits

same_name : (p q : Part) (s t : List ℕ) → name_of_part p s ≡ name_of_part q t → (p ≡ q) × (s ≡ t)
same_name OfInflight OfInflight s t e = (refl, cc e)
same_name OfInflight OfRequested s t e = absurd (cc e)
same_name OfInflight OfClaim s t e = absurd (cc e)
same_name OfRequested OfInflight s t e = absurd (cc e)
same_name OfRequested OfRequested s t e = (refl, cc e)
same_name OfRequested OfClaim s t e = absurd (cc e)
same_name OfClaim OfInflight s t e = absurd (cc e)
same_name OfClaim OfRequested s t e = absurd (cc e)
same_name OfClaim OfClaim s t e = (refl, cc e)

-- a path is one part of one instant
pub same_part : (a : List ℕ) (one other : IsPartAt a) → (one.part ≡ other.part) × (one.instant ≡ other.instant)
same_part a one other = same_name one.part other.part one.instant other.instant
    (sym (named one.part one.instant one.digits) ∙ ap name_of (sym one.is ∙ other.is) ∙ named other.part other.instant other.digits)

pub not_staged : (a : List ℕ) → IsPartAt a → a ≡ staged_properties_path → ⊥
not_staged a one is = other one.part (sym (named one.part one.instant one.digits) ∙ ap name_of (sym one.is ∙ is) ∙ name_of-staged_properties)
  where
    other : (p : Part) → name_of_part p one.instant ≡ StagedProperties → ⊥
    other OfInflight e = cc e
    other OfRequested e = cc e
    other OfClaim e = cc e

not_earlier : (p : Part) → IsEarlierPart p p → ⊥
not_earlier OfInflight e = e
not_earlier OfRequested e = e
not_earlier OfClaim e = e

pub part_of_stage : Stage → Part
part_of_stage Inflight = OfInflight
part_of_stage Requested = OfRequested

pub pending_part : (stage : Stage) (instant : List ℕ) → IsDigits instant → IsPartAt (pending_path stage instant)
pending_part Inflight instant digits = record { part = OfInflight; instant = instant; digits = digits; is = refl }
pending_part Requested instant digits = record { part = OfRequested; instant = instant; digits = digits; is = refl }

pub claim_part : (instant : List ℕ) → IsDigits instant → IsPartAt (claim_path instant)
claim_part instant digits = record { part = OfClaim; instant = instant; digits = digits; is = refl }

pending_instant : (stage : Stage) (instant : List ℕ) (digits : IsDigits instant) → (pending_part stage instant digits).instant ≡ instant
unfolding pending_part
pending_instant Inflight instant digits = refl
pending_instant Requested instant digits = refl

-- a path doesn't come before itself
pub not_before_itself : (a : List ℕ) → IsBeforeInTimeline a a → ⊥
not_before_itself a (one, inl is) = not_staged a one is
not_before_itself a (one, inr (other, inl less)) = not_less one.instant (subst (λ (t : List ℕ). IsLess one.instant t) (sym (same_part a one other).1) less)
not_before_itself a (one, inr (other, inr (same, earlier))) = not_earlier one.part (subst (λ (p : Part). IsEarlierPart one.part p) (sym (same_part a one other).0) earlier)

pub not_removed_before : (kind : Kind) (a : List ℕ) → IsRemovedBefore kind a a → ⊥
not_removed_before Delta a h = not_less a h
not_removed_before Iceberg a h = not_less a h
not_removed_before Hudi a h = not_before_itself a h

-- nor does a claim come before the pending names of its instant
pub claim_not_before : (stage : Stage) (instant : List ℕ) → IsDigits instant → IsBeforeInTimeline (claim_path instant) (pending_path stage instant) → ⊥
unfolding claim_part
claim_not_before stage instant digits (one, inl is) = not_staged (pending_path stage instant) (pending_part stage instant digits) is
claim_not_before stage instant digits (one, inr (other, inl less)) =
    let first = same_part (claim_path instant) one (claim_part instant digits) in
    let second = same_part (pending_path stage instant) other (pending_part stage instant digits) in
    not_less instant (subst (λ (t : List ℕ). IsLess instant t) (second.1 ∙ pending_instant stage instant digits) (subst (λ (s : List ℕ). IsLess s other.instant) first.1 less))
claim_not_before stage instant digits (one, inr (other, inr (same, earlier))) =
    let first = same_part (claim_path instant) one (claim_part instant digits) in
    let none : IsEarlierPart OfClaim other.part = subst (λ (p : Part). IsEarlierPart p other.part) first.0 earlier in
    none
