-- What is removed in its turn is loose, and at the end no leftover is left.
use Rattle.std.proofs.Common.{◌≡◌, ◌⊎◌, inl, inr, ⊎_elim, ℕ, false, List, ◌∷◌, ◌++◌, Contains, Some, refl, sym, ap, subst, ◌∙◌}
use Rattle.std.specs.Prelude.{is_some}
use Rattle.std.specs.FinMap as map
use Rattle.std.proofs.lemmas.Bool.{cases_Bool, false≢true}
use Rattle.std.proofs.lemmas.List.Elements.{Contains-append_left, Contains-append_right, Contains-append_cases}
use Rattle.lake_store.specs.Disk.{Files}
use Rattle.table_history.proofs.RowListLemmas.{Contains-cases, Contains-head}
use Rattle.table_history.specs.declared.kind.Kind.{Kind}
use Rattle.table_history.specs.declared.kind.Kind.TheVariants.{Delta, Hudi, Iceberg}
use Rattle.hudi_names.specs.Time.{IsDigits}
use Rattle.hudi_commit.specs.Names.{IsThere, Stage, claim_path, completed_path, pending_path}
use Rattle.hudi_commit.proofs.NameLaws.{completed_stays, name_of, name_of-claim, name_of-pending}
use Rattle.hudi_commit.proofs.OrderlyLaws.{there, there_none}
use Rattle.target_leftovers.specs.Leftovers.{IsHudiLeftover, IsLeftover, IsLeftoverOf}
use Rattle.target_leftovers.specs.Loose.{IsFree, IsLoose}
use Rattle.target_leftovers.specs.Reached.{IsReached}
use Rattle.target_leftovers.proofs.ReachedLaws.{reached_of_fewer, reached_stays}
use Rattle.lake_sweep.specs.Order.{AreInOrder, IsRemovedBefore}
use Rattle.lake_sweep.specs.Plan.{IsPlan}
use Rattle.lake_sweep.specs.Removing.{AreGone}
use Rattle.lake_sweep.proofs.Lists.{in_list, order_after, order_before}
use Rattle.lake_sweep.proofs.PartLaws.{claim_not_before, not_removed_before}

-- what is gone isn't there, and what is there was there
module _ (xs : List (List ℕ)) (files after : Files) (gone : AreGone xs files after) where
  pub was_there : (q : List ℕ) → IsThere after q → IsThere files q
  was_there q found = ⊎_elim
      (λ within. there_none after q found (gone.gone q within))
      (λ lacks. there after files q (sym (gone.others q lacks)) found)
      (in_list xs q)

  pub is_kept : (q : List ℕ) → ¬ Contains xs q → IsThere files q → IsThere after q
  is_kept q lacks found = there files after q (gone.others q lacks) found

  held_before : (q bytes : List ℕ) → map.get after q ≡ Some bytes → map.get files q ≡ Some bytes
  held_before q bytes holds = ⊎_elim
      (λ within. absurd (there_none {A = ⊥} after q (ap is_some holds) (gone.gone q within)))
      (λ lacks. sym (gone.others q lacks) ∙ holds)
      (in_list xs q)

  pub reached_before : (q : List ℕ) → IsReached after q → IsReached files q
  reached_before q h = reached_of_fewer files after held_before was_there q h

-- a completed file is no leftover
completed_kept : (files : Files) (t : List ℕ) → IsDigits t → IsHudiLeftover files (completed_path t) → ⊥
completed_kept files t digits (IsHudiLeftover.properties is) = completed_stays t digits (inl is)
completed_kept files t digits (IsHudiLeftover.claim h) = completed_stays t digits (inr (inl (h.instant, h.digits, h.is)))
completed_kept files t digits (IsHudiLeftover.pending h) = completed_stays t digits (inr (inr (h.stage, h.instant, h.digits, h.is)))

claim_not_pending : (stage : Stage) (s t : List ℕ) → IsDigits s → IsDigits t → claim_path s ≡ pending_path stage t → ⊥
claim_not_pending stage s t is_s is_t same = cc (sym (name_of-claim s is_s) ∙ ap name_of same ∙ name_of-pending stage t is_t)

-- ---- in its turn

module _ (kind : Kind) (files : Files) (paths front : List (List ℕ)) (p : List ℕ) (behind : List (List ℕ)) (plan : IsPlan kind files paths) (split : paths ≡ front ++ p ∷ behind) (mid : Files) (gone : AreGone front files mid) where
  in_paths : Contains paths p
  in_paths = subst (λ (l : List (List ℕ)). Contains l p) (sym split) (Contains-append_right front (p ∷ behind) p (Contains-head p behind))

  planned : IsLeftover kind files p
  planned = (plan.members p).0 in_paths

  order_of : (q : List ℕ) → Contains front q → IsRemovedBefore kind q p
  order_of q within = order_before (IsRemovedBefore kind) front p behind (subst (λ (l : List (List ℕ)). AreInOrder (IsRemovedBefore kind) l) split plan.order) q within

  not_yet : Contains front p → ⊥
  not_yet within = not_removed_before kind p (order_of p within)

  there_still : IsThere mid p
  there_still = is_kept front files mid gone p not_yet planned.there

module _ (files : Files) (paths front : List (List ℕ)) (p : List ℕ) (behind : List (List ℕ)) (plan : IsPlan Hudi files paths) (split : paths ≡ front ++ p ∷ behind) (mid : Files) (gone : AreGone front files mid) where
  -- a claim isn't removed before the pending names of its instant
  claim_still : (stage : Stage) (t : List ℕ) → IsDigits t → p ≡ pending_path stage t → IsThere files (claim_path t) → IsThere mid (claim_path t)
  claim_still stage t digits is found = is_kept front files mid gone (claim_path t)
      (λ within. claim_not_before stage t digits (subst (λ (q : List ℕ). IsRemovedBefore Hudi (claim_path t) q) is (order_of Hudi files paths front p behind plan split mid gone (claim_path t) within)))
      found

  pending_gone : (stage : Stage) (t : List ℕ) → IsDigits t → p ≡ claim_path t → ¬ IsThere files (completed_path t) → IsThere mid (pending_path stage t) → ⊥
  pending_gone stage t digits is lacking found =
      let q = pending_path stage t in
      let claimed : IsThere files (claim_path t) = subst (λ (r : List ℕ). IsThere files r) is (planned Hudi files paths front p behind plan split mid gone).there in
      let leftover : IsLeftover Hudi files q = record {
        there = was_there front files mid gone q found;
        leftover = IsHudiLeftover.pending (record { stage = stage; instant = t; digits = digits; is = refl; claimed = claimed; lacking = lacking });
      } in
      ⊎_elim
      (λ (within : Contains front q). there_none mid q found (gone.gone q within))
      (λ (rest : Contains (p ∷ behind) q). ⊎_elim
      (λ (same : p ≡ q). claim_not_pending stage t t digits digits (sym is ∙ same))
      (λ (later : Contains behind q). claim_not_before stage t digits (subst (λ (r : List ℕ). IsRemovedBefore Hudi r q) is
      (order_after (IsRemovedBefore Hudi) front p behind (subst (λ (l : List (List ℕ)). AreInOrder (IsRemovedBefore Hudi) l) split plan.order) q later)))
      (Contains-cases p behind q rest))
      (Contains-append_cases front (p ∷ behind) q (subst (λ (l : List (List ℕ)). Contains l q) split ((plan.members q).1 leftover)))

  completed_still : (t : List ℕ) → IsDigits t → IsThere files (completed_path t) → IsThere mid (completed_path t)
  completed_still t digits found = is_kept front files mid gone (completed_path t)
      (λ within. completed_kept files t digits ((plan.members (completed_path t)).0 (subst (λ (l : List (List ℕ)). Contains l (completed_path t)) (sym split) (Contains-append_left front (p ∷ behind) (completed_path t) within))).leftover)
      found

  free_now : IsFree Hudi mid p
  free_now t digits is = ⊎_elim
      (λ (yes : IsThere files (completed_path t)). inl (completed_still t digits yes))
      (λ (lacks : is_some (map.get files (completed_path t)) ≡ false). inr (λ stage. pending_gone stage t digits is (λ found. false≢true (sym lacks ∙ found))))
      (cases_Bool (is_some (map.get files (completed_path t))))

  hudi_leftover : IsHudiLeftover files p → IsHudiLeftover mid p
  hudi_leftover (IsHudiLeftover.properties is) = IsHudiLeftover.properties is
  hudi_leftover (IsHudiLeftover.claim h) = IsHudiLeftover.claim h
  hudi_leftover (IsHudiLeftover.pending h) = IsHudiLeftover.pending (record {
    stage = h.stage;
    instant = h.instant;
    digits = h.digits;
    is = h.is;
    claimed = claim_still h.stage h.instant h.digits h.is h.claimed;
    lacking = λ found. h.lacking (was_there front files mid gone (completed_path h.instant) found);
  })

pub loose_now : (kind : Kind) (files : Files) (paths front : List (List ℕ)) (p : List ℕ) (behind : List (List ℕ)) → IsPlan kind files paths → paths ≡ front ++ p ∷ behind → (mid : Files) → AreGone front files mid → IsLoose kind mid p
loose_now Delta files paths front p behind plan split mid gone = record {
  leftover = record { there = there_still Delta files paths front p behind plan split mid gone; leftover = (planned Delta files paths front p behind plan split mid gone).leftover };
  free = tt;
}
loose_now Iceberg files paths front p behind plan split mid gone =
    let h = (planned Iceberg files paths front p behind plan split mid gone).leftover in
    record {
      leftover = record {
        there = there_still Iceberg files paths front p behind plan split mid gone;
        leftover = record { name = h.name; named = h.named; is = h.is; unreached = λ reached. h.unreached (reached_before front files mid gone p reached) };
      };
      free = tt;
    }
loose_now Hudi files paths front p behind plan split mid gone = record {
  leftover = record {
    there = there_still Hudi files paths front p behind plan split mid gone;
    leftover = hudi_leftover files paths front p behind plan split mid gone (planned Hudi files paths front p behind plan split mid gone).leftover;
  };
  free = free_now files paths front p behind plan split mid gone;
}

-- ---- at the end

module _ (files after : Files) (paths : List (List ℕ)) where
  still_reached : IsPlan Iceberg files paths → AreGone paths files after → (q : List ℕ) → IsReached files q → IsReached after q
  still_reached plan gone q h = reached_stays files after (λ r reached. gone.others r (λ within. ((plan.members r).0 within).leftover.unreached reached)) q h

  hudi_before : IsPlan Hudi files paths → AreGone paths files after → (q : List ℕ) → IsHudiLeftover after q → IsHudiLeftover files q
  hudi_before plan gone q (IsHudiLeftover.properties is) = IsHudiLeftover.properties is
  hudi_before plan gone q (IsHudiLeftover.claim h) = IsHudiLeftover.claim h
  hudi_before plan gone q (IsHudiLeftover.pending h) =
      let claim : IsLeftover Hudi files (claim_path h.instant) = record {
        there = was_there paths files after gone (claim_path h.instant) h.claimed;
        leftover = IsHudiLeftover.claim (record { instant = h.instant; digits = h.digits; is = refl });
      } in
      absurd (there_none {A = ⊥} after (claim_path h.instant) h.claimed (gone.gone (claim_path h.instant) ((plan.members (claim_path h.instant)).1 claim)))

  leftover_before : (kind : Kind) → IsPlan kind files paths → AreGone paths files after → (q : List ℕ) → IsLeftoverOf kind after q → IsLeftoverOf kind files q
  leftover_before Delta plan gone q h = h
  leftover_before Iceberg plan gone q h = record { name = h.name; named = h.named; is = h.is; unreached = λ reached. h.unreached (still_reached plan gone q reached) }
  leftover_before Hudi plan gone q h = hudi_before plan gone q h

  pub none_left : (kind : Kind) → IsPlan kind files paths → AreGone paths files after → (q : List ℕ) → IsLeftover kind after q → ⊥
  none_left kind plan gone q h =
      let before : IsLeftover kind files q = record { there = was_there paths files after gone q h.there; leftover = leftover_before kind plan gone q h.leftover } in
      there_none after q h.there (gone.gone q ((plan.members q).1 before))
