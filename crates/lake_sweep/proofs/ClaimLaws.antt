-- What the claims of a Hudi timeline leave, one after the other.
use Rattle.std.proofs.Common.{◌≡◌, ◌⊎◌, inl, inr, ⊎_elim, ℕ, ◌+◌, ◌<◌, ◌≤◌, List, [], ◌∷◌, ◌++◌, length, take, get_or, Contains, refl, sym, subst}
use Rattle.std.specs.Cmp.Lexicographic.{slice_cmp}
use Rattle.std.specs.List.Sorted.{IsStrictlySortedBy}
use Rattle.std.specs.Ordering.{nat_cmp}
use Rattle.std.proofs.lemmas.List.{take_all}
use Rattle.std.proofs.lemmas.List.Elements.{Contains-append_left, Contains-push, Contains-push_cases}
use Rattle.lake_store.specs.Disk.{Files, names_in}
use Rattle.lake_store.proofs.OrderLaws.{names_in_listed}
use Rattle.table_history.proofs.RowListLemmas.{Contains-none}
use Rattle.table_history.specs.declared.kind.Kind.TheVariants.{Hudi}
use Rattle.hudi_names.specs.Time.{IsDigits}
use Rattle.hudi_commit.specs.Names.{Inflight, IsThere, Requested, Stage, claim_path, claims_folder, completed_path, pending_path, staged_properties_path}
use Rattle.target_leftovers.specs.Leftovers.{IsHudiLeftover, IsLeftover}
use Rattle.target_leftovers.proofs.ProperLaws.{claim_is_proper}
use Rattle.lake_sweep.specs.Order.{AreInOrder, IsBeforeInTimeline, IsEarlierPart, IsLess, IsPartAt, OfClaim, OfInflight, OfRequested, Part, path_of_part}
use Rattle.lake_sweep.specs.Picking.{AreParts, IsPartOf, IsWithClaim, IsWithFile, IsWithPending}
use Rattle.lake_sweep.specs.Plan.{IsPlan}
use Rattle.lake_sweep.proofs.Lists.{order_push}
use Rattle.lake_sweep.proofs.PickLaws.{less_before}
use Rattle.lake_basics.proofs.Lists.{last_of}

-- each of these paths comes before this part of the instant
abbrev AreBefore : List ℕ → Part → List (List ℕ) → Type 0
AreBefore name r xs = (y : List ℕ) → Contains xs y → (one : IsPartAt y) × (IsLess one.instant name ⊎ ((one.instant ≡ name) × IsEarlierPart one.part r))

module _ (files : Files) (name : List ℕ) (digits : IsDigits name) where
  part_at : (r : Part) → IsPartAt (path_of_part r name)
  part_at r = record { part = r; instant = name; digits = digits; is = refl }

  pushed_order : (r : Part) (xs : List (List ℕ)) → AreBefore name r xs → AreInOrder IsBeforeInTimeline xs → AreInOrder IsBeforeInTimeline (xs ++ path_of_part r name ∷ [])
  pushed_order r xs before order = order_push IsBeforeInTimeline xs (path_of_part r name) order (λ y within.
      let h = before y within in (h.0, inr (record { part = r; instant = name; digits = digits; is = refl }, h.1)))

  pushed_before : (p r : Part) (xs : List (List ℕ)) → IsEarlierPart p r → AreBefore name r xs → AreBefore name r (xs ++ path_of_part p name ∷ [])
  pushed_before p r xs earlier before y within = ⊎_elim
      (λ was. before y was)
      (λ (same : path_of_part p name ≡ y). (record { part = p; instant = name; digits = digits; is = sym same }, inr (refl, earlier)))
      (Contains-push_cases xs (path_of_part p name) y within)

  module _ (p : Part) (xs ys : List (List ℕ)) where
    with_order : AreBefore name p xs → AreInOrder IsBeforeInTimeline xs → IsWithFile files (path_of_part p name) xs ys → AreInOrder IsBeforeInTimeline ys
    with_order before order (inl h) = subst (λ (l : List (List ℕ)). AreInOrder IsBeforeInTimeline l) (sym h.1) (pushed_order p xs before order)
    with_order before order (inr h) = subst (λ (l : List (List ℕ)). AreInOrder IsBeforeInTimeline l) (sym h.1) order

    with_before : (r : Part) → IsEarlierPart p r → AreBefore name r xs → IsWithFile files (path_of_part p name) xs ys → AreBefore name r ys
    with_before r earlier before (inl h) = subst (λ (l : List (List ℕ)). AreBefore name r l) (sym h.1) (pushed_before p r xs earlier before)
    with_before r earlier before (inr h) = subst (λ (l : List (List ℕ)). AreBefore name r l) (sym h.1) before

-- what a file more makes of the paths
module _ (files : Files) (p : List ℕ) (xs ys : List (List ℕ)) where
  pub with_from : IsWithFile files p xs ys → (q : List ℕ) → Contains ys q → Contains xs q ⊎ ((q ≡ p) × IsThere files p)
  with_from (inl h) q within = ⊎_elim inl (λ (same : p ≡ q). inr (sym same, h.0)) (Contains-push_cases xs p q (subst (λ (l : List (List ℕ)). Contains l q) h.1 within))
  with_from (inr h) q within = inl (subst (λ (l : List (List ℕ)). Contains l q) h.1 within)

  pub with_old : IsWithFile files p xs ys → (q : List ℕ) → Contains xs q → Contains ys q
  with_old (inl h) q within = subst (λ (l : List (List ℕ)). Contains l q) (sym h.1) (Contains-append_left xs (p ∷ []) q within)
  with_old (inr h) q within = subst (λ (l : List (List ℕ)). Contains l q) (sym h.1) within

  pub with_new : IsWithFile files p xs ys → IsThere files p → Contains ys p
  with_new (inl h) found = subst (λ (l : List (List ℕ)). Contains l p) (sym h.1) (Contains-push xs p)
  with_new (inr h) found = absurd (h.0 found)

-- ---- one claim

module _ (files : Files) (name : List ℕ) (digits : IsDigits name) (xs ys : List (List ℕ)) where
  pending_order : ((r : Part) → AreBefore name r xs) → AreInOrder IsBeforeInTimeline xs → IsWithPending files name xs ys → AreInOrder IsBeforeInTimeline ys × AreBefore name OfClaim ys
  pending_order before order (inl h) = (subst (λ (l : List (List ℕ)). AreInOrder IsBeforeInTimeline l) (sym h.1) order, subst (λ (l : List (List ℕ)). AreBefore name OfClaim l) (sym h.1) (before OfClaim))
  pending_order before order (inr (lacking, (middle, first, second))) = (
    with_order files name digits OfRequested middle ys (with_before files name digits OfInflight xs middle OfRequested tt (before OfRequested) first) (with_order files name digits OfInflight xs middle (before OfInflight) order first) second,
    with_before files name digits OfRequested middle ys OfClaim tt (with_before files name digits OfInflight xs middle OfClaim tt (before OfClaim) first) second,
  )

  pending_from : IsWithPending files name xs ys → (q : List ℕ) → Contains ys q → Contains xs q ⊎ IsPartOf files name q
  pending_from (inl h) q within = inl (subst (λ (l : List (List ℕ)). Contains l q) h.1 within)
  pending_from (inr (lacking, (middle, first, second))) q within = ⊎_elim
      (λ early. ⊎_elim inl
      (λ (h : (q ≡ pending_path Inflight name) × IsThere files (pending_path Inflight name)). inr (digits, inr (Inflight, h.0, subst (λ (p : List ℕ). IsThere files p) (sym h.0) h.1, lacking)))
      (with_from files (pending_path Inflight name) xs middle first q early))
      (λ (h : (q ≡ pending_path Requested name) × IsThere files (pending_path Requested name)). inr (digits, inr (Requested, h.0, subst (λ (p : List ℕ). IsThere files p) (sym h.0) h.1, lacking)))
      (with_from files (pending_path Requested name) middle ys second q within)

  pending_old : IsWithPending files name xs ys → (q : List ℕ) → Contains xs q → Contains ys q
  pending_old (inl h) q within = subst (λ (l : List (List ℕ)). Contains l q) (sym h.1) within
  pending_old (inr (lacking, (middle, first, second))) q within = with_old files (pending_path Requested name) middle ys second q (with_old files (pending_path Inflight name) xs middle first q within)

  pending_new : IsWithPending files name xs ys → ¬ IsThere files (completed_path name) → (stage : Stage) → IsThere files (pending_path stage name) → Contains ys (pending_path stage name)
  pending_new (inl h) lacking stage found = absurd (lacking h.0)
  pending_new (inr (_, (middle, first, second))) lacking Inflight found = with_old files (pending_path Requested name) middle ys second (pending_path Inflight name) (with_new files (pending_path Inflight name) xs middle first found)
  pending_new (inr (_, (middle, first, second))) lacking Requested found = with_new files (pending_path Requested name) middle ys second found

-- ---- all claims

pub no_parts : (files : Files) → AreParts files [] []
no_parts files = record { members = λ q. (λ none. absurd (Contains-none q none), λ h. absurd (Contains-none h.0 h.1)); order = tt }

part_of : (files : Files) (claim q : List ℕ) → IsPartOf files claim q → (one : IsPartAt q) × (one.instant ≡ claim)
part_of files claim q (digits, inl is) = (record { part = OfClaim; instant = claim; digits = digits; is = is }, refl)
part_of files claim q (digits, inr (Inflight, is, _, _)) = (record { part = OfInflight; instant = claim; digits = digits; is = is }, refl)
part_of files claim q (digits, inr (Requested, is, _, _)) = (record { part = OfRequested; instant = claim; digits = digits; is = is }, refl)

module _ (files : Files) (cs : List (List ℕ)) (name : List ℕ) (paths after : List (List ℕ)) (so_far : AreParts files cs paths) (below : (c : List ℕ) → Contains cs c → IsLess c name) where
  abbrev OfSome : List (List ℕ) → List ℕ → Type 0
  OfSome claims q = (claim : List ℕ) × Contains claims claim × IsPartOf files claim q

  all_before : (r : Part) → AreBefore name r paths
  all_before r y within =
      let h = (so_far.members y).0 within in
      let part = part_of files h.0 y h.2 in
      (part.0, inl (subst (λ (c : List ℕ). IsLess c name) (sym part.1) (below h.0 h.1)))

  of_more : (q : List ℕ) → OfSome cs q → OfSome (cs ++ name ∷ []) q
  of_more q h = (h.0, Contains-append_left cs (name ∷ []) h.0 h.1, h.2)

  pub parts_more : IsWithClaim files name paths after → AreParts files (cs ++ name ∷ []) after
  parts_more (inl (other, same)) = record {
    members = λ q. (
      λ within. of_more q ((so_far.members q).0 (subst (λ (l : List (List ℕ)). Contains l q) same within)),
      λ (h : OfSome (cs ++ name ∷ []) q). subst (λ (l : List (List ℕ)). Contains l q) (sym same) ((so_far.members q).1 (h.0, ⊎_elim (λ before. before) (λ (is : name ≡ h.0). absurd (other (subst IsDigits (sym is) h.2.0))) (Contains-push_cases cs name h.0 h.1), h.2)),
    );
    order = subst (λ (l : List (List ℕ)). AreInOrder IsBeforeInTimeline l) (sym same) so_far.order;
  }
  parts_more (inr (digits, (middle, pending, is))) =
      let both = pending_order files name digits paths middle all_before so_far.order pending in
      let put : List (List ℕ) → Type 0 = λ l. AreInOrder IsBeforeInTimeline l in
      let old : (q : List ℕ) → Contains middle q → Contains after q = λ q within. subst (λ (l : List (List ℕ)). Contains l q) (sym is) (Contains-append_left middle (claim_path name ∷ []) q within) in
      record {
        members = λ q. (
          λ within. ⊎_elim
              (λ early. ⊎_elim (λ was. of_more q ((so_far.members q).0 was)) (λ part. (name, Contains-push cs name, part)) (pending_from files name digits paths middle pending q early))
              (λ (same : claim_path name ≡ q). (name, Contains-push cs name, (digits, inl (sym same))))
              (Contains-push_cases middle (claim_path name) q (subst (λ (l : List (List ℕ)). Contains l q) is within)),
          λ (h : OfSome (cs ++ name ∷ []) q). ⊎_elim
              (λ before. old q (pending_old files name digits paths middle pending q ((so_far.members q).1 (h.0, before, h.2))))
              (λ (same : name ≡ h.0). part_in q (subst (λ (c : List ℕ). IsPartOf files c q) (sym same) h.2))
              (Contains-push_cases cs name h.0 h.1),
        );
        order = subst (λ (l : List (List ℕ)). AreInOrder IsBeforeInTimeline l) (sym is) (pushed_order files name digits OfClaim middle both.1 both.0);
      }
    where
      part_in : (q : List ℕ) → IsPartOf files name q → Contains after q
      part_in q (_, inl same) = subst (λ (p : List ℕ). Contains after p) (sym same) (subst (λ (l : List (List ℕ)). Contains l (claim_path name)) (sym is) (Contains-push middle (claim_path name)))
      part_in q (_, inr (stage, same, found, lacking)) =
          subst (λ (p : List ℕ). Contains after p) (sym same)
          (subst (λ (l : List (List ℕ)). Contains l (pending_path stage name)) (sym is) (Contains-append_left middle (claim_path name ∷ []) (pending_path stage name)
          (pending_new files name digits paths middle pending lacking stage (subst (λ (p : List ℕ). IsThere files p) same found))))

module _ (files : Files) (names : List (List ℕ)) (i : ℕ) (paths : List (List ℕ)) (so_far : AreParts files (take i names) paths) where
  pub parts_step : (name : List ℕ) → IsStrictlySortedBy (slice_cmp nat_cmp) names → i < length names → name ≡ get_or names i name → (after : List (List ℕ)) → IsWithClaim files name paths after → AreParts files (take (i + 1) names) after
  parts_step name sorted lt is after found = subst (λ (l : List (List ℕ)). AreParts files l after) (sym (last_of names i name lt is)) (parts_more files (take i names) name paths after so_far (less_before names i name sorted lt is) found)

  pub parts_all : length names ≤ i → AreParts files names paths
  parts_all past = subst (λ (l : List (List ℕ)). AreParts files l paths) (take_all i names past) so_far

-- ---- all of it

module _ (files : Files) (paths result : List (List ℕ)) (parts : AreParts files (names_in files claims_folder) paths) (properties : IsWithFile files staged_properties_path paths result) where
  claim_named : (claim : List ℕ) → Contains (names_in files claims_folder) claim → IsThere files (claim_path claim)
  claim_named claim within = (((names_in_listed files claims_folder).members claim).0 within).1

  named : (claim : List ℕ) → IsDigits claim → IsThere files (claim_path claim) → Contains (names_in files claims_folder) claim
  named claim digits found = ((names_in_listed files claims_folder).members claim).1 (claim_is_proper claim digits, found)

  leftover_of : (q claim : List ℕ) → Contains (names_in files claims_folder) claim → IsPartOf files claim q → IsLeftover Hudi files q
  leftover_of q claim within (digits, inl is) = record {
    there = subst (λ (p : List ℕ). IsThere files p) (sym is) (claim_named claim within);
    leftover = IsHudiLeftover.claim (record { instant = claim; digits = digits; is = is });
  }
  leftover_of q claim within (digits, inr (stage, is, found, lacking)) = record {
    there = found;
    leftover = IsHudiLeftover.pending (record { stage = stage; instant = claim; digits = digits; is = is; claimed = claim_named claim within; lacking = lacking });
  }

  planned_of : (q : List ℕ) → IsThere files q → IsHudiLeftover files q → Contains result q
  planned_of q found (IsHudiLeftover.properties is) = subst (λ (p : List ℕ). Contains result p) (sym is) (with_new files staged_properties_path paths result properties (subst (λ (p : List ℕ). IsThere files p) is found))
  planned_of q found (IsHudiLeftover.claim h) = with_old files staged_properties_path paths result properties q
      ((parts.members q).1 (h.instant, named h.instant h.digits (subst (λ (p : List ℕ). IsThere files p) h.is found), (h.digits, inl h.is)))
  planned_of q found (IsHudiLeftover.pending h) = with_old files staged_properties_path paths result properties q
      ((parts.members q).1 (h.instant, named h.instant h.digits h.claimed, (h.digits, inr (h.stage, h.is, found, h.lacking))))

  planned_order : IsWithFile files staged_properties_path paths result → AreInOrder IsBeforeInTimeline result
  planned_order (inl h) = subst (λ (l : List (List ℕ)). AreInOrder IsBeforeInTimeline l) (sym h.1) (order_push IsBeforeInTimeline paths staged_properties_path parts.order (λ y within.
      let s = (parts.members y).0 within in ((part_of files s.0 y s.2).0, inl refl)))
  planned_order (inr h) = subst (λ (l : List (List ℕ)). AreInOrder IsBeforeInTimeline l) (sym h.1) parts.order

  pub hudi_plan : IsPlan Hudi files result
  hudi_plan = record {
    order = planned_order properties;
    members = λ q. (
      λ within. ⊎_elim
          (λ early. let s = (parts.members q).0 early in leftover_of q s.0 s.1 s.2)
          (λ (h : (q ≡ staged_properties_path) × IsThere files staged_properties_path). record { there = subst (λ (p : List ℕ). IsThere files p) (sym h.0) h.1; leftover = IsHudiLeftover.properties h.0 })
          (with_from files staged_properties_path paths result properties q within),
      λ (h : IsLeftover Hudi files q). planned_of q h.there h.leftover,
    );
  }
