-- Names of a folder that are picked one after the other, in byte order.
use Rattle.std.proofs.Common.{◌≡◌, ◌⊎◌, inl, inr, ⊎_elim, ℕ, suc, ◌+◌, ◌<◌, ◌≤◌, List, [], ◌∷◌, ◌++◌, length, take, drop, get_or, Contains, sym, ap, subst, ◌∙◌, drop-cons}
use Rattle.std.specs.Prelude.{IsSome, codes}
use Rattle.std.specs.Cmp.Lexicographic.{slice_cmp}
use Rattle.std.specs.List.{AllByRecursion}
use Rattle.std.specs.List.Sorted.{IsStrictlySortedBy}
use Rattle.std.specs.Ordering.{nat_cmp}
use Rattle.std.specs.FinMap as map
use Rattle.std.specs.declared.cmp.Ordering.TheVariants.{Less}
use Rattle.std.proofs.lemmas.List.{take-append-drop, take_all}
use Rattle.std.proofs.lemmas.List.Elements.{Contains-append_left, Contains-push, Contains-push_cases}
use Rattle.lake_store.specs.Disk.{Files, names_in}
use Rattle.lake_store.proofs.OrderLaws.{names_in_listed, same_front}
use Rattle.table_history.proofs.RowListLemmas.{Contains-cases, Contains-none}
use Rattle.table_history.specs.declared.kind.Kind.TheVariants.{Delta}
use Rattle.target_leftovers.specs.Leftovers.{IsLeftover}
use Rattle.target_leftovers.specs.Names.{IsDeltaName}
use Rattle.target_leftovers.proofs.ProperLaws.{delta_is_proper}
use Rattle.lake_sweep.specs.Order.{AreInOrder, IsLess}
use Rattle.lake_sweep.specs.Picking.{ArePicked, IsPathOf, IsWithName}
use Rattle.lake_sweep.specs.Plan.{IsPlan}
use Rattle.lake_sweep.proofs.Lists.{order_before, order_push}
use Rattle.lake_basics.proofs.Lists.{last_of}

all_in : {A : Type 0} (P : A → Type 0) (xs : List A) → AllByRecursion P xs → (y : A) → Contains xs y → P y
all_in P [] all y within = absurd (Contains-none y within)
all_in P (x ∷ xs) all y within = ⊎_elim (λ (same : x ≡ y). subst P same all.0) (λ later. all_in P xs all.1 y later) (Contains-cases x xs y within)

pub sorted_order : (xs : List (List ℕ)) → IsStrictlySortedBy (slice_cmp nat_cmp) xs → AreInOrder IsLess xs
unfolding IsStrictlySortedBy
sorted_order [] sorted = tt
sorted_order (x ∷ xs) sorted = (λ y within. all_in (λ (z : List ℕ). slice_cmp nat_cmp x z ≡ Less) xs sorted.0 y within, sorted_order xs sorted.1)

-- the items before a place are less than the one there
pub less_before : (names : List (List ℕ)) (i : ℕ) (name : List ℕ) → IsStrictlySortedBy (slice_cmp nat_cmp) names → i < length names → name ≡ get_or names i name → (y : List ℕ) → Contains (take i names) y → IsLess y name
less_before names i name sorted lt is y within =
    let split : names ≡ take i names ++ name ∷ drop (suc i) names = sym (take-append-drop i names) ∙ ap (λ (l : List (List ℕ)). take i names ++ l) (drop-cons names i name lt ∙ ap (λ (n : List ℕ). n ∷ drop (suc i) names) (sym is)) in
    order_before IsLess (take i names) name (drop (suc i) names) (subst (λ (l : List (List ℕ)). AreInOrder IsLess l) split (sorted_order names sorted)) y within

module _ (P : List ℕ → Type 0) (front : List ℕ) where
  pub picked_none : ArePicked P front [] []
  picked_none = record { members = λ q. (λ none. absurd (Contains-none q none), λ (h : IsPathOf P front [] q). absurd (Contains-none h.0 h.1)); order = tt }

  module _ (cs : List (List ℕ)) (name : List ℕ) (paths : List (List ℕ)) (so_far : ArePicked P front cs paths) where
    of_more : (q : List ℕ) → IsPathOf P front cs q → IsPathOf P front (cs ++ name ∷ []) q
    of_more q h = (h.0, Contains-append_left cs (name ∷ []) h.0 h.1, h.2, h.3)

    pub picked_skip : ¬ P name → ArePicked P front (cs ++ name ∷ []) paths
    picked_skip lacks = record {
      members = λ q. (
        λ within. of_more q ((so_far.members q).0 within),
        λ (h : IsPathOf P front (cs ++ name ∷ []) q). (so_far.members q).1 (h.0, ⊎_elim (λ before. before) (λ (same : name ≡ h.0). absurd (lacks (subst P (sym same) h.2))) (Contains-push_cases cs name h.0 h.1), h.2, h.3),
      );
      order = so_far.order;
    }

    pub picked_more : P name → ((y : List ℕ) → Contains cs y → IsLess y name) → ArePicked P front (cs ++ name ∷ []) (paths ++ (front ++ name) ∷ [])
    picked_more has below = record {
      members = λ q. (
        λ within. ⊎_elim
            (λ before. of_more q ((so_far.members q).0 before))
            (λ (same : front ++ name ≡ q). (name, Contains-push cs name, has, sym same))
            (Contains-push_cases paths (front ++ name) q within),
        λ (h : IsPathOf P front (cs ++ name ∷ []) q). ⊎_elim
            (λ before. Contains-append_left paths ((front ++ name) ∷ []) q ((so_far.members q).1 (h.0, before, h.2, h.3)))
            (λ (same : name ≡ h.0). subst (λ (p : List ℕ). Contains (paths ++ (front ++ name) ∷ []) p) (ap (λ (n : List ℕ). front ++ n) same ∙ sym h.3) (Contains-push paths (front ++ name)))
            (Contains-push_cases cs name h.0 h.1),
      );
      order = order_push IsLess paths (front ++ name) so_far.order (λ y within.
          let h = (so_far.members y).0 within in
          subst (λ (p : List ℕ). IsLess p (front ++ name)) (sym h.3) (same_front front h.0 name ∙ below h.0 h.1));
    }

  module _ (names : List (List ℕ)) (i : ℕ) (paths : List (List ℕ)) (so_far : ArePicked P front (take i names) paths) where
    module _ (name : List ℕ) (sorted : IsStrictlySortedBy (slice_cmp nat_cmp) names) (lt : i < length names) (is : name ≡ get_or names i name) where
      pick_skip : ¬ P name → ArePicked P front (take (i + 1) names) paths
      pick_skip lacks = subst (λ (l : List (List ℕ)). ArePicked P front l paths) (sym (last_of names i name lt is)) (picked_skip (take i names) name paths so_far lacks)

      pick_more : P name → ArePicked P front (take (i + 1) names) (paths ++ (front ++ name) ∷ [])
      pick_more has = subst (λ (l : List (List ℕ)). ArePicked P front l (paths ++ (front ++ name) ∷ [])) (sym (last_of names i name lt is))
          (picked_more (take i names) name paths so_far has (less_before names i name sorted lt is))

      pub pick_step : (after : List (List ℕ)) → IsWithName P front name paths after → ArePicked P front (take (i + 1) names) after
      pick_step after (inl h) = subst (λ (l : List (List ℕ)). ArePicked P front (take (i + 1) names) l) (sym h.1) (pick_more h.0)
      pick_step after (inr h) = subst (λ (l : List (List ℕ)). ArePicked P front (take (i + 1) names) l) (sym h.1) (pick_skip h.0)

    pub pick_all : length names ≤ i → ArePicked P front names paths
    pick_all past = subst (λ (l : List (List ℕ)). ArePicked P front l paths) (take_all i names past) so_far

-- the staged versions of a log
pub delta_plan : (files : Files) (paths : List (List ℕ)) → ArePicked IsDeltaName (codes "_delta_log/") (names_in files (codes "_delta_log")) paths → IsPlan Delta files paths
delta_plan files paths h =
    let names = names_in files (codes "_delta_log") in
    let listed = names_in_listed files (codes "_delta_log") in
    record {
      order = h.order;
      members = λ q. (
        λ within.
            let at = (h.members q).0 within in
            let is = (listed.members at.0).0 at.1 in
            record { there = subst (λ (p : List ℕ). IsSome (map.get files p)) (sym at.3) is.1; leftover = record { name = at.0; named = at.2; is = at.3 } },
        λ (l : IsLeftover Delta files q).
            let d = l.leftover in
            (h.members q).1 (d.name, (listed.members d.name).1 (delta_is_proper d.name d.named, subst (λ (p : List ℕ). IsSome (map.get files p)) d.is l.there), d.named, d.is),
      );
    }
