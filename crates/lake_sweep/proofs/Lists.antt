-- Lists in order, and lists of paths.
use Rattle.std.proofs.Common.{◌≡◌, ◌⊎◌, inl, inr, ⊎_elim, ℕ, List, [], ◌∷◌, ◌++◌, Contains, subst}
use Rattle.std.proofs.lemmas.List.Elements.{Contains-append_right, Contains-push_cases}
use Rattle.lake_store.proofs.DiskLaws.{path_cases}
use Rattle.table_history.proofs.RowListLemmas.{Contains-cases, Contains-head, Contains-none, Contains-tail}
use Rattle.lake_sweep.specs.Order.{AreInOrder}

module _ {A : Type 0} (R : A → A → Type 0) where
  pub order_push : (xs : List A) (x : A) → AreInOrder R xs → ((y : A) → Contains xs y → R y x) → AreInOrder R (xs ++ x ∷ [])
  order_push [] x order below = (λ y none. absurd (Contains-none y none), tt)
  order_push (z ∷ xs) x order below = (
    λ y within. ⊎_elim (λ before. order.0 y before) (λ (same : x ≡ y). subst (λ (w : A). R z w) same (below z (Contains-head z xs))) (Contains-push_cases xs x y within),
    order_push xs x order.1 (λ y within. below y (Contains-tail z xs y within)),
  )

  pub order_before : (front : List A) (x : A) (behind : List A) → AreInOrder R (front ++ x ∷ behind) → (y : A) → Contains front y → R y x
  order_before [] x behind order y within = absurd (Contains-none y within)
  order_before (z ∷ front) x behind order y within = ⊎_elim
      (λ (same : z ≡ y). subst (λ (w : A). R w x) same (order.0 x (Contains-append_right front (x ∷ behind) x (Contains-head x behind))))
      (λ later. order_before front x behind order.1 y later)
      (Contains-cases z front y within)

  pub order_after : (front : List A) (x : A) (behind : List A) → AreInOrder R (front ++ x ∷ behind) → (y : A) → Contains behind y → R x y
  order_after [] x behind order y within = order.0 y within
  order_after (z ∷ front) x behind order y within = order_after front x behind order.1 y within

-- a path is in a list or it isn't
pub in_list : (xs : List (List ℕ)) (q : List ℕ) → Contains xs q ⊎ (¬ Contains xs q)
in_list [] q = inr (λ none. Contains-none q none)
in_list (x ∷ xs) q = ⊎_elim
    (λ (is : x ≡ q). inl (subst (λ (p : List ℕ). Contains (x ∷ xs) p) is (Contains-head x xs)))
    (λ other. ⊎_elim (λ there. inl (Contains-tail x xs q there)) (λ lacks. inr (λ within. ⊎_elim other lacks (Contains-cases x xs q within))) (in_list xs q))
    (path_cases x q)
