-- Lists in strict byte order of a key: the same members make the same list.
use Rattle.std.proofs.Common.{◌≡◌, ◌↔◌, ℕ, List, [], ◌∷◌, map, Contains, Less, Greater, nat_cmp, refl, sym, ap, subst, ◌∙◌, ⊎_elim}
use Rattle.std.specs.Cmp.Lexicographic.{slice_cmp}
use Rattle.std.specs.List.{AllByRecursion}
use Rattle.std.specs.Ordering.{ordering_reverse}
use Rattle.std.proofs.lemmas.Cmp.{nat_list_cmp_total}
use Rattle.std.proofs.lemmas.Map.Keys.{sorted_head, sorted_tail}
use Rattle.table_history.specs.declared.row.FileRow.{FileRow}
use Rattle.table_history.specs.Rows.{IsInByteOrder}
use Rattle.table_history.specs.Tables.{IsDiff}
use Rattle.table_history.proofs.RowListLemmas.{Contains-none, Contains-head, Contains-tail, Contains-cases}

not_both : (x y : List ℕ) → slice_cmp nat_cmp x y ≡ Less → slice_cmp nat_cmp y x ≡ Less → ⊥
not_both x y a b = let wrong : Less ≡ Greater = sym a ∙ nat_list_cmp_total.antisymm x y ∙ ap ordering_reverse b in cc

pub not_itself : (x : List ℕ) → slice_cmp nat_cmp x x ≡ Less → ⊥
not_itself x a = not_both x x a a

module _ {X : Type 0} (key : X → List ℕ) where
  all_keys : (P : List ℕ → Type 0) (xs : List X) (x : X) → AllByRecursion P (map key xs) → Contains xs x → P (key x)
  all_keys P [] x all h = absurd (Contains-none x h)
  all_keys P (y ∷ ys) x all h = ⊎_elim (λ e. subst (λ w. P (key w)) e all.0) (λ later. all_keys P ys x all.1 later) (Contains-cases y ys x h)

  later_above : (x : X) (xs : List X) (t : X) → IsInByteOrder (map key (x ∷ xs)) → Contains xs t → slice_cmp nat_cmp (key x) (key t) ≡ Less
  later_above x xs t up h = all_keys (λ k. slice_cmp nat_cmp (key x) k ≡ Less) xs t (sorted_head (slice_cmp nat_cmp) (key x) (map key xs) up) h

  same_tail : (x y : X) (xs ys : List X) → x ≡ y → IsInByteOrder (map key (x ∷ xs)) → ((t : X) → Contains (x ∷ xs) t → Contains (y ∷ ys) t) → (t : X) → Contains xs t → Contains ys t
  same_tail x y xs ys e up h t there =
      ⊎_elim
      (λ is. absurd (not_itself (key x) (subst (λ w. slice_cmp nat_cmp (key x) (key w) ≡ Less) (sym is ∙ sym e) (later_above x xs t up there))))
      (λ later. later)
      (Contains-cases y ys t (h t (Contains-tail x xs t there)))

  pub in_order_same : (xs ys : List X) → IsInByteOrder (map key xs) → IsInByteOrder (map key ys) → ((t : X) → Contains xs t ↔ Contains ys t) → xs ≡ ys
  in_order_same [] [] up up' h = refl
  in_order_same [] (y ∷ ys) up up' h = absurd (Contains-none y ((h y).1 (Contains-head y ys)))
  in_order_same (x ∷ xs) [] up up' h = absurd (Contains-none x ((h x).0 (Contains-head x xs)))
  in_order_same (x ∷ xs) (y ∷ ys) up up' h =
      let same : x ≡ y =
      ⊎_elim
      (λ e. sym e)
      (λ x_later. ⊎_elim
      (λ e. e)
      (λ y_later. absurd (not_both (key x) (key y) (later_above x xs y up y_later) (later_above y ys x up' x_later)))
      (Contains-cases x xs y ((h y).1 (Contains-head y ys))))
      (Contains-cases y ys x ((h x).0 (Contains-head x xs))) in
      let rest = in_order_same xs ys (sorted_tail (slice_cmp nat_cmp) (key x) (map key xs) up) (sorted_tail (slice_cmp nat_cmp) (key y) (map key ys) up')
      (λ t. (same_tail x y xs ys same up (λ u. (h u).0) t, same_tail y x ys xs (sym same) up' (λ u. (h u).1) t)) in
      λ i. same i ∷ rest i

-- the rows before and after determine the added rows of the change
pub diff_added_same : (before after : List FileRow) (removed removed' : List (List ℕ)) (added added' : List FileRow) → IsDiff before after removed added → IsDiff before after removed' added' → added ≡ added'
diff_added_same before after removed removed' added added' d d' =
    in_order_same (λ r. r.path) added added' d.added_order d'.added_order (λ row. (λ h. (d'.added_rows row).1 ((d.added_rows row).0 h), λ h. (d.added_rows row).1 ((d'.added_rows row).0 h)))

map-same : (xs : List (List ℕ)) → map (λ x. x) xs ≡ xs
map-same [] = refl
map-same (x ∷ xs) = ap (λ l. x ∷ l) (map-same xs)

-- and the removed paths
pub diff_removed_same : (before after : List FileRow) (removed removed' : List (List ℕ)) (added added' : List FileRow) → IsDiff before after removed added → IsDiff before after removed' added' → removed ≡ removed'
diff_removed_same before after removed removed' added added' d d' =
    in_order_same (λ p. p) removed removed' (subst IsInByteOrder (sym (map-same removed)) d.removed_order) (subst IsInByteOrder (sym (map-same removed')) d'.removed_order)
    (λ path. (λ h. (d'.removed_paths path).1 ((d.removed_paths path).0 h), λ h. (d.removed_paths path).1 ((d'.removed_paths path).0 h)))
