-- Field ids by their column paths, from the last to the first.
use Rattle.std.proofs.Common.{◌≡◌, ℕ, ◌-◌, ◌<◌, ◌≤◌, ℤ, List, ◌∷◌, Some, cond, drop, get_or, length, sym, ap, subst, ◌∙◌, Bor, drop-cons, is_eq, nat_cmp}
use Rattle.std.specs.BTreeMap as tree
use Rattle.std.specs.BTreeMap.{BTreeMap}
use Rattle.std.specs.Cmp.Lexicographic.{slice_cmp, pointwise}
use Rattle.std.specs.Str.{bytes_eq}
use Rattle.schema_map.specs.Paths.{Path}
use Rattle.schema_map.proofs.PathOrder.{path_ties}
use Rattle.iceberg_metadata.specs.Paths.{PathId}
use Rattle.iceberg_columns.specs.PathMaps.{id_at, HoldsPathIds}
use Rattle.lake_basics.proofs.Numbers.{before_less, suc_before}

pub ids_here : (pairs : List PathId) (place : ℕ) (pair : PathId) (map new : BTreeMap (Bor Path) ℤ) (key : Bor Path) (id : ℤ) → pair.1 ≡ id → 0 < place → place ≤ length pairs → pair ≡ get_or pairs (place - 1) pair → key.now ≡ pair.0 → HoldsPathIds map (drop place pairs)
    → tree.UpdatesBy (λ x y. slice_cmp (slice_cmp nat_cmp) x.now y.now) (λ k. slice_cmp (slice_cmp nat_cmp) key.now k.now) map new (Some id) → HoldsPathIds new (drop (place - 1) pairs)
ids_here pairs place pair map new key id id_is some within at key_is held updates =
    let here : drop (place - 1) pairs ≡ pair ∷ drop place pairs = drop-cons pairs (place - 1) pair (before_less place (length pairs) some within) ∙ (λ i. sym at i ∷ drop (suc_before place some i) pairs) in
    subst (λ l. HoldsPathIds new l) (sym here)
    (λ path. let q : Bor Path = record { ref_ptr = (0, 0); now = path } in
    updates.0 q ∙ ap (λ n. cond (is_eq (slice_cmp (slice_cmp nat_cmp) key.now path)) (Some n) (id_at map path)) (sym id_is) ∙ ap (λ b. cond b (Some pair.1) (id_at map path)) (path_ties key.now path ∙ ap (λ k. pointwise bytes_eq k path) key_is) ∙ ap (λ o. cond (pointwise bytes_eq pair.0 path) (Some pair.1) o) (held path))
