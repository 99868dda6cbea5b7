-- Known ids that have been kept by their paths, from the last pair to the first.
use Rattle.std.proofs.Common.{◌≡◌, ℕ, suc, ◌-◌, ◌<◌, ◌≤◌, List, ◌∷◌, cond, drop, get_or, length, refl, sym, ap, subst, ◌∙◌, Bor, drop-cons}
use Rattle.std.specs.Prelude.{ℤ, Bool, true, false, Option, Some}
use Rattle.std.specs.Option.{option_copied}
use Rattle.std.specs.BTreeMap as sorted
use Rattle.std.specs.BTreeMap.{BTreeMap}
use Rattle.std.specs.Cmp.Lexicographic.{slice_cmp, pointwise}
use Rattle.std.specs.Ordering.{nat_cmp, is_eq}
use Rattle.std.specs.Str.{bytes_eq}
use Rattle.schema_map.specs.Paths.{Path}
use Rattle.schema_map.proofs.PathOrder.{path_ties}
use Rattle.iceberg_field_ids.specs.IdMap.{HoldsIds}
use Rattle.lake_basics.proofs.Numbers.{before_less, suc_before}

-- The map is another with this id at this path.
abbrev pub Keeps : BTreeMap (Bor Path) (Bor ℤ) → BTreeMap (Bor Path) (Bor ℤ) → Bor Path → Bor ℤ → Type 0
Keeps m n key id = sorted.UpdatesBy (λ x y. slice_cmp (slice_cmp nat_cmp) x.now y.now) (λ k. slice_cmp (slice_cmp nat_cmp) key.now k.now) m n (Some id)

copied : (b : Bool) (x : Bor ℤ) (o : Option (Bor ℤ)) → option_copied (cond b (Some x) o) ≡ cond b (Some x.now) (option_copied o)
copied true x o = refl
copied false x o = refl

path_held : (m n : BTreeMap (Bor Path) (Bor ℤ)) (key : Bor Path) (id : Bor ℤ) (known : List (Path × ℤ)) → Keeps m n key id → HoldsIds m known → HoldsIds n ((key.now, id.now) ∷ known)
path_held m n key id known keeps held =
    λ path. let q : Bor Path = record { ref_ptr = (0, 0); now = path } in
    let kept : Option (Bor ℤ) = sorted.get_by (λ k. slice_cmp (slice_cmp nat_cmp) path k.now) m in
    ap option_copied (keeps.0 q)
    ∙ copied (is_eq (slice_cmp (slice_cmp nat_cmp) key.now path)) id kept
    ∙ ap (λ at. cond at (Some id.now) (option_copied kept)) (path_ties key.now path)
    ∙ ap (λ o. cond (pointwise bytes_eq key.now path) (Some id.now) o) (held path)

-- one pair more, in front of those that are kept
pub held_before : (known : List (Path × ℤ)) (place : ℕ) (pair : Path × ℤ) (m n : BTreeMap (Bor Path) (Bor ℤ)) (key : Bor Path) (id : Bor ℤ) → 0 < place → place ≤ length known → pair ≡ get_or known (place - 1) pair → key.now ≡ pair.0 → id.now ≡ pair.1 → Keeps m n key id → HoldsIds m (drop place known) → HoldsIds n (drop (place - 1) known)
held_before known place pair m n key id some within at key_is id_is keeps held =
    let P : List (Path × ℤ) → Type 0 = λ xs. HoldsIds n xs in
    let mine : Path × ℤ = (key.now, id.now) in
    let first : mine ≡ get_or known (place - 1) pair = let whole : mine ≡ pair = λ j. (key_is j, id_is j) in whole ∙ at in
    let here : drop (place - 1) known ≡ mine ∷ drop place known =
    drop-cons known (place - 1) pair (before_less place (length known) some within)
    ∙ ap (λ x. x ∷ drop (suc (place - 1)) known) (sym first)
    ∙ ap (λ k. mine ∷ drop k known) (suc_before place some) in
    subst P (sym here) (path_held m n key id (drop place known) keeps held)
