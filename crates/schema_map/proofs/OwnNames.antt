-- Names that have been seen, from the last column to the first.
use Rattle.std.proofs.Common.{◌≡◌, ℕ, suc, zero, ◌-◌, ◌<◌, ◌≤◌, List, [], ◌∷◌, Bool, true, false, not, ◌||◌, cond, drop, get_or, length, refl, sym, ap, subst, ◌∙◌, Bor, drop-cons, rules}
use Rattle.std.specs.BTreeSet as sorted
use Rattle.std.specs.BTreeSet.{BTreeSet}
use Rattle.std.specs.Cmp.Lexicographic.{slice_cmp}
use Rattle.std.specs.Ordering.{nat_cmp}
use Rattle.std.specs.Str.{bytes_eq}
use Rattle.std.proofs.lemmas.Map.Text.{is_eq-slice_cmp}
use Rattle.std.proofs.lemmas.Bool.{and_right}
use Rattle.table_history.specs.TypeTree.{TypeTree, ColumnTrees, column}
use Rattle.table_history.specs.declared.schema.Column.{Column, the_lemmas}
use Rattle.table_history.specs.SchemaView.{column_view, columns_view}
use Rattle.table_history.specs.Sound.{is_named, have_own_names}
use Rattle.lake_basics.proofs.Truth.{cond_or}
use Rattle.lake_basics.proofs.Numbers.{before_less, suc_before}

-- whether the set has the name
abbrev pub holds_name : BTreeSet (Bor (List ℕ)) → List ℕ → Bool
holds_name seen name = sorted.contains_by (λ k. slice_cmp nat_cmp name k.now) seen

-- The set holds the names of these columns.
abbrev pub HoldsNames : BTreeSet (Bor (List ℕ)) → ColumnTrees → Type 0
HoldsNames seen cs = (name : List ℕ) → holds_name seen name ≡ is_named name cs

pub name_held : (seen new : BTreeSet (Bor (List ℕ))) (key : Bor (List ℕ)) (t : TypeTree) (b : Bool) (cs : ColumnTrees) → sorted.UpdatesBy (λ x y. slice_cmp nat_cmp x.now y.now) (λ k. slice_cmp nat_cmp key.now k.now) seen new true → HoldsNames seen cs → HoldsNames new (column key.now t b cs)
name_held seen new key t b cs updates held =
    λ name. let q : Bor (List ℕ) = record { ref_ptr = (0, 0); now = name } in
    updates.0 q ∙ ap (λ at. cond at true (holds_name seen name)) (is_eq-slice_cmp key.now name) ∙ cond_or (bytes_eq key.now name) (holds_name seen name) ∙ ap (λ h. bytes_eq key.now name || h) (held name)

not_true : (b c : Bool) → b ≡ not c → b ≡ true → c ≡ false
not_true b true is e = absurd (cc)
not_true b false is e = refl

not_false : (b c : Bool) → b ≡ not c → b ≡ false → c ≡ true
not_false b true is e = refl
not_false b false is e = absurd (cc)

pub new_name : (seen : BTreeSet (Bor (List ℕ))) (key : Bor (List ℕ)) (added : Bool) (t : TypeTree) (b : Bool) (cs : ColumnTrees) → HoldsNames seen cs → added ≡ not (holds_name seen key.now) → added ≡ true → have_own_names cs ≡ true → have_own_names (column key.now t b cs) ≡ true
new_name seen key added t b cs held is new own = rw (sym (held key.now) ∙ not_true added (holds_name seen key.now) is new, own)

pub old_name : (seen : BTreeSet (Bor (List ℕ))) (key : Bor (List ℕ)) (added : Bool) (t : TypeTree) (b : Bool) (cs : ColumnTrees) → HoldsNames seen cs → added ≡ not (holds_name seen key.now) → added ≡ false → have_own_names (column key.now t b cs) ≡ false
old_name seen key added t b cs held is old = rw (sym (held key.now) ∙ not_false added (holds_name seen key.now) is old)

-- ---- places

name_is : (c : Column) → (column_view c).name ≡ c.name
name_is c = search (rules, the_lemmas)

pub column_at : (cs : List Column) (i : ℕ) (c : Column) → i < length cs → c ≡ get_or cs i c → columns_view (drop i cs) ≡ column c.name (column_view c).kind (column_view c).nullable (columns_view (drop (suc i) cs))
column_at cs i c within is =
    ap columns_view (drop-cons cs i c within) ∙ ap (λ d. columns_view (d ∷ drop (suc i) cs)) (sym is) ∙ ap (λ n. column n (column_view c).kind (column_view c).nullable (columns_view (drop (suc i) cs))) (name_is c)

pub own_behind : (cs : List Column) (i : ℕ) → have_own_names (columns_view (drop i cs)) ≡ false → have_own_names (columns_view cs) ≡ false
own_behind cs zero e = e
own_behind [] (suc i) e = e
own_behind (c ∷ cs) (suc i) e = and_right _ _ (own_behind cs i e)

module _ (cs : List Column) (place : ℕ) (c : Column) (seen : BTreeSet (Bor (List ℕ))) (key : Bor (List ℕ)) (added : Bool)
    (some : 0 < place) (within : place ≤ length cs) (at : c ≡ get_or cs (place - 1) c) (key_is : key.now ≡ c.name)
    (held : HoldsNames seen (columns_view (drop place cs))) (is : added ≡ not (holds_name seen key.now)) where
  here : columns_view (drop (place - 1) cs) ≡ column key.now (column_view c).kind (column_view c).nullable (columns_view (drop place cs))
  here =
      column_at cs (place - 1) c (before_less place (length cs) some within) at
      ∙ ap (λ n. column n (column_view c).kind (column_view c).nullable (columns_view (drop (suc (place - 1)) cs))) (sym key_is)
      ∙ ap (λ k. column key.now (column_view c).kind (column_view c).nullable (columns_view (drop k cs))) (suc_before place some)

  pub held_here : (new : BTreeSet (Bor (List ℕ))) → sorted.UpdatesBy (λ x y. slice_cmp nat_cmp x.now y.now) (λ k. slice_cmp nat_cmp key.now k.now) seen new true → HoldsNames new (columns_view (drop (place - 1) cs))
  held_here new updates =
      let P : ColumnTrees → Type 0 = λ xs. HoldsNames new xs in
      subst P (sym here) (name_held seen new key (column_view c).kind (column_view c).nullable (columns_view (drop place cs)) updates held)

  pub own_here : added ≡ true → have_own_names (columns_view (drop place cs)) ≡ true → have_own_names (columns_view (drop (place - 1) cs)) ≡ true
  own_here fresh own = ap have_own_names here ∙ new_name seen key added (column_view c).kind (column_view c).nullable (columns_view (drop place cs)) held is fresh own

  pub twice_here : added ≡ false → false ≡ have_own_names (columns_view cs)
  twice_here old = sym (own_behind cs (place - 1) (ap have_own_names here ∙ old_name seen key added (column_view c).kind (column_view c).nullable (columns_view (drop place cs)) held is old))
