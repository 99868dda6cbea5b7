-- The names of columns, as a set that is filled column by column.
use Rattle.std.proofs.Common.{◌≡◌, ℕ, ◌+◌, ◌<◌, ◌≤◌, Bool, true, false, cond, ◌||◌, ◌&&◌, List, [], ◌∷◌, ◌++◌, length, get_or, drop, Option, Some, is_some, Bor, refl, sym, ap, ◌∙◌}
use Rattle.std.specs.List.{list_any, list_all}
use Rattle.std.specs.Str.{bytes_eq}
use Rattle.std.proofs.lemmas.Cmp.{nat_list_eq_equiv}
use Rattle.std.proofs.lemmas.List.{drop_more, drop_all}
use Rattle.std.proofs.lemmas.List.Folds.{list_any-append}
use Rattle.std.proofs.lemmas.Slice.Eq.{bytes_eq-Decides}
use Rattle.table_history.specs.History.{column_type}
use Rattle.table_history.specs.SchemaView.{type_view, columns_view}
use Rattle.table_history.specs.TypeTree.{TypeTree, ColumnTrees, column}
use Rattle.table_history.specs.declared.schema.Column.{Column}
use Rattle.lake_basics.proofs.Truth.{or_nothing}
use Rattle.partition_map.proofs.ColumnLemmas.{column_here}

abbrev pub At : List ℕ → Bor (List ℕ) → Bool
At name = λ (key : Bor (List ℕ)). bytes_eq name key.now

or_assoc : (a b c : Bool) → ((a || b) || c) ≡ (a || (b || c))
or_assoc true b c = refl
or_assoc false b c = refl

some_first : (c : Bool) (t : TypeTree) (o : Option TypeTree) → is_some (cond c (Some t) o) ≡ (c || is_some o)
some_first true t o = refl
some_first false t o = refl

-- ---- one name more

kept : (keys : List (Bor (List ℕ))) (v : Bor (List ℕ)) (name : List ℕ) (b : Bool) → bytes_eq name v.now ≡ b → list_any (At v.now) keys ≡ true → list_any (At name) keys ≡ (list_any (At name) keys || b)
kept keys v name true e h =
    let there : list_any (At name) keys ≡ true = ap (λ (n : List ℕ). list_any (At n) keys) ((bytes_eq-Decides name v.now).0 e) ∙ h in
    there ∙ sym (ap (λ (x : Bool). x || true) there)
kept keys v name false e h = sym (or_nothing (list_any (At name) keys))

inserted : (keys after : List (Bor (List ℕ))) (v : Bor (List ℕ)) (name : List ℕ) (b : Bool) → list_any (At v.now) keys ≡ b → after ≡ cond b keys (keys ++ v ∷ []) → list_any (At name) after ≡ (list_any (At name) keys || bytes_eq name v.now)
inserted keys after v name true h is = ap (list_any (At name)) is ∙ kept keys v name (bytes_eq name v.now) refl h
inserted keys after v name false h is = ap (list_any (At name)) is ∙ list_any-append (At name) keys (v ∷ []) ∙ ap (λ (x : Bool). list_any (At name) keys || x) (or_nothing (bytes_eq name v.now))

put : (keys after : List (Bor (List ℕ))) (v : Bor (List ℕ)) (n name : List ℕ) (t : TypeTree) (b : Bool) (rest : ColumnTrees) (all : Bool) → v.now ≡ n → after ≡ cond (list_any (At v.now) keys) keys (keys ++ v ∷ [])
    → (list_any (At name) keys || is_some (column_type (column n t b rest) name)) ≡ all → (list_any (At name) after || is_some (column_type rest name)) ≡ all
put keys after v n name t b rest all is longer before =
    let here : bytes_eq name v.now ≡ bytes_eq n name = ap (bytes_eq name) is ∙ nat_list_eq_equiv.symm name n in
    ap (λ (x : Bool). x || is_some (column_type rest name)) (inserted keys after v name (list_any (At v.now) keys) refl longer ∙ ap (λ (x : Bool). list_any (At name) keys || x) here)
    ∙ or_assoc (list_any (At name) keys) (bytes_eq n name) (is_some (column_type rest name))
    ∙ ap (λ (x : Bool). list_any (At name) keys || x) (sym (some_first (bytes_eq n name) t (column_type rest name))) ∙ before

pub put_column : (cs : List Column) (i : ℕ) (c : Column) → i < length cs → c ≡ get_or cs i c → (keys after : List (Bor (List ℕ))) (v : Bor (List ℕ)) (name : List ℕ)
    → v.now ≡ c.name → after ≡ cond (list_any (At v.now) keys) keys (keys ++ v ∷ [])
    → (list_any (At name) keys || is_some (column_type (columns_view (drop i cs)) name)) ≡ is_some (column_type (columns_view cs) name)
    → (list_any (At name) after || is_some (column_type (columns_view (drop (i + 1) cs)) name)) ≡ is_some (column_type (columns_view cs) name)
put_column cs i c within at keys after v name is longer before =
    put keys after v c.name name (type_view c.kind) c.nullable (columns_view (drop (i + 1) cs)) (is_some (column_type (columns_view cs) name)) is longer
    (sym (ap (λ (trees : ColumnTrees). list_any (At name) keys || is_some (column_type trees name)) (column_here cs i c within at)) ∙ before)

pub no_column_left : (cs : List Column) (i : ℕ) → length cs ≤ i → (keys : List (Bor (List ℕ))) (name : List ℕ)
    → (list_any (At name) keys || is_some (column_type (columns_view (drop i cs)) name)) ≡ is_some (column_type (columns_view cs) name) → list_any (At name) keys ≡ is_some (column_type (columns_view cs) name)
no_column_left cs i past keys name before =
    sym (or_nothing (list_any (At name) keys)) ∙ sym (ap (λ (rest : List Column). list_any (At name) keys || is_some (column_type (columns_view rest) name)) (drop_all i cs past)) ∙ before

-- ---- a set of given names

pub put_name : (names : List (List ℕ)) (i : ℕ) (n : List ℕ) → i < length names → n ≡ get_or names i n → (keys after : List (Bor (List ℕ))) (v : Bor (List ℕ)) (name : List ℕ)
    → v.now ≡ n → after ≡ cond (list_any (At v.now) keys) keys (keys ++ v ∷ [])
    → (list_any (At name) keys || list_any (bytes_eq name) (drop i names)) ≡ list_any (bytes_eq name) names
    → (list_any (At name) after || list_any (bytes_eq name) (drop (i + 1) names)) ≡ list_any (bytes_eq name) names
put_name names i n within at keys after v name is longer before =
    let rest = list_any (bytes_eq name) (drop (i + 1) names) in
    let next : drop i names ≡ n ∷ drop (i + 1) names = drop_more names i n within ∙ ap (λ x. x ∷ drop (i + 1) names) (sym at) in
    ap (λ (x : Bool). x || rest) (inserted keys after v name (list_any (At v.now) keys) refl longer)
    ∙ or_assoc (list_any (At name) keys) (bytes_eq name v.now) rest
    ∙ ap (λ (x : List ℕ). list_any (At name) keys || (bytes_eq name x || rest)) is
    ∙ sym (ap (λ (xs : List (List ℕ)). list_any (At name) keys || list_any (bytes_eq name) xs) next) ∙ before

pub no_name_left : (names : List (List ℕ)) (i : ℕ) → length names ≤ i → (keys : List (Bor (List ℕ))) (name : List ℕ)
    → (list_any (At name) keys || list_any (bytes_eq name) (drop i names)) ≡ list_any (bytes_eq name) names → list_any (At name) keys ≡ list_any (bytes_eq name) names
no_name_left names i past keys name before =
    sym (or_nothing (list_any (At name) keys)) ∙ sym (ap (λ (rest : List (List ℕ)). list_any (At name) keys || list_any (bytes_eq name) rest) (drop_all i names past)) ∙ before

-- ---- all of the names

pub same_tests : (p q : List ℕ → Bool) → ((name : List ℕ) → p name ≡ q name) → (names : List (List ℕ)) → list_all p names ≡ list_all q names
same_tests p q same [] = refl
same_tests p q same (n ∷ ns) = λ i. same n i && same_tests p q same ns i
