-- A table behind a change: it is there, and what may be said of its rows and columns.
use Rattle.std.proofs.Common.{◌≡◌, ◌≢◌, ℕ, zero, suc, List, [], ◌∷◌, ◌++◌, map, Bool, true, false, Contains, Option, Some, None, refl, sym, ap, subst, ◌∙◌, cond, inl, inr, ⊎_elim}
use Rattle.std.specs.Prelude.{not, is_some, option_and_then, unwrap_or}
use Rattle.std.specs.List.{AllByRecursion, IsDistinct, filter, list_any}
use Rattle.std.specs.Str.{bytes_eq}
use Rattle.std.proofs.lemmas.Bool.{cases_Bool, false≢true}
use Rattle.std.proofs.lemmas.List.{map-append}
use Rattle.std.proofs.lemmas.List.Elements.{Contains-append_cases, Contains-append_left, Contains-append_right}
use Rattle.std.proofs.lemmas.Map.Keys.{IsDistinct-cons, IsDistinct-head, IsDistinct-tail}
use Rattle.std.proofs.lemmas.Map.Made.{is_member-Decides}
use Rattle.std.proofs.lemmas.Slice.Eq.{bytes_eq-Decides}
use Rattle.table_history.specs.History.{FitsColumn, IsOfType, column_type}
use Rattle.table_history.specs.Row.{Row}
use Rattle.table_history.specs.Rows.{HasDistinctPaths, paths_of}
use Rattle.table_history.specs.Tables.{CanApply, IsAfter, IsRowAfter}
use Rattle.table_history.specs.TypeTree as tree
use Rattle.table_history.specs.TypeTree.{TypeTree, ColumnTrees, no_columns, column}
use Rattle.table_history.specs.declared.row.PartValue.{PartValue}
use Rattle.table_history.specs.declared.row.PartValue.TheVariants as value
use Rattle.table_history.specs.declared.table.Change.{Change}
use Rattle.table_history.specs.declared.table.Table.{Table}
use Rattle.table_history.proofs.RowListLemmas.{Contains-filter, Contains-head, Contains-tail, distinct_filter, filter_contains}
use Rattle.table_history.proofs.TableLemmas.{Contains-paths_cases}
use Rattle.partition_map.specs.Columns.{column_kind}
use Rattle.partition_map.specs.Kind.{IsOfKind, part_kind_of}
use Rattle.partition_map.specs.declared.kind.PartKind.{PartKind}
use Rattle.partition_map.specs.declared.kind.PartKind.TheVariants as kind
use Rattle.schema_map.specs.Image.{wide_columns, wide_type}
use Rattle.target_core.specs.Conditions.{HasKind}
use Rattle.lake_basics.proofs.Truth.{never_both, not_by}
use Rattle.lake_basics.proofs.Lists.{all_append}

-- ---- lists

pub apart_all : (x : List ℕ) (ys : List (List ℕ)) → (Contains ys x → ⊥) → AllByRecursion (λ y. bytes_eq x y ≡ false) ys
apart_all x [] none = tt
apart_all x (y ∷ ys) none = (
  ⊎_elim (λ yes. absurd (none (subst (λ z. Contains (y ∷ ys) z) (sym ((bytes_eq-Decides x y).0 yes)) (Contains-head y ys)))) (λ no. no) (cases_Bool (bytes_eq x y)),
  apart_all x ys (λ there. none (Contains-tail y ys x there)),
)

pub distinct_joined : (xs ys : List (List ℕ)) → IsDistinct bytes_eq xs → IsDistinct bytes_eq ys → ((p : List ℕ) → Contains xs p → Contains ys p → ⊥) → IsDistinct bytes_eq (xs ++ ys)
distinct_joined [] ys one two apart = two
distinct_joined (x ∷ xs) ys one two apart =
    IsDistinct-cons bytes_eq x (xs ++ ys)
    (all_append (λ y. bytes_eq x y ≡ false) xs ys (IsDistinct-head bytes_eq x xs one) (apart_all x ys (λ there. apart x (Contains-head x xs) there)))
    (distinct_joined xs ys (IsDistinct-tail bytes_eq x xs one) two (λ p there. apart p (Contains-tail x xs p there)))

-- ---- the table

abbrev stays_row : List (List ℕ) → Row → Bool
stays_row removed row = not (list_any (bytes_eq row.path) removed)

-- a table behind the change
abbrev pub table_behind : Table → Change → Table
table_behind table change = record { schema = unwrap_or change.schema table.schema; partition = table.partition; rows = filter (stays_row change.removed) table.rows ++ change.added }

module _ (table : Table) (change : Change) (distinct : HasDistinctPaths table.rows) (can : CanApply table change) where
  removed_is : (path : List ℕ) → list_any (bytes_eq path) change.removed ≡ true → Contains change.removed path
  removed_is path h = (is_member-Decides bytes_eq-Decides change.removed path).0 h

  removed_so : (path : List ℕ) → Contains change.removed path → list_any (bytes_eq path) change.removed ≡ true
  removed_so path there = (is_member-Decides bytes_eq-Decides change.removed path).1 there

  abbrev kept_rows : List Row
  kept_rows = filter (stays_row change.removed) table.rows

  kept_row : (row : Row) → Contains kept_rows row → Contains table.rows row × ¬ Contains change.removed row.path
  kept_row row there = let h = Contains-filter (stays_row change.removed) table.rows row there in (h.0, λ gone. never_both (list_any (bytes_eq row.path) change.removed) h.1 (removed_so row.path gone))

  row_to : (row : Row) → Contains (kept_rows ++ change.added) row → IsRowAfter table.rows change.removed change.added row
  row_to row there = ⊎_elim (λ old. inr (kept_row row old)) (λ new. inl new) (Contains-append_cases kept_rows change.added row there)

  row_from : (row : Row) → IsRowAfter table.rows change.removed change.added row → Contains (kept_rows ++ change.added) row
  row_from row (inl new) = Contains-append_right kept_rows change.added row new
  row_from row (inr old) = Contains-append_left kept_rows change.added row (filter_contains (stays_row change.removed) table.rows row old.0 (not_by (list_any (bytes_eq row.path) change.removed) (λ h. old.1 (removed_is row.path h))))

  apart_rows : (p : List ℕ) → Contains (paths_of kept_rows) p → Contains (paths_of change.added) p → ⊥
  apart_rows p old new =
      let a = Contains-paths_cases kept_rows p old in
      let b = Contains-paths_cases change.added p new in
      let k = kept_row a.0 a.1 in
      k.1 (subst (λ q. Contains change.removed q) (b.2 ∙ sym a.2) (can.added_new b.0 b.1 (a.0, k.0, a.2 ∙ sym b.2)))

  pub is_behind : IsAfter table change (table_behind table change)
  is_behind = record {
    rows = λ row. (row_to row, row_from row);
    distinct = subst (λ ps. IsDistinct bytes_eq ps) (sym (map-append (λ (r : Row). r.path) kept_rows change.added)) (distinct_joined (paths_of kept_rows) (paths_of change.added) (distinct_filter (stays_row change.removed) table.rows distinct) can.added_distinct apart_rows);
    schema = refl;
    partition = refl;
  }

-- ---- the kinds of columns

pub wide_part : (t : TypeTree) → part_kind_of (wide_type t) ≡ part_kind_of t
wide_part tree.boolean = refl
wide_part tree.byte = refl
wide_part tree.short = refl
wide_part tree.int = refl
wide_part tree.long = refl
wide_part tree.float = refl
wide_part tree.double = refl
wide_part tree.text = refl
wide_part tree.binary = refl
wide_part tree.date = refl
wide_part tree.timestamp = refl
wide_part tree.timestamp_ntz = refl
wide_part (tree.decimal p s) = refl
wide_part (tree.struct_of cs) = refl
wide_part (tree.list_of t b) = refl
wide_part (tree.map_of k v b) = refl

pub wide_kind : (cs : ColumnTrees) (name : List ℕ) → column_kind (wide_columns cs) name ≡ column_kind cs name
wide_kind no_columns name = refl
wide_kind (column n t b cs) name = at (wide_kind cs name) (bytes_eq n name)
  where
    at : column_kind (wide_columns cs) name ≡ column_kind cs name → (c : Bool) → option_and_then part_kind_of (cond c (Some (wide_type t)) (column_type (wide_columns cs) name)) ≡ option_and_then part_kind_of (cond c (Some t) (column_type cs name))
    at rest true = wide_part t
    at rest false = rest

of_type : (t : TypeTree) (v : PartValue) → v ≢ value.Null → IsOfType t v → is_some (part_kind_of t) ≡ true
of_type t value.Null some is = absurd (some refl)
of_type t (value.Boolean b) some is = subst (λ u. is_some (part_kind_of u) ≡ true) (sym is) refl
of_type t (value.Int n) some (inl is) = subst (λ u. is_some (part_kind_of u) ≡ true) (sym is) refl
of_type t (value.Int n) some (inr (inl is)) = subst (λ u. is_some (part_kind_of u) ≡ true) (sym is) refl
of_type t (value.Int n) some (inr (inr is)) = subst (λ u. is_some (part_kind_of u) ≡ true) (sym is) refl
of_type t (value.Long n) some is = subst (λ u. is_some (part_kind_of u) ≡ true) (sym is) refl
of_type t (value.Text s) some is = subst (λ u. is_some (part_kind_of u) ≡ true) (sym is) refl
of_type t (value.Date d) some is = subst (λ u. is_some (part_kind_of u) ≡ true) (sym is) refl

pub kind_there : (schema : ColumnTrees) (name : List ℕ) → HasKind schema name → is_some (column_kind schema name) ≡ true
kind_there schema name h = ap (λ o. is_some (option_and_then part_kind_of o)) h.2 ∙ of_type h.0 h.1 h.3 h.4

type_of_kind : (t : TypeTree) (k : PartKind) (v : PartValue) → part_kind_of t ≡ Some k → IsOfType t v → IsOfKind k v
type_of_kind t k value.Null is of = tt
type_of_kind t k (value.Boolean b) is of = let e : Some kind.Boolean ≡ Some k = sym (ap part_kind_of of) ∙ is in subst (λ j. IsOfKind j (value.Boolean b)) (let f : kind.Boolean ≡ k = cc in f) tt
type_of_kind t k (value.Int n) is (inl of) = let e : Some kind.Int ≡ Some k = sym (ap part_kind_of of) ∙ is in subst (λ j. IsOfKind j (value.Int n)) (let f : kind.Int ≡ k = cc in f) tt
type_of_kind t k (value.Int n) is (inr (inl of)) = let e : Some kind.Int ≡ Some k = sym (ap part_kind_of of) ∙ is in subst (λ j. IsOfKind j (value.Int n)) (let f : kind.Int ≡ k = cc in f) tt
type_of_kind t k (value.Int n) is (inr (inr of)) = let e : Some kind.Int ≡ Some k = sym (ap part_kind_of of) ∙ is in subst (λ j. IsOfKind j (value.Int n)) (let f : kind.Int ≡ k = cc in f) tt
type_of_kind t k (value.Long n) is of = let e : Some kind.Long ≡ Some k = sym (ap part_kind_of of) ∙ is in subst (λ j. IsOfKind j (value.Long n)) (let f : kind.Long ≡ k = cc in f) tt
type_of_kind t k (value.Text s) is of = let e : Some kind.Text ≡ Some k = sym (ap part_kind_of of) ∙ is in subst (λ j. IsOfKind j (value.Text s)) (let f : kind.Text ≡ k = cc in f) tt
type_of_kind t k (value.Date d) is of = let e : Some kind.Date ≡ Some k = sym (ap part_kind_of of) ∙ is in subst (λ j. IsOfKind j (value.Date d)) (let f : kind.Date ≡ k = cc in f) tt

pub of_kind : (o : Option TypeTree) (k : PartKind) (v : PartValue) → option_and_then part_kind_of o ≡ Some k → FitsColumn o v → IsOfKind k v
of_kind None k v is fits = absurd (cc)
of_kind (Some t) k v is fits = type_of_kind t k v is fits

-- ---- kinds that aren't others are the same

code : Option PartKind → ℕ
code None = 0
code (Some kind.Boolean) = 1
code (Some kind.Int) = 2
code (Some kind.Long) = 3
code (Some kind.Text) = 4
code (Some kind.Date) = 5

of_code : ℕ → Option PartKind
of_code zero = None
of_code (suc zero) = Some kind.Boolean
of_code (suc (suc zero)) = Some kind.Int
of_code (suc (suc (suc zero))) = Some kind.Long
of_code (suc (suc (suc (suc zero)))) = Some kind.Text
of_code (suc (suc (suc (suc (suc n))))) = Some kind.Date

code_back : (o : Option PartKind) → of_code (code o) ≡ o
unfolding code of_code
code_back None = refl
code_back (Some kind.Boolean) = refl
code_back (Some kind.Int) = refl
code_back (Some kind.Long) = refl
code_back (Some kind.Text) = refl
code_back (Some kind.Date) = refl

codes_back : (os : List (Option PartKind)) → map of_code (map code os) ≡ os
codes_back [] = refl
codes_back (o ∷ os) = (λ i. code_back o i ∷ codes_back os i)

pub same_kinds : (a b : List (Option PartKind)) → (a ≢ b → ⊥) → a ≡ b
same_kinds a b not_other =
    ⊎_elim
    (λ (yes : bytes_eq (map code a) (map code b) ≡ true). sym (codes_back a) ∙ ap (map of_code) ((bytes_eq-Decides (map code a) (map code b)).0 yes) ∙ codes_back b)
    (λ (no : bytes_eq (map code a) (map code b) ≡ false). absurd (not_other (λ same. false≢true (sym no ∙ (bytes_eq-Decides (map code a) (map code b)).1 (ap (map code) same)))))
    (cases_Bool (bytes_eq (map code a) (map code b)))
