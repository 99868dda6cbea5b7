-- The kinds of partition columns before a commit and behind it, and the values that they take.
use Rattle.std.proofs.Common.{◌≡◌, ℕ, true, List, [], ◌∷◌, Some, Contains, refl, sym, ap, ◌∙◌, ⊎_elim}
use Rattle.std.proofs.lemmas.Bool.{cases_Bool, false≢true}
use Rattle.table_history.specs.History.{column_type, FitColumns}
use Rattle.table_history.specs.TypeTree.{ColumnTrees}
use Rattle.table_history.specs.declared.row.PartValue.{PartValue}
use Rattle.table_history.proofs.RowListLemmas.{Contains-head, Contains-tail}
use Rattle.partition_map.specs.Columns.{column_kind, HasOtherKind, is_same_kind}
use Rattle.partition_map.specs.declared.kind.PartKind.{PartKind}
use Rattle.partition_map.proofs.KindLemmas.{still_fits}
use Rattle.partition_map.proofs.ColumnLemmas.{itself, same_kind}
use Rattle.delta_live.specs.Live.{PartColumns, ArePartColumns}

-- a column of these names that has a kind in both schemas has the same one
abbrev pub KeepKinds : ColumnTrees → ColumnTrees → List (List ℕ) → Type 0
KeepKinds old new names = (name : List ℕ) → Contains names name → (o k : PartKind) → column_kind old name ≡ Some o → column_kind new name ≡ Some k → o ≡ k

pub kinds_kept : (old new : ColumnTrees) (names : List (List ℕ)) → (HasOtherKind old new names → ⊥) → KeepKinds old new names
kinds_kept old new names kept name there o k was is =
    ⊎_elim
    (λ same. same_kind o k same)
    (λ other. absurd (kept (record { name = name; named = there; old = o; was = was; new = k; is = is; changed = λ e. false≢true (sym other ∙ ap (λ x. is_same_kind o x) (sym e) ∙ itself o) })))
    (cases_Bool (is_same_kind o k))

rest_kept : (old new : ColumnTrees) (n : List ℕ) (ns : List (List ℕ)) → KeepKinds old new (n ∷ ns) → KeepKinds old new ns
rest_kept old new n ns same name there = same name (Contains-tail n ns name there)

-- ---- values

-- where the kinds stay, the values fit as before
pub values_still_fit : (old new : ColumnTrees) (names : List (List ℕ)) (columns : PartColumns) (vs : List PartValue) → ArePartColumns new names columns → KeepKinds old new names → FitColumns old names vs → FitColumns new names vs
values_still_fit old new [] columns [] are same h = tt
values_still_fit old new [] columns (v ∷ vs) are same h = absurd h
values_still_fit old new (n ∷ ns) columns [] are same h = absurd h
values_still_fit old new (n ∷ ns) [] (v ∷ vs) are same h = absurd are
values_still_fit old new (n ∷ ns) (c ∷ cs) (v ∷ vs) are same h = (
  still_fits (column_type old n) (column_type new n) v c.1 are.1 (λ o is. same n (Contains-head n ns) o c.1 is are.1) h.0,
  values_still_fit old new ns cs vs are.2 (rest_kept old new n ns same) h.1,
)

-- ---- columns

pub same_columns : (old new : ColumnTrees) (names : List (List ℕ)) (xs ys : PartColumns) → ArePartColumns old names xs → ArePartColumns new names ys → KeepKinds old new names → xs ≡ ys
same_columns old new [] [] [] a b same = refl
same_columns old new [] [] (y ∷ ys) a b same = absurd b
same_columns old new [] (x ∷ xs) ys a b same = absurd a
same_columns old new (n ∷ ns) [] ys a b same = absurd a
same_columns old new (n ∷ ns) (x ∷ xs) [] a b same = absurd b
same_columns old new (n ∷ ns) (x ∷ xs) (y ∷ ys) a b same =
    let kind : x.1 ≡ y.1 = same n (Contains-head n ns) x.1 y.1 a.1 b.1 in
    λ i. ((a.0 ∙ sym b.0) i, kind i) ∷ same_columns old new ns xs ys a.2 b.2 (rest_kept old new n ns same) i
