-- The values that columns of a kind take. Columns that the same partition values fit are of one kind.
use Rattle.std.proofs.Common.{◌≡◌, ◌≢◌, ◌↔◌, ◌⊎◌, ℕ, pos, true, List, [], Option, Some, None, refl, sym, ap, subst, ◌∙◌, inl, inr, ⊎_elim}
use Rattle.std.specs.Option.{option_and_then}
use Rattle.std.proofs.lemmas.Option.{none-some}
use Rattle.table_history.specs.History.{FitsColumn, IsOfType, column_type}
use Rattle.table_history.specs.TypeTree.{ColumnTrees, TypeTree, short, int}
use Rattle.table_history.specs.declared.row.PartValue.{PartValue}
use Rattle.table_history.specs.declared.row.PartValue.TheVariants as value
use Rattle.partition_map.specs.Columns.{column_kind}
use Rattle.partition_map.specs.Kind.{IsOfKind, part_kind_of}
use Rattle.partition_map.specs.declared.kind.PartKind.{PartKind}
use Rattle.partition_map.specs.declared.kind.PartKind.TheVariants as kind
use Rattle.partition_map.proofs.Laws.{kind_of_type}

-- ---- a value and its column

pub fits_kind : (o : Option TypeTree) (k : PartKind) (v : PartValue) → option_and_then part_kind_of o ≡ Some k → IsOfKind k v → FitsColumn o v
fits_kind None k v e h = absurd (none-some k e)
fits_kind (Some t) k v e h = (kind_of_type t k e v).0 h

kind_of : (t : TypeTree) (v : PartValue) → IsOfType t v → (v ≡ value.Null) ⊎ ((k : PartKind) × (part_kind_of t ≡ Some k) × IsOfKind k v)
kind_of t value.Null h = inl refl
kind_of t (value.Boolean b) h = inr (kind.Boolean, ap part_kind_of h, tt)
kind_of t (value.Int n) h = inr (kind.Int, ⊎_elim (λ e. ap part_kind_of e) (λ other. ⊎_elim (λ e. ap part_kind_of e) (λ e. ap part_kind_of e) other) h, tt)
kind_of t (value.Long n) h = inr (kind.Long, ap part_kind_of h, tt)
kind_of t (value.Text s) h = inr (kind.Text, ap part_kind_of h, tt)
kind_of t (value.Date d) h = inr (kind.Date, ap part_kind_of h, tt)

null_fits : (o : Option TypeTree) (v : PartValue) → v ≡ value.Null → FitsColumn o v
null_fits None v e = e
null_fits (Some t) v e = subst (λ w. IsOfType t w) (sym e) tt

-- The same kind takes the same values.
pub still_fits : (old new : Option TypeTree) (v : PartValue) (k : PartKind) → option_and_then part_kind_of new ≡ Some k → ((o : PartKind) → option_and_then part_kind_of old ≡ Some o → o ≡ k) → FitsColumn old v → FitsColumn new v
still_fits None new v k is same h = null_fits new v h
still_fits (Some t) new v k is same h =
    ⊎_elim
    (λ null. null_fits new v null)
    (λ has. fits_kind new k v is (subst (λ x. IsOfKind x v) (same has.0 has.1) has.2))
    (kind_of t v h)

-- A type without a kind takes null alone.
only_null : (t : TypeTree) (v : PartValue) → part_kind_of t ≡ None → IsOfType t v → v ≡ value.Null
only_null t value.Null none of = refl
only_null t (value.Boolean b) none of = absurd (none-some kind.Boolean (sym none ∙ ap part_kind_of of))
only_null t (value.Int n) none of = absurd (none-some kind.Int (sym none ∙ ⊎_elim (λ e. ap part_kind_of e) (λ (other : (t ≡ short) ⊎ (t ≡ int)). ⊎_elim (λ e. ap part_kind_of e) (λ e. ap part_kind_of e) other) of))
only_null t (value.Long n) none of = absurd (none-some kind.Long (sym none ∙ ap part_kind_of of))
only_null t (value.Text s) none of = absurd (none-some kind.Text (sym none ∙ ap part_kind_of of))
only_null t (value.Date days) none of = absurd (none-some kind.Date (sym none ∙ ap part_kind_of of))

-- Types of one kind, or both without a kind, take the same values.
pub of_same : (t u : TypeTree) (o : Option PartKind) → part_kind_of t ≡ o → part_kind_of u ≡ o → (v : PartValue) → IsOfType t v → IsOfType u v
of_same t u None is also v of = subst (IsOfType u) (sym (only_null t v is of)) tt
of_same t u (Some k) is also v of = (kind_of_type u k also v).0 ((kind_of_type t k is v).1 of)

-- ---- a column that has a kind

value_of_kind : (k : PartKind) → (v : PartValue) × (v ≢ value.Null) × IsOfKind k v
value_of_kind kind.Boolean = (value.Boolean true, λ e. absurd cc, tt)
value_of_kind kind.Int = (value.Int (pos 0), λ e. absurd cc, tt)
value_of_kind kind.Long = (value.Long (pos 0), λ e. absurd cc, tt)
value_of_kind kind.Text = (value.Text [], λ e. absurd cc, tt)
value_of_kind kind.Date = (value.Date (pos 0), λ e. absurd cc, tt)

pub some_kind : (o : Option PartKind) → o ≢ None → (k : PartKind) × (o ≡ Some k)
some_kind None h = absurd (h refl)
some_kind (Some k) h = (k, refl)

typed : (o : Option TypeTree) → option_and_then part_kind_of o ≢ None → (t : TypeTree) × (v : PartValue) × (o ≡ Some t) × (v ≢ value.Null) × IsOfType t v
typed None h = absurd (h refl)
typed (Some t) h =
    let is = some_kind (part_kind_of t) h in
    let v = value_of_kind is.0 in
    (t, v.0, refl, v.1, (kind_of_type t is.0 is.1 v.0).0 v.2)

kinded : (o : Option TypeTree) → ((t : TypeTree) × (v : PartValue) × (o ≡ Some t) × (v ≢ value.Null) × IsOfType t v) → option_and_then part_kind_of o ≢ None
kinded o h none =
    ⊎_elim
    (λ null. h.3 null)
    (λ has. none-some has.0 (sym none ∙ ap (option_and_then part_kind_of) h.2 ∙ has.1))
    (kind_of h.0 h.1 h.4)

-- A column has a kind exactly where some value other than null is of its type.
pub kind_exactly : (schema : ColumnTrees) (name : List ℕ)
    → (column_kind schema name ≢ None) ↔ ((t : TypeTree) × (v : PartValue) × (column_type schema name ≡ Some t) × (v ≢ value.Null) × IsOfType t v)
kind_exactly schema name = (typed (column_type schema name), kinded (column_type schema name))

-- ---- one value of each kind
abbrev sample : PartKind → PartValue
sample kind.Boolean = value.Boolean true
sample kind.Int = value.Int (pos 0)
sample kind.Long = value.Long (pos 0)
sample kind.Text = value.Text []
sample kind.Date = value.Date (pos 0)

of_kind : (k : PartKind) → IsOfKind k (sample k)
of_kind kind.Boolean = tt
of_kind kind.Int = tt
of_kind kind.Long = tt
of_kind kind.Text = tt
of_kind kind.Date = tt

-- It fits just the columns of its kind.
fits_sample : (o : Option TypeTree) (k : PartKind) → option_and_then part_kind_of o ≡ Some k → FitsColumn o (sample k)
fits_sample None k is = absurd (none-some k is)
fits_sample (Some t) k is = (kind_of_type t k is (sample k)).0 (of_kind k)

kind_of_sample : (o : Option TypeTree) (k : PartKind) → FitsColumn o (sample k) → option_and_then part_kind_of o ≡ Some k
kind_of_sample None kind.Boolean fits = absurd cc
kind_of_sample None kind.Int fits = absurd cc
kind_of_sample None kind.Long fits = absurd cc
kind_of_sample None kind.Text fits = absurd cc
kind_of_sample None kind.Date fits = absurd cc
kind_of_sample (Some t) kind.Boolean fits = ap part_kind_of fits
kind_of_sample (Some t) kind.Int fits = ⊎_elim (λ e. ap part_kind_of e) (λ (other : (t ≡ short) ⊎ (t ≡ int)). ⊎_elim (λ e. ap part_kind_of e) (λ e. ap part_kind_of e) other) fits
kind_of_sample (Some t) kind.Long fits = ap part_kind_of fits
kind_of_sample (Some t) kind.Text fits = ap part_kind_of fits
kind_of_sample (Some t) kind.Date fits = ap part_kind_of fits

-- ---- columns of one kind
kind_kept : (a b : ColumnTrees) (name : List ℕ) → ((v : PartValue) → FitsColumn (column_type a name) v → FitsColumn (column_type b name) v)
    → (k : PartKind) → column_kind a name ≡ Some k → column_kind b name ≡ Some k
kind_kept a b name fits k is = kind_of_sample (column_type b name) k (fits (sample k) (fits_sample (column_type a name) k is))

by : (a b : Option PartKind) → ((k : PartKind) → a ≡ Some k → b ≡ Some k) → ((k : PartKind) → b ≡ Some k → a ≡ Some k) → a ≡ b
by None None there back = refl
by None (Some k) there back = absurd (none-some k (back k refl))
by (Some k) b there back = sym (there k refl)

pub same_kind : (a b : ColumnTrees) (name : List ℕ) → ((v : PartValue) → FitsColumn (column_type a name) v ↔ FitsColumn (column_type b name) v) → column_kind a name ≡ column_kind b name
same_kind a b name same =
    by (column_kind a name) (column_kind b name) (kind_kept a b name (λ v. (same v).0)) (kind_kept b a name (λ v. (same v).1))
