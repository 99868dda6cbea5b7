-- The derived `==` of rows and of their values decides whether two are one.
use Rattle.std.proofs.Common.{◌≡◌, Bool, true, false, List, refl, sym, ap, subst, ◌∙◌, ◌⊎◌, inl, inr}
use Rattle.std.specs.Bool.{Decides}
use Rattle.std.specs.Cmp.Lexicographic.{pointwise}
use Rattle.std.proofs.lemmas.Bool.{and_parts, cases_Bool, false≢true}
use Rattle.std.proofs.lemmas.Bool.Decides.{Decides-eqb, Decides-int_eq}
use Rattle.std.proofs.lemmas.Slice.Eq.{bytes_eq-Decides, slice_eq-Decides}
use Rattle.table_history.specs.declared.row.PartValue.{PartValue}
use Rattle.table_history.specs.declared.row.PartValue.TheVariants.{Null, Boolean, Int, Long, Text, Date}
use Rattle.table_history.specs.declared.row.FileRow.{FileRow}
use Rattle.table_history.specs.contracts.row.PartValuePartialEq.TheImpl as value
use Rattle.table_history.specs.contracts.row.FileRowPartialEq.TheImpl as row

abbrev pub value_eq : PartValue → PartValue → Bool
value_eq = value.eq-value.it

abbrev pub row_eq : FileRow → FileRow → Bool
row_eq = row.eq-value.it

bool_same : (a b : Bool) → value_eq (Boolean a) (Boolean b) ≡ true → a ≡ b
bool_same true true h = refl
bool_same false false h = refl
bool_same true false h = absurd (false≢true h)
bool_same false true h = absurd (false≢true h)

value_same : (a b : PartValue) → value_eq a b ≡ true → a ≡ b
value_same Null Null h = refl
value_same (Boolean a) (Boolean b) h = ap Boolean (bool_same a b h)
value_same (Int a) (Int b) h = ap Int ((Decides-int_eq a b).0 h)
value_same (Long a) (Long b) h = ap Long ((Decides-int_eq a b).0 h)
value_same (Text a) (Text b) h = ap Text ((bytes_eq-Decides a b).0 h)
value_same (Date a) (Date b) h = ap Date ((Decides-int_eq a b).0 h)
value_same _ _ h = absurd (false≢true h)

value_itself : (a : PartValue) → value_eq a a ≡ true
value_itself Null = refl
value_itself (Boolean true) = refl
value_itself (Boolean false) = refl
value_itself (Int a) = (Decides-int_eq a a).1 refl
value_itself (Long a) = (Decides-int_eq a a).1 refl
value_itself (Text a) = (bytes_eq-Decides a a).1 refl
value_itself (Date a) = (Decides-int_eq a a).1 refl

pub value_eq-Decides : (a b : PartValue) → Decides (value_eq a b) (a ≡ b)
value_eq-Decides a b = (value_same a b, λ e. subst (λ c. value_eq a c ≡ true) e (value_itself a))

pub values_eq-Decides : (xs ys : List PartValue) → Decides (pointwise value_eq xs ys) (xs ≡ ys)
values_eq-Decides xs ys = slice_eq-Decides value_eq-Decides xs ys (pointwise value_eq xs ys) refl

row_same : (a b : FileRow) → row_eq a b ≡ true → a ≡ b
row_same a b h =
    let one = and_parts _ _ h in
    let two = and_parts _ _ one.1 in
    let three = and_parts _ _ two.1 in
    let path : a.path ≡ b.path = (bytes_eq-Decides a.path b.path).0 one.0 in
    let values : a.values ≡ b.values = (values_eq-Decides a.values b.values).0 two.0 in
    let count : a.count ≡ b.count = (Decides-eqb a.count b.count).0 three.0 in
    let size : a.size ≡ b.size = (Decides-eqb a.size b.size).0 three.1 in
    λ i. record { path = path i; values = values i; count = count i; size = size i }

row_itself : (a : FileRow) → row_eq a a ≡ true
row_itself a =
    rw ((bytes_eq-Decides a.path a.path).1 refl, (values_eq-Decides a.values a.values).1 refl, (Decides-eqb a.count a.count).1 refl, (Decides-eqb a.size a.size).1 refl)

pub row_eq-Decides : (a b : FileRow) → Decides (row_eq a b) (a ≡ b)
row_eq-Decides a b = (row_same a b, λ e. subst (λ c. row_eq a c ≡ true) e (row_itself a))

-- two rows are one, or they are not
pub same_or_not : (a b : FileRow) → (a ≡ b) ⊎ ((a ≡ b) → ⊥)
same_or_not a b =
    elim (cases_Bool (row_eq a b)) as (λ _. (a ≡ b) ⊎ ((a ≡ b) → ⊥)) [ inl h ↦ inl (row_same a b h) | inr h ↦ inr (λ e. false≢true (sym h ∙ (row_eq-Decides a b).1 e)) ]
