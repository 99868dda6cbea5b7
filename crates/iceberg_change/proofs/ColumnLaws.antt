-- The derived `==` of columns decides whether two are one.
use Rattle.std.proofs.Common.{◌≡◌, Bool, true, List, Option, Some, Decides, refl, ap, subst, ◌∙◌}
use Rattle.std.specs.Cmp.Lexicographic.{pointwise}
use Rattle.std.proofs.lemmas.Bool.{and_parts}
use Rattle.std.proofs.lemmas.Bool.Decides.{Decides-int_eq}
use Rattle.std.proofs.lemmas.Slice.Eq.{slice_eq-Decides}
use Rattle.partition_map.proofs.EqualKinds.{kind_decides}
use Rattle.iceberg_manifest.specs.contracts.partition.PartColumnPartialEq.TheImpl as column
use Rattle.iceberg_manifest.specs.declared.partition.PartColumn.{PartColumn}

column_same : (a b : PartColumn) → column.eq-value.it a b ≡ true → a ≡ b
column_same a b h =
    let both = and_parts _ _ h in
    let id : a.field_id ≡ b.field_id = (Decides-int_eq a.field_id b.field_id).0 both.0 in
    let of : a.kind ≡ b.kind = (kind_decides a.kind b.kind).0 both.1 in
    λ i. record { field_id = id i; kind = of i }

column_itself : (a : PartColumn) → column.eq-value.it a a ≡ true
column_itself a = rw ((Decides-int_eq a.field_id a.field_id).1 refl, (kind_decides a.kind a.kind).1 refl)

column_decides : (a b : PartColumn) → Decides (column.eq-value.it a b) (a ≡ b)
column_decides a b = (column_same a b, λ e. subst (λ c. column.eq-value.it a c ≡ true) e (column_itself a))

pub columns_same : (known : Option (List PartColumn)) (a b : List PartColumn) (r : Bool) → known ≡ Some a → r ≡ pointwise column.eq-value.it a b → r ≡ true → known ≡ Some b
columns_same known a b r is eq same = is ∙ ap Some ((slice_eq-Decides column_decides a b r eq).0 same)
