-- Laws of partition values that the layers above need.
use Rattle.std.proofs.Common.{◌≡◌, ◌↔◌, ℕ, List, [], ◌∷◌, Option, None, Some, ◌⊎◌, inl, inr, refl, sym, ap, subst, ◌∙◌, ⊎_elim}
use Rattle.avro_value.specs.ValueTree.{ValueTree}
use Rattle.table_history.specs.History.{IsOfType}
use Rattle.table_history.specs.TypeTree.{TypeTree, boolean, byte, short, int, long, text, date}
use Rattle.table_history.specs.declared.row.PartValue.{PartValue}
use Rattle.table_history.specs.declared.row.PartValue.TheVariants as value
use Rattle.partition_map.specs.Avro.{AvroStands, BranchStands, branch_of}
use Rattle.partition_map.specs.Kind.{IsOfKind, part_kind_of}
use Rattle.partition_map.specs.Stands.{IsTextOf, DeltaStands, HiveStands}
use Rattle.partition_map.specs.declared.kind.PartKind.{PartKind}
use Rattle.partition_map.specs.declared.kind.PartKind.TheVariants as kind

-- ---- what stands for a value of a kind is of that kind
null_of_kind : (k : PartKind) (v : PartValue) → v ≡ value.Null → IsOfKind k v
null_of_kind k v is = subst (IsOfKind k) (sym is) tt

text_of_kind : (k : PartKind) (spelled : List ℕ) (v : PartValue) → IsTextOf k spelled v → IsOfKind k v
text_of_kind kind.Boolean spelled v h =
    ⊎_elim (λ t. subst (IsOfKind kind.Boolean) (sym t.1) tt) (λ f. subst (IsOfKind kind.Boolean) (sym f.1) tt) h
text_of_kind kind.Int spelled v h = subst (IsOfKind kind.Int) (sym h.3) tt
text_of_kind kind.Long spelled v h = subst (IsOfKind kind.Long) (sym h.3) tt
text_of_kind kind.Text spelled v h = subst (IsOfKind kind.Text) (sym h) tt
text_of_kind kind.Date spelled v h = subst (IsOfKind kind.Date) (sym h.2) tt

-- a text of a Delta commit
pub delta_of_kind : (k : PartKind) (spelled : Option (List ℕ)) (v : PartValue) → DeltaStands k spelled v → IsOfKind k v
delta_of_kind k None v h = null_of_kind k v h
delta_of_kind k (Some []) v h = null_of_kind k v h
delta_of_kind k (Some (c ∷ spelled)) v h = text_of_kind k (c ∷ spelled) v h

-- a part of a hive folder
pub hive_of_kind : (k : PartKind) (spelled : List ℕ) (v : PartValue) → HiveStands k spelled v → IsOfKind k v
hive_of_kind k spelled v h = ⊎_elim (λ none. null_of_kind k v none.1) (λ some. text_of_kind k spelled v some.2) h

branch_of_kind : (k : PartKind) (tree : ValueTree) (v : PartValue) → BranchStands k tree v → IsOfKind k v
branch_of_kind k ValueTree.null v h = null_of_kind k v h
branch_of_kind kind.Boolean (ValueTree.boolean b) v h = subst (IsOfKind kind.Boolean) (sym h) tt
branch_of_kind kind.Int (ValueTree.int n) v h = subst (IsOfKind kind.Int) (sym h) tt
branch_of_kind kind.Long (ValueTree.long n) v h = subst (IsOfKind kind.Long) (sym h) tt
branch_of_kind kind.Text (ValueTree.text t) v h = subst (IsOfKind kind.Text) (sym h) tt
branch_of_kind kind.Date (ValueTree.int n) v h = subst (IsOfKind kind.Date) (sym h) tt
branch_of_kind _ _ v h = absurd h

-- an Avro value
pub avro_of_kind : (k : PartKind) (tree : ValueTree) (v : PartValue) → AvroStands k tree v → IsOfKind k v
avro_of_kind k tree v h = branch_of_kind k (branch_of tree) v h

-- ---- a value is of a column's kind exactly where it fits the column's type
of_this_kind : (k l : PartKind) (v : PartValue) → Some k ≡ Some l → IsOfKind l v → IsOfKind k v
of_this_kind k l v same h = let is : k ≡ l = cc in subst (λ m. IsOfKind m v) (sym is) h

of_kind : (t : TypeTree) (k : PartKind) → part_kind_of t ≡ Some k → (v : PartValue) → IsOfType t v → IsOfKind k v
of_kind t k is value.Null h = null_of_kind k value.Null refl
of_kind t k is (value.Boolean b) h = of_this_kind k kind.Boolean (value.Boolean b) (sym is ∙ ap part_kind_of h) tt
of_kind t k is (value.Int n) h =
    ⊎_elim
    (λ e. of_this_kind k kind.Int (value.Int n) (sym is ∙ ap part_kind_of e) tt)
    (λ more. ⊎_elim
    (λ e. of_this_kind k kind.Int (value.Int n) (sym is ∙ ap part_kind_of e) tt)
    (λ e. of_this_kind k kind.Int (value.Int n) (sym is ∙ ap part_kind_of e) tt)
    more)
    h
of_kind t k is (value.Long n) h = of_this_kind k kind.Long (value.Long n) (sym is ∙ ap part_kind_of h) tt
of_kind t k is (value.Text s) h = of_this_kind k kind.Text (value.Text s) (sym is ∙ ap part_kind_of h) tt
of_kind t k is (value.Date days) h = of_this_kind k kind.Date (value.Date days) (sym is ∙ ap part_kind_of h) tt

is_boolean : (t : TypeTree) → part_kind_of t ≡ Some kind.Boolean → t ≡ boolean
is_boolean boolean h = refl
is_boolean _ h = absurd cc

is_int : (t : TypeTree) → part_kind_of t ≡ Some kind.Int → (t ≡ byte) ⊎ ((t ≡ short) ⊎ (t ≡ int))
is_int byte h = inl refl
is_int short h = inr (inl refl)
is_int int h = inr (inr refl)
is_int _ h = absurd cc

is_long : (t : TypeTree) → part_kind_of t ≡ Some kind.Long → t ≡ long
is_long long h = refl
is_long _ h = absurd cc

is_text : (t : TypeTree) → part_kind_of t ≡ Some kind.Text → t ≡ text
is_text text h = refl
is_text _ h = absurd cc

is_date : (t : TypeTree) → part_kind_of t ≡ Some kind.Date → t ≡ date
is_date date h = refl
is_date _ h = absurd cc

of_type : (k : PartKind) (v : PartValue) → IsOfKind k v → (t : TypeTree) → part_kind_of t ≡ Some k → IsOfType t v
of_type k value.Null h t is = tt
of_type kind.Boolean (value.Boolean b) h t is = is_boolean t is
of_type kind.Int (value.Int n) h t is = is_int t is
of_type kind.Long (value.Long n) h t is = is_long t is
of_type kind.Text (value.Text s) h t is = is_text t is
of_type kind.Date (value.Date days) h t is = is_date t is
of_type _ _ h t is = absurd h

pub kind_of_type : (t : TypeTree) (k : PartKind) → part_kind_of t ≡ Some k → (v : PartValue) → IsOfKind k v ↔ IsOfType t v
kind_of_type t k is v = (λ h. of_type k v h t is, λ h. of_kind t k is v h)
