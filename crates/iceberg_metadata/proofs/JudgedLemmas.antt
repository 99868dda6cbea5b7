-- What isn't supported: tests and facts, and the first of them.
use Rattle.std.proofs.Common.{◌≡◌, ◌⊎◌, ℤ, List, [], ◌∷◌, map, Bool, true, false, not, ◌||◌, cond, Option, Some, None, Contains, codes, refl, sym, ap, subst, ◌∙◌, inl, inr, ⊎_elim}
use Rattle.std.specs.Prelude.{is_none}
use Rattle.std.specs.Bool.{Decides}
use Rattle.std.specs.List.{list_any, IsDistinct}
use Rattle.std.specs.Ordering.{int_eq}
use Rattle.std.specs.Str.{bytes_eq}
use Rattle.std.proofs.lemmas.Bool.{false≢true, not-true, or_cases}
use Rattle.std.proofs.lemmas.Slice.Eq.{bytes_eq-Decides}
use Rattle.table_history.specs.First.{IsFirst, NoneOf}
use Rattle.table_history.specs.declared.limit.LimitKind.TheVariants as limit
use Rattle.partition_map.specs.declared.kind.PartKind.{PartKind}
use Rattle.iceberg_metadata.specs.declared.error.MetadataError.{MetadataError}
use Rattle.iceberg_metadata.specs.declared.error.MetadataError.TheVariants.{Memory, FormatVersion, Malformed, SchemaType, Transform, Renamed, PartitionType, Limit}
use Rattle.iceberg_metadata.specs.declared.metadata.Metadata.{Metadata}
use Rattle.iceberg_metadata.specs.declared.metadata.SpecField.{SpecField}
use Rattle.iceberg_metadata.specs.Schemas.{HeldUnread}
use Rattle.iceberg_metadata.specs.Paths.{default_fields, current_kinds, sources, HasOtherTransform, HasOtherPartition}
use Rattle.iceberg_metadata.specs.Judging.{are_distinct, is_schema_type, is_limit_of_columns, is_limit_of_depth, is_other_transform, lacks_kinds, has_other_partition, first_that}
use Rattle.iceberg_metadata.proofs.ListLemmas.{any_from, any_to, distinct_Decides}

-- ---- the first of several tests

abbrev Test : Type 0
Test = Bool × MetadataError

abbrev pub AllDecide : (MetadataError → Type 0) → List Test → Type 0
AllDecide P [] = Unit {0}
AllDecide P (c ∷ cs) = Decides c.0 (P c.1) × AllDecide P cs

abbrev pub named : List Test → List MetadataError
named cs = map (λ c. c.1) cs

some_is : (x y : MetadataError) → Some x ≡ Some y → y ≡ x
some_is x y is = cc is

module _ (P : MetadataError → Type 0) where
  not_that : (b : Bool) (e : MetadataError) → Decides b (P e) → b ≡ false → P e → ⊥
  not_that b e same fails p = false≢true (sym fails ∙ same.1 p)

  first_by : (b : Bool) (c : Test) (cs : List Test) (e : MetadataError) → c.0 ≡ b → AllDecide P (c ∷ cs) → cond b (Some c.1) (first_that cs) ≡ Some e → (first_that cs ≡ Some e → IsFirst P (named cs) e) → IsFirst P (named (c ∷ cs)) e
  first_by true c cs e is all found later = inl (some_is c.1 e found, all.0.0 is)
  first_by false c cs e is all found later = inr (not_that c.0 c.1 all.0 is, later found)

  pub first_told : (cs : List Test) (e : MetadataError) → AllDecide P cs → first_that cs ≡ Some e → IsFirst P (named cs) e
  first_told [] e all found = absurd (cc)
  first_told (c ∷ cs) e all found = first_by c.0 c cs e refl all found (first_told cs e all.1)

  none_by : (b : Bool) (c : Test) (cs : List Test) → c.0 ≡ b → AllDecide P (c ∷ cs) → cond b (Some c.1) (first_that cs) ≡ None → (first_that cs ≡ None → NoneOf P (named cs)) → NoneOf P (named (c ∷ cs))
  none_by true c cs is all found later = absurd (cc)
  none_by false c cs is all found later = (not_that c.0 c.1 all.0 is, later found)

  pub none_told : (cs : List Test) → AllDecide P cs → first_that cs ≡ None → NoneOf P (named cs)
  none_told [] all found = tt
  none_told (c ∷ cs) all found = none_by c.0 c cs refl all found (none_told cs all.1)

-- ---- refusals of schemas

pub type_is : (e : MetadataError) → is_schema_type e ≡ true → e ≡ SchemaType
type_is SchemaType h = refl
type_is Memory h = absurd (false≢true h)
type_is FormatVersion h = absurd (false≢true h)
type_is Malformed h = absurd (false≢true h)
type_is Transform h = absurd (false≢true h)
type_is Renamed h = absurd (false≢true h)
type_is PartitionType h = absurd (false≢true h)
type_is (Limit which) h = absurd (false≢true h)

pub columns_is : (e : MetadataError) → is_limit_of_columns e ≡ true → e ≡ Limit limit.Columns
columns_is SchemaType h = absurd (false≢true h)
columns_is Memory h = absurd (false≢true h)
columns_is FormatVersion h = absurd (false≢true h)
columns_is Malformed h = absurd (false≢true h)
columns_is Transform h = absurd (false≢true h)
columns_is Renamed h = absurd (false≢true h)
columns_is PartitionType h = absurd (false≢true h)
columns_is (Limit limit.Columns) h = refl
columns_is (Limit limit.Depth) h = absurd (false≢true h)
columns_is (Limit limit.File) h = absurd (false≢true h)
columns_is (Limit limit.Names) h = absurd (false≢true h)
columns_is (Limit limit.LiveFiles) h = absurd (false≢true h)
columns_is (Limit limit.Commits) h = absurd (false≢true h)
columns_is (Limit limit.Publish) h = absurd (false≢true h)
columns_is (Limit limit.Actions) h = absurd (false≢true h)
columns_is (Limit limit.Values) h = absurd (false≢true h)
columns_is (Limit limit.Path) h = absurd (false≢true h)
columns_is (Limit limit.PartitionColumns) h = absurd (false≢true h)
columns_is (Limit limit.Versions) h = absurd (false≢true h)

pub depth_is : (e : MetadataError) → is_limit_of_depth e ≡ true → e ≡ Limit limit.Depth
depth_is SchemaType h = absurd (false≢true h)
depth_is Memory h = absurd (false≢true h)
depth_is FormatVersion h = absurd (false≢true h)
depth_is Malformed h = absurd (false≢true h)
depth_is Transform h = absurd (false≢true h)
depth_is Renamed h = absurd (false≢true h)
depth_is PartitionType h = absurd (false≢true h)
depth_is (Limit limit.Depth) h = refl
depth_is (Limit limit.Columns) h = absurd (false≢true h)
depth_is (Limit limit.File) h = absurd (false≢true h)
depth_is (Limit limit.Names) h = absurd (false≢true h)
depth_is (Limit limit.LiveFiles) h = absurd (false≢true h)
depth_is (Limit limit.Commits) h = absurd (false≢true h)
depth_is (Limit limit.Publish) h = absurd (false≢true h)
depth_is (Limit limit.Actions) h = absurd (false≢true h)
depth_is (Limit limit.Values) h = absurd (false≢true h)
depth_is (Limit limit.Path) h = absurd (false≢true h)
depth_is (Limit limit.PartitionColumns) h = absurd (false≢true h)
depth_is (Limit limit.Versions) h = absurd (false≢true h)

pub refusal_Decides : (test : MetadataError → Bool) (x : MetadataError) → test x ≡ true → ((e : MetadataError) → test e ≡ true → e ≡ x) → (es : List MetadataError) → Decides (list_any test es) (Contains es x)
refusal_Decides test x passes only es = (λ h. let found = any_to test es h in subst (Contains es) (only found.0 found.2) found.1, λ there. any_from test es x there passes)

-- ---- features

pub transform_Decides : (m : Metadata) → Decides (list_any is_other_transform (default_fields m)) (HasOtherTransform m)
transform_Decides m = (
  λ h. let found = any_to is_other_transform (default_fields m) h in
      record { field = found.0; is = found.1; other = λ same. false≢true (sym (not-true (bytes_eq found.0.transform (codes "identity")) found.2) ∙ (bytes_eq-Decides found.0.transform (codes "identity")).1 same) },
  λ t. any_from is_other_transform (default_fields m) t.field t.is (other_by t (bytes_eq t.field.transform (codes "identity")) refl),
)
  where
    other_by : (t : HasOtherTransform m) (b : Bool) → bytes_eq t.field.transform (codes "identity") ≡ b → not b ≡ true
    other_by t true same = absurd (t.other ((bytes_eq-Decides t.field.transform (codes "identity")).0 same))
    other_by t false other = refl

none_is : (o : Option PartKind) → is_none o ≡ true → o ≡ None
none_is None h = refl
none_is (Some k) h = absurd (false≢true h)

abbrev Kinds : Type 0
Kinds = ℤ → Option PartKind

abbrev Lacks : List SpecField → Kinds → Type 0
Lacks fields kinds = (IsDistinct int_eq (sources fields) → ⊥) ⊎ ((f : SpecField) × Contains fields f × (kinds f.source_id ≡ None))

lacks_to : (fields : List SpecField) (kinds : Kinds) → lacks_kinds fields (Some kinds) ≡ true → Lacks fields kinds
lacks_to fields kinds h =
    ⊎_elim
    (λ twice. inl (λ own. false≢true (sym (not-true (are_distinct (sources fields)) twice) ∙ (distinct_Decides (sources fields)).1 own)))
    (λ any. let found = any_to (λ (f : SpecField). is_none (kinds f.source_id)) fields any in inr (found.0, found.1, none_is (kinds found.0.source_id) found.2))
    (or_cases (not (are_distinct (sources fields))) (list_any (λ (f : SpecField). is_none (kinds f.source_id)) fields) h)

lacks_by : (fields : List SpecField) (kinds : Kinds) (b : Bool) → are_distinct (sources fields) ≡ b → Lacks fields kinds → (not b || list_any (λ f. is_none (kinds f.source_id)) fields) ≡ true
lacks_by fields kinds false is lacks = refl
lacks_by fields kinds true is (inl twice) = absurd (twice ((distinct_Decides (sources fields)).0 is))
lacks_by fields kinds true is (inr other) = any_from (λ (f : SpecField). is_none (kinds f.source_id)) fields other.0 other.1 (ap is_none other.2)

partition_by : (m : Metadata) (unread : List HeldUnread) (o : Option Kinds) → current_kinds m unread ≡ o → lacks_kinds (default_fields m) o ≡ true → HasOtherPartition m unread
partition_by m unread None are h = absurd (false≢true h)
partition_by m unread (Some kinds) are h = record { kinds = kinds; are = are; cause = lacks_to (default_fields m) kinds h }

pub partition_Decides : (m : Metadata) (unread : List HeldUnread) → Decides (has_other_partition m unread) (HasOtherPartition m unread)
partition_Decides m unread =
    (λ h. partition_by m unread (current_kinds m unread) refl h, λ p. ap (lacks_kinds (default_fields m)) p.are ∙ lacks_by (default_fields m) p.kinds (are_distinct (sources (default_fields m))) refl p.cause)
