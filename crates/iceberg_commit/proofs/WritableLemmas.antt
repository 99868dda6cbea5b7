-- The manifests of a new version can be written: their columns, and the values of their entries.
use Rattle.std.proofs.Common.{◌≡◌, ℕ, suc, ℤ, pos, ◌+◌, ◌*◌, ◌<◌, ◌≤◌, ◌^◌, List, [], ◌∷◌, ◌++◌, map, length, Bool, true, false, cond, codes, Contains, refl, sym, ap, subst, ◌∙◌, arith}
use Rattle.std.specs.Coded.{Unit-prop, ×_prop}
use Rattle.std.specs.Fmt.{decimal, signed_decimal}
use Rattle.std.specs.List.{AllByRecursion, IsDistinct, list_all}
use Rattle.std.specs.Ordering.{int_eq}
use Rattle.std.specs.Str.{bytes_eq}
use Rattle.std.proofs.Math.Nat.{mul-le-mul}
use Rattle.std.proofs.lemmas.Bool.Decides.{Decides-int_eq}
use Rattle.std.proofs.lemmas.Fmt.{decimal_injective}
use Rattle.std.proofs.lemmas.Int.{ints}
use Rattle.std.proofs.lemmas.List.{append_cancel_left}
use Rattle.std.proofs.lemmas.Map.Keys.{IsDistinct-cons}
use Rattle.std.proofs.lemmas.Slice.Eq.{bytes_eq-Decides}
use Rattle.std.proofs.lemmas.Bool.{false_from_ne_true}
use Rattle.lake_basics.specs.declared.limits.TheConstants.{MAX_AVRO_VALUES, MAX_LIVE_FILES, MAX_PARTITION_COLUMNS}
use Rattle.partition_map.specs.Columns.{column_kind}
use Rattle.partition_map.specs.Kind.{IsOfKind}
use Rattle.partition_map.specs.declared.kind.PartKind.{PartKind}
use Rattle.partition_map.specs.declared.kind.PartKind.TheVariants as kind
use Rattle.schema_map.specs.Image.{is_avro_name}
use Rattle.table_history.specs.History.{FitColumns, column_type}
use Rattle.table_history.specs.TypeTree.{ColumnTrees}
use Rattle.table_history.specs.declared.row.PartValue.{PartValue}
use Rattle.table_history.specs.declared.row.PartValue.TheVariants as value
use Rattle.table_history.proofs.RowListLemmas.{Contains-head, Contains-tail}
use Rattle.iceberg_manifest.specs.Entry.{EntryData}
use Rattle.iceberg_manifest.specs.Lists.{AreEach}
use Rattle.iceberg_manifest.specs.ManifestWriting.{HasValues, IsWritableManifest, field_ids}
use Rattle.iceberg_manifest.specs.WrittenTypes.{id_name}
use Rattle.iceberg_manifest.specs.declared.partition.PartColumn.{PartColumn}
use Rattle.iceberg_metadata.specs.Schemas.{HeldSchema}
use Rattle.iceberg_metadata.specs.declared.metadata.SpecField.{SpecField}
use Rattle.iceberg_version.specs.Schemas.{AreSpecFields, FIRST_PARTITION_ID}
use Rattle.iceberg_version.specs.Writing.{AreColumns}
use Rattle.iceberg_version.proofs.BehindLemmas.{of_kind}
use Rattle.iceberg_version.proofs.Shared.{nothing_twice}

-- ---- the columns

pub columns_length : (schema : ColumnTrees) (names : List (List ℕ)) (fields : List SpecField) (columns : List PartColumn) → AreColumns schema names fields columns → length names ≡ length columns
columns_length schema [] [] [] are = refl
columns_length schema [] [] (c ∷ columns) are = absurd are
columns_length schema [] (f ∷ fields) columns are = absurd are
columns_length schema (n ∷ names) [] columns are = absurd are
columns_length schema (n ∷ names) (f ∷ fields) [] are = absurd are
columns_length schema (n ∷ names) (f ∷ fields) (c ∷ columns) are = ap suc (columns_length schema names fields columns are.2)

-- so many ids from this one on
numbers : ℕ → List (List ℕ) → List ℤ
numbers k [] = []
numbers k (n ∷ names) = pos k ∷ numbers (k + 1) names

ids_are : (s : HeldSchema) (k : ℕ) (schema : ColumnTrees) (names : List (List ℕ)) (fields : List SpecField) (columns : List PartColumn) → AreSpecFields s k names fields → AreColumns schema names fields columns → field_ids columns ≡ numbers k names
unfolding numbers
ids_are s k schema [] [] [] spec are = refl
ids_are s k schema [] [] (c ∷ columns) spec are = absurd are
ids_are s k schema [] (f ∷ fields) columns spec are = absurd spec
ids_are s k schema (n ∷ names) [] columns spec are = absurd spec
ids_are s k schema (n ∷ names) (f ∷ fields) [] spec are = absurd are
ids_are s k schema (n ∷ names) (f ∷ fields) (c ∷ columns) spec are =
    let one : c.field_id ≡ pos k = are.0 ∙ spec.0.field_id in
    let rest = ids_are s (k + 1) schema names fields columns spec.1 are.2 in
    (λ i. one i ∷ rest i)

apart_numbers : (j k : ℕ) (names : List (List ℕ)) → j < k → AllByRecursion (λ y. int_eq (pos j) y ≡ false) (numbers k names)
unfolding numbers
apart_numbers j k [] less = tt
apart_numbers j k (n ∷ names) less = (
  false_from_ne_true (int_eq (pos j) (pos k)) (λ is. let same = (Decides-int_eq (pos j) (pos k)).0 is in omega (arith, ints, same, less)),
  apart_numbers j (k + 1) names (omega arith),
)

own_numbers : (k : ℕ) (names : List (List ℕ)) → IsDistinct int_eq (numbers k names)
unfolding numbers
own_numbers k [] = nothing_twice int_eq
own_numbers k (n ∷ names) = IsDistinct-cons int_eq (pos k) (numbers (k + 1) names) (apart_numbers k (k + 1) names (omega arith)) (own_numbers (k + 1) names)

name_of : ℤ → List ℕ
name_of id = codes "p" ++ signed_decimal id

apart_names : (j k : ℕ) (names : List (List ℕ)) → j < k → k + length names < 2 ^ 64 → AllByRecursion (λ y. bytes_eq (name_of (pos j)) y ≡ false) (map name_of (numbers k names))
unfolding numbers name_of
apart_names j k [] less small = tt
apart_names j k (n ∷ names) less small = (
  false_from_ne_true (bytes_eq (name_of (pos j)) (name_of (pos k))) (λ is.
      let same = (bytes_eq-Decides (name_of (pos j)) (name_of (pos k))).0 is in
      let digits : decimal j ≡ decimal k = append_cancel_left (codes "p") (decimal j) (decimal k) same in
      let one = decimal_injective j k (omega arith) (omega arith) digits in
      omega (arith, one, less)),
  apart_names j (k + 1) names (omega arith) (omega arith),
)

own_id_names : (k : ℕ) (names : List (List ℕ)) → k + length names < 2 ^ 64 → IsDistinct bytes_eq (map name_of (numbers k names))
unfolding numbers
own_id_names k [] small = nothing_twice bytes_eq
own_id_names k (n ∷ names) small = IsDistinct-cons bytes_eq (name_of (pos k)) (map name_of (numbers (k + 1) names)) (apart_names k (k + 1) names (omega arith) (omega arith)) (own_id_names (k + 1) names (omega arith))

id_names : (columns : List PartColumn) → map id_name columns ≡ map name_of (field_ids columns)
unfolding name_of
id_names [] = refl
id_names (c ∷ columns) = ap (λ l. (codes "p" ++ signed_decimal c.field_id) ∷ l) (id_names columns)

names_by : (b : Bool) (names others : List (List ℕ)) → IsDistinct bytes_eq names → IsDistinct bytes_eq others → IsDistinct bytes_eq (cond b names others)
names_by true names others one two = one
names_by false names others one two = two

-- ---- values

no_prop : IsProp ⊥
no_prop x y = absurd x

ofkind_prop : (k : PartKind) (v : PartValue) → IsProp (IsOfKind k v)
ofkind_prop k value.Null = Unit-prop
ofkind_prop kind.Boolean (value.Boolean b) = Unit-prop
ofkind_prop kind.Int (value.Boolean b) = no_prop
ofkind_prop kind.Long (value.Boolean b) = no_prop
ofkind_prop kind.Text (value.Boolean b) = no_prop
ofkind_prop kind.Date (value.Boolean b) = no_prop
ofkind_prop kind.Boolean (value.Int n) = no_prop
ofkind_prop kind.Int (value.Int n) = Unit-prop
ofkind_prop kind.Long (value.Int n) = no_prop
ofkind_prop kind.Text (value.Int n) = no_prop
ofkind_prop kind.Date (value.Int n) = no_prop
ofkind_prop kind.Boolean (value.Long n) = no_prop
ofkind_prop kind.Int (value.Long n) = no_prop
ofkind_prop kind.Long (value.Long n) = Unit-prop
ofkind_prop kind.Text (value.Long n) = no_prop
ofkind_prop kind.Date (value.Long n) = no_prop
ofkind_prop kind.Boolean (value.Text t) = no_prop
ofkind_prop kind.Int (value.Text t) = no_prop
ofkind_prop kind.Long (value.Text t) = no_prop
ofkind_prop kind.Text (value.Text t) = Unit-prop
ofkind_prop kind.Date (value.Text t) = no_prop
ofkind_prop kind.Boolean (value.Date d) = no_prop
ofkind_prop kind.Int (value.Date d) = no_prop
ofkind_prop kind.Long (value.Date d) = no_prop
ofkind_prop kind.Text (value.Date d) = no_prop
ofkind_prop kind.Date (value.Date d) = Unit-prop

values_prop : (columns : List PartColumn) (vs : List PartValue) → IsProp (AreEach (λ c v. IsOfKind c.kind v) columns vs)
values_prop [] [] = Unit-prop
values_prop [] (v ∷ vs) = no_prop
values_prop (c ∷ columns) [] = no_prop
values_prop (c ∷ columns) (v ∷ vs) = ×_prop (ofkind_prop c.kind v) (values_prop columns vs)

pub entries_prop : (columns : List PartColumn) (es : List EntryData) → IsProp (AllByRecursion (HasValues columns) es)
entries_prop columns [] = Unit-prop
entries_prop columns (e ∷ es) = ×_prop (values_prop columns e.values) (entries_prop columns es)

pub values_of_kinds : (schema before : ColumnTrees) (names : List (List ℕ)) (fields : List SpecField) (columns : List PartColumn) (vs : List PartValue) → AreColumns schema names fields columns → ((name : List ℕ) → Contains names name → column_kind before name ≡ column_kind schema name) → FitColumns before names vs → AreEach (λ c v. IsOfKind c.kind v) columns vs
values_of_kinds schema before [] [] [] [] are same fit = tt
values_of_kinds schema before [] [] [] (v ∷ vs) are same fit = absurd fit
values_of_kinds schema before [] [] (c ∷ columns) vs are same fit = absurd are
values_of_kinds schema before [] (f ∷ fields) columns vs are same fit = absurd are
values_of_kinds schema before (n ∷ names) [] columns vs are same fit = absurd are
values_of_kinds schema before (n ∷ names) (f ∷ fields) [] vs are same fit = absurd are
values_of_kinds schema before (n ∷ names) (f ∷ fields) (c ∷ columns) [] are same fit = absurd fit
values_of_kinds schema before (n ∷ names) (f ∷ fields) (c ∷ columns) (v ∷ vs) are same fit = (
  of_kind (column_type before n) c.kind v (same n (Contains-head n names) ∙ are.1) fit.0,
  values_of_kinds schema before names fields columns vs are.2 (λ name there. same name (Contains-tail n names name there)) fit.1,
)

-- ---- a manifest of such entries

pub few_values : (c n : ℕ) → c ≤ MAX_PARTITION_COLUMNS → n ≤ MAX_LIVE_FILES → (15 + 2 * c) * n ≤ MAX_AVRO_VALUES
few_values c n few less = let one : 15 + 2 * c ≤ 47 = omega arith in let both : (15 + 2 * c) * n ≤ 47 * MAX_LIVE_FILES = mul-le-mul one less in omega (arith, both)

pub can_write : (s : HeldSchema) (schema : ColumnTrees) (names : List (List ℕ)) (fields : List SpecField) (columns : List PartColumn) (entries : List EntryData) → AreSpecFields s FIRST_PARTITION_ID names fields → AreColumns schema names fields columns → length names ≤ MAX_PARTITION_COLUMNS → IsDistinct bytes_eq names → AllByRecursion (HasValues columns) entries → length entries ≤ MAX_LIVE_FILES → IsWritableManifest MAX_AVRO_VALUES columns names entries
can_write s schema names fields columns entries spec are few own values less =
    let len = columns_length schema names fields columns are in
    let ids = ids_are s FIRST_PARTITION_ID schema names fields columns spec are in
    let others : IsDistinct bytes_eq (map id_name columns) = subst (λ (l : List (List ℕ)). IsDistinct bytes_eq l) (sym (id_names columns ∙ ap (map name_of) ids)) (own_id_names FIRST_PARTITION_ID names (omega arith)) in
    record {
      named = len;
      own_names = names_by (list_all is_avro_name names) names (map id_name columns) own others;
      own_ids = subst (λ (l : List ℤ). IsDistinct int_eq l) (sym ids) (own_numbers FIRST_PARTITION_ID names);
      few_columns = omega (arith, len, few);
      values = values;
      few = few_values (length columns) (length entries) (omega (arith, len, few)) less;
    }
