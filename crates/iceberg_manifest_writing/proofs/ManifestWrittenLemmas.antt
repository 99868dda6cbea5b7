-- Manifests that are written, read back.
use Rattle.std.proofs.Common.{◌≡◌, ℕ, suc, ◌+◌, ◌*◌, ◌<◌, ◌≤◌, add-one, ℤ, pos, negsuc, List, [], ◌∷◌, length, map, Bool, true, false, Option, Some, None, Result, Ok, Err, if◌then◌else◌, refl, sym, ap, ◌∙◌, subst, arith, rules, codes, FitsSigned, w32}
use Rattle.std.proofs.lemmas.Bool.{lt-ltb}
use Rattle.std.proofs.lemmas.Bool.Decides.{Decides-int_eq}
use Rattle.std.proofs.lemmas.Int.{ints}
use Rattle.std.proofs.lemmas.List.{length-map}
use Rattle.std.specs.Prelude.{IfOk}
use Rattle.std.specs.List.{AllByRecursion, IsDistinct, list_any, list_all}
use Rattle.std.specs.Ordering.{int_eq}
use Rattle.std.specs.Str.{bytes_eq}
use Rattle.lake_basics.specs.declared.limits.TheConstants.{MAX_PARTITION_COLUMNS}
use Rattle.lake_basics.specs.Outcome.{◌>>=◌, each}
use Rattle.avro_schema.specs.Tree.{SchemaTree, FieldTree, FieldTrees, field, fields_of}
use Rattle.avro_schema.specs.Names.{are_distinct}
use Rattle.avro_schema.specs.Grammar.{field_names}
use Rattle.avro_schema.specs.Sizes.{field_level_count, field_type_count, level_count, type_count}
use Rattle.avro_schema.specs.Plain.{IsPlain, FieldsAreSound, names_in_fields}
use Rattle.avro_schema.specs.Plain as plain
use Rattle.avro_schema.specs.Spelled.{IsSpelled, IsId}
use Rattle.avro_value.specs.Layout.{layout_of, field_layouts}
use Rattle.avro_value.specs.Fitting.{AreSound, Fits, FitsParts}
use Rattle.avro_value.specs.ValueTree.{ValueTree, ValueTrees, value_and, values_of, value_count, value_counts, total}
use Rattle.avro_container.specs.Format.{Pairs}
use Rattle.avro_value.specs.Writing.{values_encoding}
use Rattle.avro_container.specs.Writing.{AreEncoded, IsFree, IsWritten}
use Rattle.partition_map.specs.Avro.{avro_value_of, branch_of}
use Rattle.partition_map.specs.Kind.{IsOfKind}
use Rattle.partition_map.specs.declared.kind.PartKind.{PartKind}
use Rattle.partition_map.specs.declared.kind.PartKind.TheVariants.{Boolean, Int, Long, Text, Date}
use Rattle.partition_map.proofs.ColumnLemmas.{distinct_from}
use Rattle.table_history.specs.declared.row.PartValue.{PartValue}
use Rattle.table_history.specs.declared.row.PartValue.TheVariants as value
use Rattle.schema_map.specs.Image.{is_avro_name}
use Rattle.iceberg_manifest.specs.Containers.{StandsFor}
use Rattle.iceberg_manifest.specs.Entry.{EntryData}
use Rattle.iceberg_manifest.specs.EntryReading.{file_plan, entry_plan, status_of, data_file, entry_record, judged, entry_by, entries_in}
use Rattle.iceberg_manifest.specs.Fields.{Reading, is_type_of, place_in, first_from, place_of, required_place, record_place}
use Rattle.iceberg_manifest.specs.Lists.{AreEach}
use Rattle.iceberg_manifest.specs.Entry.{is_live}
use Rattle.iceberg_manifest.specs.Partition.{kind_of_values, column_place, part_value, part_at}
use Rattle.iceberg_manifest.specs.Scans.{entries_of}
use Rattle.iceberg_manifest.specs.Values.{whole_value, whole_at, required_whole, whole_or_zero, required_natural, required_text, required_record}
use Rattle.iceberg_manifest.specs.WrittenTypes.{nullable_type, long_type, kind_type, part_fields, part_names, id_name, file_fields, entry_type, manifest_type, record_type}
use Rattle.iceberg_manifest.specs.ManifestWriting.{whole_tree, file_trees, entry_trees, entry_tree, field_ids, HasValues, HasId, HasInt, HasRanges, IsWritableManifest, manifest_meta}
use Rattle.iceberg_manifest.specs.declared.error.EntryFault.{EntryFault}
use Rattle.iceberg_manifest.specs.declared.error.ManifestError.{ManifestError}
use Rattle.iceberg_manifest.specs.declared.partition.ColumnPlace.{ColumnPlace}
use Rattle.iceberg_manifest.specs.declared.partition.PartColumn.{PartColumn}
use Rattle.iceberg_manifest.specs.declared.plan.EntryPlan.{EntryPlan}
use Rattle.iceberg_manifest_writing.proofs.ListWrittenLemmas.{int_fits}

-- ---- the partition columns are where they are written

-- the place of a column's field among fields of which the first has the place k
abbrev place_from : ℕ → FieldTrees → PartColumn → Reading ColumnPlace
place_from k fields c = place_in (kind_of_values c.kind) (first_from k c.field_id fields) >>= λ place. Ok (record { kind = c.kind; place = place })

abbrev part_places : ℕ → List PartColumn → List ColumnPlace
part_places k [] = []
part_places k (c ∷ cs) = record { kind = c.kind; place = Some k } ∷ part_places (suc k) cs

same_id : (id : ℤ) → int_eq id id ≡ true
same_id id = (Decides-int_eq id id).1 refl

has_kind : (kind : PartKind) → is_type_of (kind_of_values kind) (nullable_type (kind_type kind)) ≡ true
has_kind Boolean = refl
has_kind Int = refl
has_kind Long = refl
has_kind Text = refl
has_kind Date = refl

place_here : (k : ℕ) (c : PartColumn) (name : List ℕ) (rest : FieldTrees) → place_from k (field name (nullable_type (kind_type c.kind)) (Some c.field_id) rest) c ≡ Ok (record { kind = c.kind; place = Some k })
place_here k c name rest = rw (same_id c.field_id, has_kind c.kind) refl

place_behind : (k : ℕ) (id : ℤ) (name : List ℕ) (t : SchemaTree) (rest : FieldTrees) (c : PartColumn) → int_eq id c.field_id ≡ false → place_from k (field name t (Some id) rest) c ≡ place_from (suc k) rest c
place_behind k id name t rest c other = rw (other, add-one k) refl

places_behind : (k : ℕ) (id : ℤ) (name : List ℕ) (t : SchemaTree) (rest : FieldTrees) (cs : List PartColumn) → AllByRecursion (λ j. int_eq id j ≡ false) (field_ids cs) → each (place_from k (field name t (Some id) rest)) cs ≡ each (place_from (suc k) rest) cs
places_behind k id name t rest [] others = refl
places_behind k id name t rest (c ∷ cs) others = rw (place_behind k id name t rest c others.0, places_behind k id name t rest cs others.1) refl

places_from : (k : ℕ) (cs : List PartColumn) (names : List (List ℕ)) → length names ≡ length cs → IsDistinct int_eq (field_ids cs) → each (place_from k (fields_of (part_fields cs names))) cs ≡ Ok (part_places k cs)
unfolding IsDistinct
places_from k [] names named own = refl
places_from k (c ∷ cs) [] named own = absurd (omega (arith, named))
places_from k (c ∷ cs) (n ∷ ns) named own =
    let rest = fields_of (part_fields cs ns) in
    let named_rest : length ns ≡ length cs = omega (arith, named) in
    let others = places_behind k c.field_id n (nullable_type (kind_type c.kind)) rest cs own.0 ∙ places_from (suc k) cs ns named_rest own.1 in
    rw (place_here k c n rest, others) refl

places_are : (cs : List PartColumn) (names : List (List ℕ)) → length names ≡ length cs → IsDistinct int_eq (field_ids cs) → each (column_place (fields_of (part_fields cs names))) cs ≡ Ok (part_places 0 cs)
unfolding column_place place_of
places_are cs names named own = places_from 0 cs names named own

-- the fields are where they are written
abbrev plan_as_written : List PartColumn → EntryPlan
plan_as_written cs = record { status = 0; snapshot = Some 1; sequence = Some 2; file_sequence = Some 3; file = 4; fields = record { content = Some 0; path = 1; format = 2; partition = 3; count = 4; size = 5; columns = part_places 0 cs } }

plan_is : (cs : List PartColumn) (names : List (List ℕ)) → length names ≡ length cs → IsDistinct int_eq (field_ids cs) → entry_plan cs (entry_type (part_fields cs names)) ≡ Ok (plan_as_written cs)
unfolding entry_plan file_plan place_of required_place record_place
plan_is cs names named own = rw (places_are cs names named own) refl

-- ---- values read back

part_again : (kind : PartKind) (v : PartValue) → IsOfKind kind v → HasInt v → part_value kind (branch_of (avro_value_of v)) ≡ Ok v
part_again kind value.Null is int = refl
part_again Boolean (value.Boolean b) is int = refl
part_again Int (value.Int n) is int = rw (int_fits n int) refl
part_again Long (value.Long n) is int = refl
part_again Text (value.Text t) is int = refl
part_again Date (value.Date n) is int = rw (int_fits n int) refl
part_again _ _ is int = absurd is

parts_behind : (k : ℕ) (w : ValueTree) (rest : ValueTrees) (cs : List PartColumn) → each (part_at (value_and w rest)) (part_places (suc k) cs) ≡ each (part_at rest) (part_places k cs)
unfolding part_at
parts_behind k w rest [] = refl
parts_behind k w rest (c ∷ cs) = rw (parts_behind (suc k) w rest cs) refl

parts_again : (cs : List PartColumn) (vs : List PartValue) → AreEach (λ c v. IsOfKind c.kind v) cs vs → AllByRecursion HasInt vs → each (part_at (values_of (map avro_value_of vs))) (part_places 0 cs) ≡ Ok vs
unfolding part_at
parts_again [] [] are ints = refl
parts_again [] (v ∷ vs) are ints = absurd are
parts_again (c ∷ cs) [] are ints = absurd are
parts_again (c ∷ cs) (v ∷ vs) are ints =
    let others = parts_behind 0 (avro_value_of v) (values_of (map avro_value_of vs)) cs ∙ parts_again cs vs are.1 ints.1 in
    rw (part_again c.kind v are.0 ints.0, others) refl

whole_again : (n : Option ℤ) → whole_value (branch_of (whole_tree n)) ≡ Ok n
whole_again None = refl
whole_again (Some n) = refl

either_way : (b : Bool) (e : EntryData) (r : Result EntryData EntryFault) → r ≡ Ok e → (if b then r else Ok e) ≡ Ok e
either_way true e r is = is
either_way false e r is = refl

judged_again : (e : EntryData) → judged (record { content = pos 0; is_parquet = true; entry = e }) ≡ Ok e
judged_again e = either_way (is_live e) e (Ok e) refl

status_again : (n : ℕ) → n < 3 → status_of (pos n) ≡ Ok n
status_again n small = rw (lt-ltb n 3 small) refl

entry_again : (cs : List PartColumn) (e : EntryData) → HasValues cs e → HasRanges e → entry_by (plan_as_written cs) (entry_tree e) ≡ Ok e
unfolding entry_by entry_record data_file required_text required_whole required_natural required_record whole_or_zero whole_at
entry_again cs e values ranges = rw (status_again e.status ranges.0, whole_again e.snapshot, whole_again e.sequence, whole_again e.file_sequence, parts_again cs e.values values ranges.1) (judged_again e)

all_again : (cs : List PartColumn) (es : List EntryData) → AllByRecursion (HasValues cs) es → AllByRecursion HasRanges es → each (entry_by (plan_as_written cs)) (map entry_tree es) ≡ Ok es
all_again cs [] values ranges = refl
all_again cs (e ∷ es) values ranges = rw (entry_again cs e values.0 ranges.0, all_again cs es values.1 ranges.1) refl

entries_again : (cs : List PartColumn) (names : List (List ℕ)) (es : List EntryData) → length names ≡ length cs → IsDistinct int_eq (field_ids cs) → AllByRecursion (HasValues cs) es → AllByRecursion HasRanges es → entries_of cs (entry_type (part_fields cs names)) (map entry_tree es) ≡ Ok es
unfolding entries_in
entries_again cs names es named own values ranges = rw (plan_is cs names named own, all_again cs es values ranges) refl

-- ---- the values fit

part_fits : (kind : PartKind) (v : PartValue) → IsOfKind kind v → Fits (layout_of (nullable_type (kind_type kind))) (avro_value_of v)
part_fits kind value.Null is = (0, ValueTree.null, refl, refl)
part_fits Boolean (value.Boolean b) is = (1, ValueTree.boolean b, refl, (b, refl))
part_fits Int (value.Int n) is = (1, ValueTree.int n, refl, (n, refl))
part_fits Long (value.Long n) is = (1, ValueTree.long n, refl, (n, refl))
part_fits Text (value.Text t) is = (1, ValueTree.text t, refl, (t, refl))
part_fits Date (value.Date n) is = (1, ValueTree.int n, refl, (n, refl))
part_fits _ _ is = absurd is

parts_fit : (cs : List PartColumn) (names : List (List ℕ)) (vs : List PartValue) → length names ≡ length cs → AreEach (λ c v. IsOfKind c.kind v) cs vs → FitsParts (field_layouts (fields_of (part_fields cs names))) (map avro_value_of vs)
parts_fit [] names [] named are = refl
parts_fit [] names (v ∷ vs) named are = absurd are
parts_fit (c ∷ cs) names [] named are = absurd are
parts_fit (c ∷ cs) [] (v ∷ vs) named are = absurd (omega (arith, named))
parts_fit (c ∷ cs) (n ∷ ns) (v ∷ vs) named are = let named_rest : length ns ≡ length cs = omega (arith, named) in (avro_value_of v, map avro_value_of vs, refl, part_fits c.kind v are.0, parts_fit cs ns vs named_rest are.1)

whole_fits : (n : Option ℤ) → Fits (layout_of (nullable_type long_type)) (whole_tree n)
whole_fits None = (0, ValueTree.null, refl, refl)
whole_fits (Some n) = (1, ValueTree.long n, refl, (n, refl))

file_fits : (cs : List PartColumn) (names : List (List ℕ)) (e : EntryData) → length names ≡ length cs → HasValues cs e → FitsParts (field_layouts (fields_of (file_fields (record_type (codes "r102") (part_fields cs names))))) (file_trees e)
file_fits cs names e named values =
    let parts = values_of (map avro_value_of e.values) in (
      ValueTree.int (pos 0),
      ValueTree.text e.path ∷ ValueTree.text (codes "PARQUET") ∷ ValueTree.record_of parts ∷ ValueTree.long (pos e.count) ∷ ValueTree.long (pos e.size) ∷ [],
      refl,
      (pos 0, refl),
      (
        ValueTree.text e.path,
        ValueTree.text (codes "PARQUET") ∷ ValueTree.record_of parts ∷ ValueTree.long (pos e.count) ∷ ValueTree.long (pos e.size) ∷ [],
        refl,
        (e.path, refl),
        (
          ValueTree.text (codes "PARQUET"),
          ValueTree.record_of parts ∷ ValueTree.long (pos e.count) ∷ ValueTree.long (pos e.size) ∷ [],
          refl,
          (codes "PARQUET", refl),
          (
            ValueTree.record_of parts,
            ValueTree.long (pos e.count) ∷ ValueTree.long (pos e.size) ∷ [],
            refl,
            (map avro_value_of e.values, refl, parts_fit cs names e.values named values),
            (
              ValueTree.long (pos e.count),
              ValueTree.long (pos e.size) ∷ [],
              refl,
              (pos e.count, refl),
              (ValueTree.long (pos e.size), [], refl, (pos e.size, refl), refl),
            ),
          ),
        ),
      ),
    )

entry_fits : (cs : List PartColumn) (names : List (List ℕ)) (e : EntryData) → length names ≡ length cs → HasValues cs e → Fits (layout_of (entry_type (part_fields cs names))) (entry_tree e)
entry_fits cs names e named values =
    let file = ValueTree.record_of (values_of (file_trees e)) in (
      entry_trees e,
      refl,
      (
        ValueTree.int (pos e.status),
        whole_tree e.snapshot ∷ whole_tree e.sequence ∷ whole_tree e.file_sequence ∷ file ∷ [],
        refl,
        (pos e.status, refl),
        (
          whole_tree e.snapshot,
          whole_tree e.sequence ∷ whole_tree e.file_sequence ∷ file ∷ [],
          refl,
          whole_fits e.snapshot,
          (
            whole_tree e.sequence,
            whole_tree e.file_sequence ∷ file ∷ [],
            refl,
            whole_fits e.sequence,
            (
              whole_tree e.file_sequence,
              file ∷ [],
              refl,
              whole_fits e.file_sequence,
              (file, [], refl, (file_trees e, refl, file_fits cs names e named values), refl),
            ),
          ),
        ),
      ),
    )

all_fit : (cs : List PartColumn) (names : List (List ℕ)) (es : List EntryData) → length names ≡ length cs → AllByRecursion (HasValues cs) es → AllByRecursion (Fits (layout_of (entry_type (part_fields cs names)))) (map entry_tree es)
all_fit cs names [] named values = tt
all_fit cs names (e ∷ es) named values = (entry_fits cs names e named values.0, all_fit cs names es named values.1)

-- ---- how many values there are

part_count : (v : PartValue) → value_count (avro_value_of v) ≡ 2
part_count value.Null = refl
part_count (value.Boolean b) = refl
part_count (value.Int n) = refl
part_count (value.Long n) = refl
part_count (value.Text t) = refl
part_count (value.Date n) = refl

parts_count : (cs : List PartColumn) (vs : List PartValue) → AreEach (λ c v. IsOfKind c.kind v) cs vs → value_counts (values_of (map avro_value_of vs)) ≡ 2 * length cs
parts_count [] [] are = refl
parts_count [] (v ∷ vs) are = absurd are
parts_count (c ∷ cs) [] are = absurd are
parts_count (c ∷ cs) (v ∷ vs) are = let one = part_count v in let others = parts_count cs vs are.1 in omega (arith, one, others)

whole_count : (n : Option ℤ) → value_count (whole_tree n) ≡ 2
whole_count None = refl
whole_count (Some n) = refl

entry_count : (cs : List PartColumn) (e : EntryData) → HasValues cs e → value_count (entry_tree e) ≡ 15 + 2 * length cs
entry_count cs e values =
    let parts = parts_count cs e.values values in
    let snapshot = whole_count e.snapshot in
    let sequence = whole_count e.sequence in
    let file_sequence = whole_count e.file_sequence in
    omega (arith, parts, snapshot, sequence, file_sequence)

count_more : (n per rest count : ℕ) → rest ≡ per * n → count ≡ per → count + rest ≡ per * suc n
count_more n per rest count others one = grind (arith, others, one)

entries_count : (cs : List PartColumn) (es : List EntryData) → AllByRecursion (HasValues cs) es → total value_count (map entry_tree es) ≡ (15 + 2 * length cs) * length es
entries_count cs [] values = grind arith
entries_count cs (e ∷ es) values = count_more (length es) (15 + 2 * length cs) (total value_count (map entry_tree es)) (value_count (entry_tree e)) (entries_count cs es values.1) (entry_count cs e values.0)

-- ---- the schema is plain

id_is : (id : ℤ) → FitsSigned w32 id → IsId id
id_is (pos n) fits = omega (arith, ints, fits)
id_is (negsuc n) fits = omega (arith, ints, fits)

kind_sound : (kind : PartKind) → plain.IsSound (nullable_type (kind_type kind))
kind_sound Boolean = search rules
kind_sound Int = search rules
kind_sound Long = search rules
kind_sound Text = search rules
kind_sound Date = search rules

parts_sound : (cs : List PartColumn) (names : List (List ℕ)) → AllByRecursion HasId cs → FieldsAreSound (fields_of (part_fields cs names))
parts_sound [] names fit = tt
parts_sound (c ∷ cs) [] fit = tt
parts_sound (c ∷ cs) (n ∷ ns) fit = (id_is c.field_id fit.0, kind_sound c.kind, parts_sound cs ns fit.1)

names_kept : (cs : List PartColumn) (names : List (List ℕ)) → length names ≡ length cs → field_names (fields_of (part_fields cs names)) ≡ names
names_kept [] [] named = refl
names_kept [] (n ∷ ns) named = absurd (omega (arith, named))
names_kept (c ∷ cs) [] named = absurd (omega (arith, named))
names_kept (c ∷ cs) (n ∷ ns) named = let named_rest : length ns ≡ length cs = omega (arith, named) in ap (λ (xs : List (List ℕ)). n ∷ xs) (names_kept cs ns named_rest)

none_in : (name : List ℕ) (names : List (List ℕ)) → AllByRecursion (λ n. bytes_eq name n ≡ false) names → list_any (bytes_eq name) names ≡ false
none_in name [] others = refl
none_in name (n ∷ ns) others = rw (others.0, none_in name ns others.1) refl

unnamed : (kind : PartKind) → plain.names_in (nullable_type (kind_type kind)) ≡ []
unnamed Boolean = refl
unnamed Int = refl
unnamed Long = refl
unnamed Text = refl
unnamed Date = refl

parts_unnamed : (cs : List PartColumn) (names : List (List ℕ)) → names_in_fields (fields_of (part_fields cs names)) ≡ []
parts_unnamed [] names = refl
parts_unnamed (c ∷ cs) [] = refl
parts_unnamed (c ∷ cs) (n ∷ ns) = rw (unnamed c.kind, parts_unnamed cs ns) refl

kind_level : (kind : PartKind) → level_count (nullable_type (kind_type kind)) ≡ 1
kind_level Boolean = refl
kind_level Int = refl
kind_level Long = refl
kind_level Text = refl
kind_level Date = refl

parts_level : (cs : List PartColumn) (names : List (List ℕ)) → field_level_count (fields_of (part_fields cs names)) ≤ 1
parts_level [] names = omega arith
parts_level (c ∷ cs) [] = omega arith
parts_level (c ∷ cs) (n ∷ ns) = let here = kind_level c.kind in let others = parts_level cs ns in omega (arith, here, others)

kind_types : (kind : PartKind) → type_count (nullable_type (kind_type kind)) ≡ 3
kind_types Boolean = refl
kind_types Int = refl
kind_types Long = refl
kind_types Text = refl
kind_types Date = refl

parts_types : (cs : List PartColumn) (names : List (List ℕ)) → field_type_count (fields_of (part_fields cs names)) ≤ 3 * length cs
parts_types [] names = omega arith
parts_types (c ∷ cs) [] = omega arith
parts_types (c ∷ cs) (n ∷ ns) = let here = kind_types c.kind in let others = parts_types cs ns in omega (arith, here, others)

parts_plain : (parts : List FieldTree) → FieldsAreSound (fields_of parts) → are_distinct (field_names (fields_of parts)) ≡ true → names_in_fields (fields_of parts) ≡ [] → field_level_count (fields_of parts) ≤ 1 → field_type_count (fields_of parts) ≤ 3 * MAX_PARTITION_COLUMNS → IsPlain (entry_type parts)
parts_plain parts sound own none level types = record {
  sound = search (rules, sound, own);
  distinct = rw none refl;
  levels = omega (arith, level);
  types = omega (arith, types);
}

manifest_plain : (cs : List PartColumn) (names : List (List ℕ)) → length names ≡ length cs → IsDistinct bytes_eq names → AllByRecursion HasId cs → length cs ≤ MAX_PARTITION_COLUMNS → IsPlain (entry_type (part_fields cs names))
manifest_plain cs names named own ids few =
    let types = parts_types cs names in
    parts_plain (part_fields cs names) (parts_sound cs names ids) (ap are_distinct (names_kept cs names named) ∙ distinct_from names own) (parts_unnamed cs names) (parts_level cs names) (omega (arith, types, few))

-- ---- the names of the fields

-- The names of the fields are as many as the columns, and no two are one.
pub record AreNames (cs : List PartColumn) (names : List (List ℕ)) : Type 0 where
  pub named : length names ≡ length cs
  pub own : IsDistinct bytes_eq names

all_named : (cs : List PartColumn) (names : List (List ℕ)) → length names ≡ length cs → length (part_names cs names) ≡ length cs
all_named cs names named = by (list_all is_avro_name names)
  where
    by : (b : Bool) → length (if b then names else map id_name cs) ≡ length cs
    by true = named
    by false = length-map cs id_name

-- ---- the container

pub manifest_free : (limit : ℕ) (schema : List ℕ) (schema_id : ℤ) (spec : List ℕ) → 9 ≤ limit → IsFree limit (manifest_meta schema schema_id spec)
manifest_free limit schema schema_id spec many = record { no_schema = refl; no_codec = refl; few = many }

-- what is known of a manifest that is to be written
pub record IsReady (limit : ℕ) (cs : List PartColumn) (names : List (List ℕ)) (es : List EntryData) : Type 0 where
  pub writable : IsWritableManifest limit cs names es
  pub ids : AllByRecursion HasId cs
  pub ranges : AllByRecursion HasRanges es

names_of : (limit : ℕ) (cs : List PartColumn) (names : List (List ℕ)) (es : List EntryData) → IsReady limit cs names es → AreNames cs (part_names cs names)
names_of limit cs names es r = record { named = all_named cs names r.writable.named; own = r.writable.own_names }

manifest_fits : (limit : ℕ) (cs : List PartColumn) (names : List (List ℕ)) (es : List EntryData) (t : SchemaTree) (vs : List ValueTree) → IsReady limit cs names es → t ≡ manifest_type cs names → vs ≡ map entry_tree es → AllByRecursion (Fits (layout_of t)) vs
manifest_fits limit cs names es t vs r same values = rw (same, values) (all_fit cs (part_names cs names) es (names_of limit cs names es r).named r.writable.values)

pub manifest_encoded : (limit : ℕ) (cs : List PartColumn) (names : List (List ℕ)) (es : List EntryData) (t : SchemaTree) (objects : List ℕ) (count : ℕ) → IsReady limit cs names es → t ≡ manifest_type cs names → count ≡ length es → AreSound (values_of (map entry_tree es)) → objects ≡ values_encoding (values_of (map entry_tree es)) → AreEncoded (layout_of t) (map entry_tree es) count objects
manifest_encoded limit cs names es t objects count r same number sound exact = record {
  fit = manifest_fits limit cs names es t (map entry_tree es) r same refl;
  sound = sound;
  number = number ∙ sym (length-map es entry_tree);
  exact = exact;
}

pub manifest_spelled : (limit : ℕ) (cs : List PartColumn) (names : List (List ℕ)) (es : List EntryData) (t : SchemaTree) → IsReady limit cs names es → t ≡ manifest_type cs names → (IsPlain t → IsSpelled t) → IsSpelled (manifest_type cs names)
manifest_spelled limit cs names es t r same spelled =
    let are = names_of limit cs names es r in
    subst IsSpelled same (spelled (subst IsPlain (sym same) (manifest_plain cs (part_names cs names) are.named are.own r.ids r.writable.few_columns)))

manifest_stands : (limit : ℕ) (bytes : List ℕ) (meta : Pairs) (m : List ℕ) (cs : List PartColumn) (names : List (List ℕ)) (es : List EntryData) → IsReady limit cs names es → IsSpelled (manifest_type cs names) → IsWritten limit bytes meta (manifest_type cs names) m (map entry_tree es) → StandsFor limit (entries_of cs) bytes es
manifest_stands limit bytes meta m cs names es r spelled w = record {
  meta = w.pairs;
  schema = manifest_type cs names;
  values = map entry_tree es;
  container = w.read_back spelled (rw (entries_count cs es r.writable.values) r.writable.few);
  read = entries_again cs (part_names cs names) es (names_of limit cs names es r).named r.writable.own_ids r.writable.values r.ranges;
}

pub manifests_back : (limit : ℕ) (r : Result (List ℕ) ManifestError) (meta : Pairs) (m : List ℕ) (cs : List PartColumn) (names : List (List ℕ)) (es : List EntryData) → IsReady limit cs names es → IsSpelled (manifest_type cs names) → IfOk r (λ b. IsWritten limit b meta (manifest_type cs names) m (map entry_tree es)) → IfOk r (λ b. StandsFor limit (entries_of cs) b es)
manifests_back limit (Ok bytes) meta m cs names es r spelled w = manifest_stands limit bytes meta m cs names es r spelled w
manifests_back limit (Err e) meta m cs names es r spelled w = tt
