-- Manifest lists that are written, read back.
use Rattle.std.proofs.Common.{◌≡◌, ℕ, ◌+◌, ◌*◌, ◌≤◌, ◌⊎◌, inl, inr, ℤ, pos, negsuc, List, [], ◌∷◌, length, map, true, Option, Some, Result, Ok, Err, refl, sym, subst, arith, rules, FitsSigned, w32}
use Rattle.std.proofs.lemmas.Bool.{le-leb}
use Rattle.std.proofs.lemmas.Int.{ints}
use Rattle.std.specs.Prelude.{IfOk}
use Rattle.std.specs.List.{AllByRecursion}
use Rattle.avro_schema.specs.Tree.{SchemaTree}
use Rattle.avro_schema.specs.Plain.{IsPlain}
use Rattle.avro_schema.specs.Spelled.{IsSpelled}
use Rattle.avro_value.specs.Layout.{layout_of}
use Rattle.avro_value.specs.Fitting.{Fits}
use Rattle.avro_value.specs.ValueTree.{ValueTree, value_count, total}
use Rattle.avro_container.specs.Format.{Pairs}
use Rattle.avro_container.specs.Writing.{IsFree, IsWritten}
use Rattle.iceberg_manifest.specs.Containers.{StandsFor}
use Rattle.iceberg_manifest.specs.Fields.{place_of, required_place}
use Rattle.iceberg_manifest.specs.Values.{is_int, whole_at, required_whole, required_int, whole_or_zero, required_text}
use Rattle.iceberg_manifest.specs.ListReading.{count_places, list_plan, content_of, content_at, numbers_at, count_at, counts_at, info_of, list_row, list_rows, infos_in}
use Rattle.iceberg_manifest.specs.Scans.{infos_of}
use Rattle.iceberg_manifest.specs.WrittenTypes.{list_type}
use Rattle.iceberg_manifest.specs.ListWriting.{info_trees, info_tree, HavePlaces, HasContent, HasInts, IsWritableList, list_meta}
use Rattle.iceberg_manifest.specs.declared.error.ManifestError.{ManifestError}
use Rattle.iceberg_manifest.specs.declared.info.ManifestInfo.{ManifestInfo}
use Rattle.iceberg_manifest.specs.declared.list.ListPlan.{ListPlan}

-- the fields are where they are written
abbrev plan_as_written : ListPlan
plan_as_written = record { path = 0; size = 1; spec = 2; content = Some 3; sequence = Some 4; least = Some 5; snapshot = 6; counts = record { added_files = Some 7; existing_files = Some 8; deleted_files = Some 9; added_rows = Some 10; existing_rows = Some 11; deleted_rows = Some 12 } }

plan_is : list_plan list_type ≡ Ok plan_as_written
unfolding list_plan count_places place_of required_place
plan_is = refl

pub int_fits : (n : ℤ) → FitsSigned w32 n → is_int n ≡ true
int_fits (pos n) h = le-leb n 2147483647 (omega (arith, ints, h))
int_fits (negsuc n) h = le-leb n 2147483647 (omega (arith, ints, h))

content_again : (n : ℤ) → (n ≡ pos 0) ⊎ (n ≡ pos 1) → content_of n ≡ Ok n
content_again n (inl is) = rw is refl
content_again n (inr is) = rw is refl

row_by : (i : ManifestInfo) → is_int i.partition_spec_id ≡ true → is_int i.added_files_count ≡ true → is_int i.existing_files_count ≡ true → is_int i.deleted_files_count ≡ true → content_of i.content ≡ Ok i.content → list_row plan_as_written i.place (info_tree i) ≡ Ok i
unfolding list_row numbers_at content_at counts_at count_at info_of required_text required_whole required_int whole_or_zero whole_at
row_by i spec added existing deleted content = rw (content, spec, added, existing, deleted) refl

row_again : (i : ManifestInfo) (k : ℕ) → i.place ≡ k → HasInts i → HasContent i → list_row plan_as_written k (info_tree i) ≡ Ok i
row_again i k at fits content =
    subst (λ (j : ℕ). list_row plan_as_written j (info_tree i) ≡ Ok i) at
    (row_by i (int_fits i.partition_spec_id fits.0) (int_fits i.added_files_count fits.1) (int_fits i.existing_files_count fits.2) (int_fits i.deleted_files_count fits.3) (content_again i.content content))

rows_again : (is : List ManifestInfo) (k : ℕ) → HavePlaces k is → AllByRecursion HasInts is → AllByRecursion HasContent is → list_rows plan_as_written k (map info_tree is) ≡ Ok is
rows_again [] k places fits contents = refl
rows_again (i ∷ is) k places fits contents = rw (row_again i k places.0 fits.0 contents.0, rows_again is (k + 1) places.1 fits.1 contents.1) refl

pub list_again : (is : List ManifestInfo) → HavePlaces 0 is → AllByRecursion HasInts is → AllByRecursion HasContent is → infos_of list_type (map info_tree is) ≡ Ok is
unfolding infos_in
list_again is places fits contents = rw (plan_is, rows_again is 0 places fits contents) refl

-- ---- the values fit

row_fits : (i : ManifestInfo) → Fits (layout_of list_type) (info_tree i)
row_fits i = (info_trees i, refl, (ValueTree.text i.manifest_path, ValueTree.long i.manifest_length ∷ ValueTree.int i.partition_spec_id ∷ ValueTree.int i.content ∷ ValueTree.long i.sequence_number ∷ ValueTree.long i.min_sequence_number ∷ ValueTree.long i.added_snapshot_id ∷ ValueTree.int i.added_files_count ∷ ValueTree.int i.existing_files_count ∷ ValueTree.int i.deleted_files_count ∷ ValueTree.long i.added_rows_count ∷ ValueTree.long i.existing_rows_count ∷ ValueTree.long i.deleted_rows_count ∷ [], refl, (i.manifest_path, refl), (ValueTree.long i.manifest_length, ValueTree.int i.partition_spec_id ∷ ValueTree.int i.content ∷ ValueTree.long i.sequence_number ∷ ValueTree.long i.min_sequence_number ∷ ValueTree.long i.added_snapshot_id ∷ ValueTree.int i.added_files_count ∷ ValueTree.int i.existing_files_count ∷ ValueTree.int i.deleted_files_count ∷ ValueTree.long i.added_rows_count ∷ ValueTree.long i.existing_rows_count ∷ ValueTree.long i.deleted_rows_count ∷ [], refl, (i.manifest_length, refl), (ValueTree.int i.partition_spec_id, ValueTree.int i.content ∷ ValueTree.long i.sequence_number ∷ ValueTree.long i.min_sequence_number ∷ ValueTree.long i.added_snapshot_id ∷ ValueTree.int i.added_files_count ∷ ValueTree.int i.existing_files_count ∷ ValueTree.int i.deleted_files_count ∷ ValueTree.long i.added_rows_count ∷ ValueTree.long i.existing_rows_count ∷ ValueTree.long i.deleted_rows_count ∷ [], refl, (i.partition_spec_id, refl), (ValueTree.int i.content, ValueTree.long i.sequence_number ∷ ValueTree.long i.min_sequence_number ∷ ValueTree.long i.added_snapshot_id ∷ ValueTree.int i.added_files_count ∷ ValueTree.int i.existing_files_count ∷ ValueTree.int i.deleted_files_count ∷ ValueTree.long i.added_rows_count ∷ ValueTree.long i.existing_rows_count ∷ ValueTree.long i.deleted_rows_count ∷ [], refl, (i.content, refl), (ValueTree.long i.sequence_number, ValueTree.long i.min_sequence_number ∷ ValueTree.long i.added_snapshot_id ∷ ValueTree.int i.added_files_count ∷ ValueTree.int i.existing_files_count ∷ ValueTree.int i.deleted_files_count ∷ ValueTree.long i.added_rows_count ∷ ValueTree.long i.existing_rows_count ∷ ValueTree.long i.deleted_rows_count ∷ [], refl, (i.sequence_number, refl), (ValueTree.long i.min_sequence_number, ValueTree.long i.added_snapshot_id ∷ ValueTree.int i.added_files_count ∷ ValueTree.int i.existing_files_count ∷ ValueTree.int i.deleted_files_count ∷ ValueTree.long i.added_rows_count ∷ ValueTree.long i.existing_rows_count ∷ ValueTree.long i.deleted_rows_count ∷ [], refl, (i.min_sequence_number, refl), (ValueTree.long i.added_snapshot_id, ValueTree.int i.added_files_count ∷ ValueTree.int i.existing_files_count ∷ ValueTree.int i.deleted_files_count ∷ ValueTree.long i.added_rows_count ∷ ValueTree.long i.existing_rows_count ∷ ValueTree.long i.deleted_rows_count ∷ [], refl, (i.added_snapshot_id, refl), (ValueTree.int i.added_files_count, ValueTree.int i.existing_files_count ∷ ValueTree.int i.deleted_files_count ∷ ValueTree.long i.added_rows_count ∷ ValueTree.long i.existing_rows_count ∷ ValueTree.long i.deleted_rows_count ∷ [], refl, (i.added_files_count, refl), (ValueTree.int i.existing_files_count, ValueTree.int i.deleted_files_count ∷ ValueTree.long i.added_rows_count ∷ ValueTree.long i.existing_rows_count ∷ ValueTree.long i.deleted_rows_count ∷ [], refl, (i.existing_files_count, refl), (ValueTree.int i.deleted_files_count, ValueTree.long i.added_rows_count ∷ ValueTree.long i.existing_rows_count ∷ ValueTree.long i.deleted_rows_count ∷ [], refl, (i.deleted_files_count, refl), (ValueTree.long i.added_rows_count, ValueTree.long i.existing_rows_count ∷ ValueTree.long i.deleted_rows_count ∷ [], refl, (i.added_rows_count, refl), (ValueTree.long i.existing_rows_count, ValueTree.long i.deleted_rows_count ∷ [], refl, (i.existing_rows_count, refl), (ValueTree.long i.deleted_rows_count, [], refl, (i.deleted_rows_count, refl), refl))))))))))))))

pub list_fits : (is : List ManifestInfo) → AllByRecursion (Fits (layout_of list_type)) (map info_tree is)
list_fits [] = tt
list_fits (i ∷ is) = (row_fits i, list_fits is)

pub list_total : (is : List ManifestInfo) → total value_count (map info_tree is) ≡ 14 * length is
list_total [] = refl
list_total (i ∷ is) = let rest = list_total is in omega (arith, rest)

pub list_plain : IsPlain list_type
list_plain = record { sound = search rules; distinct = refl; levels = omega arith; types = omega arith }

-- ---- the container

pub list_free : (limit : ℕ) (snapshot : ℤ) (parent : Option ℤ) (sequence : ℤ) → 7 ≤ limit → IsFree limit (list_meta snapshot parent sequence)
list_free limit snapshot parent sequence many = record { no_schema = refl; no_codec = refl; few = many }

pub fits_by : (t : SchemaTree) (vs : List ValueTree) (is : List ManifestInfo) → t ≡ list_type → vs ≡ map info_tree is → AllByRecursion (Fits (layout_of t)) vs
fits_by t vs is same values = rw (same, values) (list_fits is)

pub spelled_by : (t : SchemaTree) → t ≡ list_type → (IsPlain t → IsSpelled t) → IsSpelled list_type
spelled_by t same spelled = subst IsSpelled same (spelled (subst IsPlain (sym same) list_plain))

stands_by : (limit : ℕ) (bytes : List ℕ) (meta : Pairs) (m : List ℕ) (is : List ManifestInfo) → IsWritableList limit is → AllByRecursion HasInts is → IsSpelled list_type → IsWritten limit bytes meta list_type m (map info_tree is) → StandsFor limit infos_of bytes is
stands_by limit bytes meta m is writable ints spelled w = record {
  meta = w.pairs;
  schema = list_type;
  values = map info_tree is;
  container = w.read_back spelled (rw (list_total is) writable.few);
  read = list_again is writable.places ints writable.contents;
}

pub lists_back : (limit : ℕ) (r : Result (List ℕ) ManifestError) (meta : Pairs) (m : List ℕ) (is : List ManifestInfo) → IsWritableList limit is → AllByRecursion HasInts is → IsSpelled list_type → IfOk r (λ b. IsWritten limit b meta list_type m (map info_tree is)) → IfOk r (λ b. StandsFor limit infos_of b is)
lists_back limit (Ok bytes) meta m is writable ints spelled w = stands_by limit bytes meta m is writable ints spelled w
lists_back limit (Err e) meta m is writable ints spelled w = tt
