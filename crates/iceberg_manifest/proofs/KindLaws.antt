-- The values of a manifest's entries are of the kinds of its columns.
use Rattle.std.proofs.Common.{◌≡◌, ℕ, ℤ, pos, List, [], ◌∷◌, Bool, true, false, cond, Option, None, Some, Result, Ok, Err, sym, ap, subst, ◌∙◌}
use Rattle.std.specs.List.{AllByRecursion}
use Rattle.std.specs.Ordering.{int_eq}
use Rattle.lake_basics.specs.Outcome.{each, required, with_fault}
use Rattle.lake_basics.proofs.Steps.{bind_ok, ok_is, each_cons}
use Rattle.avro_schema.specs.Tree.{FieldTrees, SchemaTree}
use Rattle.avro_value.specs.ValueTree.{ValueTree, ValueTrees}
use Rattle.partition_map.specs.Avro.{branch_of}
use Rattle.partition_map.specs.Kind.{IsOfKind}
use Rattle.partition_map.specs.declared.kind.PartKind.{PartKind}
use Rattle.partition_map.specs.declared.kind.PartKind.TheVariants.{Boolean, Int, Long, Text, Date}
use Rattle.table_history.specs.declared.row.PartValue.{PartValue}
use Rattle.table_history.specs.declared.row.PartValue.TheVariants as value
use Rattle.iceberg_manifest.specs.Containers.{StandsFor}
use Rattle.iceberg_manifest.specs.Entry.{EntryData}
use Rattle.iceberg_manifest.specs.EntryReading.{data_file, entries_in, entry_by, entry_plan, entry_record, fault_of, file_plan, judged, status_of}
use Rattle.iceberg_manifest.specs.Fields.{place_of, record_fields, record_place, required_place}
use Rattle.iceberg_manifest.specs.Kinds.{AreOfKinds}
use Rattle.iceberg_manifest.specs.Entry.{is_live}
use Rattle.iceberg_manifest.specs.Partition.{column_place, kind_of_values, part_at, part_in, part_value, parts_in, value_if_any, whole_part}
use Rattle.iceberg_manifest.specs.Scans.{entries_of, entry_error}
use Rattle.iceberg_manifest.specs.Values.{int_of, record_value, required_natural, required_record, required_text, required_whole, sequence_at, whole_if_any, whole_or_zero}
use Rattle.iceberg_manifest.specs.declared.error.Flaw.TheVariants.{Malformed}
use Rattle.iceberg_manifest.specs.declared.field.FieldKind.TheVariants as field
use Rattle.iceberg_manifest.specs.declared.data_file.DataFile.{DataFile}
use Rattle.iceberg_manifest.specs.declared.data_file.EntryRecord.{EntryRecord}
use Rattle.iceberg_manifest.specs.declared.error.EntryFault.TheVariants as fault
use Rattle.iceberg_manifest.specs.declared.partition.ColumnPlace.{ColumnPlace}
use Rattle.iceberg_manifest.specs.declared.partition.PartColumn.{PartColumn}
use Rattle.iceberg_manifest.specs.declared.plan.EntryPlan.{EntryPlan}
use Rattle.iceberg_manifest.specs.declared.plan.FilePlan.{FilePlan}

-- ---- readings

pub fault_ok : {A E F : Type 0} (name : E → F) (r : Result A E) (a : A) → with_fault name r ≡ Ok a → r ≡ Ok a
fault_ok name (Ok x) a is = ap Ok (ok_is x a is)
fault_ok name (Err d) a is = absurd (cc)

-- ---- one value

whole_kind : (kind : PartKind) (n : ℤ) (p : PartValue) → whole_part kind n ≡ Ok p → IsOfKind kind p
whole_kind Int n p is = let got = bind_ok (int_of n) _ p is in subst (IsOfKind Int) (ok_is (value.Int got.0) p got.2) tt
whole_kind Long n p is = subst (IsOfKind Long) (ok_is (value.Long n) p is) tt
whole_kind Date n p is = let got = bind_ok (int_of n) _ p is in subst (IsOfKind Date) (ok_is (value.Date got.0) p got.2) tt
whole_kind Boolean n p is = absurd (cc)
whole_kind Text n p is = absurd (cc)

null_kind : (kind : PartKind) (p : PartValue) → value.Null ≡ p → IsOfKind kind p
null_kind kind p same = subst (IsOfKind kind) same tt

value_kind : (kind : PartKind) (v : ValueTree) (p : PartValue) → part_value kind v ≡ Ok p → IsOfKind kind p
value_kind kind ValueTree.null p is = null_kind kind p (ok_is value.Null p is)
value_kind Boolean (ValueTree.boolean b) p is = subst (IsOfKind Boolean) (ok_is (value.Boolean b) p is) tt
value_kind Text (ValueTree.text t) p is = subst (IsOfKind Text) (ok_is (value.Text t) p is) tt
value_kind kind (ValueTree.int n) p is = whole_kind kind n p is
value_kind kind (ValueTree.long n) p is = whole_kind kind n p is
value_kind _ _ p is = absurd (cc)

part_kind : (kind : PartKind) (o : Option ValueTree) (p : PartValue) → part_in kind o ≡ Ok p → IsOfKind kind p
part_kind kind None p is = null_kind kind p (ok_is value.Null p is)
part_kind kind (Some v) p is = value_kind kind (branch_of v) p is

at_kind : (vs : ValueTrees) (place : ColumnPlace) (p : PartValue) → part_at vs place ≡ Ok p → IsOfKind place.kind p
unfolding part_at
at_kind vs place p is = part_kind place.kind (value_if_any vs place.place) p is

place_kind : (fields : FieldTrees) (c : PartColumn) (place : ColumnPlace) → column_place fields c ≡ Ok place → place.kind ≡ c.kind
unfolding column_place
place_kind fields c place is = let got = bind_ok (place_of (kind_of_values c.kind) c.field_id fields) _ place is in sym (ap (λ (p : ColumnPlace). p.kind) (ok_is (record { kind = c.kind; place = got.0 }) place got.2))

-- ---- the values of an entry

parts_kinds : (fields : FieldTrees) (vs : ValueTrees) (columns : List PartColumn) (places : List ColumnPlace) (values : List PartValue) → each (column_place fields) columns ≡ Ok places → parts_in vs places ≡ Ok values → AreOfKinds columns values
parts_kinds fields vs [] places values placed read =
    let none : [] ≡ places = ok_is [] places placed in
    let empty : [] ≡ values = ok_is [] values (subst (λ ps. parts_in vs ps ≡ Ok values) (sym none) read) in
    subst (AreOfKinds []) empty tt
parts_kinds fields vs (c ∷ cs) places values placed read =
    let at = each_cons (column_place fields) c cs places placed in
    let got = each_cons (part_at vs) at.0 at.1 values (subst (λ ps. parts_in vs ps ≡ Ok values) (sym at.4) read) in
    let here : IsOfKind c.kind got.0 = subst (λ k. IsOfKind k got.0) (place_kind fields c at.0 at.2) (at_kind vs at.0 got.0 got.2) in
    subst (AreOfKinds (c ∷ cs)) got.4 (here, parts_kinds fields vs cs at.1 got.1 at.3 got.3)

file_places : (columns : List PartColumn) (fields : FieldTrees) (plan : FilePlan) → file_plan columns fields ≡ Ok plan → (within : FieldTrees) × (each (column_place within) columns ≡ Ok plan.columns)
unfolding file_plan
file_places columns fields plan is =
    let content = bind_ok (place_of field.Whole (pos 134) fields) _ plan is in
    let path = bind_ok (required_place field.Text (pos 100) fields) _ plan content.2 in
    let format = bind_ok (required_place field.Text (pos 101) fields) _ plan path.2 in
    let partition = bind_ok (record_place (pos 102) fields) _ plan format.2 in
    let count = bind_ok (required_place field.Whole (pos 103) fields) _ plan partition.2 in
    let size = bind_ok (required_place field.Whole (pos 104) fields) _ plan count.2 in
    let places = bind_ok (each (column_place partition.0.1) columns) _ plan size.2 in
    let made : _ ≡ plan = ok_is _ plan places.2 in
    (partition.0.1, places.1 ∙ ap (λ (p : FilePlan). Ok p.columns) made)

plan_places : (columns : List PartColumn) (t : SchemaTree) (plan : EntryPlan) → entry_plan columns t ≡ Ok plan → (within : FieldTrees) × (each (column_place within) columns ≡ Ok plan.fields.columns)
unfolding entry_plan
plan_places columns t plan is =
    let fields = bind_ok (required Malformed (record_fields t)) _ plan is in
    let status = bind_ok (required_place field.Whole (pos 0) fields.0) _ plan fields.2 in
    let snapshot = bind_ok (place_of field.Whole (pos 1) fields.0) _ plan status.2 in
    let sequence = bind_ok (place_of field.Whole (pos 3) fields.0) _ plan snapshot.2 in
    let file_sequence = bind_ok (place_of field.Whole (pos 4) fields.0) _ plan sequence.2 in
    let file = bind_ok (record_place (pos 2) fields.0) _ plan file_sequence.2 in
    let in_file = bind_ok (file_plan columns file.0.1) _ plan file.2 in
    let made : _ ≡ plan = ok_is _ plan in_file.2 in
    let places = file_places columns file.0.1 in_file.0 in_file.1 in
    (places.0, places.1 ∙ ap (λ (p : EntryPlan). Ok p.fields.columns) made)

file_values : (plan : FilePlan) (vs : ValueTrees) (file : DataFile) → data_file plan vs ≡ Ok file → (within : ValueTrees) × (parts_in within plan.columns ≡ Ok file.values)
unfolding data_file
file_values plan vs file is =
    let content = bind_ok (whole_or_zero vs plan.content) _ file is in
    let kind = bind_ok (int_of content.0) _ file content.2 in
    let path = bind_ok (required_text vs plan.path) _ file kind.2 in
    let format = bind_ok (required_text vs plan.format) _ file path.2 in
    let partition = bind_ok (required_record vs plan.partition) _ file format.2 in
    let values = bind_ok (parts_in partition.0 plan.columns) _ file partition.2 in
    let count = bind_ok (required_natural vs plan.count) _ file values.2 in
    let size = bind_ok (required_natural vs plan.size) _ file count.2 in
    let made : _ ≡ file = ok_is _ file size.2 in
    (partition.0, values.1 ∙ ap (λ (d : DataFile). Ok d.values) made)

record_values : (plan : EntryPlan) (v : ValueTree) (r : EntryRecord) → entry_record plan v ≡ Ok r → (within : ValueTrees) × (parts_in within plan.fields.columns ≡ Ok r.entry.values)
unfolding entry_record
record_values plan v r is =
    let vs = bind_ok (record_value v) _ r is in
    let word = bind_ok (required_whole vs.0 plan.status) _ r vs.2 in
    let status = bind_ok (status_of word.0) _ r word.2 in
    let snapshot = bind_ok (whole_if_any vs.0 plan.snapshot) _ r status.2 in
    let sequence = bind_ok (sequence_at vs.0 plan.sequence) _ r snapshot.2 in
    let file_sequence = bind_ok (sequence_at vs.0 plan.file_sequence) _ r sequence.2 in
    let within = bind_ok (required_record vs.0 plan.file) _ r file_sequence.2 in
    let file = bind_ok (data_file plan.fields within.0) _ r within.2 in
    let made : _ ≡ r = ok_is _ r file.2 in
    let values = file_values plan.fields within.0 file.0 file.1 in
    (values.0, values.1 ∙ ap (λ (e : EntryRecord). Ok e.entry.values) made)

judged_by : (r : EntryRecord) (e : EntryData) (live content parquet : Bool) → cond live (cond content (cond parquet (Ok r.entry) (Err fault.FileFormat)) (Err fault.RowDeletes)) (Ok r.entry) ≡ Ok e → r.entry ≡ e
judged_by r e true true true is = ok_is r.entry e is
judged_by r e true true false is = absurd (cc)
judged_by r e true false parquet is = absurd (cc)
judged_by r e false content parquet is = ok_is r.entry e is

entry_values : (plan : EntryPlan) (v : ValueTree) (e : EntryData) → entry_by plan v ≡ Ok e → (within : ValueTrees) × (parts_in within plan.fields.columns ≡ Ok e.values)
unfolding entry_by
entry_values plan v e is =
    let got = bind_ok (with_fault fault_of (entry_record plan v)) judged e is in
    let read = record_values plan v got.0 (fault_ok fault_of (entry_record plan v) got.0 got.1) in
    let same : got.0.entry ≡ e = judged_by got.0 e (is_live got.0.entry) (int_eq got.0.content (pos 0)) got.0.is_parquet got.2 in
    (read.0, read.1 ∙ ap (λ (d : EntryData). Ok d.values) same)

each_values : (columns : List PartColumn) (plan : EntryPlan) (fields : FieldTrees) → each (column_place fields) columns ≡ Ok plan.fields.columns → (vs : List ValueTree) (entries : List EntryData) → each (entry_by plan) vs ≡ Ok entries → AllByRecursion (λ e. AreOfKinds columns e.values) entries
each_values columns plan fields placed [] entries is = let none : [] ≡ entries = ok_is [] entries is in subst (AllByRecursion (λ e. AreOfKinds columns e.values)) none tt
each_values columns plan fields placed (v ∷ vs) entries is =
    let got = each_cons (entry_by plan) v vs entries is in
    let read = entry_values plan v got.0 got.2 in
    subst (AllByRecursion (λ e. AreOfKinds columns e.values)) got.4 (parts_kinds fields read.0 columns plan.fields.columns got.0.values placed read.1, each_values columns plan fields placed vs got.1 got.3)

-- each entry of a manifest has values of the columns' kinds
in_kinds : (columns : List PartColumn) (t : SchemaTree) (vs : List ValueTree) (entries : List EntryData) → entries_in columns t vs ≡ Ok entries → AllByRecursion (λ e. AreOfKinds columns e.values) entries
unfolding entries_in
in_kinds columns t vs entries is =
    let got = bind_ok (with_fault fault_of (entry_plan columns t)) (λ plan. each (entry_by plan) vs) entries is in
    let placed = plan_places columns t got.0 (fault_ok fault_of (entry_plan columns t) got.0 got.1) in
    each_values columns got.0 placed.0 placed.1 vs entries got.2

pub entries_kinds : (limit : ℕ) (columns : List PartColumn) (bytes : List ℕ) (entries : List EntryData) → StandsFor limit (entries_of columns) bytes entries → AllByRecursion (λ e. AreOfKinds columns e.values) entries
entries_kinds limit columns bytes entries are = in_kinds columns are.schema are.values entries (fault_ok entry_error (entries_in columns are.schema are.values) entries are.read)
