-- Metadata that is written, read back.
use Rattle.std.proofs.Common.{◌≡◌, ◌≢◌, ℕ, ◌<◌, ◌^◌, ◌++◌, inr, ℤ, pos, negsuc, List, [], ◌∷◌, map, nat_lt, nat_cmp, Bool, true, false, Ordering, Less, Equal, Greater, Option, Some, None, Result, Ok, All, refl, sym, ap, ◌∙◌, subst, arith, is_eq, FitsSigned, w32, w64, length}
use Rattle.std.proofs.lemmas.Bool.{le-leb, lt-ltb, or_from, or_parts, true≢false}
use Rattle.std.proofs.lemmas.Bool.Decides.{Decides-int_eq, Decides-ltb}
use Rattle.std.proofs.lemmas.Int.{ints}
use Rattle.std.proofs.lemmas.List.{append-nil}
use Rattle.std.proofs.lemmas.List.Elements.{All-head, All-tail}
use Rattle.std.proofs.lemmas.List.Sorted.{IsPermutation-cons, IsPermutation-refl, IsPermutation-trans, list_any-IsPermutation}
use Rattle.std.proofs.lemmas.Map.Keys.{IsDistinct-head, IsDistinct-tail}
use Rattle.std.proofs.lemmas.Map.Text.{is_eq-slice_cmp}
use Rattle.std.proofs.lemmas.Cmp.{nat_list_eq_equiv}
use Rattle.std.specs.Prelude.{codes, unwrap_or, IfSome}
use Rattle.std.specs.Bool.{Decides}
use Rattle.std.specs.Cmp.Lexicographic.{slice_cmp}
use Rattle.std.specs.List.{AllByRecursion, list_any}
use Rattle.std.specs.List.Sorted.{IsPermutation}
use Rattle.std.specs.Ordering.{int_eq, match_ordering}
use Rattle.std.specs.Str.{bytes_eq}
use Rattle.serde_json.specs.Data.{Data, object, string, Members, no_members, member, put}
use Rattle.serde_json.specs.View.{items_of}
use Rattle.lake_basics.specs.Outcome.{each}
use Rattle.lake_basics.specs.declared.limits.TheConstants.{MAX_PARTITION_COLUMNS}
use Rattle.lake_basics.proofs.Lists.{front_two, moved_back, permuted_behind}
use Rattle.lake_basics.proofs.Steps.{bind_ok, ok_is}
use Rattle.json_reading.specs.Json as json_values
use Rattle.json_reading.specs.Json.{whole, int, items, pairs, present, members_with, IsReadAgain}
use Rattle.table_history.specs.First.{NoneOf}
use Rattle.iceberg_metadata.specs.declared.error.MetadataError.TheVariants.{Malformed}
use Rattle.iceberg_metadata.specs.declared.metadata.Metadata.{Metadata}
use Rattle.iceberg_metadata.specs.declared.metadata.Snapshot.{Snapshot}
use Rattle.iceberg_metadata.specs.declared.metadata.Spec.{Spec}
use Rattle.iceberg_metadata.specs.declared.metadata.SpecField.{SpecField}
use Rattle.iceberg_metadata.specs.Members.{spec_field, spec, snapshot, property, current_snapshot, refs_fit}
use Rattle.iceberg_metadata.specs.Schemas.{HeldSchema, HeldUnread, SchemaReading, schema_reading, readable, unread, schema_ids}
use Rattle.iceberg_metadata.specs.Grammar.{Says, IsConsistent}
use Rattle.iceberg_metadata.specs.Paths.{default_fields, all_path_ids, HasOtherTransform, IsRenamed, HasOtherPartition}
use Rattle.iceberg_metadata.specs.Reading.{Shows, causes}
use Rattle.iceberg_metadata.specs.Judging.{contents, judged, is_other_transform, is_renamed, has_other_partition, metadata_of}
use Rattle.iceberg_metadata.specs.Writing.{whole_data, spec_field_data, spec_data, snapshot_data, schema_data, refs_data, metadata_data, metadata_text, CanBeHeld, HaveOwnNames, IsWritable, SameMetadata, FieldFits, SpecFits, SnapshotFits, SchemaFits, MetadataFits}
use Rattle.iceberg_metadata.proofs.ConsistentLemmas.{consistent_Decides}
use Rattle.iceberg_metadata.proofs.ContentLemmas.{contents_are}
use Rattle.iceberg_metadata.proofs.JudgedLemmas.{transform_Decides, partition_Decides}
use Rattle.iceberg_metadata.proofs.PathLemmas.{renamed_Decides}

-- ---- numbers

whole_again : (z : ℤ) → FitsSigned w64 z → whole (whole_data z) ≡ Some z
whole_again (pos n) fits = rw (lt-ltb n (2 ^ 63) (omega (arith, ints, fits))) refl
whole_again (negsuc n) fits = refl

int_again : (z : ℤ) → FitsSigned w32 z → int (whole_data z) ≡ Some z
int_again (pos n) fits = rw (lt-ltb n (2 ^ 63) (omega (arith, ints, fits)), le-leb n 2147483647 (omega (arith, ints, fits))) refl
int_again (negsuc n) fits = rw (le-leb n 2147483647 (omega (arith, ints, fits))) refl

-- ---- lists

each_again : {A E : Type 0} (f : Data → Result A E) (g : A → Data) (xs : List A) → AllByRecursion (λ x. f (g x) ≡ Ok x) xs → each f (items (items_of (map g xs))) ≡ Ok xs
each_again f g [] all = refl
each_again f g (x ∷ xs) all = rw (all.0, each_again f g xs all.1) refl

all_by : {A : Type 0} (P Q : A → Type 0) → ((x : A) → P x → Q x) → (xs : List A) → AllByRecursion P xs → AllByRecursion Q xs
all_by P Q so [] all = tt
all_by P Q so (x ∷ xs) all = (so x all.0, all_by P Q so xs all.1)

field_again : (f : SpecField) → FieldFits f → spec_field (spec_field_data f) ≡ Ok f
unfolding spec_field
field_again f fits = rw (int_again f.field_id fits.0, int_again f.source_id fits.1) refl

spec_again : (s : Spec) → SpecFits s → spec (spec_data s) ≡ Ok s
unfolding spec
spec_again s fits = rw (int_again s.id fits.0, each_again spec_field spec_field_data s.fields (all_by FieldFits (λ f. spec_field (spec_field_data f) ≡ Ok f) field_again s.fields fits.1)) refl

-- ---- snapshots

abbrev a_snapshot : ℤ → Option ℤ → ℤ → ℤ → List ℕ → Option ℤ → Option (List ℕ) → Snapshot
a_snapshot id parent sequence timestamp manifests schema operation = record { id = id; parent = parent; sequence = sequence; timestamp = timestamp; list = manifests; schema_id = schema; operation = operation }

module _ (id sequence timestamp : ℤ) (manifests : List ℕ) (of_id : FitsSigned w64 id) (of_sequence : FitsSigned w64 sequence) (of_timestamp : FitsSigned w64 timestamp) where
  snapshot_by : (parent schema : Option ℤ) (operation : Option (List ℕ)) → IfSome parent (FitsSigned w64) → IfSome schema (FitsSigned w32)
      → snapshot (snapshot_data (a_snapshot id parent sequence timestamp manifests schema operation)) ≡ Ok (a_snapshot id parent sequence timestamp manifests schema operation)
  unfolding snapshot
  snapshot_by None None None p s = rw (whole_again id of_id, whole_again sequence of_sequence, whole_again timestamp of_timestamp) refl
  snapshot_by None None (Some o) p s = rw (whole_again id of_id, whole_again sequence of_sequence, whole_again timestamp of_timestamp) refl
  snapshot_by None (Some b) None p s = rw (whole_again id of_id, whole_again sequence of_sequence, whole_again timestamp of_timestamp, int_again b s) refl
  snapshot_by None (Some b) (Some o) p s = rw (whole_again id of_id, whole_again sequence of_sequence, whole_again timestamp of_timestamp, int_again b s) refl
  snapshot_by (Some a) None None p s = rw (whole_again id of_id, whole_again a p, whole_again sequence of_sequence, whole_again timestamp of_timestamp) refl
  snapshot_by (Some a) None (Some o) p s = rw (whole_again id of_id, whole_again a p, whole_again sequence of_sequence, whole_again timestamp of_timestamp) refl
  snapshot_by (Some a) (Some b) None p s = rw (whole_again id of_id, whole_again a p, whole_again sequence of_sequence, whole_again timestamp of_timestamp, int_again b s) refl
  snapshot_by (Some a) (Some b) (Some o) p s = rw (whole_again id of_id, whole_again a p, whole_again sequence of_sequence, whole_again timestamp of_timestamp, int_again b s) refl

snapshot_again : (s : Snapshot) → SnapshotFits s → snapshot (snapshot_data s) ≡ Ok s
snapshot_again s fits = snapshot_by s.id s.sequence s.timestamp s.list fits.0 fits.2 fits.3 s.parent s.schema_id s.operation fits.1 fits.4

-- ---- schemas

as_read : HeldSchema → SchemaReading
as_read s = (s.0, Ok (s.1, s.2))

schema_again : (s : HeldSchema) → SchemaFits s → CanBeHeld s → schema_reading (schema_data s) ≡ Ok (as_read s)
unfolding schema_reading as_read
schema_again s fits held = rw (int_again s.0 fits.0, fits.1 held.0 held.1) refl

schemas_again : (ss : List HeldSchema) → AllByRecursion SchemaFits ss → All CanBeHeld ss → each schema_reading (items (items_of (map schema_data ss))) ≡ Ok (map as_read ss)
schemas_again [] fits held = refl
schemas_again (s ∷ ss) fits held = rw (schema_again s fits.0 (All-head CanBeHeld s ss held), schemas_again ss fits.1 (All-tail CanBeHeld s ss held)) refl

all_readable : (ss : List HeldSchema) → readable (map as_read ss) ≡ ss
unfolding as_read
all_readable [] = refl
all_readable (s ∷ ss) = ap (λ (ts : List HeldSchema). s ∷ ts) (all_readable ss)

none_refused : (ss : List HeldSchema) → unread (map as_read ss) ≡ []
unfolding as_read
none_refused [] = refl
none_refused (s ∷ ss) = none_refused ss

ids_kept : (ss : List HeldSchema) → schema_ids (map as_read ss) ≡ map (λ s. s.0) ss
unfolding as_read
ids_kept [] = refl
ids_kept (s ∷ ss) = ap (λ (ids : List ℤ). s.0 ∷ ids) (ids_kept ss)

-- ---- properties

abbrev Property : Type 0
Property = List ℕ × List ℕ

abbrev is_named : List ℕ → Property → Bool
is_named name p = bytes_eq name p.0

-- the members are read as these properties
abbrev AreProperties : Members → List Property → Type 0
AreProperties ms ps = each property (pairs ms) ≡ Ok ps

-- these members are read as the properties and one more
record IsPut (name text : List ℕ) (ms : Members) (ps : List Property) : Type 0 where
  found : List Property
  are : AreProperties ms found
  same : IsPermutation ((name, text) ∷ ps) found

put_behind : (o : Ordering) (k text l : List ℕ) (d : Data) (ms : Members) (entry : Property) (others : List Property)
    → slice_cmp nat_cmp k l ≡ o → entry.0 ≡ l → property (l, d) ≡ Ok entry → AreProperties ms others → list_any (is_named k) (entry ∷ others) ≡ false → IsPut k text (put k (string text) ms) others
    → IsPut k text (match_ordering o (member k (string text) (member l d ms)) (member l (string text) ms) (member l d (put k (string text) ms))) (entry ∷ others)
put_behind Less k text l d ms entry others is named first rest new later = record { found = (k, text) ∷ entry ∷ others; are = rw (first, rest) refl; same = IsPermutation-refl ((k, text) ∷ entry ∷ others) }
put_behind Equal k text l d ms entry others is named first rest new later =
    let other : bytes_eq k l ≡ false = subst (λ (n : List ℕ). bytes_eq k n ≡ false) named (or_parts _ _ new).0 in
    absurd (true≢false (sym (ap is_eq is) ∙ is_eq-slice_cmp k l ∙ other))
put_behind Greater k text l d ms entry others is named first rest new later = record { found = entry ∷ later.found; are = rw (first, later.are) refl; same = IsPermutation-trans _ _ _ (front_two (k, text) entry others) (IsPermutation-cons entry _ _ later.same) }

put_new : (k text : List ℕ) (ms : Members) (ps : List Property) → AreProperties ms ps → list_any (is_named k) ps ≡ false → IsPut k text (put k (string text) ms) ps
put_new k text no_members ps are new = subst (IsPut k text (member k (string text) no_members)) (ok_is [] ps are) (record { found = (k, text) ∷ []; are = refl; same = IsPermutation-refl ((k, text) ∷ []) })
put_new k text (member l d ms) ps are new =
    let a = bind_ok (property (l, d)) _ ps are in
    let b = bind_ok (each property (pairs ms)) _ ps a.2 in
    let whole : a.0 ∷ b.0 ≡ ps = ok_is (a.0 ∷ b.0) ps b.2 in
    let t = bind_ok (json_values.text Malformed d) _ a.0 a.1 in
    let entry : (l, t.0) ≡ a.0 = ok_is (l, t.0) a.0 t.2 in
    let new_here : list_any (is_named k) (a.0 ∷ b.0) ≡ false = subst (λ (qs : List Property). list_any (is_named k) qs ≡ false) (sym whole) new in
    let later = put_new k text ms b.0 b.1 (or_parts _ _ new_here).1 in
    subst (IsPut k text (put k (string text) (member l d ms))) whole (put_behind (slice_cmp nat_cmp k l) k text l d ms a.0 b.0 refl (sym (ap (λ (p : Property). p.0) entry)) a.1 b.1 new_here later)

abbrev AreNew : List Property → List Property → Type 0
AreNew found ps = AllByRecursion (λ q. list_any (is_named q.0) found ≡ false) ps

still_new : (p : Property) (found more ps : List Property) → IsPermutation (p ∷ found) more → AllByRecursion (λ name. bytes_eq p.0 name ≡ false) (map (λ q. q.0) ps) → AreNew found ps → AreNew more ps
still_new p found more [] same apart new = tt
still_new p found more (q ∷ ps) same apart new =
    (sym (list_any-IsPermutation (is_named q.0) (p ∷ found) more same) ∙ or_from _ _ (nat_list_eq_equiv.symm q.0 p.0 ∙ apart.0) new.0, still_new p found more ps same apart.1 new.1)

-- the members are read as these properties in another order
record AreAgain (ms : Members) (ps : List Property) : Type 0 where
  found : List Property
  are : AreProperties ms found
  same : IsPermutation ps found

all_put : (ps found : List Property) (ms : Members) → AreProperties ms found → HaveOwnNames ps → AreNew found ps → AreAgain (members_with string ps ms) (ps ++ found)
all_put [] found ms are own new = record { found = found; are = are; same = IsPermutation-refl found }
all_put (p ∷ ps) found ms are own new =
    let names = map (λ (q : Property). q.0) ps in
    let one = put_new p.0 p.1 ms found are new.0 in
    let others = all_put ps one.found (put p.0 (string p.1) ms) one.are (IsDistinct-tail bytes_eq p.0 names own) (still_new p found one.found ps one.same (IsDistinct-head bytes_eq p.0 names own) new.1) in
    record { found = others.found; are = others.are; same = IsPermutation-trans _ _ _ (moved_back p ps found) (IsPermutation-trans _ _ _ (permuted_behind ps (p ∷ found) one.found one.same) others.same) }

all_new : (ps : List Property) → AreNew [] ps
all_new [] = tt
all_new (p ∷ ps) = (refl, all_new ps)

properties_again : (ps : List Property) → HaveOwnNames ps → AreAgain (members_with string ps no_members) ps
properties_again ps own = subst (AreAgain (members_with string ps no_members)) (append-nil ps) (all_put ps [] no_members refl own (all_new ps))

-- ---- the current snapshot

not_minus_one : (id : ℤ) (b : Bool) → int_eq id (negsuc 0) ≡ b → Some id ≢ Some (negsuc 0) → b ≡ false
not_minus_one id true same other = absurd (other (ap Some ((Decides-int_eq id (negsuc 0)).0 same)))
not_minus_one id false same other = refl

current_again : (o : Option ℤ) → IfSome o (FitsSigned w64) → o ≢ Some (negsuc 0) → current_snapshot (Some (whole_data (unwrap_or o (negsuc 0)))) ≡ Ok o
current_again None fits other = refl
current_again (Some (pos n)) fits other = rw (whole_again (pos n) fits) refl
current_again (Some (negsuc n)) fits other = rw (not_minus_one (negsuc n) (int_eq (negsuc n) (negsuc 0)) refl other) refl

refs_again : (o : Option ℤ) → refs_fit (present (codes "refs") (object (member (codes "refs") (refs_data o) no_members))) ≡ true
refs_again None = refl
refs_again (Some id) = refl

-- ---- nothing is shown

fails : (b : Bool) (P : Type 0) → Decides b P → (P → ⊥) → b ≡ false
fails true P same not = absurd (not (same.0 refl))
fails false P same not = refl

judged_again : (m : Metadata) → NoneOf (λ e. Shows e [] m) causes → judged m [] ≡ Ok tt
judged_again m none =
    let later = none.1.1.1 in
    let transform = fails (list_any is_other_transform (default_fields m)) (HasOtherTransform m) (transform_Decides m) later.0 in
    let renamed = fails (is_renamed (all_path_ids [] m.schemas)) (IsRenamed (all_path_ids [] m.schemas)) (renamed_Decides (all_path_ids [] m.schemas)) later.1.0 in
    let partition = fails (has_other_partition m []) (HasOtherPartition m []) (partition_Decides m []) later.1.1.0 in
    let many = fails (nat_lt MAX_PARTITION_COLUMNS (length (default_fields m))) (MAX_PARTITION_COLUMNS < length (default_fields m)) (Decides-ltb MAX_PARTITION_COLUMNS (length (default_fields m))) (λ more. later.1.1.1.1.1.0 (inr (refl, more))) in
    rw (transform, renamed, partition, many) refl

-- ---- the whole

with_properties : Metadata → List Property → Metadata
with_properties m ps = record m { properties = ps }

says_again : (m : Metadata) → MetadataFits m → IsWritable m → (ps : List Property) → AreProperties (members_with string m.properties no_members) ps → Says (metadata_data m) (map as_read m.schemas) (with_properties m ps)
unfolding with_properties
says_again m fits writable ps are = record {
  version = refl;
  uuid = refl;
  location = refl;
  last_sequence = rw (whole_again m.last_sequence fits.last.0) refl;
  last_updated = rw (whole_again m.last_updated fits.last.1) refl;
  last_column_id = rw (int_again m.last_column_id fits.last.2) refl;
  schema_list = items_of (map schema_data m.schemas);
  has_schemas = refl;
  schemas = schemas_again m.schemas fits.schemas writable.schemas;
  held = sym (all_readable m.schemas);
  current_schema = rw (int_again m.current_schema fits.current_schema) refl;
  spec_list = items_of (map spec_data m.specs);
  has_specs = refl;
  specs = each_again spec spec_data m.specs (all_by SpecFits (λ s. spec (spec_data s) ≡ Ok s) spec_again m.specs fits.specs);
  default_spec = rw (int_again m.default_spec fits.default_spec) refl;
  last_partition_id = rw (int_again m.last_partition_id fits.last.3) refl;
  properties = are;
  current_snapshot = current_again m.current_snapshot fits.current writable.current;
  snapshots = each_again snapshot snapshot_data m.snapshots (all_by SnapshotFits (λ s. snapshot (snapshot_data s) ≡ Ok s) snapshot_again m.snapshots fits.snapshots);
  order_list = _;
  sort_orders = refl;
  order = pos 0;
  default_sort_order = refl;
  refs = refs_again m.current_snapshot;
}

consistent_again : (m : Metadata) (ps : List Property) → IsConsistent m (map (λ s. s.0) m.schemas) → IsConsistent (with_properties m ps) (schema_ids (map as_read m.schemas))
unfolding with_properties
consistent_again m ps is = rw (ids_kept m.schemas) (record {
  own_schemas = is.own_schemas;
  own_specs = is.own_specs;
  own_snapshots = is.own_snapshots;
  current_schema = is.current_schema;
  default_spec = is.default_spec;
  current_snapshot = is.current_snapshot;
  snapshot_schemas = is.snapshot_schemas;
  lists = is.lists;
})

contents_again : (m : Metadata) → MetadataFits m → IsWritable m → (ps : List Property) → AreProperties (members_with string m.properties no_members) ps → contents (metadata_data m) ≡ Ok (with_properties m ps, [])
contents_again m fits writable ps are =
    let n = with_properties m ps in
    let good = (consistent_Decides n (schema_ids (map as_read m.schemas))).1 (consistent_again m ps writable.consistent) in
    contents_are (metadata_data m) (map as_read m.schemas) n (says_again m fits writable ps are) good ∙ ap (λ (es : List HeldUnread). Ok (n, es)) (none_refused m.schemas)

judged_still : (m : Metadata) (ps : List Property) → judged m [] ≡ Ok tt → judged (with_properties m ps) [] ≡ Ok tt
unfolding with_properties
judged_still m ps is = is

same_metadata : (m : Metadata) (ps : List Property) → IsPermutation m.properties ps → SameMetadata m (with_properties m ps)
unfolding with_properties
same_metadata m ps same = record { others = refl; properties = same }

pub metadata_again : (m : Metadata) → MetadataFits m → IsWritable m → IsReadAgain (metadata_data m) → (again : Metadata) × (metadata_of (metadata_text m) ≡ Ok again) × SameMetadata m again
unfolding metadata_of
metadata_again m fits writable read =
    let properties = properties_again m.properties writable.properties in
    let ps = properties.found in
    let said = contents_again m fits writable ps properties.are in
    let good = judged_still m ps (judged_again m writable.shown) in
    (with_properties m ps, rw (read, said, good) refl, same_metadata m ps properties.same)
