-- The JSON of metadata holds no float and is shallow.
use Rattle.std.proofs.Common.{◌≡◌, ℕ, suc, ◌+◌, ◌*◌, ◌≤◌, max, ℤ, pos, negsuc, List, [], ◌∷◌, map, false, Option, Some, None, Less, Equal, Greater, All, Ok, codes, refl, arith, nat_cmp}
use Rattle.std.proofs.lemmas.List.Elements.{All-head, All-tail}
use Rattle.std.specs.Prelude.{unwrap_or}
use Rattle.std.specs.Cmp.Lexicographic.{slice_cmp}
use Rattle.std.specs.List.{AllByRecursion}
use Rattle.std.specs.Ordering.{match_ordering}
use Rattle.std.proofs.lemmas.Bool.{or_from, or_parts}
use Rattle.serde_json.specs.Data.{Data, string, array, object, Items, Members, no_members, member, put, depth, items_depth, members_depth}
use Rattle.serde_json.specs.Read.{max_depth}
use Rattle.serde_json.specs.View.{items_of}
use Rattle.serde_json.specs.Written.{has_float, items_have_float, members_have_float}
use Rattle.json_reading.specs.Json.{members_with}
use Rattle.schema_iceberg.specs.IcebergWriting.{first_id, ids_behind, iceberg_data, iceberg_fields}
use Rattle.schema_iceberg.proofs.IcebergSchema.{given_found}
use Rattle.schema_iceberg.proofs.FlatMapping.{flat_id}
use Rattle.table_history.specs.SchemaSize.{levels, column_levels}
use Rattle.table_history.specs.TypeTree as tree
use Rattle.table_history.specs.TypeTree.{TypeTree, ColumnTrees, no_columns, column}
use Rattle.iceberg_metadata.specs.Schemas.{HeldSchema}
use Rattle.iceberg_metadata.specs.Writing.{whole_data, spec_field_data, spec_data, put_whole, put_operation, snapshot_members, snapshot_data, schema_data, refs_data, orders_data, metadata_data, CanBeHeld, IsWritable}
use Rattle.iceberg_metadata.specs.declared.metadata.Metadata.{Metadata}
use Rattle.iceberg_metadata.specs.declared.metadata.Snapshot.{Snapshot}
use Rattle.iceberg_metadata.specs.declared.metadata.Spec.{Spec}
use Rattle.iceberg_metadata.specs.declared.metadata.SpecField.{SpecField}

-- ---- values that nest so deep, without floats

pub record Within (n : ℕ) (d : Data) : Type 0 where
  pub no_float : has_float d ≡ false
  pub shallow : depth d ≤ n

pub record ItemsWithin (n : ℕ) (ds : Items) : Type 0 where
  pub no_float : items_have_float ds ≡ false
  pub shallow : items_depth ds ≤ n

pub record MembersWithin (n : ℕ) (ms : Members) : Type 0 where
  pub no_float : members_have_float ms ≡ false
  pub shallow : members_depth ms ≤ n

whole_within : (n : ℕ) (z : ℤ) → Within n (whole_data z)
whole_within n (pos m) = record { no_float = refl; shallow = omega arith }
whole_within n (negsuc m) = record { no_float = refl; shallow = omega arith }

text_within : (n : ℕ) (s : List ℕ) → Within n (string s)
text_within n s = record { no_float = refl; shallow = omega arith }

none_within : (n : ℕ) → MembersWithin n no_members
none_within n = record { no_float = refl; shallow = omega arith }

with_member : {n : ℕ} {k : List ℕ} {d : Data} {ms : Members} → Within n d → MembersWithin n ms → MembersWithin n (member k d ms)
with_member {n} {k} {d} {ms} one others = let a = one.shallow in let b = others.shallow in record { no_float = or_from _ _ one.no_float others.no_float; shallow = omega (arith, a, b) }

object_within : {n : ℕ} {ms : Members} → MembersWithin n ms → Within (suc n) (object ms)
object_within {n} {ms} all = let a = all.shallow in record { no_float = all.no_float; shallow = omega (arith, a) }

array_within : {n : ℕ} {ds : Items} → ItemsWithin n ds → Within (suc n) (array ds)
array_within {n} {ds} all = let a = all.shallow in record { no_float = all.no_float; shallow = omega (arith, a) }

wider : {n : ℕ} {d : Data} (m : ℕ) → Within n d → n ≤ m → Within m d
wider {n} {d} m is more = let a = is.shallow in record { no_float = is.no_float; shallow = omega (arith, a, more) }

items_within : {A : Type 0} (n : ℕ) (f : A → Data) (xs : List A) → AllByRecursion (λ x. Within n (f x)) xs → ItemsWithin n (items_of (map f xs))
items_within n f [] all = record { no_float = refl; shallow = omega arith }
items_within n f (x ∷ xs) all =
    let others = items_within n f xs all.1 in
    let a = all.0.shallow in
    let b = others.shallow in
    record { no_float = or_from _ _ all.0.no_float others.no_float; shallow = omega (arith, a, b) }

each_within : {A : Type 0} (n : ℕ) (f : A → Data) → ((x : A) → Within n (f x)) → (xs : List A) → ItemsWithin n (items_of (map f xs))
each_within n f all [] = record { no_float = refl; shallow = omega arith }
each_within n f all (x ∷ xs) =
    let here = all x in
    let others = each_within n f all xs in
    let a = here.shallow in
    let b = others.shallow in
    record { no_float = or_from _ _ here.no_float others.no_float; shallow = omega (arith, a, b) }

-- ---- members put in

first_member : {n : ℕ} {k : List ℕ} {d : Data} {ms : Members} → MembersWithin n (member k d ms) → Within n d
first_member {n} {k} {d} {ms} all = let a : max (depth d) (members_depth ms) ≤ n = all.shallow in record { no_float = (or_parts _ _ all.no_float).0; shallow = omega (arith, a) }

other_members : {n : ℕ} {k : List ℕ} {d : Data} {ms : Members} → MembersWithin n (member k d ms) → MembersWithin n ms
other_members {n} {k} {d} {ms} all = let a : max (depth d) (members_depth ms) ≤ n = all.shallow in record { no_float = (or_parts _ _ all.no_float).1; shallow = omega (arith, a) }

put_within : (n : ℕ) (k : List ℕ) (d : Data) (ms : Members) → Within n d → MembersWithin n ms → MembersWithin n (put k d ms)
put_within n k d no_members one all = with_member one all
put_within n k d (member l e ms) one all =
    elim (slice_cmp nat_cmp k l) as (λ o. MembersWithin n (match_ordering o (member k d (member l e ms)) (member l d ms) (member l e (put k d ms)))) [
      | Less ↦ with_member one all
      | Equal ↦ with_member one (other_members all)
      | Greater ↦ with_member (first_member all) (put_within n k d ms one (other_members all))
    ]

texts_within : (n : ℕ) (ps : List (List ℕ × List ℕ)) (ms : Members) → MembersWithin n ms → MembersWithin n (members_with string ps ms)
texts_within n [] ms all = all
texts_within n (p ∷ ps) ms all = texts_within n ps (put p.0 (string p.1) ms) (put_within n p.0 (string p.1) ms (text_within n p.1) all)

put_whole_within : (n : ℕ) (name : List ℕ) (o : Option ℤ) (ms : Members) → MembersWithin n ms → MembersWithin n (put_whole name o ms)
put_whole_within n name None ms all = all
put_whole_within n name (Some z) ms all = put_within n name (whole_data z) ms (whole_within n z) all

put_operation_within : (n : ℕ) (o : Option (List ℕ)) (ms : Members) → MembersWithin (suc n) ms → MembersWithin (suc n) (put_operation o ms)
put_operation_within n None ms all = all
put_operation_within n (Some t) ms all = put_within (suc n) (codes "summary") (object (member (codes "operation") (string t) no_members)) ms (object_within (with_member (text_within n t) (none_within n))) all

-- ---- specs and snapshots

field_within : (f : SpecField) → Within 1 (spec_field_data f)
field_within f = object_within (with_member (whole_within 0 f.field_id) (with_member (text_within 0 f.name) (with_member (whole_within 0 f.source_id) (with_member (text_within 0 f.transform) (none_within 0)))))

spec_within : (s : Spec) → Within 3 (spec_data s)
spec_within s = object_within (with_member (array_within (each_within 1 spec_field_data field_within s.fields)) (with_member (whole_within 2 s.id) (none_within 2)))

snapshot_within : (s : Snapshot) → Within 2 (snapshot_data s)
snapshot_within s =
    let required : MembersWithin 1 (snapshot_members s) = with_member (text_within 1 s.list) (with_member (whole_within 1 s.sequence) (with_member (whole_within 1 s.id) (with_member (whole_within 1 s.timestamp) (none_within 1)))) in
    let parent = put_whole_within 1 (codes "parent-snapshot-id") s.parent (snapshot_members s) required in
    let schema = put_whole_within 1 (codes "schema-id") s.schema_id (put_whole (codes "parent-snapshot-id") s.parent (snapshot_members s)) parent in
    object_within (put_operation_within 0 s.operation (put_whole (codes "schema-id") s.schema_id (put_whole (codes "parent-snapshot-id") s.parent (snapshot_members s))) schema)

-- ---- schemas

mutual
  flat_type : (t : TypeTree) (ids : List ℤ) → has_float (iceberg_data t ids).0 ≡ false
  flat_type tree.boolean ids = refl
  flat_type tree.byte ids = refl
  flat_type tree.short ids = refl
  flat_type tree.int ids = refl
  flat_type tree.long ids = refl
  flat_type tree.float ids = refl
  flat_type tree.double ids = refl
  flat_type tree.text ids = refl
  flat_type tree.binary ids = refl
  flat_type tree.date ids = refl
  flat_type tree.timestamp ids = refl
  flat_type tree.timestamp_ntz ids = refl
  flat_type (tree.decimal p s) ids = refl
  flat_type (tree.struct_of cs) ids = or_from _ _ (flat_fields cs ids) refl
  flat_type (tree.list_of t b) ids = or_from _ _ (flat_type t (ids_behind ids)) (or_from _ _ (flat_id (first_id ids)) refl)
  flat_type (tree.map_of k v b) ids =
      let key = iceberg_data k (ids_behind ids) in
      or_from _ _ (flat_type k (ids_behind ids)) (or_from _ _ (flat_id (first_id ids)) (or_from _ _ (flat_type v (ids_behind key.1)) (or_from _ _ (flat_id (first_id key.1)) refl)))

  flat_fields : (cs : ColumnTrees) (ids : List ℤ) → items_have_float (items_of (iceberg_fields cs ids).0) ≡ false
  flat_fields no_columns ids = refl
  flat_fields (column m t b cs) ids =
      let kind = iceberg_data t (ids_behind ids) in
      or_from _ _ (or_from _ _ (flat_id (first_id ids)) (or_from _ _ (flat_type t (ids_behind ids)) refl)) (flat_fields cs kind.1)

mutual
  -- a type of so many levels takes fewer than three levels of JSON for each
  few_depths : (t : TypeTree) (ids : List ℤ) → depth (iceberg_data t ids).0 + 1 ≤ 3 * levels t
  few_depths tree.boolean ids = omega arith
  few_depths tree.byte ids = omega arith
  few_depths tree.short ids = omega arith
  few_depths tree.int ids = omega arith
  few_depths tree.long ids = omega arith
  few_depths tree.float ids = omega arith
  few_depths tree.double ids = omega arith
  few_depths tree.text ids = omega arith
  few_depths tree.binary ids = omega arith
  few_depths tree.date ids = omega arith
  few_depths tree.timestamp ids = omega arith
  few_depths tree.timestamp_ntz ids = omega arith
  few_depths (tree.decimal p s) ids = omega arith
  few_depths (tree.struct_of cs) ids = let h = few_field_depths cs ids in omega (arith, h)
  few_depths (tree.list_of t b) ids = let h = few_depths t (ids_behind ids) in omega (arith, h)
  few_depths (tree.map_of k v b) ids =
      let h = few_depths k (ids_behind ids) in
      let g = few_depths v (ids_behind (iceberg_data k (ids_behind ids)).1) in
      omega (arith, h, g)

  few_field_depths : (cs : ColumnTrees) (ids : List ℤ) → items_depth (items_of (iceberg_fields cs ids).0) ≤ 3 * column_levels cs
  few_field_depths no_columns ids = omega arith
  few_field_depths (column m t b cs) ids =
      let h = few_depths t (ids_behind ids) in
      let others = few_field_depths cs (iceberg_data t (ids_behind ids)).1 in
      omega (arith, h, others)

held_within : (s : HeldSchema) → CanBeHeld s → Within 95 (schema_data s)
held_within s held =
    let found = given_found held.0 (Ok (s.1, s.2)) held.1 in
    let small = found.1.levels in
    let h = few_field_depths s.1 s.2 in
    record { no_float = or_from _ _ (flat_fields s.1 s.2) (or_from _ _ (flat_id s.0) refl); shallow = omega (arith, small, h) }

schemas_within : (ss : List HeldSchema) → All CanBeHeld ss → AllByRecursion (λ s. Within 95 (schema_data s)) ss
schemas_within [] held = tt
schemas_within (s ∷ ss) held = (held_within s (All-head CanBeHeld s ss held), schemas_within ss (All-tail CanBeHeld s ss held))

-- ---- the whole

refs_within : (o : Option ℤ) → Within 2 (refs_data o)
refs_within None = record { no_float = refl; shallow = omega arith }
refs_within (Some z) = object_within (with_member (object_within (with_member (whole_within 0 z) (with_member (text_within 0 (codes "branch")) (none_within 0)))) (none_within 1))

orders_within : Within 3 orders_data
orders_within = record { no_float = refl; shallow = omega arith }

metadata_within : (m : Metadata) → IsWritable m → Within 126 (metadata_data m)
metadata_within m writable =
    let schemas = array_within (items_within 95 schema_data m.schemas (schemas_within m.schemas writable.schemas)) in
    let specs = array_within (each_within 3 spec_data spec_within m.specs) in
    let snapshots = array_within (each_within 2 snapshot_data snapshot_within m.snapshots) in
    let properties = object_within (texts_within 0 m.properties no_members (none_within 0)) in
    wider 126
    (object_within
    (with_member (whole_within 96 m.current_schema)
    (with_member (whole_within 96 (unwrap_or m.current_snapshot (negsuc 0)))
    (with_member (whole_within 96 (pos 0))
    (with_member (whole_within 96 m.default_spec)
    (with_member (whole_within 96 (pos 2))
    (with_member (whole_within 96 m.last_column_id)
    (with_member (whole_within 96 m.last_partition_id)
    (with_member (whole_within 96 m.last_sequence)
    (with_member (whole_within 96 m.last_updated)
    (with_member (text_within 96 m.location)
    (with_member (wider 96 specs (omega arith))
    (with_member (wider 96 properties (omega arith))
    (with_member (wider 96 (refs_within m.current_snapshot) (omega arith))
    (with_member schemas
    (with_member (wider 96 snapshots (omega arith))
    (with_member (wider 96 orders_within (omega arith))
    (with_member (text_within 96 m.uuid) (none_within 96)))))))))))))))))))
    (omega arith)

pub metadata_no_float : (m : Metadata) → IsWritable m → has_float (metadata_data m) ≡ false
metadata_no_float m writable = (metadata_within m writable).no_float

pub metadata_shallow : (m : Metadata) → IsWritable m → depth (metadata_data m) ≤ max_depth
metadata_shallow m writable = let h = (metadata_within m writable).shallow in omega (arith, h)
