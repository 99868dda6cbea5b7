-- What the JSON of table metadata says, as a function and as facts.
use Rattle.std.proofs.Common.{◌≡◌, ℤ, pos, List, Bool, true, false, cond, Option, Some, None, Result, Ok, Err, codes, refl, sym, ap, subst}
use Rattle.std.specs.Ordering.{int_eq}
use Rattle.std.proofs.lemmas.Bool.Decides.{Decides-int_eq}
use Rattle.serde_json.specs.Data.{Data, Items}
use Rattle.lake_basics.specs.Outcome.{each}
use Rattle.lake_basics.proofs.Steps.{bind_ok, bind_by, ok_is}
use Rattle.json_reading.specs.Json.{items, present}
use Rattle.iceberg_metadata.specs.declared.error.MetadataError.{MetadataError}
use Rattle.iceberg_metadata.specs.declared.error.MetadataError.TheVariants.{FormatVersion, Malformed}
use Rattle.iceberg_metadata.specs.declared.metadata.Metadata.{Metadata}
use Rattle.iceberg_metadata.specs.Members.{format_version, text_in, whole_in, int_in, list_in, spec, snapshots, properties, current_snapshot, refs_fit}
use Rattle.iceberg_metadata.specs.Schemas.{HeldSchema, HeldUnread, SchemaReading, schema_reading, readable, unread, schema_ids}
use Rattle.iceberg_metadata.specs.Judging.{is_consistent, members, unkept, consistent, version_two, contents}
use Rattle.iceberg_metadata.specs.Grammar.{Says}

abbrev pub done : Result (Unit {0}) MetadataError
done = Ok tt

abbrev pub fails : MetadataError → Result (Unit {0}) MetadataError
fails e = Err e

-- ---- the members that are kept

record AreMembers (d : Data) (ss : List HeldSchema) (m : Metadata) : Type 0 where
  uuid : text_in (codes "table-uuid") d ≡ Ok m.uuid
  location : text_in (codes "location") d ≡ Ok m.location
  last_sequence : whole_in (codes "last-sequence-number") d ≡ Ok m.last_sequence
  last_updated : whole_in (codes "last-updated-ms") d ≡ Ok m.last_updated
  last_column_id : int_in (codes "last-column-id") d ≡ Ok m.last_column_id
  held : m.schemas ≡ ss
  current_schema : int_in (codes "current-schema-id") d ≡ Ok m.current_schema
  spec_list : Items
  has_specs : list_in (codes "partition-specs") d ≡ Ok spec_list
  specs : each spec (items spec_list) ≡ Ok m.specs
  default_spec : int_in (codes "default-spec-id") d ≡ Ok m.default_spec
  last_partition_id : int_in (codes "last-partition-id") d ≡ Ok m.last_partition_id
  properties : properties (present (codes "properties") d) ≡ Ok m.properties
  current_snapshot : current_snapshot (present (codes "current-snapshot-id") d) ≡ Ok m.current_snapshot
  snapshots : snapshots (present (codes "snapshots") d) ≡ Ok m.snapshots

members_found : (d : Data) (ss : List HeldSchema) (m : Metadata) → members d ss ≡ Ok m → AreMembers d ss m
unfolding members
members_found d ss m is =
    let a = bind_ok (text_in (codes "table-uuid") d) _ m is in
    let b = bind_ok (text_in (codes "location") d) _ m a.2 in
    let c = bind_ok (whole_in (codes "last-sequence-number") d) _ m b.2 in
    let e = bind_ok (whole_in (codes "last-updated-ms") d) _ m c.2 in
    let f = bind_ok (int_in (codes "last-column-id") d) _ m e.2 in
    let g = bind_ok (int_in (codes "current-schema-id") d) _ m f.2 in
    let h = bind_ok (list_in (codes "partition-specs") d) _ m g.2 in
    let j = bind_ok (each spec (items h.0)) _ m h.2 in
    let k = bind_ok (int_in (codes "default-spec-id") d) _ m j.2 in
    let l = bind_ok (int_in (codes "last-partition-id") d) _ m k.2 in
    let n = bind_ok (properties (present (codes "properties") d)) _ m l.2 in
    let o = bind_ok (current_snapshot (present (codes "current-snapshot-id") d)) _ m n.2 in
    let p = bind_ok (snapshots (present (codes "snapshots") d)) _ m o.2 in
    subst (AreMembers d ss) (ok_is _ m p.2)
    (record {
      uuid = a.1;
      location = b.1;
      last_sequence = c.1;
      last_updated = e.1;
      last_column_id = f.1;
      held = refl;
      current_schema = g.1;
      spec_list = h.0;
      has_specs = h.1;
      specs = j.1;
      default_spec = k.1;
      last_partition_id = l.1;
      properties = n.1;
      current_snapshot = o.1;
      snapshots = p.1;
    })

members_are : (d : Data) (ss : List HeldSchema) (m : Metadata) → AreMembers d ss m → members d ss ≡ Ok m
unfolding members
members_are d ss m a =
    bind_by (text_in (codes "table-uuid") d) _ _ _ a.uuid
    (bind_by (text_in (codes "location") d) _ _ _ a.location
    (bind_by (whole_in (codes "last-sequence-number") d) _ _ _ a.last_sequence
    (bind_by (whole_in (codes "last-updated-ms") d) _ _ _ a.last_updated
    (bind_by (int_in (codes "last-column-id") d) _ _ _ a.last_column_id
    (bind_by (int_in (codes "current-schema-id") d) _ _ _ a.current_schema
    (bind_by (list_in (codes "partition-specs") d) _ _ _ a.has_specs
    (bind_by (each spec (items a.spec_list)) _ _ _ a.specs
    (bind_by (int_in (codes "default-spec-id") d) _ _ _ a.default_spec
    (bind_by (int_in (codes "last-partition-id") d) _ _ _ a.last_partition_id
    (bind_by (properties (present (codes "properties") d)) _ _ _ a.properties
    (bind_by (current_snapshot (present (codes "current-snapshot-id") d)) _ _ _ a.current_snapshot
    (bind_by (snapshots (present (codes "snapshots") d)) _ _ _ a.snapshots (ap (λ xs. Ok (record m { schemas = xs })) (sym a.held))))))))))))))

-- ---- the others

two_is : (o : Option ℤ) → version_two o ≡ done → o ≡ Some (pos 2)
two_is None is = absurd (cc)
two_is (Some v) is = by (int_eq v (pos 2)) refl is
  where
    by : (b : Bool) → int_eq v (pos 2) ≡ b → cond b done (fails FormatVersion) ≡ done → Some v ≡ Some (pos 2)
    by true same e = ap Some ((Decides-int_eq v (pos 2)).0 same)
    by false other e = absurd (cc)

taken : (b : Bool) → cond b done (fails Malformed) ≡ done → b ≡ true
taken true is = refl
taken false is = absurd (cc)

pub record IsFound (d : Data) (m : Metadata) (others : List HeldUnread) : Type 0 where
  pub readings : List SchemaReading
  pub says : Says d readings m
  pub consistent : is_consistent m (schema_ids readings) ≡ true
  pub others_are : unread readings ≡ others

pub contents_found : (d : Data) (m : Metadata) (others : List HeldUnread) → contents d ≡ Ok (m, others) → IsFound d m others
unfolding contents unkept
contents_found d m others is =
    let a = bind_ok (version_two (format_version d)) _ (m, others) is in
    let b = bind_ok (list_in (codes "schemas") d) _ (m, others) a.2 in
    let c = bind_ok (each schema_reading (items b.0)) _ (m, others) b.2 in
    let e = bind_ok (members d (readable c.0)) _ (m, others) c.2 in
    let f = bind_ok (unkept d) _ (m, others) e.2 in
    let g = bind_ok (consistent e.0 (schema_ids c.0)) _ (m, others) f.2 in
    let are = members_found d (readable c.0) e.0 e.1 in
    let orders = bind_ok (list_in (codes "sort-orders") d) _ f.0 f.1 in
    let order = bind_ok (int_in (codes "default-sort-order-id") d) _ f.0 orders.2 in
    let same : (e.0, unread c.0) ≡ (m, others) = ok_is (e.0, unread c.0) (m, others) g.2 in
    subst (λ (p : Metadata × List HeldUnread). IsFound d p.0 p.1) same
    (record {
      readings = c.0;
      says = record {
        version = two_is (format_version d) a.1;
        uuid = are.uuid;
        location = are.location;
        last_sequence = are.last_sequence;
        last_updated = are.last_updated;
        last_column_id = are.last_column_id;
        schema_list = b.0;
        has_schemas = b.1;
        schemas = c.1;
        held = are.held;
        current_schema = are.current_schema;
        spec_list = are.spec_list;
        has_specs = are.has_specs;
        specs = are.specs;
        default_spec = are.default_spec;
        last_partition_id = are.last_partition_id;
        properties = are.properties;
        current_snapshot = are.current_snapshot;
        snapshots = are.snapshots;
        order_list = orders.0;
        sort_orders = orders.1;
        order = order.0;
        default_sort_order = order.1;
        refs = taken (refs_fit (present (codes "refs") d)) order.2;
      };
      consistent = taken (is_consistent e.0 (schema_ids c.0)) g.1;
      others_are = refl;
    })

pub contents_are : (d : Data) (readings : List SchemaReading) (m : Metadata) → Says d readings m → is_consistent m (schema_ids readings) ≡ true → contents d ≡ Ok (m, unread readings)
unfolding contents unkept
contents_are d readings m s good =
    bind_by (version_two (format_version d)) _ tt _ (ap version_two s.version)
    (bind_by (list_in (codes "schemas") d) _ _ _ s.has_schemas
    (bind_by (each schema_reading (items s.schema_list)) _ _ _ s.schemas
    (bind_by (members d (readable readings)) _ _ _
    (members_are d (readable readings) m (record {
      uuid = s.uuid;
      location = s.location;
      last_sequence = s.last_sequence;
      last_updated = s.last_updated;
      last_column_id = s.last_column_id;
      held = s.held;
      current_schema = s.current_schema;
      spec_list = s.spec_list;
      has_specs = s.has_specs;
      specs = s.specs;
      default_spec = s.default_spec;
      last_partition_id = s.last_partition_id;
      properties = s.properties;
      current_snapshot = s.current_snapshot;
      snapshots = s.snapshots;
    }))
    (bind_by (unkept d) _ tt _
    (bind_by (list_in (codes "sort-orders") d) _ _ _ s.sort_orders (bind_by (int_in (codes "default-sort-order-id") d) _ _ _ s.default_sort_order (ap (λ b. cond b done (fails Malformed)) s.refs)))
    (bind_by (consistent m (schema_ids readings)) _ tt _ (ap (λ b. cond b done (fails Malformed)) good) refl)))))
