-- The metadata of an Iceberg target of a drill, and how long its text is at most.
use Rattle.std.proofs.Common.{◌≡◌, ◌⊎◌, ⊎_elim, inl, inr, ℕ, ◌+◌, ◌*◌, ◌-◌, ◌^◌, ◌≤◌, ◌<◌, ℤ, pos, Bool, true, false, List, [], ◌∷◌, ◌++◌, length, map, Contains, Option, Some, None, Result, Ok, refl, sym, ap, subst, ◌∙◌, codes, arith, if◌then◌else◌}
use Rattle.std.specs.Fmt.{decimal}
use Rattle.std.specs.Int.{int_max}
use Rattle.std.specs.Prelude.{IfSome, flat_map, fold, int_lt, negsuc, unwrap_or}
use Rattle.std.proofs.lemmas.List.{length-append, length-drop}
use Rattle.std.proofs.lemmas.List.Elements.{Contains-append_cases}
use Rattle.std.proofs.lemmas.Option.{none-some, same_Some}
use Rattle.serde_json.specs.Data.{Data, array, object, string, Members, no_members, member, put}
use Rattle.serde_json.specs.View.{items_of}
use Rattle.json_reading.specs.Json.{members_with}
use Rattle.schema_map.specs.Paths.{column_paths}
use Rattle.schema_map.specs.declared.fault.MapError.{MapError}
use Rattle.schema_iceberg.specs.NameMapping.{name_mapping_data, name_mapping_text}
use Rattle.iceberg_field_ids.specs.Ids.{ids_for}
use Rattle.conformance.specs.Drill.{drill_schema, drill_time}
use Rattle.conformance.proofs.Texts.{compact_most, most_bytes, most_of_members}
use Rattle.iceberg_metadata.specs.Location.{front_of}
use Rattle.iceberg_metadata.specs.Paths.{current_schema, held_schema, path_ids}
use Rattle.iceberg_metadata.specs.Schemas.{HeldSchema}
use Rattle.iceberg_metadata.specs.Writing.{current_members, metadata_data, metadata_text, orders_data, put_last, put_operation, put_parts, put_table, put_whole, refs_data, schema_data, snapshot_data, snapshot_members, spec_data, spec_field_data, whole_data}
use Rattle.iceberg_metadata.specs.declared.metadata.Metadata.{Metadata}
use Rattle.iceberg_metadata.specs.declared.metadata.Snapshot.{Snapshot}
use Rattle.iceberg_metadata.specs.declared.metadata.SpecField.{SpecField}
use Rattle.iceberg_version.specs.Schemas.{AreNextSchemas, AreSpecFields, IsSpecField, Schemas, known_ids}
use Rattle.iceberg_version.specs.Writing.{MAX_SNAPSHOTS, TableEnd, last_of, later, list_file, mark_of, metadata_of, next_version, operation_of, properties_of, snapshot_of, spec_of}
use Rattle.iceberg_version.proofs.Shared.{in_drop}
use Rattle.table_history.proofs.RowListLemmas.{Contains-one}
use Rattle.table_history.specs.Row.{Row}
use Rattle.table_history.specs.TypeTree.{ColumnTrees}
use Rattle.table_history.specs.declared.table.Change.{Change}
use Rattle.table_history.specs.declared.table.Commit.{Commit}
use Rattle.target_core.specs.Mark.{mark_data}
use Rattle.target_core.specs.Views.{Origin}
use Rattle.lake_play.specs.Formats.{place}
use Rattle.lake_play.proofs.TextBounds.{IsShortNumber, IsShortOrigin, items_most, mark_most, put_most, whole_most, with_most}
use Rattle.lake_basics.proofs.Texts.{digits_most}

-- ---- what a drill's metadata is

-- the schema that the target holds: the drill's, with its first two field ids
abbrev pub drill_held : HeldSchema
drill_held = (pos 0, drill_schema, pos 1 ∷ pos 2 ∷ [])

-- the one field of its partition spec
abbrev pub drill_field : SpecField
drill_field = record { field_id = pos 1000; source_id = pos 2; name = codes "d"; transform = codes "identity" }

-- The snapshot's texts and numbers are short.
pub record IsShortSnapshot (s : Snapshot) : Type 0 where
  pub list : length s.list ≤ 100
  pub operation : IfSome s.operation (λ text. length text ≤ 20)
  pub id : IsShortNumber s.id
  pub parent : IfSome s.parent IsShortNumber
  pub sequence : IsShortNumber s.sequence
  pub timestamp : IsShortNumber s.timestamp
  pub schema_id : IfSome s.schema_id IsShortNumber

-- No schema is held, or the drill's is, as the current one.
abbrev pub HoldsDrill : Metadata → Type 0
HoldsDrill m = ((m.schemas ≡ []) × (m.last_column_id ≡ pos 0)) ⊎ ((m.schemas ≡ drill_held ∷ []) × (m.current_schema ≡ pos 0) × (m.last_column_id ≡ pos 2))

-- The metadata is that of a drill's table: its place and its schema are, and it holds few snapshots.
pub record IsDrillMetadata (m : Metadata) : Type 0 where
  pub uuid : length m.uuid ≤ 100
  pub location : m.location ≡ place
  pub updated : (time : ℕ) × (m.last_updated ≡ pos time) × (time ≤ drill_time)
  pub current : IfSome m.current_snapshot IsShortNumber
  pub snapshots : (s : Snapshot) → Contains m.snapshots s → IsShortSnapshot s
  pub few : length m.snapshots ≤ 100
  pub schemas : HoldsDrill m

-- ---- its schemas

ok_ids : (a b : List ℤ) → ◌≡◌ {A = Result (List ℤ) MapError} (Ok a) (Ok b) → a ≡ b
ok_ids a b is = cc

-- the schemas behind a commit after which the table has the drill's schema
pub record HasDrillSchemas (next : Schemas) : Type 0 where
  pub current : next.current ≡ drill_held
  pub held : next.held ≡ drill_held ∷ []
  pub last_id : next.last_id ≡ pos 2

first_ids : ids_for [] (pos 0) (column_paths drill_schema) ≡ Ok (pos 1 ∷ pos 2 ∷ [])
first_ids = refl

schemas_by : (m : Metadata) (next : Schemas) → HoldsDrill m → AreNextSchemas m drill_schema next → HasDrillSchemas next
schemas_by m next (inl (none, last)) (inl keeps) = absurd (none-some next.current (sym (ap (λ (l : List HeldSchema). held_schema l m.current_schema) none) ∙ keeps.current.held))
schemas_by m next (inl (none, last)) (inr (other, adds)) =
    let known : ids_for [] (pos 0) (column_paths drill_schema) ≡ ids_for (known_ids m) m.last_column_id (column_paths drill_schema) = λ i. ids_for (flat_map path_ids (sym none i)) (sym last i) (column_paths drill_schema) in
    let ids : pos 1 ∷ pos 2 ∷ [] ≡ adds.ids = ok_ids (pos 1 ∷ pos 2 ∷ []) adds.ids (sym first_ids ∙ known ∙ adds.are) in
    let current : next.current ≡ drill_held = adds.current ∙ (λ i. (pos (length (none i)), drill_schema, sym ids i)) in
    record {
      current = current;
      held = adds.held ∙ (λ i. none i ++ current i ∷ []);
      last_id = adds.last_id ∙ (λ i. fold int_max (last i) (sym ids i));
    }
schemas_by m next (inr (held, current, last)) (inl keeps) =
    record {
      current = same_Some next.current drill_held (sym keeps.current.held ∙ (λ i. held_schema (held i) (current i)));
      held = keeps.held ∙ held;
      last_id = keeps.last_id ∙ last;
    }
schemas_by m next (inr (held, current, last)) (inr (other, adds)) = absurd (other drill_held (record { held = λ i. held_schema (held i) (current i); columns = refl }))

pub next_schemas : (m : Metadata) (stated : ColumnTrees) (next : Schemas) → HoldsDrill m → stated ≡ drill_schema → AreNextSchemas m stated next → HasDrillSchemas next
next_schemas m stated next holds is are = schemas_by m next holds (subst (λ (schema : ColumnTrees). AreNextSchemas m schema next) is are)

-- ---- its partition spec

pub field_is : (f : SpecField) → IsSpecField (path_ids drill_held) 1000 (codes "d") f → f ≡ drill_field
field_is f is =
    let source : f.source_id ≡ pos 2 = sym (same_Some (pos 2) f.source_id is.source) in
    λ i. record { field_id = is.field_id i; source_id = source i; name = is.name_is i; transform = is.transform i }

pub fields_are : (fields : List SpecField) → AreSpecFields drill_held 1000 (codes "d" ∷ []) fields → fields ≡ drill_field ∷ []
fields_are [] are = absurd are
fields_are (f ∷ []) are = ap (λ (g : SpecField). g ∷ []) (field_is f are.0)
fields_are (f ∷ (g ∷ fields)) are = absurd are.1

-- ---- a new snapshot

later_by : (now : ℕ) (time : ℕ) (b : Bool) → now ≤ drill_time → time ≤ drill_time → (n : ℕ) × ((if b then pos time else pos now) ≡ pos n) × (n ≤ drill_time)
later_by now time true up was = (time, refl, was)
later_by now time false up was = (now, refl, up)

pub later_is : (m : Metadata) (now : ℕ) → now ≤ drill_time → IsDrillMetadata m → (n : ℕ) × (later now m.last_updated ≡ pos n) × (n ≤ drill_time)
later_is m now up is =
    let at = later_by now is.updated.0 (int_lt (pos now) (pos is.updated.0)) up is.updated.2 in
    (at.0, ap (later now) is.updated.1 ∙ at.1, at.2)

place_front : front_of place ≡ codes "/t/"
place_front = refl

list_most : (location : List ℕ) (version : ℕ) → location ≡ place → version < 10 ^ 15 → length (list_file location version) ≤ 100
list_most location version is lt =
    let name = codes "lb-s-" ++ (decimal version ++ codes ".avro") in
    let outer = length-append (front_of location) (codes "metadata/" ++ name) in
    let middle = length-append (codes "metadata/") name in
    let inner = length-append (codes "lb-s-") (decimal version ++ codes ".avro") in
    let last = length-append (decimal version) (codes ".avro") in
    let front = ap (λ (l : List ℕ). length (front_of l)) is ∙ ap (λ (l : List ℕ). length l) place_front in
    let digits = digits_most version lt in
    omega (arith, outer, middle, inner, last, front, digits)

operation_most : (removed : List (List ℕ)) (added : List Row) (schema : Option ColumnTrees) → length (operation_of (record { removed = removed; added = added; schema = schema })) ≤ 20
operation_most [] added schema = omega arith
operation_most (path ∷ paths) [] schema = omega arith
operation_most (path ∷ paths) (row ∷ rows) schema = omega arith

pub short_snapshot : (m : Metadata) (version : ℕ) (change : Change) (schema : ℤ) (now : ℕ) → IsDrillMetadata m → version < 10 ^ 15 → schema ≡ pos 0 → now ≤ drill_time → IsShortSnapshot (snapshot_of m version change schema now)
short_snapshot m version change schema now is lt id up =
    let at = later_is m now up is in
    let time = at.2 in
    record {
      list = list_most m.location version is.location lt;
      operation = operation_most change.removed change.added change.schema;
      id = (version, refl, lt);
      parent = is.current;
      sequence = (version, refl, lt);
      timestamp = (at.0, at.1, omega (arith, time));
      schema_id = (0, id, omega arith);
    }

-- ---- the metadata of a new version

pub last_most : {A : Type 0} (n : ℕ) (xs : List A) → length (last_of n xs) ≤ n
last_most n xs = let left = length-drop (length xs - n) xs in omega (arith, left)

module _ (end : TableEnd) (origin : Origin) (now : ℕ) (commit : Commit) (schemas : Schemas) (fields : List SpecField) (is : IsDrillMetadata end.metadata) (lt : next_version end < 10 ^ 15) (up : now ≤ drill_time) (next : HasDrillSchemas schemas) where
  abbrev made : Metadata
  made = metadata_of end origin now commit schemas fields

  abbrev snapshot : Snapshot
  snapshot = snapshot_of end.metadata (next_version end) commit.change schemas.current.0 now

  id_is : schemas.current.0 ≡ pos 0
  id_is = ap (λ (s : HeldSchema). s.0) next.current

  -- It is that of a drill's table.
  pub made_is : IsDrillMetadata made
  made_is = record {
    uuid = is.uuid;
    location = is.location;
    updated = later_is end.metadata now up is;
    current = (next_version end, refl, lt);
    snapshots = λ s there.
        ⊎_elim
        (λ old. is.snapshots s old)
        (λ new. subst IsShortSnapshot (Contains-one snapshot s new) (short_snapshot end.metadata (next_version end) commit.change schemas.current.0 now is lt id_is up))
        (Contains-append_cases end.metadata.snapshots (snapshot ∷ []) s (in_drop (length (end.metadata.snapshots ++ snapshot ∷ []) - MAX_SNAPSHOTS) (end.metadata.snapshots ++ snapshot ∷ []) s there));
    few = last_most 100 (end.metadata.snapshots ++ snapshot ∷ []);
    schemas = inr (next.held, id_is, next.last_id);
  }

-- ---- its text

put_whole_most : (name : List ℕ) (o : Option ℤ) (ms : Members) → IfSome o IsShortNumber → most_of_members (put_whole name o ms) ≤ most_of_members ms + (19 + 6 * length name)
put_whole_most name None ms short = omega arith
put_whole_most name (Some n) ms short = let one = put_most name (whole_data n) ms in let few = whole_most n short in omega (arith, one, few)

put_operation_most : (o : Option (List ℕ)) (ms : Members) → IfSome o (λ text. length text ≤ 20) → most_of_members (put_operation o ms) ≤ most_of_members ms + 500
put_operation_most None ms short = omega arith
put_operation_most (Some operation) ms short =
    let one = put_most (codes "summary") (object (member (codes "operation") (string operation) no_members)) ms in
    omega (arith, one, short)

snapshot_most : (s : Snapshot) → IsShortSnapshot s → most_bytes (snapshot_data s) ≤ 3000
snapshot_most s is =
    let members = snapshot_members s in
    let sequence = whole_most s.sequence is.sequence in
    let id = whole_most s.id is.id in
    let time = whole_most s.timestamp is.timestamp in
    let list = is.list in
    let parent = put_whole_most (codes "parent-snapshot-id") s.parent members is.parent in
    let with_parent = put_whole (codes "parent-snapshot-id") s.parent members in
    let schema = put_whole_most (codes "schema-id") s.schema_id with_parent is.schema_id in
    let operation = put_operation_most s.operation (put_whole (codes "schema-id") s.schema_id with_parent) is.operation in
    omega (arith, sequence, id, time, list, parent, schema, operation)

pub schema_data_most : most_bytes (schema_data drill_held) ≤ 2000
schema_data_most = let none = digits_most 0 (omega arith) in let one = digits_most 1 (omega arith) in let two = digits_most 2 (omega arith) in omega (arith, none, one, two)

pub field_data_most : most_bytes (spec_field_data drill_field) ≤ 2000
field_data_most = let two = digits_most 2 (omega arith) in let thousand = digits_most 1000 (omega arith) in omega (arith, two, thousand)

refs_most : (o : Option ℤ) → IfSome o IsShortNumber → most_bytes (refs_data o) ≤ 1000
refs_most None short = omega arith
refs_most (Some id) short = let few = whole_most id short in omega (arith, few)

mapping_most : length (name_mapping_text drill_schema (pos 1 ∷ pos 2 ∷ [])) ≤ 2000
mapping_most =
    let text = compact_most (name_mapping_data drill_schema (pos 1 ∷ pos 2 ∷ [])) in
    let one = digits_most 1 (omega arith) in
    let two = digits_most 2 (omega arith) in
    omega (arith, text, one, two)

properties_most : (origin : Origin) (version : ℕ) (position : List ℕ) → version < 10 ^ 15 → length position ≤ 15 → IsShortOrigin origin → most_bytes (object (members_with string (properties_of (mark_of version origin position) drill_held) no_members)) ≤ 60000
properties_most origin version position lt short is =
    let mark = compact_most (mark_data (mark_of version origin position)) in
    let digits = digits_most version lt in
    let few = mark_most origin (decimal version) position (omega (arith, digits)) short is in
    let mapping = mapping_most in
    let all = with_most string (properties_of (mark_of version origin position) drill_held) no_members in
    omega (arith, mark, few, mapping, all)

-- what its numbers are
record HasShortNumbers (m : Metadata) : Type 0 where
  current_schema : IsShortNumber m.current_schema
  current_snapshot : IfSome m.current_snapshot IsShortNumber
  default_spec : IsShortNumber m.default_spec
  last_column_id : IsShortNumber m.last_column_id
  last_partition_id : IsShortNumber m.last_partition_id
  last_sequence : IsShortNumber m.last_sequence
  last_updated : IsShortNumber m.last_updated

-- the current snapshot's number, and -1 where there is none
current_most : (o : Option ℤ) → IfSome o IsShortNumber → most_bytes (whole_data (unwrap_or o (negsuc 0))) ≤ 20
current_most None short = let one = digits_most 1 (omega arith) in omega (arith, one)
current_most (Some id) short = let few = whole_most id short in omega (arith, few)

module _ (m : Metadata) (numbers : HasShortNumbers m) (uuid : length m.uuid ≤ 100) (location : length m.location ≤ 100) (specs properties refs schemas snapshots : Data)
    (specs_most : most_bytes specs ≤ 10000) (properties_few : most_bytes properties ≤ 60000) (refs_few : most_bytes refs ≤ 1000) (schemas_most : most_bytes schemas ≤ 10000) (snapshots_most : most_bytes snapshots ≤ 400000) where
  current_members_most : most_of_members (current_members m) ≤ 1000
  current_members_most =
      let schema = whole_most m.current_schema numbers.current_schema in
      let snapshot = current_most m.current_snapshot numbers.current_snapshot in
      let spec = whole_most m.default_spec numbers.default_spec in
      let none = digits_most 0 (omega arith) in
      let two = digits_most 2 (omega arith) in
      omega (arith, schema, snapshot, spec, none, two)

  last_members_most : most_of_members (put_last m (current_members m)) ≤ 2000
  last_members_most =
      let start = current_members m in
      let column = put (codes "last-column-id") (whole_data m.last_column_id) start in
      let partition = put (codes "last-partition-id") (whole_data m.last_partition_id) column in
      let sequence = put (codes "last-sequence-number") (whole_data m.last_sequence) partition in
      let first = put_most (codes "last-column-id") (whole_data m.last_column_id) start in
      let second = put_most (codes "last-partition-id") (whole_data m.last_partition_id) column in
      let third = put_most (codes "last-sequence-number") (whole_data m.last_sequence) partition in
      let fourth = put_most (codes "last-updated-ms") (whole_data m.last_updated) sequence in
      let a = whole_most m.last_column_id numbers.last_column_id in
      let b = whole_most m.last_partition_id numbers.last_partition_id in
      let c = whole_most m.last_sequence numbers.last_sequence in
      let d = whole_most m.last_updated numbers.last_updated in
      let before = current_members_most in
      omega (arith, first, second, third, fourth, a, b, c, d, before)

  table_members_most : most_of_members (put_table m (put_last m (current_members m))) ≤ 5000
  table_members_most =
      let start = put_last m (current_members m) in
      let placed = put (codes "location") (string m.location) start in
      let sorted = put (codes "sort-orders") orders_data placed in
      let first = put_most (codes "location") (string m.location) start in
      let second = put_most (codes "sort-orders") orders_data placed in
      let third = put_most (codes "table-uuid") (string m.uuid) sorted in
      let none = digits_most 0 (omega arith) in
      let before = last_members_most in
      omega (arith, first, second, third, none, before, uuid, location)

  whole_members_most : most_of_members (put_parts specs properties refs schemas snapshots (put_table m (put_last m (current_members m)))) ≤ 500000
  whole_members_most =
      let start = put_table m (put_last m (current_members m)) in
      let a = put (codes "partition-specs") specs start in
      let b = put (codes "properties") properties a in
      let c = put (codes "refs") refs b in
      let d = put (codes "schemas") schemas c in
      let first = put_most (codes "partition-specs") specs start in
      let second = put_most (codes "properties") properties a in
      let third = put_most (codes "refs") refs b in
      let fourth = put_most (codes "schemas") schemas c in
      let fifth = put_most (codes "snapshots") snapshots d in
      let before = table_members_most in
      omega (arith, first, second, third, fourth, fifth, before, specs_most, properties_few, refs_few, schemas_most, snapshots_most)

module _ (end : TableEnd) (origin : Origin) (now : ℕ) (commit : Commit) (schemas : Schemas) (fields : List SpecField) (is : IsDrillMetadata end.metadata) (lt : next_version end < 10 ^ 15) (up : now ≤ drill_time) (next : HasDrillSchemas schemas)
    (short : IsShortOrigin origin) (position : length commit.position ≤ 15) (fields_is : fields ≡ drill_field ∷ []) where
  abbrev new : Metadata
  new = metadata_of end origin now commit schemas fields

  new_is : IsDrillMetadata new
  new_is = made_is end origin now commit schemas fields is lt up next

  numbers : HasShortNumbers new
  numbers =
      let at = later_is end.metadata now up is in
      let time = at.2 in
      let count : length fields ≡ 1 = ap (λ (l : List SpecField). length l) fields_is in
      record {
        current_schema = (0, ap (λ (s : HeldSchema). s.0) next.current, omega arith);
        current_snapshot = (next_version end, refl, lt);
        default_spec = (0, refl, omega arith);
        last_column_id = (2, next.last_id, omega arith);
        last_partition_id = (999 + length fields, refl, omega (arith, count));
        last_sequence = (next_version end, refl, lt);
        last_updated = (at.0, at.1, omega (arith, time));
      }

  specs_few : most_bytes (array (items_of (map spec_data (spec_of fields ∷ [])))) ≤ 10000
  specs_few =
      let field = field_data_most in
      let none = digits_most 0 (omega arith) in
      subst (λ (l : List SpecField). most_bytes (array (items_of (map spec_data (spec_of l ∷ [])))) ≤ 10000) (sym fields_is) (omega (arith, field, none))

  schemas_few : most_bytes (array (items_of (map schema_data schemas.held))) ≤ 10000
  schemas_few = let one = schema_data_most in subst (λ (l : List HeldSchema). most_bytes (array (items_of (map schema_data l))) ≤ 10000) (sym next.held) (omega (arith, one))

  snapshots_few : most_bytes (array (items_of (map snapshot_data new.snapshots))) ≤ 400000
  snapshots_few =
      let all = items_most snapshot_data 3000 new.snapshots (λ s there. snapshot_most s (new_is.snapshots s there)) in
      let few = new_is.few in
      omega (arith, all, few)

  -- Its text is short.
  pub metadata_short : length (metadata_text new) ≤ 600000
  metadata_short =
      let text = compact_most (metadata_data new) in
      let location : length new.location ≡ 2 = ap (λ (l : List ℕ). length l) is.location in
      let properties = subst (λ (s : HeldSchema). most_bytes (object (members_with string (properties_of (mark_of (next_version end) origin commit.position) s) no_members)) ≤ 60000) (sym next.current)
      (properties_most origin (next_version end) commit.position lt position short) in
      let members = whole_members_most new numbers is.uuid (omega (arith, location)) (array (items_of (map spec_data new.specs))) (object (members_with string new.properties no_members)) (refs_data new.current_snapshot) (array (items_of (map schema_data new.schemas))) (array (items_of (map snapshot_data new.snapshots)))
      specs_few properties (refs_most (Some (pos (next_version end))) (next_version end, refl, lt)) schemas_few snapshots_few in
      omega (arith, text, members)
