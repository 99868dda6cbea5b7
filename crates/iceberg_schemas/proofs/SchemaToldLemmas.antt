-- What is told of the schemas of a list, and why a list is refused.
use Rattle.std.proofs.Common.{◌≡◌, ◌⊎◌, ℕ, ◌≤◌, ◌++◌, ℤ, Bool, true, false, cond, List, [], ◌∷◌, Option, Some, None, Result, Ok, Err, codes, refl, sym, ap, subst, ◌∙◌, inl, inr, ⊎_elim, arith}
use Rattle.std.specs.Prelude.{IfOk, IfErr}
use Rattle.std.specs.Str.{bytes_eq}
use Rattle.serde_json.specs.Data.{Data, Items, depth, items_depth}
use Rattle.serde_json.specs.Read.{max_depth}
use Rattle.lake_basics.specs.Outcome.{with_fault, each}
use Rattle.lake_basics.proofs.Steps.{bind_ok, bind_err, ok_is, required_some}
use Rattle.json_reading.specs.Json.{text_member, int_member, list_member, items}
use Rattle.table_history.specs.TypeTree.{ColumnTrees}
use Rattle.table_history.specs.declared.limit.LimitKind.{LimitKind}
use Rattle.schema_map.specs.Among.{IsAmong}
use Rattle.schema_map.specs.declared.fault.MapError.{MapError}
use Rattle.schema_map.specs.declared.fault.MapError.TheVariants as map_errors
use Rattle.schema_map.proofs.Failing.{each_failed, not_word}
use Rattle.schema_map.proofs.Places.{named_word, among_depth}
use Rattle.schema_iceberg.specs.Iceberg.{iceberg_schema}
use Rattle.schema_iceberg.specs.IcebergRefusal.{IsBadIcebergSchema, IcebergColumnHasOther}
use Rattle.schema_iceberg.proofs.IcebergRefused.{given_refused}
use Rattle.iceberg_metadata.specs.Errors.{Gives}
use Rattle.iceberg_metadata.specs.declared.error.MetadataError.{MetadataError}
use Rattle.iceberg_metadata.specs.declared.error.MetadataError.TheVariants.{Memory, FormatVersion, Malformed, SchemaType, Transform, Renamed, PartitionType, Limit}
use Rattle.iceberg_metadata.specs.declared.outline.Outline.{Outline}
use Rattle.iceberg_metadata.specs.declared.unread.Unread.{Unread}
use Rattle.iceberg_metadata.specs.Members.{int_in, list_in}
use Rattle.iceberg_metadata.specs.Outlines.{schema_outline}
use Rattle.iceberg_metadata.specs.Schemas.{ReadColumns, SchemaReading, HeldUnread, size_limit, refusal_of, unread_reading, kept_unread, columns_by, columns_reading, schema_reading, unread_as, unread}
use Rattle.iceberg_schemas.specs.declared.schemas.HeldSchemas.{HeldSchemas}
use Rattle.iceberg_schemas.specs.SchemaLists.{held_schemas, each_schema}
use Rattle.iceberg_schemas.specs.SchemaOutlines.{IsIcebergOutline, IsToldOf, IsNoSchemaList}
use Rattle.iceberg_schemas.proofs.FactLemmas.{among_cases}
use Rattle.iceberg_schemas.proofs.PlaceLemmas.{bad_here}
use Rattle.iceberg_schemas.proofs.FoundLemmas.{outline_found}
use Rattle.iceberg_schemas.proofs.BadLemmas.{lacks, outline_bad}
use Rattle.iceberg_schemas.proofs.ToldLemmas.{reading_fault}

-- ---- one schema

-- Where a type is the cause, a column has a place of that type.
abbrev Shows : Data → MetadataError → Type 0
Shows d refusal = refusal ≡ SchemaType → (name : List ℕ) × IcebergColumnHasOther d name

unread_told : (refusal : MetadataError) (d : Data) (id : ℤ) (u : Unread) → Shows d refusal → int_member (codes "schema-id") d ≡ Some id → unread_reading refusal d ≡ Ok u → IsToldOf (d ∷ []) (id, u)
unfolding unread_reading
unread_told refusal d id u shows id_is h =
    let outline = bind_ok (schema_outline d) _ u h in
    let fields = bind_ok (list_in (codes "fields") d) _ u outline.2 in
    let is = outline_found d outline.0 outline.1 in
    subst (λ v. IsToldOf (d ∷ []) (id, v)) (ok_is {E = MetadataError} _ u fields.2)
    (record {
      schema = d;
      among = inl refl;
      id = id_is;
      outline = outline.0;
      is = is;
      paths = refl;
      other = λ e. ap (λ b. cond b SchemaType refusal) e;
      only = only outline.0 is outline.0.has_other refl;
    })
  where
    only : (o : Outline) → IsIcebergOutline d o → (b : Bool) → o.has_other ≡ b → cond b SchemaType refusal ≡ SchemaType → o.has_other ≡ true
    only o is true e same = e
    only o is false e same = let at = shows same in absurd (is.none e at.0 at.1)

kept_told : (refusal : MetadataError) (d : Data) (id : ℤ) (p : ReadColumns) → Shows d refusal → int_member (codes "schema-id") d ≡ Some id → kept_unread refusal d ≡ Ok p → (x : HeldUnread) → IsAmong x (unread_as id p) → IsToldOf (d ∷ []) x
kept_told refusal d id p shows id_is h x among =
    let first = bind_ok (unread_reading refusal d) _ p h in
    let same : Err first.0 ≡ p = ok_is {E = MetadataError} (Err first.0) p first.2 in
    let one : IsAmong x ((id, first.0) ∷ []) = subst (λ q. IsAmong x (unread_as id q)) (sym same) among in
    ⊎_elim (λ is. subst (IsToldOf (d ∷ [])) is (unread_told refusal d id first.0 shows id_is first.1)) (λ none. absurd none) one

columns_told : (d : Data) (id : ℤ) (r : Result (ColumnTrees × List ℤ) MapError) → iceberg_schema d ≡ r → (p : ReadColumns) → int_member (codes "schema-id") d ≡ Some id → columns_by d (with_fault refusal_of r) ≡ Ok p → (x : HeldUnread) → IsAmong x (unread_as id p) → IsToldOf (d ∷ []) x
columns_told d id (Ok s) is p id_is h x among = absurd (subst (λ q. IsAmong x (unread_as id q)) (sym (ok_is {E = MetadataError} (Ok s) p h)) among)
columns_told d id (Err map_errors.Memory) is p id_is h x among = absurd cc
columns_told d id (Err map_errors.BadSchema) is p id_is h x among = absurd cc
columns_told d id (Err (map_errors.SchemaType column)) is p id_is h x among = kept_told SchemaType d id p (λ e. (column, given_refused d (Err (map_errors.SchemaType column)) is)) id_is h x among
columns_told d id (Err (map_errors.AvroName column)) is p id_is h x among = absurd (given_refused d (Err (map_errors.AvroName column)) is)
columns_told d id (Err (map_errors.Limit which)) is p id_is h x among = kept_told (Limit (size_limit which)) d id p (λ e. absurd (no_type (size_limit which) e)) id_is h x among
  where
    no_type : (w : LimitKind) → Limit w ≡ SchemaType → ⊥
    no_type w e = absurd cc

schema_told : (d : Data) (r : SchemaReading) → schema_reading d ≡ Ok r → (x : HeldUnread) → IsAmong x (unread_as r.0 r.1) → IsToldOf (d ∷ []) x
unfolding schema_reading
schema_told d r h x among =
    let id = bind_ok (int_in (codes "schema-id") d) _ r h in
    let columns = bind_ok (columns_reading d) _ r id.2 in
    columns_told d id.0 (iceberg_schema d) refl columns.0 (required_some Malformed (int_member (codes "schema-id") d) id.0 id.1) columns.1 x (subst (λ (q : SchemaReading). IsAmong x (unread_as q.0 q.1)) (sym (ok_is {E = MetadataError} (id.0, columns.0) r columns.2)) among)

-- ---- a list of schemas

told_among : (ds es : List Data) (x : HeldUnread) → ((d : Data) → IsAmong d ds → IsAmong d es) → IsToldOf ds x → IsToldOf es x
told_among ds es x within told =
    record {
      schema = told.schema;
      among = within told.schema told.among;
      id = told.id;
      outline = told.outline;
      is = told.is;
      paths = told.paths;
      other = told.other;
      only = told.only;
    }

readings_told : (ds : List Data) (rs : List SchemaReading) → each schema_reading ds ≡ Ok rs → (x : HeldUnread) → IsAmong x (unread rs) → IsToldOf ds x
readings_told [] rs h x among = absurd (subst (λ l. IsAmong x (unread l)) (sym (ok_is {E = MetadataError} [] rs h)) among)
readings_told (d ∷ ds) rs h x among =
    let first = bind_ok (schema_reading d) _ rs h in
    let others = bind_ok (each schema_reading ds) _ rs first.2 in
    let there : IsAmong x (unread_as first.0.0 first.0.1 ++ unread others.0) = subst (λ l. IsAmong x (unread l)) (sym (ok_is {E = MetadataError} (first.0 ∷ others.0) rs others.2)) among in
    ⊎_elim
    (λ here. told_among (d ∷ []) (d ∷ ds) x (λ e is. ⊎_elim (λ same. inl same) (λ none. absurd none) is) (schema_told d first.0 first.1 x here))
    (λ later. told_among ds (d ∷ ds) x (λ e is. inr is) (readings_told ds others.0 others.1 x later))
    (among_cases x (unread_as first.0.0 first.0.1) (unread others.0) there)

list_told : (ds : List Data) (held : HeldSchemas) → each_schema ds ≡ Ok held → (x : HeldUnread) → IsAmong x held.unread → IsToldOf ds x
list_told ds held h x among =
    let readings = bind_ok (each schema_reading ds) _ held h in
    readings_told ds readings.0 readings.1 x (subst (λ (k : HeldSchemas). IsAmong x k.unread) (sym (ok_is {E = MetadataError} (held_schemas readings.0) held readings.2)) among)

-- ---- refusals

no_fields : (d : Data) → list_member (codes "fields") d ≡ None → IsBadIcebergSchema d
no_fields d none = by (text_member (codes "type") d) refl
  where
    by : (o : Option (List ℕ)) → text_member (codes "type") d ≡ o → IsBadIcebergSchema d
    by None is = inl (λ named. let wrong : None ≡ Some (codes "struct") = sym is ∙ named in absurd cc)
    by (Some w) is = at (bytes_eq w (codes "struct")) refl
      where
        at : (b : Bool) → bytes_eq w (codes "struct") ≡ b → IsBadIcebergSchema d
        at true same = inr (bad_here d (inr (inl (named_word d w (codes "struct") is same, inl none))))
        at false other = inl (λ named. not_word w (codes "struct") other (sym is ∙ named))

kept_bad : (refusal : MetadataError) (d : Data) → depth d ≤ max_depth → kept_unread refusal d ≡ Err Malformed → IsBadIcebergSchema d
unfolding unread_reading
kept_bad refusal d small h =
    ⊎_elim
    (λ fails. ⊎_elim
    (λ outline. outline_bad d Malformed small outline)
    (λ more. ⊎_elim (λ none. no_fields d none) (λ fields. absurd (let wrong = fields.2 in cc)) (lacks (list_member (codes "fields") d) _ Malformed more.2))
    (bind_err (schema_outline d) _ Malformed fails))
    (λ kept. absurd (let wrong = kept.2 in cc))
    (bind_err (unread_reading refusal d) _ Malformed h)

columns_bad : (d : Data) (r : Result (ColumnTrees × List ℤ) MapError) → iceberg_schema d ≡ r → depth d ≤ max_depth → columns_by d (with_fault refusal_of r) ≡ Err Malformed → IsBadIcebergSchema d
columns_bad d (Ok s) is small h = absurd cc
columns_bad d (Err map_errors.Memory) is small h = absurd cc
columns_bad d (Err map_errors.BadSchema) is small h = given_refused d (Err map_errors.BadSchema) is
columns_bad d (Err (map_errors.SchemaType column)) is small h = kept_bad SchemaType d small h
columns_bad d (Err (map_errors.AvroName column)) is small h = kept_bad SchemaType d small h
columns_bad d (Err (map_errors.Limit which)) is small h = kept_bad (Limit (size_limit which)) d small h

schema_bad : (d : Data) → depth d ≤ max_depth → schema_reading d ≡ Err Malformed → (int_member (codes "schema-id") d ≡ None) ⊎ IsBadIcebergSchema d
unfolding schema_reading
schema_bad d small h =
    ⊎_elim
    (λ none. inl none)
    (λ id. ⊎_elim (λ columns. inr (columns_bad d (iceberg_schema d) refl small columns)) (λ read. absurd (let wrong = read.2 in cc)) (bind_err (columns_reading d) _ Malformed id.2))
    (lacks (int_member (codes "schema-id") d) _ Malformed h)

list_bad : (ds : List Data) (e : MetadataError) → each_schema ds ≡ Err e → each schema_reading ds ≡ Err e
list_bad ds e h = ⊎_elim (λ fails. fails) (λ read. absurd (let wrong = read.2 in cc)) (bind_err (each schema_reading ds) _ e h)

malformed_list : (ds : Items) → items_depth ds ≤ max_depth → each_schema (items ds) ≡ Err Malformed → IsNoSchemaList (items ds) Malformed
malformed_list ds small h =
    let at = each_failed schema_reading (items ds) Malformed (list_bad (items ds) Malformed h) in
    (at.at, at.among, schema_bad at.at (let below = among_depth ds at.at at.among in omega (arith, below, small)) at.fails)

no_fault : (ds : List Data) (e : MetadataError) → (e ≡ Malformed → ⊥) → (e ≡ Memory → ⊥) → each_schema ds ≡ Err e → ⊥
no_fault ds e other more h =
    let at = each_failed schema_reading ds e (list_bad ds e h) in
    ⊎_elim other more (reading_fault at.at e at.fails)

-- ---- by what a reading gives

pub given_told : (ds : List Data) (r : Result HeldSchemas MetadataError) → Gives r (each_schema ds) → IfOk r (λ held. (x : HeldUnread) → IsAmong x held.unread → IsToldOf ds x)
given_told ds (Ok held) given = list_told ds held given
given_told ds (Err e) given = tt

pub given_refusal : (ds : Items) (r : Result HeldSchemas MetadataError) → Gives r (each_schema (items ds)) → items_depth ds ≤ max_depth → IfErr r (IsNoSchemaList (items ds))
given_refusal ds (Ok held) given small = tt
given_refusal ds (Err Memory) given small = tt
given_refusal ds (Err Malformed) given small = malformed_list ds small given
given_refusal ds (Err FormatVersion) given small = absurd (no_fault (items ds) FormatVersion (λ e. absurd cc) (λ e. absurd cc) given)
given_refusal ds (Err SchemaType) given small = absurd (no_fault (items ds) SchemaType (λ e. absurd cc) (λ e. absurd cc) given)
given_refusal ds (Err Transform) given small = absurd (no_fault (items ds) Transform (λ e. absurd cc) (λ e. absurd cc) given)
given_refusal ds (Err Renamed) given small = absurd (no_fault (items ds) Renamed (λ e. absurd cc) (λ e. absurd cc) given)
given_refusal ds (Err PartitionType) given small = absurd (no_fault (items ds) PartitionType (λ e. absurd cc) (λ e. absurd cc) given)
given_refusal ds (Err (Limit which)) given small = absurd (no_fault (items ds) (Limit which) (λ e. absurd cc) (λ e. absurd cc) given)
