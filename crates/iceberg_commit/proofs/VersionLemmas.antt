-- The metadata of a new version, as it is made step by step.
use Rattle.std.proofs.Common.{◌≡◌, ◌⊎◌, ℕ, ◌<◌, List, [], ◌∷◌, get_or, length, Contains, IsSome, Some, slice_get, sym, ap, subst, ◌∙◌}
use Rattle.std.proofs.lemmas.Option.{slice_get_within}
use Rattle.schema_map.specs.IcebergFits.{FitsIceberg}
use Rattle.schema_map.specs.Paths.{known_id}
use Rattle.serde_json.specs.Written.{compact_text}
use Rattle.table_history.specs.SchemaSize.{IsWithinLimits}
use Rattle.table_history.specs.Sound.{IsSound}
use Rattle.table_history.specs.TypeTree.{ColumnTrees}
use Rattle.table_history.specs.declared.table.Commit.{Commit}
use Rattle.table_history.specs.declared.table.Table.{Table}
use Rattle.iceberg_metadata.specs.Paths.{path_ids}
use Rattle.iceberg_metadata.specs.Schemas.{HeldSchema}
use Rattle.iceberg_metadata.specs.declared.metadata.Metadata.{Metadata}
use Rattle.iceberg_metadata.specs.declared.metadata.Snapshot.{Snapshot}
use Rattle.iceberg_metadata.specs.declared.metadata.SpecField.{SpecField}
use Rattle.target_core.specs.Mark.{IsMarkText, mark_data}
use Rattle.target_core.specs.declared.mark.Mark.{Mark}
use Rattle.iceberg_commit.specs.NewVersion.{HasColumns, IsGoneOn, schema_behind}
use Rattle.iceberg_version.specs.Schemas.{AreNextSchemas, AreSpecFields, FIRST_PARTITION_ID, Schemas, with_schemas}
use Rattle.iceberg_version.specs.Writing.{snapshot_of, with_properties, with_snapshot, with_spec}
use Rattle.iceberg_commit.proofs.TextLemmas.{kept_at}

-- The metadata holds the next schemas, and the current one at this place.
abbrev pub HoldsSchemas : Metadata → ColumnTrees → Metadata → ℕ → Type 0
HoldsSchemas m said new place = (next : Schemas) × AreNextSchemas m said next × (new ≡ with_schemas m next) × (slice_get new.schemas place ≡ Some next.current)

-- what is read at the place is the current schema
pub current_read : (m new : Metadata) (said : ColumnTrees) (place : ℕ) (schemas : List HeldSchema) (schema : HeldSchema) → (held : HoldsSchemas m said new place) → schemas ≡ new.schemas → schema ≡ get_or schemas place schema → schema ≡ held.0.current
current_read m new said place schemas schema held same at = kept_at schemas place schema held.0.current at (ap (λ (l : List HeldSchema). slice_get l place) same ∙ held.3)

pub columns_there : (m new : Metadata) (table : Table) (commit : Commit) (said : ColumnTrees) (place : ℕ) (schema : HeldSchema) (names : List (List ℕ)) → said ≡ schema_behind table commit.change → names ≡ table.partition → (held : HoldsSchemas m said new place) → schema ≡ held.0.current → HasColumns m (schema_behind table commit.change) table.partition → (name : List ℕ) → Contains names name → IsSome (known_id (path_ids schema) (name ∷ []))
columns_there m new table commit said place schema names is same held current has name there =
    let are : AreNextSchemas m (schema_behind table commit.change) held.0 = subst (λ (cs : ColumnTrees). AreNextSchemas m cs held.0) is held.1 in
    subst (λ (s : HeldSchema). IsSome (known_id (path_ids s) (name ∷ []))) (sym current) (has held.0 name are (subst (λ (ns : List (List ℕ)). Contains ns name) same there))

pub place_within : (m m1 m2 m3 : Metadata) (said : ColumnTrees) (place : ℕ) (snapshot : Snapshot) (fields : List SpecField) → HoldsSchemas m said m1 place → m2 ≡ with_snapshot m1 snapshot → m3 ≡ with_spec m2 fields → place < length m3.schemas
place_within m m1 m2 m3 said place snapshot fields held two three =
    let same : m3.schemas ≡ m1.schemas = ap (λ (x : Metadata). x.schemas) three ∙ ap (λ (x : Metadata). x.schemas) two in
    subst (λ (l : List HeldSchema). place < length l) (sym same) (slice_get_within m1.schemas place held.0.current held.3)

pub gone_on : (m m1 m2 m3 m4 : Metadata) (version now place : ℕ) (table : Table) (commit : Commit) (mark : Mark) (said : ColumnTrees) (names : List (List ℕ)) (schema : HeldSchema) (fields : List SpecField) (snapshot : Snapshot)
    → said ≡ schema_behind table commit.change → names ≡ table.partition → (held : HoldsSchemas m said m1 place) → schema ≡ held.0.current
    → (IsSound said → IsWithinLimits said → (s : HeldSchema) → slice_get m1.schemas place ≡ Some s → Contains m.schemas s ⊎ FitsIceberg s.1 s.2)
    → AreSpecFields schema FIRST_PARTITION_ID names fields → length fields ≡ length names
    → snapshot ≡ snapshot_of m1 version commit.change schema.0 now → m2 ≡ with_snapshot m1 snapshot → m3 ≡ with_spec m2 fields
    → ((s : HeldSchema) → slice_get m3.schemas place ≡ Some s → m4 ≡ with_properties m3 mark s)
    → IsMarkText (compact_text (mark_data mark)) mark
    → IsGoneOn m version table commit mark now m4 place
gone_on m m1 m2 m3 m4 version now place table commit mark said names schema fields snapshot is same held current fit spec count snap two three four back =
    let next : Schemas = held.0 in
    let stated : ColumnTrees = schema_behind table commit.change in
    let at : slice_get m3.schemas place ≡ Some next.current = ap (λ (x : Metadata). slice_get x.schemas place) three ∙ ap (λ (x : Metadata). slice_get x.schemas place) two ∙ held.3 in
    let made : m4 ≡ with_properties m3 mark next.current = four next.current at in
    let snapped : snapshot ≡ snapshot_of m version commit.change next.current.0 now = snap ∙ ap (λ (x : Metadata). snapshot_of x version commit.change schema.0 now) held.2 ∙ ap (λ (s : HeldSchema). snapshot_of m version commit.change s.0 now) current in
    let second : m2 ≡ with_snapshot (with_schemas m next) (snapshot_of m version commit.change next.current.0 now) = two ∙ ap (λ (x : Metadata). with_snapshot x snapshot) held.2 ∙ ap (with_snapshot (with_schemas m next)) snapped in
    record {
      schemas = next;
      fields = fields;
      schemas_are = subst (λ (cs : ColumnTrees). AreNextSchemas m cs next) is held.1;
      fields_are = subst (λ (ns : List (List ℕ)). AreSpecFields next.current FIRST_PARTITION_ID ns fields) same (subst (λ (s : HeldSchema). AreSpecFields s FIRST_PARTITION_ID names fields) current spec);
      count = count ∙ ap length same;
      is = made ∙ ap (λ (x : Metadata). with_properties x mark next.current) (three ∙ ap (λ (x : Metadata). with_spec x fields) second);
      at = ap (λ (x : Metadata). slice_get x.schemas place) made ∙ at;
      fits = λ sound limits. fit (subst IsSound (sym is) sound) (subst IsWithinLimits (sym is) limits) next.current held.3;
      reads_back = back;
    }
