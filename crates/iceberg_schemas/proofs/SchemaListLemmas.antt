-- What is kept of the schemas of a list, one after another.
use Rattle.std.proofs.Common.{◌≡◌, ℕ, ◌+◌, ◌<◌, ℤ, Bool, true, false, List, [], ◌∷◌, length, get_or, drop, Result, Ok, Err, codes, refl, sym, ap, subst, ◌∙◌}
use Rattle.std.proofs.lemmas.List.{append_assoc, append-nil}
use Rattle.serde_json.specs.Data.{Data, Items}
use Rattle.serde_json.specs.View.{view, items_view}
use Rattle.serde_json.specs.declared.value.Value.{Value}
use Rattle.json_reading.specs.Json.{items}
use Rattle.json_reading.proofs.Laws.{items-drop}
use Rattle.iceberg_metadata.specs.declared.metadata.Metadata.{Metadata}
use Rattle.iceberg_metadata.specs.Errors.{is_memory}
use Rattle.iceberg_metadata.specs.Members.{format_version, list_in}
use Rattle.iceberg_metadata.specs.Judging.{members, unkept, consistent, version_two, contents}
use Rattle.iceberg_metadata.proofs.ContentLemmas.{done, fails}
use Rattle.lake_basics.specs.Outcome.{◌>>=◌, each, FailsUnlessMemory}
use Rattle.lake_basics.proofs.Steps.{bind_ok, bind_by, ok_is}
use Rattle.iceberg_metadata.specs.declared.error.MetadataError.{MetadataError}
use Rattle.iceberg_schemas.specs.declared.schemas.HeldSchemas.{HeldSchemas}
use Rattle.iceberg_metadata.specs.Schemas.{SchemaReading, ReadColumns, schema_reading, held_as, readable, unread_as, unread, schema_ids}
use Rattle.iceberg_schemas.specs.SchemaLists.{with_reading, with_readings, held_schemas, each_schema, each_beside}

with_more : (h : HeldSchemas) (r : SchemaReading) (rs : List SchemaReading) → with_readings (with_reading h r) rs ≡ with_readings h (r ∷ rs)
with_more h r rs = λ i.
    record { read = append_assoc h.read (held_as r.0 r.1) (readable rs) i; ids = append_assoc h.ids (r.0 ∷ []) (schema_ids rs) i; unread = append_assoc h.unread (unread_as r.0 r.1) (unread rs) i }

pub with_none : (h : HeldSchemas) → with_readings h [] ≡ h
with_none h = λ i. record { read = append-nil h.read i; ids = append-nil h.ids i; unread = append-nil h.unread i }

front : (h : HeldSchemas) (r : SchemaReading) (x : Result (List SchemaReading) MetadataError) → ((x >>= λ others. Ok (r ∷ others)) >>= λ rs. Ok (with_readings h rs)) ≡ (x >>= λ rs. Ok (with_readings (with_reading h r) rs))
front h r (Ok rs) = ap Ok (sym (with_more h r rs))
front h r (Err e) = refl

-- one schema more
pub one_more : (h : HeldSchemas) (d : Data) (ds : List Data) (r : SchemaReading) (whole : Result HeldSchemas MetadataError) → schema_reading d ≡ Ok r → each_beside h (d ∷ ds) ≡ whole → each_beside (with_reading h r) ds ≡ whole
one_more h d ds r whole is before =
    sym (front h r (each schema_reading ds)) ∙ sym (ap (λ (q : Result SchemaReading MetadataError). (q >>= λ first. each schema_reading ds >>= λ others. Ok (first ∷ others)) >>= λ rs. Ok (with_readings h rs)) is) ∙ before

-- a schema that is refused
pub one_refused : (h : HeldSchemas) (d : Data) (ds : List Data) (e : MetadataError) (whole : Result HeldSchemas MetadataError) → schema_reading d ≡ Err e → each_beside h (d ∷ ds) ≡ whole → whole ≡ Err e
one_refused h d ds e whole is before =
    sym before ∙ ap (λ (q : Result SchemaReading MetadataError). (q >>= λ first. each schema_reading ds >>= λ others. Ok (first ∷ others)) >>= λ rs. Ok (with_readings h rs)) is

pub all_kept : (h : HeldSchemas) (whole : Result HeldSchemas MetadataError) → each_beside h [] ≡ whole → whole ≡ Ok h
all_kept h whole before = sym before ∙ ap Ok (with_none h)

-- ---- places

pub next_kept : (vs : List Value) (i : ℕ) (v : Value) (h new : HeldSchemas) (id given : ℤ) (columns : ReadColumns) (whole : Result HeldSchemas MetadataError) → i < length vs → v ≡ get_or vs i v → given ≡ id
    → schema_reading (view v) ≡ Ok (id, columns) → new ≡ with_reading h (given, columns) → each_beside h (items (items_view (drop i vs))) ≡ whole → each_beside new (items (items_view (drop (i + 1) vs))) ≡ whole
next_kept vs i v h new id given columns whole within at same is made before =
    let one = one_more h (view v) (items (items_view (drop (i + 1) vs))) (id, columns) whole is (sym (ap (each_beside h) (items-drop vs i v within at)) ∙ before) in
    ap (λ x. each_beside x (items (items_view (drop (i + 1) vs)))) (made ∙ ap (λ n. with_reading h (n, columns)) same) ∙ one

-- ---- refusals behind the schemas

fails_by : {A B : Type 0} (b : Bool) (e : MetadataError) (r : Result A MetadataError) (s : Result B MetadataError) → (r ≡ Err e → s ≡ Err e) → FailsUnlessMemory b e r → FailsUnlessMemory b e s
fails_by true e r s leads h = tt
fails_by false e r s leads h = leads h

readings_of : (ds : List Data) (h : HeldSchemas) → each_schema ds ≡ Ok h → (rs : List SchemaReading) × (each schema_reading ds ≡ Ok rs) × (held_schemas rs ≡ h)
readings_of ds h is = let p = bind_ok (each schema_reading ds) _ h is in (p.0, p.1, ok_is (held_schemas p.0) h p.2)

contents_refused : (d : Data) (listed : Items) (rs : List SchemaReading) (m : Metadata) (e : MetadataError) → version_two (format_version d) ≡ done → list_in (codes "schemas") d ≡ Ok listed → each schema_reading (items listed) ≡ Ok rs
    → members d (readable rs) ≡ Ok m → unkept d ≡ done → consistent m (schema_ids rs) ≡ fails e → contents d ≡ Err e
unfolding contents
contents_refused d listed rs m e version list each_is is others refused =
    bind_by (version_two (format_version d)) _ tt _ version
    (bind_by (list_in (codes "schemas") d) _ _ _ list
    (bind_by (each schema_reading (items listed)) _ _ _ each_is (bind_by (members d (readable rs)) _ _ _ is (bind_by (unkept d) _ tt _ others (ap (λ (r : Result (Unit {0}) MetadataError). r >>= λ u. Ok (m, unread rs)) refused)))))

pub told_inconsistent : (d : Data) (listed : Items) (h : HeldSchemas) (m : Metadata) (ids : List ℤ) (e : MetadataError) → version_two (format_version d) ≡ done → list_in (codes "schemas") d ≡ Ok listed → each_schema (items listed) ≡ Ok h
    → members d h.read ≡ Ok m → unkept d ≡ done → ids ≡ h.ids → FailsUnlessMemory (is_memory e) e (consistent m ids) → FailsUnlessMemory (is_memory e) e (contents d)
told_inconsistent d listed h m ids e version list each_is is others ids_are =
    let p = readings_of (items listed) h each_is in
    fails_by (is_memory e) e (consistent m ids) (contents d)
    (λ refused. contents_refused d listed p.0 m e version list p.1 (subst (λ (k : HeldSchemas). members d k.read ≡ Ok m) (sym p.2) is) others (ap (λ (k : HeldSchemas). consistent m k.ids) p.2 ∙ ap (consistent m) (sym ids_are) ∙ refused))
