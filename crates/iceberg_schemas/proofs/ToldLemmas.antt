-- Which refusals of schemas are told, and when.
use Rattle.std.proofs.Common.{◌≡◌, ◌⊎◌, ◌++◌, ℤ, List, [], ◌∷◌, Bool, true, false, cond, Result, Ok, Err, Contains, codes, refl, subst, inl, inr, ⊎_elim}
use Rattle.std.proofs.lemmas.List.{map-append}
use Rattle.std.proofs.lemmas.List.Elements.{Contains-append_cases}
use Rattle.serde_json.specs.Data.{Data}
use Rattle.lake_basics.specs.Outcome.{with_fault, each}
use Rattle.lake_basics.proofs.Steps.{bind_ok, ok_is, Refuses, refuses_ok, refuses_err, refuses_bind, refuses_required}
use Rattle.table_history.proofs.RowListLemmas.{Contains-none, Contains-one}
use Rattle.table_history.specs.TypeTree.{ColumnTrees}
use Rattle.table_history.specs.declared.limit.LimitKind.{LimitKind}
use Rattle.table_history.specs.declared.limit.LimitKind.TheVariants as limit
use Rattle.schema_iceberg.specs.Iceberg.{iceberg_schema}
use Rattle.schema_map.specs.declared.fault.MapError.{MapError}
use Rattle.schema_map.specs.declared.fault.MapError.TheVariants as map_errors
use Rattle.iceberg_metadata.specs.declared.error.MetadataError.{MetadataError}
use Rattle.iceberg_metadata.specs.declared.error.MetadataError.TheVariants.{Memory, Malformed, SchemaType, Limit}
use Rattle.iceberg_metadata.specs.Members.{int_in, list_in}
use Rattle.iceberg_metadata.specs.Outlines.{schema_outline}
use Rattle.iceberg_metadata.specs.declared.unread.Unread.{Unread}
use Rattle.iceberg_metadata.specs.Schemas.{ReadColumns, SchemaReading, HeldUnread, size_limit, refusal_of, unread_reading, kept_unread, columns_by, columns_reading, schema_reading, unread_as, unread, refusals}
use Rattle.iceberg_schemas.proofs.OutlineLemmas.{outline_fault}

-- ---- what is kept

-- a refusal of a schema that is in the grammar
abbrev pub IsKept : MetadataError → Type 0
IsKept SchemaType = Unit {0}
IsKept (Limit limit.Columns) = Unit {0}
IsKept (Limit limit.Depth) = Unit {0}
IsKept _ = ⊥

abbrev AreKept : List MetadataError → Type 0
AreKept es = (e : MetadataError) → Contains es e → IsKept e

none_kept : AreKept []
none_kept e there = absurd (Contains-none e there)

one_kept : (x : MetadataError) → IsKept x → AreKept (x ∷ [])
one_kept x k e there = subst IsKept (Contains-one x e there) k

size_kept : (which : LimitKind) → IsKept (Limit (size_limit which))
size_kept limit.Columns = tt
size_kept limit.Depth = tt
size_kept limit.File = tt
size_kept limit.Names = tt
size_kept limit.LiveFiles = tt
size_kept limit.Commits = tt
size_kept limit.Publish = tt
size_kept limit.Actions = tt
size_kept limit.Values = tt
size_kept limit.Path = tt
size_kept limit.PartitionColumns = tt
size_kept limit.Versions = tt

first_kept : (b : Bool) (refusal : MetadataError) → IsKept refusal → IsKept (cond b SchemaType refusal)
first_kept true refusal k = tt
first_kept false refusal k = k

unread_kept : (refusal : MetadataError) (d : Data) (u : Unread) → IsKept refusal → unread_reading refusal d ≡ Ok u → IsKept u.refusal
unfolding unread_reading
unread_kept refusal d u k is =
    let first = bind_ok (schema_outline d) _ u is in
    let second = bind_ok (list_in (codes "fields") d) _ u first.2 in
    subst (λ (x : Unread). IsKept x.refusal) (ok_is _ u second.2) (first_kept first.0.has_other refusal k)

abbrev AreKeptIn : ReadColumns → Type 0
AreKeptIn p = (id : ℤ) → AreKept (refusals (unread_as id p))

kept_as : (x p : ReadColumns) → AreKeptIn x → x ≡ p → AreKeptIn p
kept_as x p all same = subst (λ (q : ReadColumns). AreKeptIn q) same all

columns_kept_by : (refusal : MetadataError) (d : Data) (p : ReadColumns) → IsKept refusal → kept_unread refusal d ≡ Ok p → AreKeptIn p
columns_kept_by refusal d p k is =
    let first = bind_ok (unread_reading refusal d) _ p is in
    kept_as (Err first.0) p (λ id. one_kept first.0.refusal (unread_kept refusal d first.0 k first.1)) (ok_is _ p first.2)

columns_kept : (d : Data) (r : Result (ColumnTrees × List ℤ) MapError) (p : ReadColumns) → columns_by d (with_fault refusal_of r) ≡ Ok p → AreKeptIn p
columns_kept d (Ok s) p is = kept_as (Ok s) p (λ id. none_kept) (ok_is (Ok s) p is)
columns_kept d (Err map_errors.Memory) p is = absurd (cc)
columns_kept d (Err map_errors.BadSchema) p is = absurd (cc)
columns_kept d (Err (map_errors.SchemaType column)) p is = columns_kept_by SchemaType d p tt is
columns_kept d (Err (map_errors.AvroName column)) p is = columns_kept_by SchemaType d p tt is
columns_kept d (Err (map_errors.Limit which)) p is = columns_kept_by (Limit (size_limit which)) d p (size_kept which) is

reading_kept : (d : Data) (r : SchemaReading) → schema_reading d ≡ Ok r → AreKept (refusals (unread_as r.0 r.1))
unfolding schema_reading
reading_kept d r is =
    let first = bind_ok (int_in (codes "schema-id") d) _ r is in
    let second = bind_ok (columns_reading d) _ r first.2 in
    subst (λ (x : SchemaReading). AreKept (refusals (unread_as x.0 x.1))) (ok_is (first.0, second.0) r second.2) (columns_kept d (iceberg_schema d) second.0 second.1 first.0)

both_kept : (us vs : List HeldUnread) → AreKept (refusals us) → AreKept (refusals vs) → AreKept (refusals (us ++ vs))
both_kept us vs first others = rw (map-append) (λ e there. ⊎_elim (first e) (others e) (Contains-append_cases (refusals us) (refusals vs) e there))

pub readings_kept : (ds : List Data) (rs : List SchemaReading) → each schema_reading ds ≡ Ok rs → (e : MetadataError) → Contains (refusals (unread rs)) e → IsKept e
readings_kept [] rs is = subst (λ (l : List SchemaReading). AreKept (refusals (unread l))) (ok_is [] rs is) none_kept
readings_kept (d ∷ ds) rs is =
    let first = bind_ok (schema_reading d) _ rs is in
    let second = bind_ok (each schema_reading ds) _ rs first.2 in
    subst (λ (l : List SchemaReading). AreKept (refusals (unread l))) (ok_is (first.0 ∷ second.0) rs second.2)
    (both_kept (unread_as first.0.0 first.0.1) (unread second.0) (reading_kept d first.0 first.1) (readings_kept ds second.0 second.1))

-- ---- faults of the grammar

-- what is told at once
abbrev pub IsFault : MetadataError → Type 0
IsFault e = (e ≡ Malformed) ⊎ (e ≡ Memory)

outline_told : (d : Data) → Refuses IsFault (schema_outline d)
outline_told d = λ e is. inl (outline_fault d e is)

kept_fault : (refusal : MetadataError) (d : Data) → Refuses IsFault (kept_unread refusal d)
unfolding unread_reading
kept_fault refusal d =
    refuses_bind IsFault (unread_reading refusal d) _
    (refuses_bind IsFault (schema_outline d) _ (outline_told d) (λ outline. refuses_bind IsFault (list_in (codes "fields") d) _ (refuses_required IsFault Malformed _ (inl refl)) (λ fields. refuses_ok IsFault _)))
    (λ unread. refuses_ok IsFault _)

columns_fault : (d : Data) (r : Result (ColumnTrees × List ℤ) MapError) → Refuses IsFault (columns_by d (with_fault refusal_of r))
columns_fault d (Ok s) = refuses_ok IsFault (Ok s)
columns_fault d (Err map_errors.Memory) = refuses_err IsFault Memory (inr refl)
columns_fault d (Err map_errors.BadSchema) = refuses_err IsFault Malformed (inl refl)
columns_fault d (Err (map_errors.SchemaType column)) = kept_fault SchemaType d
columns_fault d (Err (map_errors.AvroName column)) = kept_fault SchemaType d
columns_fault d (Err (map_errors.Limit which)) = kept_fault (Limit (size_limit which)) d

pub reading_fault : (d : Data) → Refuses IsFault (schema_reading d)
unfolding schema_reading
reading_fault d =
    refuses_bind IsFault (int_in (codes "schema-id") d) _ (refuses_required IsFault Malformed _ (inl refl))
    (λ id. refuses_bind IsFault (columns_reading d) _ (columns_fault d (iceberg_schema d)) (λ columns. refuses_ok IsFault (id, columns)))
