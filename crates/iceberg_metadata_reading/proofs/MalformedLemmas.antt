-- Each fault of the grammar is told as malformed.
use Rattle.std.proofs.Common.{◌≡◌, ◌⊎◌, ℕ, ℤ, pos, List, [], Bool, true, false, cond, Option, Some, None, Result, Ok, Err, codes, refl, sym, ◌∙◌, inl, inr, ⊎_elim}
use Rattle.std.specs.Ordering.{int_eq}
use Rattle.std.proofs.lemmas.Bool.{false≢true}
use Rattle.std.proofs.lemmas.Bool.Decides.{Decides-int_eq}
use Rattle.serde_json.specs.Data.{Data}
use Rattle.serde_json.specs.Find.{as_object, as_array, as_str}
use Rattle.lake_basics.specs.Outcome.{◌>>=◌, required, each}
use Rattle.lake_basics.proofs.Steps.{gave, given, bind_err, err_is, Refuses, refuses_ok, refuses_err, refuses_bind, refuses_required, refuses_each}
use Rattle.json_reading.specs.Json.{whole_member, whole, int, text, items, pairs, present}
use Rattle.iceberg_metadata.specs.declared.error.MetadataError.{MetadataError}
use Rattle.iceberg_metadata.specs.declared.error.MetadataError.TheVariants.{FormatVersion, Malformed}
use Rattle.iceberg_metadata.specs.declared.metadata.Metadata.{Metadata}
use Rattle.iceberg_metadata.specs.Members.{format_version, text_in, whole_in, int_in, list_in, whole_if_any, int_if_any, text_if_any, sequence, operation, spec, spec_field, snapshot, property, snapshots, properties, current_snapshot, refs_fit}
use Rattle.iceberg_metadata.specs.Schemas.{HeldSchema, HeldUnread, schema_reading, readable, unread, schema_ids}
use Rattle.iceberg_metadata.specs.Judging.{is_consistent, members, unkept, consistent, version_two, contents}
use Rattle.iceberg_metadata.proofs.ContentLemmas.{done, fails}
use Rattle.iceberg_schemas.proofs.ToldLemmas.{IsFault, reading_fault}

abbrev Faulty : {A : Type 0} → Result A MetadataError → Type 0
Faulty r = Refuses IsFault r

must : {A : Type 0} (o : Option A) → Faulty (required Malformed o)
must o = refuses_required IsFault Malformed o (inl refl)

good : {A : Type 0} (a : A) → Faulty (gave A MetadataError a)
good a = refuses_ok IsFault a

bad : {A : Type 0} → Faulty (given A MetadataError Malformed)
bad = refuses_err IsFault Malformed (inl refl)

chain : {A B : Type 0} (r : Result A MetadataError) (f : A → Result B MetadataError) → Faulty r → ((a : A) → Faulty (f a)) → Faulty (r >>= f)
chain r f = refuses_bind IsFault r f

-- ---- single members

whole_any : (o : Option Data) → Faulty (whole_if_any o)
whole_any None = good None
whole_any (Some d) = chain (required Malformed (whole d)) _ (must (whole d)) (λ n. good (Some n))

int_any : (o : Option Data) → Faulty (int_if_any o)
int_any None = good None
int_any (Some d) = chain (required Malformed (int d)) _ (must (int d)) (λ n. good (Some n))

text_any : (o : Option Data) → Faulty (text_if_any o)
text_any None = good None
text_any (Some d) = chain (text Malformed d) _ (must (as_str d)) (λ t. good (Some t))

sequence_any : (o : Option Data) → Faulty (sequence o)
sequence_any None = good (pos 0)
sequence_any (Some d) = must (whole d)

operation_any : (o : Option Data) → Faulty (operation o)
operation_any None = good None
operation_any (Some d) = chain (required Malformed (as_object d)) _ (must (as_object d)) (λ ms. text_any _)

current_any : (o : Option Data) → Faulty (current_snapshot o)
current_any None = good None
current_any (Some d) = chain (required Malformed (whole d)) _ (must (whole d)) (λ id. good _)

-- ---- specs, snapshots and properties

field_any : (d : Data) → Faulty (spec_field d)
unfolding spec_field
field_any d =
    chain (int_in (codes "field-id") d) _ (must _)
    (λ a. chain (int_in (codes "source-id") d) _ (must _) (λ b. chain (text_in (codes "name") d) _ (must _) (λ c. chain (text_in (codes "transform") d) _ (must _) (λ e. good _))))

spec_any : (d : Data) → Faulty (spec d)
unfolding spec
spec_any d =
    chain (int_in (codes "spec-id") d) _ (must _)
    (λ a. chain (list_in (codes "fields") d) _ (must _) (λ b. chain (each spec_field (items b)) _ (refuses_each IsFault spec_field (items b) field_any) (λ c. good _)))

snapshot_any : (d : Data) → Faulty (snapshot d)
unfolding snapshot
snapshot_any d =
    chain (whole_in (codes "snapshot-id") d) _ (must (whole_member (codes "snapshot-id") d))
    (λ a. chain (whole_if_any (present (codes "parent-snapshot-id") d)) _ (whole_any (present (codes "parent-snapshot-id") d))
    (λ b. chain (sequence (present (codes "sequence-number") d)) _ (sequence_any (present (codes "sequence-number") d))
    (λ c. chain (whole_in (codes "timestamp-ms") d) _ (must (whole_member (codes "timestamp-ms") d))
    (λ e. chain (text_in (codes "manifest-list") d) _ (must _)
    (λ f. chain (int_if_any (present (codes "schema-id") d)) _ (int_any (present (codes "schema-id") d))
    (λ g. chain (operation (present (codes "summary") d)) _ (operation_any (present (codes "summary") d)) (λ h. good _)))))))

snapshots_any : (o : Option Data) → Faulty (snapshots o)
snapshots_any None = good []
snapshots_any (Some d) = chain (required Malformed (as_array d)) _ (must (as_array d)) (λ l. refuses_each IsFault snapshot (items l) snapshot_any)

property_any : (p : List ℕ × Data) → Faulty (property p)
property_any p = chain (text Malformed p.1) _ (must (as_str p.1)) (λ t. good (p.0, t))

properties_any : (o : Option Data) → Faulty (properties o)
properties_any None = good []
properties_any (Some d) = chain (required Malformed (as_object d)) _ (must (as_object d)) (λ ms. refuses_each IsFault property (pairs ms) property_any)

-- ---- the whole

members_any : (d : Data) (ss : List HeldSchema) → Faulty (members d ss)
unfolding members
members_any d ss =
    chain (text_in (codes "table-uuid") d) _ (must _)
    (λ a. chain (text_in (codes "location") d) _ (must _)
    (λ b. chain (whole_in (codes "last-sequence-number") d) _ (must _)
    (λ c. chain (whole_in (codes "last-updated-ms") d) _ (must _)
    (λ e. chain (int_in (codes "last-column-id") d) _ (must _)
    (λ f. chain (int_in (codes "current-schema-id") d) _ (must _)
    (λ g. chain (list_in (codes "partition-specs") d) _ (must _)
    (λ h. chain (each spec (items h)) _ (refuses_each IsFault spec (items h) spec_any)
    (λ j. chain (int_in (codes "default-spec-id") d) _ (must _)
    (λ k. chain (int_in (codes "last-partition-id") d) _ (must _)
    (λ l. chain (properties (present (codes "properties") d)) _ (properties_any (present (codes "properties") d))
    (λ n. chain (current_snapshot (present (codes "current-snapshot-id") d)) _ (current_any (present (codes "current-snapshot-id") d)) (λ o. chain (snapshots (present (codes "snapshots") d)) _ (snapshots_any (present (codes "snapshots") d)) (λ p. good _)))))))))))))

taken_any : (b : Bool) → Faulty (cond b done (fails Malformed))
taken_any true = good tt
taken_any false = bad

unkept_any : (d : Data) → Faulty (unkept d)
unfolding unkept
unkept_any d = chain (list_in (codes "sort-orders") d) _ (must _) (λ a. chain (int_in (codes "default-sort-order-id") d) _ (must _) (λ b. taken_any (refs_fit (present (codes "refs") d))))

abbrev OtherFault : Data → MetadataError → Type 0
OtherFault d e = (e ≡ FormatVersion) × (v : ℤ) × (format_version d ≡ Some v) × (v ≡ pos 2 → ⊥)

abbrev GrammarFault : Data → MetadataError → Type 0
GrammarFault d e = IsFault e × ((v : ℤ) → format_version d ≡ Some v → v ≡ pos 2)

version_fault : (d : Data) (o : Option ℤ) (e : MetadataError) → format_version d ≡ o → version_two o ≡ Err e → GrammarFault d e ⊎ OtherFault d e
version_fault d None e is h = inl (inl (sym (err_is Malformed e h)), λ v some. absurd (cc))
version_fault d (Some v) e is h = by (int_eq v (pos 2)) refl h
  where
    by : (b : Bool) → int_eq v (pos 2) ≡ b → cond b done (fails FormatVersion) ≡ fails e → GrammarFault d e ⊎ OtherFault d e
    by true same g = absurd (cc)
    by false other g = inr (sym (err_is FormatVersion e g), v, is, λ two. false≢true (sym other ∙ (Decides-int_eq v (pos 2)).1 two))

version_is : (o : Option ℤ) (v : ℤ) → version_two o ≡ done → o ≡ Some v → v ≡ pos 2
version_is None v is some = absurd (cc)
version_is (Some w) v is some = by (int_eq w (pos 2)) refl is
  where
    by : (b : Bool) → int_eq w (pos 2) ≡ b → cond b done (fails FormatVersion) ≡ done → v ≡ pos 2
    by true same g = some_is w v some ∙ (Decides-int_eq w (pos 2)).0 same
      where
        some_is : (x y : ℤ) → Some x ≡ Some y → y ≡ x
        some_is x y s = cc s
    by false other g = absurd (cc)

rest_any : (d : Data) → Faulty {A = Metadata × List HeldUnread} (list_in (codes "schemas") d >>= λ listed. each schema_reading (items listed) >>= λ rs. members d (readable rs) >>= λ m. unkept d >>= λ u. consistent m (schema_ids rs) >>= λ is. Ok (m, unread rs))
rest_any d =
    chain (list_in (codes "schemas") d) _ (must _)
    (λ listed. chain (each schema_reading (items listed)) _ (refuses_each IsFault schema_reading (items listed) reading_fault)
    (λ rs. chain (members d (readable rs)) _ (members_any d (readable rs)) (λ m. chain (unkept d) _ (unkept_any d) (λ u. chain (consistent m (schema_ids rs)) _ (taken_any (is_consistent m (schema_ids rs))) (λ is. good {A = Metadata × List HeldUnread} (m, unread rs))))))

pub contents_malformed : (d : Data) (e : MetadataError) → contents d ≡ Err e → GrammarFault d e ⊎ OtherFault d e
unfolding contents
contents_malformed d e h =
    ⊎_elim
    (λ first. version_fault d _ e refl first)
    (λ p. inl (rest_any d e p.2, λ v some. version_is _ v p.1 some))
    (bind_err (version_two (format_version d)) _ e h)
