-- What the bytes of a header come to, by its parts.
use Rattle.std.proofs.Common.{◌≡◌, ℕ, zero, suc, ◌-◌, true, List, length, Option, Some, None, Result, Ok, Err, is_err, refl, sym, ap, ◌∙◌}
use Rattle.lake_basics.specs.Outcome.{◌>>=◌}
use Rattle.avro_schema.specs.Tree.{SchemaTree}
use Rattle.avro_value.specs.declared.api.TheConstants.{MAX_VALUES}
use Rattle.avro_value.specs.Reading.{GivesAlways}
use Rattle.avro_value.specs.ValueTree.{ValueTree}
use Rattle.avro_container.specs.declared.fault.Flaw.{Flaw}
use Rattle.avro_container.specs.declared.fault.Flaw.TheVariants as flaw
use Rattle.avro_container.specs.declared.fault.ContainerFault.{ContainerFault}
use Rattle.avro_container.specs.Format.{Pairs}
use Rattle.avro_container.specs.Reading.{Step, step_of, header_at, schema_in, codec_in}
use Rattle.avro_container.proofs.Containers.{codec_flaw}
use Rattle.avro_feeding.specs.Feeding.{Behind, in_header, in_blocks, Fed, further, refusal, waits_or_refused, opened, schema_named, schema_of_header, schema_at, behind_block, after_block, read_on, after_header, read_header, schema_of_state}
use Rattle.avro_feeding.specs.Views.{named_at}
use Rattle.avro_feeding.proofs.PieceLemmas.{block_in, with_header, opened_is}

-- ---- the header and its schema

abbrev pub HeaderParts : Type 0
HeaderParts = Pairs × List ℕ × List ℕ

abbrev pub with_name : List ℕ → HeaderParts → Step (HeaderParts × SchemaTree)
with_name bytes h = step_of (length bytes) (schema_in h.0) >>= λ t. Ok (h, t)

pub named_is : (bytes : List ℕ) → named_at bytes ≡ (header_at MAX_VALUES bytes >>= with_name bytes)
unfolding named_at
named_is bytes = refl

-- behind a header that names this schema, where the codec is judged so
abbrev pub behind_named : List ℕ → HeaderParts × SchemaTree → Unit {0} → Step Behind
behind_named bytes n plain = Ok (record { schema = n.1; marker = n.0.1; offset = further 0 (length bytes - length n.0.2); rest = n.0.2; budget = MAX_VALUES })

abbrev pub after_name : List ℕ → HeaderParts × SchemaTree → Step Behind
after_name bytes n = step_of (length bytes) (codec_in n.0.0) >>= behind_named bytes n

pub opened_named : (bytes : List ℕ) → opened bytes ≡ (named_at bytes >>= after_name bytes)
opened_named bytes = opened_is bytes ∙ on_header (header_at MAX_VALUES bytes) ∙ ap (λ (r : Step (HeaderParts × SchemaTree)). r >>= after_name bytes) (sym (named_is bytes))
  where
    on_schema : (h : HeaderParts) (r : Step SchemaTree) → (r >>= λ t. after_name bytes (h, t)) ≡ ((r >>= λ t. Ok (h, t)) >>= after_name bytes)
    on_schema h (Ok t) = refl
    on_schema h (Err f) = refl

    on_header : (r : Step HeaderParts) → (r >>= with_header bytes) ≡ ((r >>= with_name bytes) >>= after_name bytes)
    on_header (Ok h) = on_schema h (step_of (length bytes) (schema_in h.0))
    on_header (Err f) = refl

abbrev schema_by : Step (HeaderParts × SchemaTree) → Option SchemaTree
schema_by (Ok n) = Some n.1
schema_by (Err f) = None

pub schema_is_named : (bytes : List ℕ) → schema_at bytes ≡ schema_by (named_at bytes)
unfolding schema_at
schema_is_named bytes = on_header (header_at MAX_VALUES bytes) ∙ ap schema_by (sym (named_is bytes))
  where
    on_schema : (h : HeaderParts) (r : Result SchemaTree Flaw) → schema_named r ≡ schema_by (step_of (length bytes) r >>= λ t. Ok (h, t))
    on_schema h (Ok t) = refl
    on_schema h (Err w) = refl

    on_header : (r : Step HeaderParts) → schema_of_header r ≡ schema_by (r >>= with_name bytes)
    on_header (Ok h) = on_schema h (schema_in h.0)
    on_header (Err f) = refl

-- ---- the codec

pub other_codec : (meta : Pairs) (w : Flaw) → codec_in meta ≡ Err w → codec_in meta ≡ Err flaw.Codec
other_codec meta w e = e ∙ ap Err (codec_flaw meta w e)

pub other_codec_so : (meta : Pairs) (r : Result (Unit {0}) Flaw) → is_err r ≡ true → GivesAlways (λ _. tt) r (codec_in meta) → codec_in meta ≡ Err flaw.Codec
other_codec_so meta (Ok u) failed h = absurd (cc)
other_codec_so meta (Err w) failed h = other_codec meta w h

-- ---- what header and schema come to

pub opened_by_codec : (bytes : List ℕ) (n : HeaderParts × SchemaTree) → named_at bytes ≡ Ok n → codec_in n.0.0 ≡ Ok tt → opened bytes ≡ behind_named bytes n tt
opened_by_codec bytes n is plain = opened_named bytes ∙ rw (is, plain) refl

pub opened_other_codec : (bytes : List ℕ) (n : HeaderParts × SchemaTree) → named_at bytes ≡ Ok n → codec_in n.0.0 ≡ Err flaw.Codec → opened bytes ≡ Err (record { flaw = flaw.Codec; left = length bytes })
opened_other_codec bytes n is other = opened_named bytes ∙ rw (is, other) refl

pub opened_unnamed : (bytes : List ℕ) (f : ContainerFault) → named_at bytes ≡ Err f → opened bytes ≡ Err f
opened_unnamed bytes f is = opened_named bytes ∙ rw is refl

pub schema_unnamed : (bytes : List ℕ) (f : ContainerFault) → named_at bytes ≡ Err f → schema_at bytes ≡ None
schema_unnamed bytes f is = schema_is_named bytes ∙ ap schema_by is

pub schema_named_so : (bytes : List ℕ) (n : HeaderParts × SchemaTree) → named_at bytes ≡ Ok n → schema_at bytes ≡ Some n.1
schema_named_so bytes n is = schema_is_named bytes ∙ ap schema_by is

-- ---- the schema that is known

stopped_schema : (b : Behind) (o : _) → schema_of_state (waits_or_refused (in_blocks b) (Some b.schema) o) ≡ Some b.schema
stopped_schema b None = refl
stopped_schema b (Some e) = refl

schema_after : (b : Behind) (go_on : Behind → Fed) → ((b' : Behind) → schema_of_state (go_on b').0 ≡ Some b'.schema) → (r : Step (List ValueTree × List ℕ × ℕ)) → schema_of_state (after_block b go_on r).0 ≡ Some b.schema
schema_after b go_on on (Ok x) = on (behind_block b x)
schema_after b go_on on (Err f) = stopped_schema b (refusal b.offset b.rest f)

pub schema_on : (fuel : ℕ) (b : Behind) → schema_of_state (read_on fuel b).0 ≡ Some b.schema
unfolding read_on
schema_on zero b = refl
schema_on (suc fuel) b = schema_after b (read_on fuel) (schema_on fuel) (block_in b)

waits_schema : (bytes : List ℕ) (schema : Option SchemaTree) (o : _) → (o ≡ None → schema ≡ None) → schema_of_state (waits_or_refused (in_header bytes) schema o) ≡ schema
waits_schema bytes schema None none = sym (none refl)
waits_schema bytes schema (Some e) none = refl

-- After the bytes of a header the schema is known that it names.
pub schema_of_read : (bytes : List ℕ) → schema_of_state (read_header bytes).0 ≡ schema_at bytes
schema_of_read bytes = on_name (named_at bytes) refl
  where
    on_codec : (n : HeaderParts × SchemaTree) → named_at bytes ≡ Ok n → (r : Result (Unit {0}) Flaw) → codec_in n.0.0 ≡ r → schema_of_state (after_header bytes (opened bytes)).0 ≡ schema_at bytes
    on_codec n is (Ok u) plain = rw (opened_by_codec bytes n is plain, schema_named_so bytes n is) (schema_on _ _)
    on_codec n is (Err w) other = rw (opened_other_codec bytes n is (other_codec n.0.0 w other)) refl

    on_name : (r : Step (HeaderParts × SchemaTree)) → named_at bytes ≡ r → schema_of_state (after_header bytes (opened bytes)).0 ≡ schema_at bytes
    on_name (Ok n) is = on_codec n is (codec_in n.0.0) refl
    on_name (Err f) is = rw (opened_unnamed bytes f is) (waits_schema bytes (schema_at bytes) (refusal 0 bytes f) (λ h. schema_unnamed bytes f is))
