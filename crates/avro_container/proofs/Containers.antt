-- Reading a container meets what a container is.
use Rattle.std.proofs.Common.{◌≡◌, ℕ, ◌+◌, ◌-◌, ◌≤◌, ◌⊎◌, Bool, true, false, cond, List, length, map, Option, Some, None, Result, Ok, Err, IfOk, IfErr, MatchResult, refl, sym, ap, subst, ◌∙◌, arith, inl, inr}
use Rattle.std.specs.Str.{bytes_eq}
use Rattle.std.proofs.lemmas.Slice.Eq.{bytes_eq-Decides}
use Rattle.std.proofs.lemmas.List.{length-append}
use Rattle.avro_schema.specs.declared.error.SchemaError.{SchemaError}
use Rattle.avro_schema.specs.Tree.{SchemaTree, tree_of}
use Rattle.avro_value.specs.Layout.{layout_of}
use Rattle.avro_value.specs.ValueTree.{ValueTree, value_tree}
use Rattle.lake_basics.specs.Outcome.{◌>>=◌}
use Rattle.avro_schema.specs.Reading.{schema_of}
use Rattle.avro_schema.proofs.Texts.{text_found, text_read}
use Rattle.avro_value.proofs.NumberLaws.{bind_ok, ok_is}
use Rattle.avro_value.proofs.FaultLaws.{bind_err, err_is}
use Rattle.avro_container.specs.declared.container.Container.{Container}
use Rattle.avro_container.specs.declared.error.ContainerError.{ContainerError}
use Rattle.avro_container.specs.declared.error.ContainerError.TheVariants as error
use Rattle.avro_container.specs.declared.fault.Flaw.{Flaw}
use Rattle.avro_container.specs.declared.fault.Flaw.TheVariants as flaw
use Rattle.avro_container.specs.declared.fault.ContainerFault.{ContainerFault}
use Rattle.avro_container.specs.Format.{Pairs, first_named, schema_name, codec_name, null_codec, HasSchema, IsPlain, IsWithin}
use Rattle.avro_container.specs.Reading.{Step, schema_in, codec_in, step_of, header_at, blocks_at, container_at}
use Rattle.avro_container.specs.Faults.{IsFirstFlaw}
use Rattle.avro_container.specs.Laws.{error_of, Answers, IsThat, IsRefused}
use Rattle.avro_container.proofs.Objects.{fault_is}
use Rattle.avro_container.proofs.WholeBlocks.{blocks_take, blocks_again}
use Rattle.avro_container.proofs.BlockRefusals.{blocks_faulty, blocks_refused}
use Rattle.avro_container.proofs.Headers.{placed_ok, placed_err, header_takes, header_again, header_faulty, header_refused}

-- ---- the schema

abbrev schema_by : Result SchemaTree SchemaError → Result SchemaTree Flaw
schema_by (Ok t) = Ok t
schema_by (Err e) = Err flaw.BadSchema

abbrev schema_from : Option (List ℕ) → Result SchemaTree Flaw
schema_from None = Err flaw.BadSchema
schema_from (Some text) = schema_by (schema_of text)

schema_is : (meta : Pairs) → schema_in meta ≡ schema_from (first_named schema_name meta)
unfolding schema_in
schema_is meta = go (first_named schema_name meta)
  where
    on : (r : Result SchemaTree SchemaError) → ◌≡◌ {A = Result SchemaTree Flaw} (elim r as (λ _. Result SchemaTree Flaw) [ Err e ↦ Err flaw.BadSchema | Ok t ↦ Ok t ]) (schema_by r)
    on (Ok t) = refl
    on (Err e) = refl

    go : (o : Option (List ℕ)) → ◌≡◌ {A = Result SchemaTree Flaw} (elim o as (λ _. Result SchemaTree Flaw) [ None ↦ Err flaw.BadSchema | Some text ↦ elim (schema_of text) as (λ _. Result SchemaTree Flaw) [ Err e ↦ Err flaw.BadSchema | Ok t ↦ Ok t ] ]) (schema_from o)
    go None = refl
    go (Some text) = on (schema_of text)

schema_ok : (meta : Pairs) (t : SchemaTree) → schema_in meta ≡ Ok t → HasSchema meta t
schema_ok meta t e = go (first_named schema_name meta) refl (sym (schema_is meta) ∙ e)
  where
    on : (text : List ℕ) → first_named schema_name meta ≡ Some text → (r : Result SchemaTree SchemaError) → schema_of text ≡ r → schema_by r ≡ Ok t → HasSchema meta t
    on text is (Ok u) same q = (text, is, text_found text t (same ∙ ap Ok (ok_is u t q)))
    on text is (Err d) same q = absurd cc

    go : (o : Option (List ℕ)) → first_named schema_name meta ≡ o → schema_from o ≡ Ok t → HasSchema meta t
    go None is q = absurd cc
    go (Some text) is q = on text is (schema_of text) refl q

pub schema_again : (meta : Pairs) (t : SchemaTree) → HasSchema meta t → schema_in meta ≡ Ok t
schema_again meta t h = schema_is meta ∙ ap schema_from h.1 ∙ ap schema_by (text_read h.0 t h.2)

pub schema_flaw : (meta : Pairs) (w : Flaw) → schema_in meta ≡ Err w → w ≡ flaw.BadSchema
schema_flaw meta w e = go (first_named schema_name meta) (sym (schema_is meta) ∙ e)
  where
    on : (r : Result SchemaTree SchemaError) → schema_by r ≡ Err w → w ≡ flaw.BadSchema
    on (Ok u) q = absurd cc
    on (Err d) q = sym (err_is flaw.BadSchema w q)

    go : (o : Option (List ℕ)) → schema_from o ≡ Err w → w ≡ flaw.BadSchema
    go None q = sym (err_is flaw.BadSchema w q)
    go (Some text) q = on (schema_of text) q

schema_none : (meta : Pairs) (w : Flaw) → schema_in meta ≡ Err w → (t : SchemaTree) → HasSchema meta t → ⊥
schema_none meta w e t h = absurd (let a = schema_again meta t h in let both : ◌≡◌ {A = Result SchemaTree Flaw} (Ok t) (Err w) = sym a ∙ e in cc)

schema_refused : (meta : Pairs) → ((t : SchemaTree) → HasSchema meta t → ⊥) → schema_in meta ≡ Err flaw.BadSchema
schema_refused meta none = go (schema_in meta) refl
  where
    go : (r : Result SchemaTree Flaw) → schema_in meta ≡ r → schema_in meta ≡ Err flaw.BadSchema
    go (Ok t) is = absurd (none t (schema_ok meta t is))
    go (Err w) is = is ∙ ap Err (schema_flaw meta w is)

-- ---- the codec

abbrev codec_from : Option (List ℕ) → Result (Unit {0}) Flaw
codec_from None = Ok tt
codec_from (Some codec) = cond (bytes_eq codec null_codec) (Ok tt) (Err flaw.Codec)

codec_is : (meta : Pairs) → codec_in meta ≡ codec_from (first_named codec_name meta)
unfolding codec_in
codec_is meta = go (first_named codec_name meta)
  where
    go : (o : Option (List ℕ)) → ◌≡◌ {A = Result (Unit {0}) Flaw} (elim o as (λ _. Result (Unit {0}) Flaw) [ None ↦ Ok tt | Some codec ↦ cond (bytes_eq codec null_codec) (Ok tt) (Err flaw.Codec) ]) (codec_from o)
    go None = refl
    go (Some codec) = refl

codec_ok : (meta : Pairs) (u : Unit {0}) → codec_in meta ≡ Ok u → IsPlain meta
codec_ok meta u e = go (first_named codec_name meta) refl (sym (codec_is meta) ∙ e)
  where
    on : (codec : List ℕ) → first_named codec_name meta ≡ Some codec → (b : Bool) → bytes_eq codec null_codec ≡ b → ◌≡◌ {A = Result (Unit {0}) Flaw} (cond b (Ok tt) (Err flaw.Codec)) (Ok u) → IsPlain meta
    on codec is true same q = inr (is ∙ ap Some ((bytes_eq-Decides codec null_codec).0 same))
    on codec is false same q = absurd cc

    go : (o : Option (List ℕ)) → first_named codec_name meta ≡ o → codec_from o ≡ Ok u → IsPlain meta
    go None is q = inl is
    go (Some codec) is q = on codec is (bytes_eq codec null_codec) refl q

pub codec_again : (meta : Pairs) → IsPlain meta → codec_in meta ≡ Ok tt
codec_again meta (inl none) = codec_is meta ∙ ap codec_from none
codec_again meta (inr null) = codec_is meta ∙ ap codec_from null

pub codec_flaw : (meta : Pairs) (w : Flaw) → codec_in meta ≡ Err w → w ≡ flaw.Codec
codec_flaw meta w e = go (first_named codec_name meta) (sym (codec_is meta) ∙ e)
  where
    on : (b : Bool) → ◌≡◌ {A = Result (Unit {0}) Flaw} (cond b (Ok tt) (Err flaw.Codec)) (Err w) → w ≡ flaw.Codec
    on true q = absurd cc
    on false q = sym (err_is flaw.Codec w q)

    go : (o : Option (List ℕ)) → codec_from o ≡ Err w → w ≡ flaw.Codec
    go None q = absurd cc
    go (Some codec) q = on (bytes_eq codec null_codec) q

codec_none : (meta : Pairs) (w : Flaw) → codec_in meta ≡ Err w → IsPlain meta → ⊥
codec_none meta w e h = absurd (let a = codec_again meta h in let both : ◌≡◌ {A = Result (Unit {0}) Flaw} (Ok tt) (Err w) = sym a ∙ e in cc)

codec_refused : (meta : Pairs) → (IsPlain meta → ⊥) → codec_in meta ≡ Err flaw.Codec
codec_refused meta none = go (codec_in meta) refl
  where
    go : (r : Result (Unit {0}) Flaw) → codec_in meta ≡ r → codec_in meta ≡ Err flaw.Codec
    go (Ok u) is = absurd (none (codec_ok meta u is))
    go (Err w) is = is ∙ ap Err (codec_flaw meta w is)

-- ---- the whole

abbrev pub behind_codec : ℕ → Pairs × List ℕ × List ℕ → SchemaTree → Unit {0} → Step (Pairs × SchemaTree × List ValueTree)
behind_codec limit header t plain = blocks_at (layout_of t) header.1 (length header.2 + 1) header.2 limit >>= λ vs. Ok (header.0, t, vs)

abbrev pub behind_schema : ℕ → List ℕ → Pairs × List ℕ × List ℕ → SchemaTree → Step (Pairs × SchemaTree × List ValueTree)
behind_schema limit bytes header t = step_of (length bytes) (codec_in header.0) >>= behind_codec limit header t

abbrev pub behind_header : ℕ → List ℕ → Pairs × List ℕ × List ℕ → Step (Pairs × SchemaTree × List ValueTree)
behind_header limit bytes header = step_of (length bytes) (schema_in header.0) >>= behind_schema limit bytes header

-- Reading a container reads its header, its schema, its codec and its blocks.
pub container_is : (limit : ℕ) (bytes : List ℕ) → container_at limit bytes ≡ (header_at limit bytes >>= behind_header limit bytes)
unfolding container_at
container_is limit bytes = refl

pub container_takes : (limit : ℕ) (bytes : List ℕ) (x : Pairs × SchemaTree × List ValueTree) → container_at limit bytes ≡ Ok x → IsWithin limit bytes x.0 x.1 x.2
container_takes limit bytes x e =
    let a = bind_ok (header_at limit bytes) (behind_header limit bytes) x (sym (container_is limit bytes) ∙ e) in
    let b = bind_ok (step_of (length bytes) (schema_in a.0.0)) (behind_schema limit bytes a.0) x a.2 in
    let c = bind_ok (step_of (length bytes) (codec_in a.0.0)) (behind_codec limit a.0 b.0) x b.2 in
    let d = bind_ok (blocks_at (layout_of b.0) a.0.1 (length a.0.2 + 1) a.0.2 limit) (λ vs. Ok (a.0.0, b.0, vs)) x c.2 in
    let header = header_takes limit bytes a.0 a.1 in
    let blocks = blocks_take (layout_of b.0) a.0.1 (length a.0.2 + 1) a.0.2 limit d.0 d.1 in
    subst (λ (y : Pairs × SchemaTree × List ValueTree). IsWithin limit bytes y.0 y.1 y.2) (ok_is (a.0.0, b.0, d.0) x d.2)
    (record {
      few = blocks.2;
      container = record {
        header = header.header;
        marker = a.0.1;
        blocks = a.0.2;
        parts = header.parts;
        is_header = header.is;
        schema = schema_ok a.0.0 b.0 (placed_ok (length bytes) (schema_in a.0.0) b.0 b.1);
        plain = codec_ok a.0.0 c.0 (placed_ok (length bytes) (codec_in a.0.0) c.0 c.1);
        number = blocks.0;
        are_blocks = blocks.1;
      };
    })

pub container_again : (limit : ℕ) (bytes : List ℕ) (meta : Pairs) (t : SchemaTree) (vs : List ValueTree) → IsWithin limit bytes meta t vs → container_at limit bytes ≡ Ok (meta, t, vs)
container_again limit bytes meta t vs w =
    let c = w.container in
    let a : header_at limit bytes ≡ Ok (meta, c.marker, c.blocks) = ap (header_at limit) c.parts ∙ header_again limit meta c.marker c.header c.blocks c.is_header in
    let b = blocks_again (layout_of t) c.marker c.number vs c.blocks limit c.is_header.sixteen c.are_blocks w.few in
    container_is limit bytes ∙ rw (a, schema_again meta t c.schema, codec_again meta c.plain, b) refl

pub record WholeFault (limit : ℕ) (bytes : List ℕ) (f : ContainerFault) : Type 0 where
  pub within : f.left ≤ length bytes
  pub fault : IsFirstFlaw limit bytes f

pub container_faulty : (limit : ℕ) (bytes : List ℕ) (f : ContainerFault) → container_at limit bytes ≡ Err f → WholeFault limit bytes f
container_faulty limit bytes f e = elim (bind_err (header_at limit bytes) (behind_header limit bytes) f (sym (container_is limit bytes) ∙ e)) [
  | inl failed ↦ (let h = header_faulty limit bytes f failed in record { within = h.within; fault = inl h.fault })
  | inr a ↦
      (let header = header_takes limit bytes a.0 a.1 in
      elim (bind_err (step_of (length bytes) (schema_in a.0.0)) (behind_schema limit bytes a.0) f a.2) [
        | inl failed ↦
            (let p = placed_err (length bytes) (schema_in a.0.0) f failed in
            let left = p.1 in
            record { within = omega (arith, left); fault = inr (inl (a.0.0, a.0.1, header.header, a.0.2, header.parts, header.is, schema_none a.0.0 f.flaw p.0, (schema_flaw a.0.0 f.flaw p.0, left))) })
        | inr b ↦
            (let has = schema_ok a.0.0 b.0 (placed_ok (length bytes) (schema_in a.0.0) b.0 b.1) in
            elim (bind_err (step_of (length bytes) (codec_in a.0.0)) (behind_codec limit a.0 b.0) f b.2) [
              | inl failed ↦
                  (let p = placed_err (length bytes) (codec_in a.0.0) f failed in
                  let left = p.1 in
                  record { within = omega (arith, left); fault = inr (inr (inl (a.0.0, a.0.1, header.header, a.0.2, b.0, header.parts, header.is, has, codec_none a.0.0 f.flaw p.0, (codec_flaw a.0.0 f.flaw p.0, left)))) })
              | inr c ↦
                  (let plain = codec_ok a.0.0 c.0 (placed_ok (length bytes) (codec_in a.0.0) c.0 c.1) in
                  elim (bind_err (blocks_at (layout_of b.0) a.0.1 (length a.0.2 + 1) a.0.2 limit) (λ vs. Ok (a.0.0, b.0, vs)) f c.2) [
                    | inl failed ↦
                        (let h = blocks_faulty (layout_of b.0) a.0.1 (length a.0.2 + 1) a.0.2 limit f header.is.sixteen (omega arith) failed in
                        let low = h.within in
                        record { within = omega (arith, low, ap length header.parts, length-append header.header a.0.2); fault = inr (inr (inr (a.0.0, a.0.1, header.header, a.0.2, b.0, header.parts, header.is, has, plain, h.fault))) })
                    | inr d ↦ absurd (let q = d.2 in cc)
                  ])
            ])
      ])
]

pub container_refused : (limit : ℕ) (bytes : List ℕ) (f : ContainerFault) → IsFirstFlaw limit bytes f → container_at limit bytes ≡ Err f
container_refused limit bytes f (inl h) = container_is limit bytes ∙ rw (header_refused limit bytes f h) refl
container_refused limit bytes f (inr (inl (meta, marker, header, blocks, parts, is, none, at))) =
    let a : header_at limit bytes ≡ Ok (meta, marker, blocks) = ap (header_at limit) parts ∙ header_again limit meta marker header blocks is in
    container_is limit bytes ∙ rw (a, schema_refused meta none) (ap Err (fault_is f flaw.BadSchema (length bytes) at.0 at.1))
container_refused limit bytes f (inr (inr (inl (meta, marker, header, blocks, t, parts, is, has, other, at)))) =
    let a : header_at limit bytes ≡ Ok (meta, marker, blocks) = ap (header_at limit) parts ∙ header_again limit meta marker header blocks is in
    container_is limit bytes ∙ rw (a, schema_again meta t has, codec_refused meta other) (ap Err (fault_is f flaw.Codec (length bytes) at.0 at.1))
container_refused limit bytes f (inr (inr (inr (meta, marker, header, blocks, t, parts, is, has, plain, h)))) =
    let a : header_at limit bytes ≡ Ok (meta, marker, blocks) = ap (header_at limit) parts ∙ header_again limit meta marker header blocks is in
    container_is limit bytes ∙ rw (a, schema_again meta t has, codec_again meta plain, blocks_refused (layout_of t) marker blocks limit f is.sixteen h) refl

-- ---- what the call promises

abbrev pub seen : Container → Pairs × SchemaTree × List ValueTree
seen c = (c.meta, tree_of c.schema, map value_tree c.values)

pub is_found : (limit : ℕ) (bytes : List ℕ) (r : Result Container ContainerError) → Answers seen (length bytes) r (container_at limit bytes) → IfOk r (λ c. IsWithin limit bytes c.meta (tree_of c.schema) (map value_tree c.values))
is_found limit bytes (Ok c) a = container_takes limit bytes (seen c) a
is_found limit bytes (Err e) a = tt

pub is_only : (limit : ℕ) (bytes : List ℕ) (r : Result Container ContainerError) → Answers seen (length bytes) r (container_at limit bytes)
    → (meta : Pairs) (t : SchemaTree) (vs : List ValueTree) → IsWithin limit bytes meta t vs → MatchResult r (λ c. IsThat c meta t vs) (λ e. e ≡ error.Memory)
is_only limit bytes (Ok c) a meta t vs h =
    let both : ◌≡◌ {A = Step (Pairs × SchemaTree × List ValueTree)} (Ok (seen c)) (Ok (meta, t, vs)) = sym a ∙ container_again limit bytes meta t vs h in
    let same = ok_is (seen c) (meta, t, vs) both in
    record {
      metadata = ap (λ (z : Pairs × SchemaTree × List ValueTree). z.0) same;
      schema = ap (λ (z : Pairs × SchemaTree × List ValueTree). z.1) same;
      values = ap (λ (z : Pairs × SchemaTree × List ValueTree). z.2) same;
    }
is_only limit bytes (Err e) a meta t vs h = elim a [
  | inl memory ↦ memory
  | inr fault ↦ absurd (let both : ◌≡◌ {A = Step (Pairs × SchemaTree × List ValueTree)} (Err fault.0) (Ok (meta, t, vs)) = sym fault.1 ∙ container_again limit bytes meta t vs h in cc)
]

pub is_refused : (limit : ℕ) (bytes : List ℕ) (r : Result Container ContainerError) → Answers seen (length bytes) r (container_at limit bytes) → IfErr r (λ e. (e ≡ error.Memory) ⊎ IsRefused limit bytes e)
is_refused limit bytes (Ok c) a = tt
is_refused limit bytes (Err e) a = elim a [
  | inl memory ↦ inl memory
  | inr given ↦ (let h = container_faulty limit bytes given.0 given.1 in inr (record { fault = given.0; first = h.fault; within = h.within; is = given.2 }))
]

pub is_first : (limit : ℕ) (bytes : List ℕ) (r : Result Container ContainerError) → Answers seen (length bytes) r (container_at limit bytes)
    → (e : ContainerError) → IsRefused limit bytes e → (r ≡ Err e) ⊎ (r ≡ Err error.Memory)
is_first limit bytes (Ok c) a e h = absurd (let both : ◌≡◌ {A = Step (Pairs × SchemaTree × List ValueTree)} (Ok (seen c)) (Err h.fault) = sym a ∙ container_refused limit bytes h.fault h.first in cc)
is_first limit bytes (Err d) a e h = elim a [
  | inl memory ↦ inr (ap (λ (x : ContainerError). Err x) memory)
  | inr given ↦
      (let both : ◌≡◌ {A = Step (Pairs × SchemaTree × List ValueTree)} (Err given.0) (Err h.fault) = sym given.1 ∙ container_refused limit bytes h.fault h.first in
      let same : given.0 ≡ h.fault = cc in
      let named : d ≡ e = given.2 ∙ ap (error_of (length bytes)) same ∙ sym h.is in
      inl (ap (λ (x : ContainerError). Err x) named))
]
