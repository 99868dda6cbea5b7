-- What is kept behind a header, and behind which blocks another one is refused.
use Rattle.std.specs.List.{concat}
use Rattle.std.specs.Prelude.{IfOk, IfErr}
use Rattle.std.proofs.Common.{◌≡◌, ◌⊎◌, ℕ, zero, suc, ◌+◌, ◌-◌, ◌^◌, ◌<◌, Bool, true, false, List, [], ◌∷◌, ◌++◌, length, Option, Some, None, Ok, Err, refl, sym, ap, subst, ◌∙◌, append_assoc, arith, inl, inr}
use Rattle.std.proofs.lemmas.List.{length-append, append-nil}
use Rattle.std.proofs.lemmas.List.Concat.{flat_map-cons}
use Rattle.avro_schema.specs.Tree.{SchemaTree}
use Rattle.avro_value.specs.declared.api.TheConstants.{MAX_VALUES}
use Rattle.avro_value.specs.Layout.{layout_of}
use Rattle.avro_value.specs.ValueTree.{ValueTree, value_count, total}
use Rattle.avro_value.proofs.BlockLaws.{total-append}
use Rattle.avro_value.proofs.NumberLaws.{bind_ok, ok_is}
use Rattle.avro_value.proofs.FaultLaws.{bind_err}
use Rattle.avro_container.specs.declared.error.ContainerError.{ContainerError}
use Rattle.avro_container.specs.declared.fault.Flaw.TheVariants as flaw
use Rattle.avro_container.specs.declared.fault.ContainerFault.{ContainerFault}
use Rattle.avro_container.specs.Faults.{FaultsInHeader}
use Rattle.avro_container.specs.Format.{Pairs, Header, HasSchema, IsPlain, Blocks}
use Rattle.avro_container.specs.Laws.{flaw_error}
use Rattle.avro_container.specs.Reading.{Step, step_of, header_at, schema_in, codec_in, blocks_at, container_at}
use Rattle.avro_container.proofs.Containers.{codec_flaw, container_faulty, container_takes, schema_flaw}
use Rattle.avro_container.proofs.Headers.{placed_ok, placed_err, header_takes, header_again, header_faulty}
use Rattle.avro_container.proofs.WholeBlocks.{block_takes, block_faulty}
use Rattle.avro_feeding.specs.Feeding.{Behind, Place, in_header, in_blocks, Refusal, State, Fed, nothing_read, is_short, further, refusal, waits_or_refused, stopped, opened, schema_at, behind_block, after_block, read_on, after_header, fed, fed_all, joined}
use Rattle.avro_feeding.specs.Laws.{StandsBehind, FaultsNext, KeepsBehind, KeepsHeader, Keeps, RefusesNext, is_header_flaw}
use Rattle.avro_feeding.proofs.BlockStays.{not_short}
use Rattle.avro_feeding.proofs.EndLemmas.{short_is, place_is}
use Rattle.avro_feeding.proofs.PieceLemmas.{block_in, shorter, with_codec, with_schema, with_header, opened_is, any_cut}

-- ---- blocks

-- From b on whole blocks of these values are read, up to one at fault.
record ReadTo (b : Behind) (values : List (List ValueTree)) (s : State) : Type 0 where
  end : Behind
  blocks : List ℕ
  parts : b.rest ≡ blocks ++ end.rest
  schema : end.schema ≡ b.schema
  marker : end.marker ≡ b.marker
  are_blocks : Blocks (layout_of b.schema) b.marker (length values) (joined values) blocks
  few : end.budget + total value_count (joined values) ≡ b.budget
  offset : end.offset ≡ b.offset + length blocks
  fault : ContainerFault
  stops : block_in end ≡ Err fault
  state : s ≡ stopped (in_blocks end) (Some end.schema) end.offset end.rest fault

at_once : (b : Behind) (f : ContainerFault) → block_in b ≡ Err f → ReadTo b [] (stopped (in_blocks b) (Some b.schema) b.offset b.rest f)
at_once b f is = record {
  end = b;
  blocks = [];
  parts = refl;
  schema = refl;
  marker = refl;
  are_blocks = (refl, refl);
  few = omega arith;
  offset = omega arith;
  fault = f;
  stops = is;
  state = refl;
}

-- one block before those that are read
one_before : (b : Behind) (x : List ValueTree × List ℕ × ℕ) (values : List (List ValueTree)) (s : State) → block_in b ≡ Ok x → b.offset + length b.rest < 2 ^ 64 → ReadTo (behind_block b x) values s → ReadTo b (x.0 ∷ values) s
one_before b x values s is small r =
    let t = block_takes (layout_of b.schema) b.marker b.rest b.budget x is in
    let counted = t.counted in
    let few = r.few in
    let offset = r.offset in
    let all : joined (x.0 ∷ values) ≡ x.0 ++ joined values = flat_map-cons (λ (ws : List ValueTree). ws) x.0 values in
    let sum : total value_count (joined (x.0 ∷ values)) ≡ total value_count x.0 + total value_count (joined values) = ap (total value_count) all ∙ total-append value_count x.0 (joined values) in
    let len : length b.rest ≡ length t.front + length x.1 = ap length t.parts ∙ length-append t.front x.1 in
    record {
      end = r.end;
      blocks = t.front ++ r.blocks;
      parts = t.parts ∙ ap (λ (l : List ℕ). t.front ++ l) r.parts ∙ sym (append_assoc t.front r.blocks r.end.rest);
      schema = r.schema;
      marker = r.marker;
      are_blocks = (x.0, joined values, all, (t.front, r.blocks, refl, t.spelled, r.are_blocks));
      few = omega (arith, counted, few, sum);
      offset = omega (arith, offset, len, length-append t.front r.blocks);
      fault = r.fault;
      stops = r.stops;
      state = r.state;
    }

abbrev ReadsTo : ℕ → Type 0
ReadsTo fuel = (b : Behind) → length b.rest < fuel → b.offset + length b.rest < 2 ^ 64 → ReadTo b (read_on fuel b).1 (read_on fuel b).0

read_step : (fuel : ℕ) → ReadsTo fuel → (b : Behind) (r : Step (List ValueTree × List ℕ × ℕ)) → block_in b ≡ r → length b.rest < suc fuel → b.offset + length b.rest < 2 ^ 64 → ReadTo b (after_block b (read_on fuel) r).1 (after_block b (read_on fuel) r).0
read_step fuel rec b (Ok x) is lt small =
    let less = shorter b x is in
    one_before b x (read_on fuel (behind_block b x)).1 (read_on fuel (behind_block b x)).0 is small (rec (behind_block b x) (omega (arith, less)) (omega (arith, less)))
read_step fuel rec b (Err f) is lt small = at_once b f is

read_to : (fuel : ℕ) → ReadsTo fuel
unfolding read_on
read_to zero b lt small = absurd (omega arith)
read_to (suc fuel) b lt small = read_step fuel (read_to fuel) b (block_in b) refl lt small

-- ---- behind the header

-- The bytes are a header, and what stands behind it.
record Opens (bytes : List ℕ) (b : Behind) : Type 0 where
  meta : Pairs
  header : List ℕ
  parts : bytes ≡ header ++ b.rest
  is_header : Header MAX_VALUES meta b.marker header
  schema : HasSchema meta b.schema
  plain : IsPlain meta
  budget : b.budget ≡ MAX_VALUES
  offset : b.offset ≡ length header

alone_read : (meta : Pairs) (marker header : List ℕ) (t : SchemaTree) → header_at MAX_VALUES header ≡ Ok (meta, marker, []) → schema_in meta ≡ Ok t → codec_in meta ≡ Ok tt → container_at MAX_VALUES header ≡ Ok (meta, t, [])
unfolding container_at blocks_at
alone_read meta marker header t h schema plain = rw (h, schema, plain) refl

-- a header alone is a container without values
alone : (meta : Pairs) (marker header : List ℕ) (t : SchemaTree) → Header MAX_VALUES meta marker header → schema_in meta ≡ Ok t → codec_in meta ≡ Ok tt → HasSchema meta t × IsPlain meta
alone meta marker header t is schema plain =
    let h = ap (header_at MAX_VALUES) (sym (append-nil header)) ∙ header_again MAX_VALUES meta marker header [] is in
    let c = container_takes MAX_VALUES header (meta, t, []) (alone_read meta marker header t h schema plain) in
    (c.container.schema, c.container.plain)

opens : (bytes : List ℕ) (b : Behind) → length bytes < 2 ^ 64 → opened bytes ≡ Ok b → Opens bytes b
opens bytes b small e =
    let h = bind_ok (header_at MAX_VALUES bytes) (with_header bytes) b (sym (opened_is bytes) ∙ e) in
    let t = bind_ok (step_of (length bytes) (schema_in h.0.0)) (with_schema bytes h.0) b h.2 in
    let p = bind_ok (step_of (length bytes) (codec_in h.0.0)) (with_codec bytes h.0 t.0) b t.2 in
    let taken = header_takes MAX_VALUES bytes h.0 h.1 in
    let len : length bytes ≡ length taken.header + length h.0.2 = ap length taken.parts ∙ length-append taken.header h.0.2 in
    let has = alone h.0.0 h.0.1 taken.header t.0 taken.is (placed_ok (length bytes) (schema_in h.0.0) t.0 t.1) (placed_ok (length bytes) (codec_in h.0.0) p.0 p.1) in
    subst (λ (c : Behind). Opens bytes c) (ok_is _ b p.2)
    (record {
      meta = h.0.0;
      header = taken.header;
      parts = taken.parts;
      is_header = taken.is;
      schema = has.0;
      plain = has.1;
      budget = refl;
      offset = omega (arith, len);
    })

stands : (bytes : List ℕ) (b : Behind) (values : List (List ValueTree)) (s : State) → Opens bytes b → (r : ReadTo b values s) → StandsBehind bytes values r.end
stands bytes b values s o r =
    let few = r.few in
    let budget = o.budget in
    let offset = r.offset in
    let before = o.offset in
    record {
      meta = o.meta;
      header = o.header;
      blocks = r.blocks;
      parts = o.parts ∙ ap (λ (l : List ℕ). o.header ++ l) r.parts;
      is_header = subst (λ (m : List ℕ). Header MAX_VALUES o.meta m o.header) (sym r.marker) o.is_header;
      schema = subst (λ (t : SchemaTree). HasSchema o.meta t) (sym r.schema) o.schema;
      plain = o.plain;
      are_blocks = subst (λ (m : List ℕ). Blocks (layout_of r.end.schema) m (length values) (joined values) r.blocks) (sym r.marker)
          (subst (λ (t : SchemaTree). Blocks (layout_of t) b.marker (length values) (joined values) r.blocks) (sym r.schema) r.are_blocks);
      few = omega (arith, few, budget);
      offset = omega (arith, offset, before);
    }

-- ---- what is kept

next_faulty : (b : Behind) (f : ContainerFault) → block_in b ≡ Err f → FaultsNext b f
next_faulty b f is = (block_faulty (layout_of b.schema) b.marker b.rest b.budget f is).fault

abbrev place_in : Place → Option Behind
place_in (in_header kept) = None
place_in (in_blocks b) = Some b

-- a block at fault that waits, in its place
waits_at : (b end : Behind) (f : ContainerFault) (v : Bool) → is_short f.flaw ≡ v → ◌≡◌ {A = State} (Ok (in_blocks b)) (stopped (in_blocks end) (Some end.schema) end.offset end.rest f) → (b ≡ end) × (f.flaw ≡ flaw.Short)
waits_at b end f true short is =
    let same : ◌≡◌ {A = State} (Ok (in_blocks b)) (Ok (in_blocks end)) = rw short at is in
    let place : Some b ≡ Some end = ap place_in (ok_is (in_blocks b) (in_blocks end) same) in
    (cc, short_is f.flaw short)
waits_at b end f false long is = absurd (let no : ◌≡◌ {A = State} (Ok (in_blocks b)) (Err (record { error = flaw_error f.flaw (further end.offset (length end.rest - f.left)); schema = Some end.schema })) = rw long at is in cc)

never_header : (kept : List ℕ) (end : Behind) (o : Option ContainerError) → ◌≡◌ {A = State} (Ok (in_header kept)) (waits_or_refused (in_blocks end) (Some end.schema) o) → ⊥
never_header kept end None is = let place : ◌≡◌ {A = Option Behind} None (Some end) = ap place_in (ok_is (in_header kept) (in_blocks end) is) in cc
never_header kept end (Some e) is = cc

never_blocks : (b : Behind) (bytes : List ℕ) (schema : Option SchemaTree) (o : Option ContainerError) → ◌≡◌ {A = State} (Ok (in_blocks b)) (waits_or_refused (in_header bytes) schema o) → ⊥
never_blocks b bytes schema None is = let place : ◌≡◌ {A = Option Behind} (Some b) None = ap place_in (ok_is (in_blocks b) (in_header bytes) is) in cc
never_blocks b bytes schema (Some e) is = cc

keeps_behind : (bytes : List ℕ) (b : Behind) (values : List (List ValueTree)) → length bytes < 2 ^ 64 - 1 → fed nothing_read bytes ≡ (Ok (in_blocks b), values) → KeepsBehind bytes values b
keeps_behind bytes b values small is = go (opened bytes) refl is
  where
    go : (r : Step Behind) → opened bytes ≡ r → after_header bytes r ≡ (Ok (in_blocks b), values) → KeepsBehind bytes values b
    go (Ok b0) opening e =
        let o = opens bytes b0 (omega arith) opening in
        let before = o.offset in
        let len : length bytes ≡ length o.header + length b0.rest = ap length o.parts ∙ length-append o.header b0.rest in
        let r = subst (λ (q : Fed). ReadTo b0 q.1 q.0) e (read_to (length b0.rest + 1) b0 (omega arith) (omega (arith, before, len))) in
        let w = waits_at b r.end r.fault (is_short r.fault.flaw) refl r.state in
        (subst (λ (c : Behind). StandsBehind bytes values c) (sym w.0) (stands bytes b0 values (Ok (in_blocks b)) o r), (r.fault, subst (λ (c : Behind). FaultsNext c r.fault) (sym w.0) (next_faulty r.end r.fault r.stops), w.1))
    go (Err f) opening e = absurd (never_blocks b bytes (schema_at bytes) (refusal 0 bytes f) (ap (λ (q : Fed). q.0) (sym e)))

-- ---- a header at fault

-- How the header's bytes fail: in the header, in its schema, or in its codec.
opened_faulty : (bytes : List ℕ) (f : ContainerFault) → opened bytes ≡ Err f → FaultsInHeader MAX_VALUES bytes f ⊎ (f.flaw ≡ flaw.BadSchema) ⊎ (f.flaw ≡ flaw.Codec)
opened_faulty bytes f e = elim (bind_err (header_at MAX_VALUES bytes) (with_header bytes) f (sym (opened_is bytes) ∙ e)) [
  | inl failed ↦ inl (header_faulty MAX_VALUES bytes f failed).fault
  | inr h ↦ elim (bind_err (step_of (length bytes) (schema_in h.0.0)) (with_schema bytes h.0) f h.2) [
    | inl failed ↦ inr (inl (schema_flaw h.0.0 f.flaw (placed_err (length bytes) (schema_in h.0.0) f failed).0))
    | inr t ↦ elim (bind_err (step_of (length bytes) (codec_in h.0.0)) (with_codec bytes h.0 t.0) f t.2) [
      | inl failed ↦ inr (inr (codec_flaw h.0.0 f.flaw (placed_err (length bytes) (codec_in h.0.0) f failed).0))
      | inr p ↦ absurd (let q = p.2 in cc)
    ]
  ]
]

short_header : (bytes : List ℕ) (f : ContainerFault) → f.flaw ≡ flaw.Short → FaultsInHeader MAX_VALUES bytes f ⊎ (f.flaw ≡ flaw.BadSchema) ⊎ (f.flaw ≡ flaw.Codec) → FaultsInHeader MAX_VALUES bytes f
short_header bytes f short (inl h) = h
short_header bytes f short (inr (inl bad)) = absurd (let both : flaw.Short ≡ flaw.BadSchema = sym short ∙ bad in cc)
short_header bytes f short (inr (inr codec)) = absurd (let both : flaw.Short ≡ flaw.Codec = sym short ∙ codec in cc)

abbrev kept_in : Place → List ℕ
kept_in (in_header kept) = kept
kept_in (in_blocks b) = []

header_waits_at : (bytes kept : List ℕ) (f : ContainerFault) (v : Bool) → is_short f.flaw ≡ v → ◌≡◌ {A = State} (stopped (in_header bytes) (schema_at bytes) 0 bytes f) (Ok (in_header kept)) → (kept ≡ bytes) × (f.flaw ≡ flaw.Short)
header_waits_at bytes kept f true short is =
    let same : ◌≡◌ {A = State} (Ok (in_header bytes)) (Ok (in_header kept)) = rw short at is in
    (sym (ap kept_in (ok_is (in_header bytes) (in_header kept) same)), short_is f.flaw short)
header_waits_at bytes kept f false long is = absurd (let no : ◌≡◌ {A = State} (Err (record { error = flaw_error f.flaw (further 0 (length bytes - f.left)); schema = schema_at bytes })) (Ok (in_header kept)) = rw long at is in cc)

keeps_header : (bytes kept : List ℕ) (values : List (List ValueTree)) → length bytes < 2 ^ 64 - 1 → fed nothing_read bytes ≡ (Ok (in_header kept), values) → KeepsHeader bytes values kept
keeps_header bytes kept values small is = go (opened bytes) refl is
  where
    go : (r : Step Behind) → opened bytes ≡ r → after_header bytes r ≡ (Ok (in_header kept), values) → KeepsHeader bytes values kept
    go (Ok b0) opening e =
        let o = opens bytes b0 (omega arith) opening in
        let before = o.offset in
        let len : length bytes ≡ length o.header + length b0.rest = ap length o.parts ∙ length-append o.header b0.rest in
        let r = subst (λ (q : Fed). ReadTo b0 q.1 q.0) e (read_to (length b0.rest + 1) b0 (omega arith) (omega (arith, before, len))) in
        absurd (never_header kept r.end (refusal r.end.offset r.end.rest r.fault) r.state)
    go (Err f) opening e =
        let w = header_waits_at bytes kept f (is_short f.flaw) refl (ap (λ (q : Fed). q.0) e) in
        (w.0, sym (ap (λ (q : Fed). q.1) e), (f, short_header bytes f w.1 (opened_faulty bytes f opening), w.1))

-- ---- what is refused

not_opened : (bytes : List ℕ) (f : ContainerFault) → opened bytes ≡ Err f → container_at MAX_VALUES bytes ≡ Err f
unfolding container_at
not_opened bytes f e = elim (bind_err (header_at MAX_VALUES bytes) (with_header bytes) f (sym (opened_is bytes) ∙ e)) [
  | inl failed ↦ rw failed refl
  | inr h ↦ elim (bind_err (step_of (length bytes) (schema_in h.0.0)) (with_schema bytes h.0) f h.2) [
    | inl failed ↦ rw (h.1, failed) refl
    | inr t ↦ elim (bind_err (step_of (length bytes) (codec_in h.0.0)) (with_codec bytes h.0 t.0) f t.2) [
      | inl failed ↦ rw (h.1, t.1, failed) refl
      | inr p ↦ absurd (let q = p.2 in cc)
    ]
  ]
]

header_flaw : (bytes : List ℕ) (f : ContainerFault) → is_short f.flaw ≡ false → FaultsInHeader MAX_VALUES bytes f ⊎ (f.flaw ≡ flaw.BadSchema) ⊎ (f.flaw ≡ flaw.Codec) → is_header_flaw f.flaw ≡ true
header_flaw bytes f long (inl (inl (lt, at))) = absurd (not_short f long at.0)
header_flaw bytes f long (inl (inr (inl (front, rest, parts, len, other, at)))) = ap is_header_flaw at.0
header_flaw bytes f long (inl (inr (inr (inl (rest, g, parts, h, inl (fault, at)))))) = absurd (not_short f long at.0)
header_flaw bytes f long (inl (inr (inr (inl (rest, g, parts, h, inr (fault, bad, left)))))) = ap is_header_flaw bad
header_flaw bytes f long (inl (inr (inr (inr (meta, map, rest, parts, is_map, few, lt, at))))) = absurd (not_short f long at.0)
header_flaw bytes f long (inr (inl bad)) = ap is_header_flaw bad
header_flaw bytes f long (inr (inr codec)) = ap is_header_flaw codec

-- a fault that is refused
refused_at : (place : Place) (schema : Option SchemaTree) (offset : ℕ) (rest : List ℕ) (f : ContainerFault) (r : Refusal) (v : Bool) → is_short f.flaw ≡ v → ◌≡◌ {A = State} (stopped place schema offset rest f) (Err r)
    → (is_short f.flaw ≡ false) × (r.error ≡ flaw_error f.flaw (further offset (length rest - f.left))) × (r.schema ≡ schema)
refused_at place schema offset rest f r true short is = absurd (let no : ◌≡◌ {A = State} (Ok place) (Err r) = rw short at is in cc)
refused_at place schema offset rest f r false long is =
    let all : ◌≡◌ {A = State} (Err (record { error = flaw_error f.flaw (further offset (length rest - f.left)); schema = schema })) (Err r) = rw long at is in
    let same : record { error = flaw_error f.flaw (further offset (length rest - f.left)); schema = schema } ≡ r = cc in
    (long, ap (λ (q : Refusal). q.error) (sym same), ap (λ (q : Refusal). q.schema) (sym same))

refuses_next : (bytes : List ℕ) (r : Refusal) (values : List (List ValueTree)) → length bytes < 2 ^ 64 - 1 → fed nothing_read bytes ≡ (Err r, values) → RefusesNext bytes values r
refuses_next bytes r values small is = go (opened bytes) refl is
  where
    go : (q : Step Behind) → opened bytes ≡ q → after_header bytes q ≡ (Err r, values) → RefusesNext bytes values r
    go (Ok b0) opening e =
        let o = opens bytes b0 (omega arith) opening in
        let before = o.offset in
        let len : length bytes ≡ length o.header + length b0.rest = ap length o.parts ∙ length-append o.header b0.rest in
        let to = subst (λ (q : Fed). ReadTo b0 q.1 q.0) e (read_to (length b0.rest + 1) b0 (omega arith) (omega (arith, before, len))) in
        let no = refused_at (in_blocks to.end) (Some to.end.schema) to.end.offset to.end.rest to.fault r (is_short to.fault.flaw) refl (sym to.state) in
        let h = block_faulty (layout_of to.end.schema) to.end.marker to.end.rest to.end.budget to.fault to.stops in
        let offset = to.offset in
        let ends : length b0.rest ≡ length to.blocks + length to.end.rest = ap length to.parts ∙ length-append to.blocks to.end.rest in
        let place = place_is to.end.offset (length to.end.rest) to.fault.left (length bytes) (omega (arith, offset, before, len, ends)) (omega arith) h.within in
        inr (to.end, stands bytes b0 values (Err r) o to, no.2, (to.fault, h.fault, not_short to.fault no.0, no.1 ∙ ap (flaw_error to.fault.flaw) place))
    go (Err f) opening e =
        let no = refused_at (in_header bytes) (schema_at bytes) 0 bytes f r (is_short f.flaw) refl (ap (λ (q : Fed). q.0) e) in
        let place : further 0 (length bytes - f.left) ≡ length bytes - f.left = omega arith in
        inl (sym (ap (λ (q : Fed). q.1) e), (f, (container_faulty MAX_VALUES bytes f (not_opened bytes f opening)).fault, header_flaw bytes f no.0 (opened_faulty bytes f opening), no.1 ∙ ap (flaw_error f.flaw) place))

-- ---- any cut

kept_of : (bytes : List ℕ) (r : Fed) → length bytes < 2 ^ 64 - 1 → fed nothing_read bytes ≡ r → IfOk r.0 (Keeps bytes r.1)
kept_of bytes (Ok (in_header kept), values) small is = keeps_header bytes kept values small is
kept_of bytes (Ok (in_blocks b), values) small is = keeps_behind bytes b values small is
kept_of bytes (Err e, values) small is = tt

refused_of : (bytes : List ℕ) (r : Fed) → length bytes < 2 ^ 64 - 1 → fed nothing_read bytes ≡ r → IfErr r.0 (RefusesNext bytes r.1)
refused_of bytes (Ok place, values) small is = tt
refused_of bytes (Err e, values) small is = refuses_next bytes e values small is

pub pieces_kept : (pieces : List (List ℕ)) (state : State) → state ≡ (fed_all pieces).0 → length (concat pieces) < 2 ^ 64 - 1 → IfOk state (Keeps (concat pieces) (fed_all pieces).1)
pieces_kept pieces state read small =
    subst (λ (s : State). IfOk s (Keeps (concat pieces) (fed_all pieces).1)) (sym read) (kept_of (concat pieces) (fed_all pieces) small (sym (any_cut pieces)))

pub pieces_refused : (pieces : List (List ℕ)) (state : State) → state ≡ (fed_all pieces).0 → length (concat pieces) < 2 ^ 64 - 1 → IfErr state (RefusesNext (concat pieces) (fed_all pieces).1)
pieces_refused pieces state read small =
    subst (λ (s : State). IfErr s (RefusesNext (concat pieces) (fed_all pieces).1)) (sym read) (refused_of (concat pieces) (fed_all pieces) small (sym (any_cut pieces)))
