-- Two pieces make of what has been read what they make as one.
use Rattle.std.proofs.Common.{◌≡◌, ℕ, zero, suc, ◌+◌, ◌-◌, ◌<◌, Bool, true, false, List, [], ◌∷◌, ◌++◌, length, Result, Ok, Err, refl, sym, ap, ◌∙◌, append_assoc, arith, inl, inr}
use Rattle.std.proofs.lemmas.List.{length-append, append-nil}
use Rattle.std.specs.List.{concat, fold}
use Rattle.lake_basics.specs.Outcome.{◌>>=◌}
use Rattle.avro_schema.specs.Tree.{SchemaTree}
use Rattle.avro_value.specs.declared.api.TheConstants.{MAX_VALUES}
use Rattle.avro_value.specs.Layout.{layout_of}
use Rattle.avro_value.specs.ValueTree.{ValueTree}
use Rattle.avro_value.proofs.NumberLaws.{bind_ok, ok_is}
use Rattle.avro_value.proofs.FaultLaws.{bind_err}
use Rattle.avro_container.specs.declared.fault.ContainerFault.{ContainerFault}
use Rattle.avro_container.specs.declared.fault.Flaw.TheVariants as flaw
use Rattle.avro_container.specs.Format.{Pairs}
use Rattle.avro_container.specs.Reading.{Step, flaw_at, step_of, header_at, schema_in, codec_in, block_at}
use Rattle.avro_container.proofs.Headers.{placed_ok, placed_err, header_refused}
use Rattle.avro_container.proofs.Objects.{fault_is}
use Rattle.avro_container.proofs.WholeBlocks.{block_takes, block_length}
use Rattle.avro_feeding.specs.Feeding.{Behind, in_header, in_blocks, State, Fed, nothing_read, is_short, further, opened, schema_at, behind_block, with_block, after_block, read_on, read_blocks, after_header, read_header, fed, and_fed}
use Rattle.avro_feeding.specs.Laws.{AnyCut}
use Rattle.avro_feeding.proofs.BlockStays.{shifted, header_more, header_fails, header_waits, marker_length, block_more, block_fails}

-- ---- blocks

abbrev pub block_in : Behind → Step (List ValueTree × List ℕ × ℕ)
block_in b = block_at (layout_of b.schema) b.marker b.rest b.budget

pub shorter : (b : Behind) (x : List ValueTree × List ℕ × ℕ) → block_in b ≡ Ok x → length x.1 < length b.rest
shorter b x e =
    let t = block_takes (layout_of b.schema) b.marker b.rest b.budget x e in
    let long = block_length (layout_of b.schema) b.marker x.0 t.front (marker_length (layout_of b.schema) b.marker b.rest b.budget x e) t.spelled in
    let len : length b.rest ≡ length t.front + length x.1 = ap length t.parts ∙ length-append t.front x.1 in
    omega (arith, long, len)

abbrev FuelFree : ℕ → Type 0
FuelFree f = (g : ℕ) (b : Behind) → length b.rest < f → length b.rest < g → read_on f b ≡ read_on g b

fuel_step : (f g : ℕ) → FuelFree f → (b : Behind) (r : Step (List ValueTree × List ℕ × ℕ)) → block_in b ≡ r → length b.rest < suc f → length b.rest < suc g → after_block b (read_on f) r ≡ after_block b (read_on g) r
fuel_step f g free b (Err e) is lt mt = refl
fuel_step f g free b (Ok x) is lt mt = let less = shorter b x is in ap (with_block x.0) (free g (behind_block b x) (omega (arith, less)) (omega (arith, less)))

fuel_free : (f : ℕ) → FuelFree f
unfolding read_on
fuel_free zero g b lt mt = absurd (omega arith)
fuel_free (suc f) zero b lt mt = absurd (omega arith)
fuel_free (suc f) (suc g) b lt mt = fuel_step f g (fuel_free f) b (block_in b) refl lt mt

-- ---- more bytes behind the header

abbrev pub added : Behind → List ℕ → Behind
added b more = record b { rest = b.rest ++ more }

same_taken : (xs ys more : List ℕ) → length (xs ++ more) - length (ys ++ more) ≡ length xs - length ys
same_taken xs ys more = omega (arith, length-append xs more, length-append ys more)

same_left : (xs more : List ℕ) (left : ℕ) → length (xs ++ more) - (left + length more) ≡ length xs - left
same_left xs more left = omega (arith, length-append xs more)

abbrev More : ℕ → Type 0
More f = (b : Behind) (more : List ℕ) (g : ℕ) → length b.rest < f → length b.rest + length more < g → read_on g (added b more) ≡ and_fed (read_on f b) more

wait_more : (b : Behind) (more : List ℕ) (g : ℕ) (e : ContainerFault) (f : ℕ) → length b.rest + length more < g → is_short e.flaw ≡ true → read_on g (added b more) ≡ and_fed (after_block b (read_on f) (Err e)) more
wait_more b more g e f lt short = rw short (fuel_free g (length (b.rest ++ more) + 1) (added b more) (omega (arith, length-append b.rest more)) (omega arith))

fail_more : (b : Behind) (more : List ℕ) (g : ℕ) (e : ContainerFault) (f : ℕ) → is_short e.flaw ≡ false → block_in b ≡ Err e → read_on (suc g) (added b more) ≡ and_fed (after_block b (read_on f) (Err e)) more
unfolding read_on
fail_more b more g e f long is = rw (block_fails (layout_of b.schema) b.marker b.rest more b.budget e long is, long, same_left b.rest more e.left) refl

go_more : (b : Behind) (more : List ℕ) (g : ℕ) (x : List ValueTree × List ℕ × ℕ) (f : ℕ) → More f → length b.rest < suc f → length b.rest + length more < suc g → block_in b ≡ Ok x → read_on (suc g) (added b more) ≡ and_fed (after_block b (read_on f) (Ok x)) more
unfolding read_on
go_more b more g x f rec lt mt is =
    let less = shorter b x is in
    rw (block_more (layout_of b.schema) b.marker b.rest more b.budget x is, same_taken b.rest x.1 more) (ap (with_block x.0) (rec (behind_block b x) more g (omega (arith, less)) (omega (arith, less))))

more_step : (f g : ℕ) → More f → (b : Behind) (more : List ℕ) (r : Step (List ValueTree × List ℕ × ℕ)) (v : Bool) → block_in b ≡ r → ((e : ContainerFault) → r ≡ Err e → is_short e.flaw ≡ v) → length b.rest < suc f → length b.rest + length more < suc g
    → read_on (suc g) (added b more) ≡ and_fed (after_block b (read_on f) r) more
more_step f g rec b more (Ok x) v is which lt mt = go_more b more g x f rec lt mt is
more_step f g rec b more (Err e) true is which lt mt = wait_more b more (suc g) e f mt (which e refl)
more_step f g rec b more (Err e) false is which lt mt = fail_more b more g e f (which e refl) is

pub flag : (r : Step (List ValueTree × List ℕ × ℕ)) → (v : Bool) × ((e : ContainerFault) → r ≡ Err e → is_short e.flaw ≡ v)
flag (Ok x) = (true, λ e h. absurd (cc))
flag (Err f) = (is_short f.flaw, λ e h. let same : f ≡ e = cc in ap (λ (k : ContainerFault). is_short k.flaw) (sym same))

blocks_more : (f : ℕ) → More f
unfolding read_on
blocks_more zero b more g lt mt = absurd (omega arith)
blocks_more (suc f) b more zero lt mt = absurd (omega arith)
blocks_more (suc f) b more (suc g) lt mt = let v = flag (block_in b) in more_step f g (blocks_more f) b more (block_in b) v.0 refl v.1 lt mt

pub read_more : (b : Behind) (more : List ℕ) → read_blocks (added b more) ≡ and_fed (read_blocks b) more
read_more b more = blocks_more (length b.rest + 1) b more (length (b.rest ++ more) + 1) (omega arith) (omega (arith, length-append b.rest more))

-- ---- more bytes behind bytes that may not end the header

abbrev pub with_codec : List ℕ → Pairs × List ℕ × List ℕ → SchemaTree → Unit {0} → Step Behind
with_codec bytes header t plain = Ok (record { schema = t; marker = header.1; offset = further 0 (length bytes - length header.2); rest = header.2; budget = MAX_VALUES })

abbrev pub with_schema : List ℕ → Pairs × List ℕ × List ℕ → SchemaTree → Step Behind
with_schema bytes header t = step_of (length bytes) (codec_in header.0) >>= with_codec bytes header t

abbrev pub with_header : List ℕ → Pairs × List ℕ × List ℕ → Step Behind
with_header bytes header = step_of (length bytes) (schema_in header.0) >>= with_schema bytes header

pub opened_is : (bytes : List ℕ) → opened bytes ≡ (header_at MAX_VALUES bytes >>= with_header bytes)
unfolding opened
opened_is bytes = refl

opened_more : (bytes more : List ℕ) (b : Behind) → opened bytes ≡ Ok b → opened (bytes ++ more) ≡ Ok (added b more)
opened_more bytes more b e =
    let h = bind_ok (header_at MAX_VALUES bytes) (with_header bytes) b (sym (opened_is bytes) ∙ e) in
    let t = bind_ok (step_of (length bytes) (schema_in h.0.0)) (with_schema bytes h.0) b h.2 in
    let p = bind_ok (step_of (length bytes) (codec_in h.0.0)) (with_codec bytes h.0 t.0) b t.2 in
    let schema = placed_ok (length bytes) (schema_in h.0.0) t.0 t.1 in
    let codec = placed_ok (length bytes) (codec_in h.0.0) p.0 p.1 in
    opened_is (bytes ++ more) ∙ rw (header_more MAX_VALUES bytes more h.0 h.1, schema, codec, same_taken bytes h.0.2 more) (ap (λ (c : Behind). Ok (added c more)) (ok_is _ b p.2))

placed_fails : {A : Type 0} (bytes more : List ℕ) (r : Result A _) (f : ContainerFault) → step_of (length bytes) r ≡ Err f → step_of (length (bytes ++ more)) r ≡ Err (shifted f more)
placed_fails bytes more r f e =
    let h = placed_err (length bytes) r f e in
    let left = h.1 in
    rw h.0 (ap Err (fault_is (shifted f more) f.flaw (length (bytes ++ more)) refl (omega (arith, left, length-append bytes more))))

opened_fails : (bytes more : List ℕ) (f : ContainerFault) → is_short f.flaw ≡ false → opened bytes ≡ Err f → opened (bytes ++ more) ≡ Err (shifted f more)
opened_fails bytes more f long e = opened_is (bytes ++ more) ∙ elim (bind_err (header_at MAX_VALUES bytes) (with_header bytes) f (sym (opened_is bytes) ∙ e)) [
  | inl failed ↦ rw (header_fails MAX_VALUES bytes more f long failed) refl
  | inr h ↦ elim (bind_err (step_of (length bytes) (schema_in h.0.0)) (with_schema bytes h.0) f h.2) [
    | inl failed ↦ rw (header_more MAX_VALUES bytes more h.0 h.1, placed_fails bytes more (schema_in h.0.0) f failed) refl
    | inr t ↦ elim (bind_err (step_of (length bytes) (codec_in h.0.0)) (with_codec bytes h.0 t.0) f t.2) [
      | inl failed ↦ rw (header_more MAX_VALUES bytes more h.0 h.1, placed_ok (length bytes) (schema_in h.0.0) t.0 t.1, placed_fails bytes more (codec_in h.0.0) f failed) refl
      | inr p ↦ absurd (let q = p.2 in cc)
    ]
  ]
]

pub opened_waits : (bytes : List ℕ) (f : ContainerFault) → is_short f.flaw ≡ true → opened bytes ≡ Err f → f.left ≡ length bytes
opened_waits bytes f short e = elim (bind_err (header_at MAX_VALUES bytes) (with_header bytes) f (sym (opened_is bytes) ∙ e)) [
  | inl failed ↦ header_waits MAX_VALUES bytes f short failed
  | inr h ↦ elim (bind_err (step_of (length bytes) (schema_in h.0.0)) (with_schema bytes h.0) f h.2) [
    | inl failed ↦ (placed_err (length bytes) (schema_in h.0.0) f failed).1
    | inr t ↦ elim (bind_err (step_of (length bytes) (codec_in h.0.0)) (with_codec bytes h.0 t.0) f t.2) [
      | inl failed ↦ (placed_err (length bytes) (codec_in h.0.0) f failed).1
      | inr p ↦ absurd (let q = p.2 in cc)
    ]
  ]
]

schema_stays : (bytes more : List ℕ) (f : ContainerFault) → is_short f.flaw ≡ false → opened bytes ≡ Err f → schema_at (bytes ++ more) ≡ schema_at bytes
unfolding schema_at
schema_stays bytes more f long e = elim (bind_err (header_at MAX_VALUES bytes) (with_header bytes) f (sym (opened_is bytes) ∙ e)) [
  | inl failed ↦ rw (header_fails MAX_VALUES bytes more f long failed, failed) refl
  | inr h ↦ rw (header_more MAX_VALUES bytes more h.0 h.1, h.1) refl
]

header_step : (bytes more : List ℕ) (r : Step Behind) (v : Bool) → opened bytes ≡ r → ((f : ContainerFault) → r ≡ Err f → is_short f.flaw ≡ v) → read_header (bytes ++ more) ≡ and_fed (after_header bytes r) more
header_step bytes more (Ok b) v is which = rw (opened_more bytes more b is) (read_more b more)
header_step bytes more (Err f) true is which = rw (which f refl) refl
header_step bytes more (Err f) false is which = rw (opened_fails bytes more f (which f refl) is, which f refl, same_left bytes more f.left, schema_stays bytes more f (which f refl) is) refl

pub header_flag : (r : Step Behind) → (v : Bool) × ((f : ContainerFault) → r ≡ Err f → is_short f.flaw ≡ v)
header_flag (Ok b) = (true, λ f h. absurd (cc))
header_flag (Err e) = (is_short e.flaw, λ f h. let same : e ≡ f = cc in ap (λ (k : ContainerFault). is_short k.flaw) (sym same))

header_pieces : (bytes more : List ℕ) → read_header (bytes ++ more) ≡ and_fed (read_header bytes) more
header_pieces bytes more = let v = header_flag (opened bytes) in header_step bytes more (opened bytes) v.0 refl v.1

pub pieces_join : (state : State) (p q : List ℕ) → fed state (p ++ q) ≡ and_fed (fed state p) q
pieces_join (Ok (in_header kept)) p q = ap read_header (sym (append_assoc kept p q)) ∙ header_pieces (kept ++ p) q
pieces_join (Ok (in_blocks b)) p q = ap (λ (r : List ℕ). read_blocks (record b { rest = r })) (sym (append_assoc b.rest p q)) ∙ read_more (added b p) q
pieces_join (Err e) p q = refl

-- ---- any number of pieces

nothing_more : fed nothing_read [] ≡ (nothing_read, [])
nothing_more =
    let short = header_refused MAX_VALUES [] (flaw_at flaw.Short 0) (inl (omega arith, (refl, refl))) in
    ap (after_header []) (opened_is [] ∙ ap (λ (h : Step (Pairs × List ℕ × List ℕ)). h >>= with_header []) short)

pieces_behind : (state : State) (front : List ℕ) (pieces : List (List ℕ)) → fold and_fed (fed state front) pieces ≡ fed state (front ++ concat pieces)
pieces_behind state front [] = ap (fed state) (sym (append-nil front))
pieces_behind state front (p ∷ pieces) =
    ap (λ (r : Fed). fold and_fed r pieces) (sym (pieces_join state front p)) ∙ pieces_behind state (front ++ p) pieces ∙ ap (fed state) (append_assoc front p (concat pieces))

pub any_cut : AnyCut
any_cut pieces = ap (λ (r : Fed). fold and_fed r pieces) (sym nothing_more) ∙ pieces_behind nothing_read [] pieces
