-- The end of pieces gives what reading all of their bytes gives.
use Rattle.std.proofs.Common.{◌≡◌, ℕ, zero, suc, ◌+◌, ◌-◌, ◌^◌, ◌<◌, ◌≤◌, Bool, true, false, List, [], ◌∷◌, ◌++◌, length, Result, Ok, Err, refl, sym, ap, subst, ◌∙◌, arith, inl}
use Rattle.std.proofs.lemmas.List.{length-append}
use Rattle.std.proofs.lemmas.List.Concat.{flat_map-cons}
use Rattle.lake_basics.specs.Outcome.{◌>>=◌}
use Rattle.avro_schema.specs.Tree.{SchemaTree}
use Rattle.avro_value.specs.declared.api.TheConstants.{MAX_VALUES}
use Rattle.avro_value.specs.declared.fault.Fault.TheVariants.{Short}
use Rattle.avro_value.specs.Layout.{layout_of}
use Rattle.avro_value.specs.ValueTree.{ValueTree}
use Rattle.avro_container.specs.declared.error.ContainerError.{ContainerError}
use Rattle.avro_container.specs.declared.error.ContainerError.TheVariants as errors
use Rattle.avro_container.specs.declared.fault.Flaw.{Flaw}
use Rattle.avro_container.specs.declared.fault.Flaw.TheVariants as flaw
use Rattle.avro_container.specs.declared.fault.ContainerFault.{ContainerFault}
use Rattle.avro_container.specs.Format.{Pairs}
use Rattle.avro_container.specs.Laws.{flaw_error, error_of}
use Rattle.avro_container.specs.Reading.{Step, flaw_at, step_of, header_at, schema_in, codec_in, block_at, blocks_at, container_at}
use Rattle.avro_value.proofs.NumberLaws.{bind_ok, ok_is}
use Rattle.avro_container.proofs.BlockRefusals.{block_refused}
use Rattle.avro_container.proofs.ContainerLoops.{some_blocks}
use Rattle.avro_container.proofs.Headers.{header_takes}
use Rattle.avro_container.proofs.WholeBlocks.{block_faulty}
use Rattle.avro_feeding.specs.Feeding.{Behind, in_blocks, Fed, nothing_read, is_short, further, opened, behind_block, with_block, after_block, read_on, after_header, joined, ended, fed}
use Rattle.avro_feeding.proofs.BlockStays.{block_waits}
use Rattle.avro_feeding.proofs.PieceLemmas.{block_in, shorter, opened_waits, flag, header_flag, with_header, with_schema, with_codec, opened_is}

-- the values that reading an input of that length gives, or its refusal
abbrev pub answer : ℕ → Step (Pairs × SchemaTree × List ValueTree) → Result (List ValueTree) ContainerError
answer len (Ok c) = Ok c.2
answer len (Err f) = Err (error_of len f)

-- all values, where the bytes may end here
abbrev pub all_values : Fed → Result (List ValueTree) ContainerError
all_values r = ended r.0 >>= λ _. Ok (joined r.1)

pub short_is : (what : Flaw) → is_short what ≡ true → what ≡ flaw.Short
short_is flaw.Short e = refl
short_is flaw.BadMagic e = absurd (cc)
short_is flaw.BadMeta e = absurd (cc)
short_is flaw.BadSchema e = absurd (cc)
short_is flaw.Codec e = absurd (cc)
short_is flaw.BadBlock e = absurd (cc)
short_is (flaw.Value r) e = absurd (cc)
short_is flaw.BadSync e = absurd (cc)

-- ---- blocks

-- the values that reading blocks gives, in an input of that length
abbrev values_in : ℕ → Step (List ValueTree) → Result (List ValueTree) ContainerError
values_in len (Ok vs) = Ok vs
values_in len (Err f) = Err (error_of len f)

-- no block stands where there are no bytes
pub none_waits : (b : Behind) → b.rest ≡ [] → block_in b ≡ Err (flaw_at flaw.Short 0)
none_waits b none =
    ap (λ (r : List ℕ). block_at (layout_of b.schema) b.marker r b.budget) none
    ∙ block_refused (layout_of b.schema) b.marker [] b.budget (flaw_at flaw.Short 0) (inl (Short, inl (inl (refl, tt, omega arith)), inl (refl, (refl, refl))))

front_values : (vs : List ValueTree) (r : Fed) → all_values (with_block vs r) ≡ (all_values r >>= λ more. Ok (vs ++ more))
front_values vs r = go (ended r.0)
  where
    go : (e : Result (Unit {0}) ContainerError) → (e >>= λ _. Ok (joined (vs ∷ r.1))) ≡ ((e >>= λ _. Ok (joined r.1)) >>= λ more. Ok (vs ++ more))
    go (Ok u) = ap Ok (flat_map-cons (λ (ws : List ValueTree). ws) vs r.1)
    go (Err e) = refl

front_read : (len : ℕ) (vs : List ValueTree) (q : Step (List ValueTree)) → (values_in len q >>= λ more. Ok (vs ++ more)) ≡ values_in len (q >>= λ more. Ok (vs ++ more))
front_read len vs (Ok more) = refl
front_read len vs (Err f) = refl

abbrev EndsAt : ℕ → Type 0
EndsAt fuel = (b : Behind) (len : ℕ) → length b.rest < fuel → b.offset + length b.rest ≡ len → len < 2 ^ 64 → all_values (read_on fuel b) ≡ values_in len (blocks_at (layout_of b.schema) b.marker fuel b.rest b.budget)

-- the place of a fault behind the offset
pub place_is : (offset rest left len : ℕ) → offset + rest ≡ len → len < 2 ^ 64 → left ≤ rest → further offset (rest - left) ≡ len - left
place_is offset rest left len sum small le = omega arith

-- what the end makes of bytes that wait
waiting : (b : Behind) → 0 < length b.rest → ended (Ok (in_blocks b)) ≡ Err (errors.Short b.offset)
waiting b some = go b.rest some
  where
    go : (r : List ℕ) → 0 < length r → ◌≡◌ {A = Result (Unit {0}) ContainerError} (elim r as (λ _. Result (Unit {0}) ContainerError) [ [] ↦ Ok tt | c ∷ rest ↦ Err (errors.Short b.offset) ]) (Err (errors.Short b.offset))
    go [] lt = absurd (omega arith)
    go (c ∷ rest) lt = refl

at_end : (b : Behind) → b.rest ≡ [] → ended (Ok (in_blocks b)) ≡ Ok tt
at_end b none = rw none refl

stop_short : (b : Behind) (len : ℕ) (f : ContainerFault) → 0 < length b.rest → b.offset + length b.rest ≡ len → is_short f.flaw ≡ true → f.left ≡ length b.rest → all_values (after_block b (read_on 0) (Err f)) ≡ Err (error_of len f)
stop_short b len f some sum short left =
    let place : b.offset ≡ len - f.left = omega arith in
    let what : flaw_error f.flaw (len - f.left) ≡ errors.Short (len - f.left) = ap (λ (w : Flaw). flaw_error w (len - f.left)) (short_is f.flaw short) in
    rw (short, waiting b some) (ap Err (ap errors.Short place ∙ sym what))

stop_flaw : (b : Behind) (len : ℕ) (f : ContainerFault) → b.offset + length b.rest ≡ len → len < 2 ^ 64 → is_short f.flaw ≡ false → f.left ≤ length b.rest → all_values (after_block b (read_on 0) (Err f)) ≡ Err (error_of len f)
stop_flaw b len f sum small long le = rw long (ap (λ (n : ℕ). Err (flaw_error f.flaw n)) (place_is b.offset (length b.rest) f.left len sum small le))

end_step : (fuel : ℕ) → EndsAt fuel → (b : Behind) (len : ℕ) (r : Step (List ValueTree × List ℕ × ℕ)) (v : Bool) → block_in b ≡ r → ((f : ContainerFault) → r ≡ Err f → is_short f.flaw ≡ v) → 0 < length b.rest → length b.rest < suc fuel → b.offset + length b.rest ≡ len → len < 2 ^ 64
    → all_values (after_block b (read_on fuel) r) ≡ values_in len (r >>= λ block. blocks_at (layout_of b.schema) b.marker fuel block.1 block.2 >>= λ more. Ok (block.0 ++ more))
end_step fuel rec b len (Ok x) v is which some lt sum small =
    let less = shorter b x is in
    let here : further b.offset (length b.rest - length x.1) + length x.1 ≡ len = omega (arith, less) in
    front_values x.0 (read_on fuel (behind_block b x))
    ∙ ap (λ (q : Result (List ValueTree) ContainerError). q >>= λ more. Ok (x.0 ++ more)) (rec (behind_block b x) len (omega (arith, less)) here small)
    ∙ front_read len x.0 (blocks_at (layout_of b.schema) b.marker fuel x.1 x.2)
end_step fuel rec b len (Err f) true is which some lt sum small = stop_short b len f some sum (which f refl) (block_waits (layout_of b.schema) b.marker b.rest b.budget f (which f refl) is)
end_step fuel rec b len (Err f) false is which some lt sum small = let h = block_faulty (layout_of b.schema) b.marker b.rest b.budget f is in stop_flaw b len f sum small (which f refl) h.within

ends_here : (fuel : ℕ) (b : Behind) (len : ℕ) → b.rest ≡ [] → all_values (read_on (suc fuel) b) ≡ values_in len (blocks_at (layout_of b.schema) b.marker (suc fuel) b.rest b.budget)
unfolding read_on blocks_at
ends_here fuel b len none = rw (none_waits b none, at_end b none, none) refl

some_end : (fuel : ℕ) → EndsAt fuel → (b : Behind) (len c : ℕ) (rest : List ℕ) → b.rest ≡ c ∷ rest → length b.rest < suc fuel → b.offset + length b.rest ≡ len → len < 2 ^ 64
    → all_values (read_on (suc fuel) b) ≡ values_in len (blocks_at (layout_of b.schema) b.marker (suc fuel) b.rest b.budget)
unfolding read_on
some_end fuel rec b len c rest is lt sum small =
    let v = flag (block_in b) in
    let some : 0 < length b.rest = omega (arith, ap length is) in
    end_step fuel rec b len (block_in b) v.0 refl v.1 some lt sum small ∙ ap (values_in len) (sym (some_blocks (layout_of b.schema) b.marker fuel b.rest b.budget some))

by_rest : (fuel : ℕ) → EndsAt fuel → (b : Behind) (len : ℕ) (r : List ℕ) → b.rest ≡ r → length b.rest < suc fuel → b.offset + length b.rest ≡ len → len < 2 ^ 64
    → all_values (read_on (suc fuel) b) ≡ values_in len (blocks_at (layout_of b.schema) b.marker (suc fuel) b.rest b.budget)
by_rest fuel rec b len [] is lt sum small = ends_here fuel b len is
by_rest fuel rec b len (c ∷ rest) is lt sum small = some_end fuel rec b len c rest is lt sum small

ends_at : (fuel : ℕ) → EndsAt fuel
ends_at zero b len lt sum small = absurd (omega arith)
ends_at (suc fuel) b len lt sum small = by_rest fuel (ends_at fuel) b len b.rest refl lt sum small

-- ---- the whole

-- what reading gives behind the header
abbrev on_from : Behind → Step (List ValueTree)
on_from b = blocks_at (layout_of b.schema) b.marker (length b.rest + 1) b.rest b.budget

abbrev vs_at : Pairs × List ℕ × List ℕ → SchemaTree → Step (List ValueTree)
vs_at h t = blocks_at (layout_of t) h.1 (length h.2 + 1) h.2 MAX_VALUES

whole_is : (bytes : List ℕ) (len : ℕ) → answer len (container_at MAX_VALUES bytes) ≡ values_in len (opened bytes >>= on_from)
unfolding container_at
whole_is bytes len = on_header (header_at MAX_VALUES bytes) ∙ ap (λ (r : Step Behind). values_in len (r >>= on_from)) (sym (opened_is bytes))
  where
    on_blocks : (h : Pairs × List ℕ × List ℕ) (t : SchemaTree) (r : Step (List ValueTree)) → answer len (r >>= λ vs. Ok (h.0, t, vs)) ≡ values_in len r
    on_blocks h t (Ok vs) = refl
    on_blocks h t (Err f) = refl

    on_codec : (h : Pairs × List ℕ × List ℕ) (t : SchemaTree) (r : Step (Unit {0})) → answer len (r >>= λ plain. vs_at h t >>= λ vs. Ok (h.0, t, vs)) ≡ values_in len ((r >>= with_codec bytes h t) >>= on_from)
    on_codec h t (Ok u) = on_blocks h t (vs_at h t)
    on_codec h t (Err f) = refl

    on_schema : (h : Pairs × List ℕ × List ℕ) (r : Step SchemaTree)
        → answer len (r >>= λ t. step_of (length bytes) (codec_in h.0) >>= λ plain. vs_at h t >>= λ vs. Ok (h.0, t, vs)) ≡ values_in len ((r >>= with_schema bytes h) >>= on_from)
    on_schema h (Ok t) = on_codec h t (step_of (length bytes) (codec_in h.0))
    on_schema h (Err f) = refl

    on_header : (r : Step (Pairs × List ℕ × List ℕ))
        → answer len (r >>= λ h. step_of (length bytes) (schema_in h.0) >>= λ t. step_of (length bytes) (codec_in h.0) >>= λ plain. vs_at h t >>= λ vs. Ok (h.0, t, vs)) ≡ values_in len ((r >>= with_header bytes) >>= on_from)
    on_header (Ok h) = on_schema h (step_of (length bytes) (schema_in h.0))
    on_header (Err f) = refl

opened_at : (bytes : List ℕ) (b : Behind) → length bytes < 2 ^ 64 → opened bytes ≡ Ok b → b.offset + length b.rest ≡ length bytes
opened_at bytes b small e =
    let h = bind_ok (header_at MAX_VALUES bytes) (with_header bytes) b (sym (opened_is bytes) ∙ e) in
    let t = bind_ok (step_of (length bytes) (schema_in h.0.0)) (with_schema bytes h.0) b h.2 in
    let p = bind_ok (step_of (length bytes) (codec_in h.0.0)) (with_codec bytes h.0 t.0) b t.2 in
    let taken = header_takes MAX_VALUES bytes h.0 h.1 in
    let len : length bytes ≡ length taken.header + length h.0.2 = ap length taken.parts ∙ length-append taken.header h.0.2 in
    subst (λ (c : Behind). c.offset + length c.rest ≡ length bytes) (ok_is _ b p.2) (omega (arith, len))

end_header : (bytes : List ℕ) (r : Step Behind) (v : Bool) → opened bytes ≡ r → ((f : ContainerFault) → r ≡ Err f → is_short f.flaw ≡ v) → length bytes < 2 ^ 64 → all_values (after_header bytes r) ≡ values_in (length bytes) (r >>= on_from)
end_header bytes (Ok b) v is which small =
    let at = opened_at bytes b small is in
    ends_at (length b.rest + 1) b (length bytes) (omega arith) at small
end_header bytes (Err f) true is which small =
    let left = opened_waits bytes f (which f refl) is in
    let place : 0 ≡ length bytes - f.left = omega (arith, left) in
    let what : flaw_error f.flaw (length bytes - f.left) ≡ errors.Short (length bytes - f.left) = ap (λ (w : Flaw). flaw_error w (length bytes - f.left)) (short_is f.flaw (which f refl)) in
    rw (which f refl) (ap Err (ap errors.Short place ∙ sym what))
end_header bytes (Err f) false is which small =
    let place : further 0 (length bytes - f.left) ≡ length bytes - f.left = omega arith in
    rw (which f refl) (ap (λ (n : ℕ). Err (flaw_error f.flaw n)) place)

pub end_is_whole : (bytes : List ℕ) → length bytes < 2 ^ 64 - 1 → all_values (fed nothing_read bytes) ≡ answer (length bytes) (container_at MAX_VALUES bytes)
end_is_whole bytes small =
    let v = header_flag (opened bytes) in
    end_header bytes (opened bytes) v.0 refl v.1 (omega arith) ∙ sym (whole_is bytes (length bytes))
