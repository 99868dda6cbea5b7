-- What the parts of a call come to together.
use Rattle.std.proofs.Common.{◌≡◌, ℕ, ◌-◌, ◌^◌, ◌<◌, Bool, true, false, cond, List, [], ◌++◌, length, drop, Some, None, Ok, Err, refl, sym, ap, subst, ◌∙◌, arith, inl, inr}
use Rattle.avro_schema.specs.Tree.{SchemaTree, tree_of}
use Rattle.avro_value.specs.declared.api.TheConstants.{MAX_VALUES}
use Rattle.avro_value.proofs.NumberLaws.{bind_ok, ok_is}
use Rattle.avro_container.specs.declared.error.ContainerError.{ContainerError}
use Rattle.avro_container.specs.declared.fault.Flaw.TheVariants as flaw
use Rattle.avro_container.specs.declared.fault.ContainerFault.{ContainerFault}
use Rattle.avro_container.specs.Laws.{flaw_error}
use Rattle.avro_container.specs.Reading.{step_of, header_at, schema_in}
use Rattle.avro_container.proofs.Headers.{header_takes}
use Rattle.avro_feeding.specs.declared.header.Named.{Named}
use Rattle.avro_feeding.specs.declared.header.Opened.{Opened}
use Rattle.avro_feeding.specs.declared.place.Refused.{Refused}
use Rattle.avro_feeding.specs.Calls.{option_tree, refusal_of}
use Rattle.avro_feeding.specs.Feeding.{Behind, in_header, in_blocks, State, Fed, is_short, further, refusal, waits_or_refused, stopped, opened, schema_at, read_blocks, read_header, schema_of_state}
use Rattle.avro_feeding.specs.Views.{Summary, summary, without_memory, IsFedBy, IsReadOn, IsJudged, IsOpened, IsReadHeader, behind_opened, named_at}
use Rattle.avro_feeding.proofs.HeaderLemmas.{HeaderParts, with_name, named_is, opened_by_codec, opened_other_codec, opened_unnamed, schema_unnamed, schema_named_so, schema_on, schema_of_read}
use Rattle.avro_feeding.proofs.RunLemmas.{rest_is}

-- ---- opening the header

abbrev pub parts_of : Named → HeaderParts × SchemaTree
parts_of n = ((n.header.meta.items, n.header.marker.now, n.header.blocks.now), tree_of n.schema)

blocks_of : (bytes : List ℕ) (n : HeaderParts × SchemaTree) → named_at bytes ≡ Ok n → drop (length bytes - length n.0.2) bytes ≡ n.0.2
blocks_of bytes n is =
    let h = bind_ok (header_at MAX_VALUES bytes) (with_name bytes) n (sym (named_is bytes) ∙ is) in
    let t = bind_ok (step_of (length bytes) (schema_in h.0.0)) (λ t. Ok (h.0, t)) n h.2 in
    let same : h.0 ≡ n.0 = ap (λ (m : HeaderParts × SchemaTree). m.0) (ok_is (h.0, t.0) n t.2) in
    let taken = header_takes MAX_VALUES bytes h.0 h.1 in
    subst (λ (p : HeaderParts). drop (length bytes - length p.2) bytes ≡ p.2) same (rest_is bytes taken.header h.0.2 taken.parts)

pub opens_plain : (bytes : List ℕ) (n : Named) (o : Opened) → named_at bytes ≡ Ok (parts_of n) → IsJudged n (Ok o) → IsOpened bytes (Ok (Some o))
opens_plain bytes n o is (plain, schema, marker, left) =
    let rest : drop (length bytes - o.left) bytes ≡ n.header.blocks.now = rw left (blocks_of bytes (parts_of n) is) in
    opened_by_codec bytes (parts_of n) is plain ∙ rw (schema, marker, rest, left) refl

pub opens_other : (bytes : List ℕ) (n : Named) (r : Refused) → named_at bytes ≡ Ok (parts_of n) → IsJudged n (Err r) → IsOpened bytes (Err r)
opens_other bytes n r is (schema, inl memory) = inr (memory, inr (schema ∙ sym (schema_named_so bytes (parts_of n) is)))
opens_other bytes n r is (schema, inr (codec, other)) =
    inl (record { flaw = flaw.Codec; left = length bytes }, opened_other_codec bytes (parts_of n) is other, rw (schema_named_so bytes (parts_of n) is, schema, codec) refl)

waits_short : (v : Bool) (e : ContainerError) → (cond v None (Some e)) ≡ None → v ≡ true
waits_short true e is = refl
waits_short false e is = absurd (cc)

pub opens_waiting : (bytes : List ℕ) (f : ContainerFault) → named_at bytes ≡ Err f → refusal 0 bytes f ≡ None → IsOpened bytes (Ok None)
opens_waiting bytes f is waits = (f, opened_unnamed bytes f is, waits_short (is_short f.flaw) (flaw_error f.flaw (further 0 (length bytes - f.left))) waits)

pub opens_faulty : (bytes : List ℕ) (f : ContainerFault) (r : Refused) → named_at bytes ≡ Err f → refusal 0 bytes f ≡ Some r.error → option_tree r.schema ≡ None → IsOpened bytes (Err r)
opens_faulty bytes f r is refused none =
    inl (f, opened_unnamed bytes f is, ap (waits_or_refused (in_header bytes) (schema_at bytes)) refused ∙ rw (schema_unnamed bytes f is, none) refl)

-- ---- the header and what stands behind it

abbrev pub behind_at : Opened → ℕ → List ℕ → Behind
behind_at o offset rest = record { schema = tree_of o.schema; marker = o.marker; offset = offset; rest = rest; budget = MAX_VALUES }

pub behind_dropped : (bytes : List ℕ) (o : Opened) (offset : ℕ) (rest : List ℕ) (s : Summary) → length bytes < 2 ^ 64 → offset ≡ length bytes - o.left → rest ≡ drop offset bytes → IsReadOn (behind_at o offset rest) s → IsReadOn (behind_opened bytes o) s
behind_dropped bytes o offset rest s small place behind read =
    let at : offset ≡ further 0 (length bytes - o.left) = omega (arith, place) in
    let kept : rest ≡ drop (length bytes - o.left) bytes = behind ∙ ap (λ (n : ℕ). drop n bytes) place in
    subst (λ (n : ℕ). IsReadOn (behind_at o n (drop (length bytes - o.left) bytes)) s) at (subst (λ (l : List ℕ). IsReadOn (behind_at o offset l) s) kept read)

pub header_goes : (bytes slice : List ℕ) (o : Opened) (s : Summary) → slice ≡ bytes → IsOpened slice (Ok (Some o)) → IsReadOn (behind_opened bytes o) s → IsReadHeader bytes s
header_goes bytes slice o s same opening read = by read
  where
    opens : opened bytes ≡ Ok (behind_opened bytes o)
    opens = subst (λ (l : List ℕ). opened l ≡ Ok (behind_opened l o)) same opening

    is : read_header bytes ≡ read_blocks (behind_opened bytes o)
    is = rw opens refl

    by : IsReadOn (behind_opened bytes o) s → IsReadHeader bytes s
    by (inl h) = inl (h ∙ ap summary (sym is))
    by (inr h) = inr (inr (h ∙ ap without_memory (sym (ap (λ (r : Fed). schema_of_state r.0) is ∙ schema_on _ (behind_opened bytes o)))))

abbrev with_none : State → Summary
with_none t = (t, None)

pub header_stops : (bytes slice : List ℕ) (r : Refused) → slice ≡ bytes → IsOpened slice (Err r) → IsReadHeader bytes (Err (refusal_of r), None)
header_stops bytes slice r same h = by (subst (λ (l : List ℕ). IsOpened l (Err r)) same h)
  where
    by : IsOpened bytes (Err r) → IsReadHeader bytes (Err (refusal_of r), None)
    by (inl (f, opening, stops)) =
        let is : read_header bytes ≡ (stopped (in_header bytes) (schema_at bytes) 0 bytes f, []) = rw opening refl in
        inl (ap with_none (sym stops) ∙ ap summary (sym is))
    by (inr (memory, inl none)) = inr (inl (rw (memory, none) refl))
    by (inr (memory, inr known)) = inr (inr (rw (memory, known, schema_of_read bytes) refl))

-- ---- a piece more

pub blocks_fed : (b : Behind) (piece rest : List ℕ) (s : Summary) → rest ≡ b.rest ++ piece → IsReadOn (record b { rest = rest }) s → IsFedBy (Ok (in_blocks b)) piece s
blocks_fed b piece rest s same h = by (subst (λ (r : List ℕ). IsReadOn (record b { rest = r }) s) same h)
  where
    by : IsReadOn (record b { rest = b.rest ++ piece }) s → IsFedBy (Ok (in_blocks b)) piece s
    by (inl is) = inl is
    by (inr memory) = inr (inl memory)

pub header_fed : (kept piece bytes : List ℕ) (s : Summary) → bytes ≡ kept ++ piece → IsReadHeader bytes s → IsFedBy (Ok (in_header kept)) piece s
header_fed kept piece bytes s same h = subst (λ (l : List ℕ). IsReadHeader l s) same h
