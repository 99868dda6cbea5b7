-- What is refused before the end of the bytes, by what reading makes of them.
use Rattle.std.proofs.Common.{◌≡◌, inl, inr, ℕ, ◌+◌, ◌-◌, ◌^◌, ◌<◌, true, false, List, [], ◌∷◌, ◌++◌, length, Option, Some, Ok, Err, refl, sym, ap, subst, ◌∙◌, append_assoc, arith}
use Rattle.std.specs.List.{concat}
use Rattle.std.specs.Prelude.{IfErr, IfOk}
use Rattle.std.proofs.lemmas.List.{append-nil}
use Rattle.lake_basics.specs.Outcome.{◌>>=◌}
use Rattle.lake_basics.proofs.Truth.{true_not_false}
use Rattle.avro_schema.specs.Tree.{SchemaTree}
use Rattle.avro_value.specs.Layout.{Layout, layout_of}
use Rattle.avro_value.specs.ValueTree.{ValueTree, value_count, total}
use Rattle.avro_value.specs.declared.api.TheConstants.{MAX_VALUES}
use Rattle.avro_value.specs.declared.fault.Fault.{Fault}
use Rattle.avro_value.specs.declared.fault.Fault.TheVariants as value
use Rattle.avro_value.proofs.BlockLaws.{total-append}
use Rattle.avro_value.proofs.FaultLaws.{bind_err, err_is}
use Rattle.avro_container.specs.Faults.{FaultsInBlock, FaultsInNumber, IsFirstFlaw}
use Rattle.avro_container.specs.Laws.{flaw_error}
use Rattle.avro_container.specs.Reading.{Step, blocks_at, codec_in, header_at, schema_in, step_of}
use Rattle.avro_container.specs.declared.fault.ContainerFault.{ContainerFault}
use Rattle.avro_container.specs.declared.fault.Flaw.{Flaw}
use Rattle.avro_container.specs.declared.fault.Flaw.TheVariants as flaw
use Rattle.avro_container.proofs.BlockRefusals.{block_refused, blocks_faulty}
use Rattle.avro_container.proofs.Containers.{behind_codec, behind_header, behind_schema, container_is, container_refused}
use Rattle.avro_container.proofs.Headers.{header_takes}
use Rattle.avro_feeding.specs.Feeding.{Behind, Fed, Place, Refusal, State, after_block, after_header, fed, fed_all, further, in_blocks, in_header, is_short, joined, nothing_read, opened, read_blocks, read_on, schema_at, stopped}
use Rattle.avro_feeding.specs.Laws.{FaultsNext, Keeps, RefusesNext, StandsBehind, is_header_flaw}
use Rattle.avro_feeding.proofs.HeaderLemmas.{schema_on}
use Rattle.avro_feeding.proofs.KeepLemmas.{pieces_kept, pieces_refused}
use Rattle.avro_feeding.proofs.PieceLemmas.{any_cut, opened_is}
use Rattle.iceberg_manifest.specs.Containers.{container_error}
use Rattle.iceberg_manifest.specs.Entry.{EntryData}
use Rattle.iceberg_manifest.specs.Scans.{entries_of}
use Rattle.iceberg_manifest.specs.declared.error.ManifestError.{ManifestError}
use Rattle.iceberg_manifest.specs.declared.partition.PartColumn.{PartColumn}
use Rattle.iceberg_manifest_feeding.specs.Feeding.{AreReadable}
use Rattle.iceberg_manifest_feeding.specs.Order.{IsBlockFault, IsFaultWithin, IsHeaderFault, IsValueFault}
use Rattle.iceberg_manifest_feeding.specs.Steps.{Entries, entries_found, entries_in, unless_refused}
use Rattle.iceberg_manifest_feeding.proofs.BlockLaws.{AreBlocks, apart, cut, moved, read_step, stands_read, together}
use Rattle.iceberg_manifest_feeding.proofs.ReadLaws.{blocks_fail, found_nothing, joined_more}
use Rattle.iceberg_manifest_feeding.proofs.ScanLaws.{found_fails, found_of, found_some, of_found, refused_some}

-- ---- places

value_place : (r : Fault) (m n : ℕ) → container_error (flaw_error (flaw.Value r) m) ≡ container_error (flaw_error (flaw.Value r) n)
value_place value.Short m n = refl
value_place value.BadLong m n = refl
value_place value.BadLength m n = refl
value_place value.BadIndex m n = refl
value_place value.BadText m n = refl
value_place value.BadBool m n = refl
value_place value.Limit m n = refl

-- The error of a manifest doesn't name the place.
pub any_place : (what : Flaw) (m n : ℕ) → container_error (flaw_error what m) ≡ container_error (flaw_error what n)
any_place flaw.Short m n = refl
any_place flaw.BadMagic m n = refl
any_place flaw.BadMeta m n = refl
any_place flaw.BadSchema m n = refl
any_place flaw.Codec m n = refl
any_place flaw.BadBlock m n = refl
any_place (flaw.Value r) m n = value_place r m n
any_place flaw.BadSync m n = refl

-- ---- where reading stops

pub long_flaw : (what : Flaw) → (what ≡ flaw.Short → ⊥) → is_short what ≡ false
long_flaw flaw.Short long = absurd (long refl)
long_flaw flaw.BadMagic long = refl
long_flaw flaw.BadMeta long = refl
long_flaw flaw.BadSchema long = refl
long_flaw flaw.Codec long = refl
long_flaw flaw.BadBlock long = refl
long_flaw (flaw.Value r) long = refl
long_flaw flaw.BadSync long = refl

pub header_long : (what : Flaw) → is_header_flaw what ≡ true → is_short what ≡ false
header_long flaw.Short h = absurd (cc)
header_long flaw.BadMagic h = refl
header_long flaw.BadMeta h = refl
header_long flaw.BadSchema h = refl
header_long flaw.Codec h = refl
header_long flaw.BadBlock h = refl
header_long (flaw.Value r) h = refl
header_long flaw.BadSync h = refl

pub stops_long : (place : Place) (schema : Option SchemaTree) (offset : ℕ) (bytes : List ℕ) (f : ContainerFault) → is_short f.flaw ≡ false
    → ◌≡◌ {A = State} (stopped place schema offset bytes f) (Err (record { error = flaw_error f.flaw (further offset (length bytes - f.left)); schema = schema }))
stops_long place schema offset bytes f long = rw long refl

pub stops_short : (place : Place) (schema : Option SchemaTree) (offset : ℕ) (bytes : List ℕ) (f : ContainerFault) → is_short f.flaw ≡ true → ◌≡◌ {A = State} (stopped place schema offset bytes f) (Ok place)
stops_short place schema offset bytes f short = rw short refl

-- Reading stops at a block at fault.
pub read_stops : (b : Behind) (f : ContainerFault) → FaultsNext b f → read_blocks b ≡ (stopped (in_blocks b) (Some b.schema) b.offset b.rest f, [])
read_stops b f next = read_step b ∙ ap (after_block b (read_on (length b.rest))) (block_refused (layout_of b.schema) b.marker b.rest b.budget f next)

-- ---- a header at fault

number_flaw : (block bytes : List ℕ) (f : ContainerFault) → FaultsInNumber block bytes f → is_header_flaw f.flaw ≡ false
number_flaw block bytes f (r, lacks, inl (early, at)) = ap is_header_flaw at.0
number_flaw block bytes f (r, lacks, inr (other, at)) = ap is_header_flaw at.0

pub block_flaw : (l : Layout) (marker bytes : List ℕ) (budget : ℕ) (f : ContainerFault) → FaultsInBlock l marker bytes budget f → is_header_flaw f.flaw ≡ false
block_flaw l marker bytes budget f (inl h) = number_flaw bytes bytes f h
block_flaw l marker bytes budget f (inr (inl (n, count, rest, parts, counts, h))) = number_flaw bytes rest f h
block_flaw l marker bytes budget f (inr (inr (inl (n, s, count, sizes, rest, parts, counts, sized, lt, at)))) = ap is_header_flaw at.0
block_flaw l marker bytes budget f (inr (inr (inr (inl (n, objects, sync, rest, w, inl (g, h, what, left)))))) = ap is_header_flaw what
block_flaw l marker bytes budget f (inr (inr (inr (inl (n, objects, sync, rest, w, inr (vs, front, over, parts, some, many, spelled, few, at)))))) = ap is_header_flaw at.0
block_flaw l marker bytes budget f (inr (inr (inr (inr (vs, objects, sync, rest, w, spelled, few, other, at))))) = ap is_header_flaw at.0

flaw_opens : (bytes : List ℕ) (f : ContainerFault) → IsFirstFlaw MAX_VALUES bytes f → is_header_flaw f.flaw ≡ true → opened bytes ≡ Err f
flaw_opens bytes f first header = opened_is bytes ∙ elim (bind_err (header_at MAX_VALUES bytes) (behind_header MAX_VALUES bytes) f (sym (container_is MAX_VALUES bytes) ∙ container_refused MAX_VALUES bytes f first)) [
  | inl failed ↦ rw failed refl
  | inr h ↦ elim (bind_err (step_of (length bytes) (schema_in h.0.0)) (behind_schema MAX_VALUES bytes h.0) f h.2) [
    | inl failed ↦ rw (h.1, failed) refl
    | inr t ↦ elim (bind_err (step_of (length bytes) (codec_in h.0.0)) (behind_codec MAX_VALUES h.0 t.0) f t.2) [
      | inl failed ↦ rw (h.1, t.1, failed) refl
      | inr p ↦ elim (bind_err (blocks_at (layout_of t.0) h.0.1 (length h.0.2 + 1) h.0.2 MAX_VALUES) (λ vs. Ok (h.0.0, t.0, vs)) f p.2) [
        | inl failed ↦
            (let at = blocks_faulty (layout_of t.0) h.0.1 (length h.0.2 + 1) h.0.2 MAX_VALUES f (header_takes MAX_VALUES bytes h.0 h.1).is.sixteen (omega arith) failed in
            absurd (true_not_false (is_header_flaw f.flaw) header (block_flaw (layout_of t.0) h.0.1 at.fault.3 at.fault.4 f at.fault.9)))
        | inr vs ↦ absurd (let no = vs.2 in cc)
      ]
    ]
  ]
]

refused_header : (columns : List PartColumn) (bytes : List ℕ) (e : ManifestError) → IsHeaderFault bytes e → entries_in columns (fed nothing_read bytes) ≡ Err e
refused_header columns bytes e (f, first, header, is) =
    let schema = schema_at bytes in
    let stops = stops_long (in_header bytes) schema 0 bytes f (header_long f.flaw header) in
    let error = flaw_error f.flaw (further 0 (length bytes - f.left)) in
    ap (λ (r : Step Behind). entries_in columns (after_header bytes r)) (flaw_opens bytes f first header)
    ∙ ap (λ (s : State). entries_in columns (s, [])) stops
    ∙ ap (λ (r : Entries). r >>= λ es. unless_refused es (Err (record { error = error; schema = schema }))) (found_nothing columns schema)
    ∙ ap Err (any_place f.flaw (further 0 (length bytes - f.left)) (length bytes - f.left) ∙ sym is)

-- ---- a block at fault

refused_block : (columns : List PartColumn) (bytes : List ℕ) (e : ManifestError) → IsBlockFault columns bytes e → entries_in columns (fed nothing_read bytes) ≡ Err e
refused_block columns bytes e s =
    let b = s.behind in
    let f = s.fault in
    let r = stands_read bytes s.front b s.stands in
    let m = moved b r.offset b.rest b.budget in
    let error = flaw_error f.flaw (further r.offset (length b.rest - f.left)) in
    let state : State = Err (record { error = error; schema = Some b.schema }) in
    let stops = stops_long (in_blocks m) (Some b.schema) r.offset b.rest f (long_flaw f.flaw s.whole) in
    let none : r.blocks ++ [] ≡ r.blocks = append-nil r.blocks in
    let found = ap (entries_found columns (Some b.schema)) (ap joined none ∙ r.values) ∙ found_of columns b.schema s.front s.readable.0 s.readable.1 in
    ap (entries_in columns) r.read
    ∙ ap (λ (q : Fed). entries_in columns (q.0, r.blocks ++ q.1)) (read_stops m f s.next)
    ∙ ap (λ (st : State). entries_in columns (st, r.blocks ++ [])) stops
    ∙ ap (λ (es : Entries). es >>= λ all. unless_refused all state) found
    ∙ ap Err (any_place f.flaw (further r.offset (length b.rest - f.left)) (length bytes - f.left) ∙ sym s.is)

-- ---- values at fault

empty_back : (xs ys : List ValueTree) → xs ++ ys ≡ [] → ys ≡ []
empty_back [] ys is = is
empty_back (x ∷ xs) ys is = absurd (cc)

empty_front : (xs ys : List ValueTree) → xs ++ ys ≡ [] → xs ≡ []
empty_front [] ys is = refl
empty_front (x ∷ xs) ys is = absurd (cc)

some_joined : (front : List (List ValueTree)) (last : List ValueTree) → (last ≡ [] → ⊥) → joined (front ++ last ∷ []) ≡ [] → ⊥
some_joined front last some none = some (empty_front last [] (empty_back (joined front) (last ++ []) (sym (joined_more front (last ∷ [])) ∙ none)))

refused_values : (columns : List PartColumn) (bytes : List ℕ) (e : ManifestError) → IsValueFault columns bytes e → entries_in columns (fed nothing_read bytes) ≡ Err e
refused_values columns bytes e s =
    let b = s.behind in
    let r = stands_read bytes (s.front ++ s.last ∷ []) b s.stands in
    let m = moved b r.offset b.rest b.budget in
    let found = ap (entries_found columns (Some b.schema)) r.values ∙ found_some columns b.schema (joined (s.front ++ s.last ∷ [])) (some_joined s.front s.last s.some) ∙ s.refused in
    ap (entries_in columns) r.read ∙ blocks_fail columns b.schema r.blocks (read_blocks m) (schema_on (length b.rest + 1) m) e found

pub refused_within : (columns : List PartColumn) (bytes : List ℕ) (e : ManifestError) → IsFaultWithin columns bytes e → entries_in columns (fed nothing_read bytes) ≡ Err e
refused_within columns bytes e (inl h) = refused_header columns bytes e h
refused_within columns bytes e (inr (inl h)) = refused_block columns bytes e h
refused_within columns bytes e (inr (inr h)) = refused_values columns bytes e h

-- ---- the first block whose values are at fault

record Found (columns : List PartColumn) (t : SchemaTree) (blocks : List (List ValueTree)) (e : ManifestError) : Type 0 where
  front : List (List ValueTree)
  last : List ValueTree
  after : List (List ValueTree)
  split : blocks ≡ (front ++ last ∷ []) ++ after
  readable : AreReadable columns t front
  some : last ≡ [] → ⊥
  refused : entries_of columns t (joined (front ++ last ∷ [])) ≡ Err e

module _ (columns : List PartColumn) (t : SchemaTree) (e : ManifestError) where
  abbrev entries_to : List (List ValueTree) → Entries
  entries_to blocks = entries_found columns (Some t) (joined blocks)

  ok_not_err : (r : Entries) (es : List EntryData) (d : ManifestError) → r ≡ Ok es → r ≡ Err d → ⊥
  ok_not_err r es d p q = cc

  same_error : (r : Entries) (c d : ManifestError) → r ≡ Err c → r ≡ Err d → c ≡ d
  same_error r c d p q = cc

  one_back : (front : List (List ValueTree)) (vs : List ValueTree) (rest : List (List ValueTree)) → front ++ vs ∷ rest ≡ (front ++ vs ∷ []) ++ rest
  one_back front vs rest = sym (append_assoc front (vs ∷ []) rest)

  none_back : (front : List (List ValueTree)) (vs : List ValueTree) → vs ≡ [] → joined (front ++ vs ∷ []) ≡ joined front
  none_back front vs none = joined_more front (vs ∷ []) ∙ ap (λ (ws : List ValueTree). joined front ++ (ws ++ [])) none ∙ append-nil (joined front)

  search_from : (front rest : List (List ValueTree)) (es : List EntryData) → entries_to front ≡ Ok es → entries_to (front ++ rest) ≡ Err e → Found columns t (front ++ rest) e
  search_from front [] es fine bad = absurd (ok_not_err (entries_to front) es e fine (ap entries_to (sym (append-nil front)) ∙ bad))
  search_from front (vs ∷ rest) es fine bad = at (entries_to (front ++ vs ∷ [])) refl (search_from (front ++ vs ∷ []) rest)
    where
      at : (r : Entries) → entries_to (front ++ vs ∷ []) ≡ r
          → ((es' : List EntryData) → entries_to (front ++ vs ∷ []) ≡ Ok es' → entries_to ((front ++ vs ∷ []) ++ rest) ≡ Err e → Found columns t ((front ++ vs ∷ []) ++ rest) e)
          → Found columns t (front ++ vs ∷ rest) e
      at (Ok es') is rec = subst (λ (blocks : List (List ValueTree)). Found columns t blocks e) (sym (one_back front vs rest)) (rec es' is (ap entries_to (sym (one_back front vs rest)) ∙ bad))
      at (Err d) is rec =
          let stays : entries_to (front ++ vs ∷ rest) ≡ Err d = ap entries_to (one_back front vs rest) ∙ ap (entries_found columns (Some t)) (joined_more (front ++ vs ∷ []) rest) ∙ found_fails columns t (joined (front ++ vs ∷ [])) (joined rest) d is in
          let same : d ≡ e = same_error (entries_to (front ++ vs ∷ rest)) d e stays bad in
          record {
            front = front;
            last = vs;
            after = rest;
            split = one_back front vs rest;
            readable = (es, of_found columns t front es fine);
            some = λ none. ok_not_err (entries_to front) es d fine (ap (entries_found columns (Some t)) (sym (none_back front vs none)) ∙ is);
            refused = refused_some columns t (joined (front ++ vs ∷ [])) e (is ∙ ap Err same);
          }

-- The bytes in front of some of the blocks are a header and whole blocks.
stands_front : (bytes : List ℕ) (values xs ys : List (List ValueTree)) (b : Behind) (s : StandsBehind bytes values b) → joined (xs ++ ys) ≡ joined values → AreBlocks (layout_of b.schema) b.marker (xs ++ ys) s.blocks → (c : Behind) × (c.schema ≡ b.schema) × StandsBehind bytes xs c
stands_front bytes values xs ys b s same are =
    let p = cut (layout_of b.schema) b.marker xs ys s.blocks are in
    let few = s.few in
    let sum : total value_count (joined values) ≡ total value_count (joined xs) + total value_count (joined ys) = ap (total value_count) (sym same ∙ joined_more xs ys) ∙ total-append value_count (joined xs) (joined ys) in
    let c : Behind = record { schema = b.schema; marker = b.marker; offset = length s.header + length p.front; rest = p.rest ++ b.rest; budget = MAX_VALUES - total value_count (joined xs) } in (
      c,
      refl,
      record {
        meta = s.meta;
        header = s.header;
        blocks = p.front;
        parts = s.parts ∙ ap (λ (l : List ℕ). s.header ++ (l ++ b.rest)) p.parts ∙ ap (λ (l : List ℕ). s.header ++ l) (append_assoc p.front p.rest b.rest);
        is_header = s.is_header;
        schema = s.schema;
        plain = s.plain;
        are_blocks = together (layout_of b.schema) b.marker xs p.front p.before;
        few = omega (arith, few, sum);
        offset = refl;
      },
    )

value_fault : (columns : List PartColumn) (bytes : List ℕ) (values : List (List ValueTree)) (b : Behind) (e : ManifestError) → StandsBehind bytes values b → entries_found columns (Some b.schema) (joined values) ≡ Err e → IsValueFault columns bytes e
value_fault columns bytes values b e s bad =
    let p = apart (layout_of b.schema) b.marker (length values) (joined values) s.blocks s.are_blocks in
    let found = search_from columns b.schema e [] p.blocks [] refl (ap (entries_found columns (Some b.schema)) p.values ∙ bad) in
    let c = stands_front bytes values (found.front ++ found.last ∷ []) found.after b s (ap joined (sym found.split) ∙ p.values) (subst (λ (blocks : List (List ValueTree)). AreBlocks (layout_of b.schema) b.marker blocks s.blocks) found.split p.are) in
    record {
      front = found.front;
      last = found.last;
      behind = c.0;
      stands = c.2;
      readable = subst (λ (t : SchemaTree). AreReadable columns t found.front) (sym c.1) found.readable;
      some = found.some;
      refused = subst (λ (t : SchemaTree). entries_of columns t (joined (found.front ++ found.last ∷ [])) ≡ Err e) (sym c.1) found.refused;
    }

-- ---- what is kept or refused after all bytes as one piece

as_one : (bytes : List ℕ) → concat (bytes ∷ []) ≡ bytes
as_one bytes = append-nil bytes

one_piece : (bytes : List ℕ) → fed_all (bytes ∷ []) ≡ fed nothing_read bytes
one_piece bytes = any_cut (bytes ∷ []) ∙ ap (fed nothing_read) (as_one bytes)

pub keeps : (bytes : List ℕ) → length bytes < 2 ^ 64 - 1 → IfOk (fed nothing_read bytes).0 (Keeps bytes (fed nothing_read bytes).1)
keeps bytes small =
    let all = fed_all (bytes ∷ []) in
    let kept = pieces_kept (bytes ∷ []) all.0 refl (subst (λ (l : List ℕ). length l < 2 ^ 64 - 1) (sym (as_one bytes)) small) in
    subst (λ (q : Fed). IfOk q.0 (Keeps bytes q.1)) (one_piece bytes) (subst (λ (l : List ℕ). IfOk all.0 (Keeps l all.1)) (as_one bytes) kept)

refuses : (bytes : List ℕ) → length bytes < 2 ^ 64 - 1 → IfErr (fed nothing_read bytes).0 (RefusesNext bytes (fed nothing_read bytes).1)
refuses bytes small =
    let all = fed_all (bytes ∷ []) in
    let refused = pieces_refused (bytes ∷ []) all.0 refl (subst (λ (l : List ℕ). length l < 2 ^ 64 - 1) (sym (as_one bytes)) small) in
    subst (λ (q : Fed). IfErr q.0 (RefusesNext bytes q.1)) (one_piece bytes) (subst (λ (l : List ℕ). IfErr all.0 (RefusesNext l all.1)) (as_one bytes) refused)

-- ---- what reading refuses

module _ (columns : List PartColumn) (bytes : List ℕ) (e : ManifestError) where
  at_blocks : (b : Behind) (blocks : List (List ValueTree)) → StandsBehind bytes blocks b → entries_in columns (Ok (in_blocks b), blocks) ≡ Err e → IsFaultWithin columns bytes e
  at_blocks b blocks stands is = elim (bind_err (entries_found columns (Some b.schema) (joined blocks)) (λ es. unless_refused es (Ok (in_blocks b))) e is) [
    | inl failed ↦ inr (inr (value_fault columns bytes blocks b e stands failed))
    | inr es ↦ absurd (let no = es.2 in cc)
  ]

  at_refusal : (refused : Refusal) (blocks : List (List ValueTree)) → RefusesNext bytes blocks refused → entries_in columns (Err refused, blocks) ≡ Err e → IsFaultWithin columns bytes e
  at_refusal refused blocks (inl (none, (f, first, header, error))) is = elim (bind_err (entries_found columns refused.schema (joined blocks)) (λ es. unless_refused es (Err refused)) e is) [
    | inl failed ↦ absurd (let no : ◌≡◌ {A = Entries} (Ok []) (Err e) = sym (ap (λ (bs : List (List ValueTree)). entries_found columns refused.schema (joined bs)) none ∙ found_nothing columns refused.schema) ∙ failed in cc)
    | inr es ↦ inl (f, first, header, sym (err_is (container_error refused.error) e es.2) ∙ ap container_error error)
  ]
  at_refusal refused blocks (inr (b, stands, schema, (f, next, long, error))) is = elim (bind_err (entries_found columns refused.schema (joined blocks)) (λ es. unless_refused es (Err refused)) e is) [
    | inl failed ↦ inr (inr (value_fault columns bytes blocks b e stands (ap (λ (o : Option SchemaTree). entries_found columns o (joined blocks)) (sym schema) ∙ failed)))
    | inr es ↦ inr (inl (record {
      front = blocks;
      behind = b;
      stands = stands;
      readable = (es.0, of_found columns b.schema blocks es.0 (ap (λ (o : Option SchemaTree). entries_found columns o (joined blocks)) (sym schema) ∙ es.1));
      fault = f;
      next = next;
      whole = long;
      is = sym (err_is (container_error refused.error) e es.2) ∙ ap container_error error;
    }))
  ]

  by_reading : (r : Fed) → IfOk r.0 (Keeps bytes r.1) → IfErr r.0 (RefusesNext bytes r.1) → entries_in columns r ≡ Err e → IsFaultWithin columns bytes e
  by_reading (Ok (in_header kept), blocks) keep refuse is = absurd (cc)
  by_reading (Ok (in_blocks b), blocks) keep refuse is = at_blocks b blocks keep.0 is
  by_reading (Err refused, blocks) keep refuse is = at_refusal refused blocks refuse is

  pub within : length bytes < 2 ^ 64 - 1 → entries_in columns (fed nothing_read bytes) ≡ Err e → IsFaultWithin columns bytes e
  within small is = by_reading (fed nothing_read bytes) (keeps bytes small) (refuses bytes small) is
