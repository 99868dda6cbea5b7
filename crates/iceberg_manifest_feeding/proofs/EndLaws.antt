-- What the end of the bytes gives, by what reading makes of them.
use Rattle.std.proofs.Common.{◌≡◌, inl, inr, ℕ, ◌+◌, ◌-◌, ◌^◌, ◌<◌, List, [], ◌∷◌, ◌++◌, length, Some, Result, Ok, Err, refl, sym, ap, subst, ◌∙◌, arith}
use Rattle.std.specs.Prelude.{IfOk}
use Rattle.std.proofs.lemmas.List.{append-nil}
use Rattle.lake_basics.specs.Outcome.{◌>>=◌}
use Rattle.avro_schema.specs.Tree.{SchemaTree}
use Rattle.avro_value.specs.Layout.{layout_of}
use Rattle.avro_value.specs.ValueTree.{ValueTree, value_count, total}
use Rattle.avro_value.specs.declared.api.TheConstants.{MAX_VALUES}
use Rattle.avro_value.proofs.FaultLaws.{bind_err, err_is}
use Rattle.avro_value.proofs.NumberLaws.{bind_ok}
use Rattle.avro_container.proofs.Headers.{header_refused}
use Rattle.avro_feeding.specs.Feeding.{Behind, Fed, Place, State, after_header, fed, in_blocks, in_header, is_short, joined, nothing_read, opened, schema_at}
use Rattle.avro_feeding.specs.Laws.{Keeps, KeepsBehind, StandsBehind}
use Rattle.avro_feeding.proofs.PieceLemmas.{opened_is}
use Rattle.iceberg_manifest.specs.Containers.{StandsFor}
use Rattle.iceberg_manifest.specs.Entry.{EntryData}
use Rattle.iceberg_manifest.specs.Scans.{entries_of}
use Rattle.iceberg_manifest.specs.declared.error.ManifestError.{ManifestError}
use Rattle.iceberg_manifest.specs.declared.error.ManifestError.TheVariants as errors
use Rattle.iceberg_manifest.specs.declared.partition.PartColumn.{PartColumn}
use Rattle.iceberg_manifest_feeding.specs.Feeding.{AreEntriesAt, AreEntriesOf, HasRead, SoFar}
use Rattle.iceberg_manifest_feeding.specs.Order.{IsCutInBlock, IsCutInHeader, IsFaultAtEnd, IsSchemaFault}
use Rattle.iceberg_manifest_feeding.specs.Steps.{Entries, ended_by, entries_found, entries_in, schema_judged, unless_refused}
use Rattle.iceberg_manifest_feeding.proofs.BlockLaws.{apart, moved, read_none, stands_read, together}
use Rattle.iceberg_manifest_feeding.proofs.FaultLaws.{keeps, read_stops, stops_short}
use Rattle.iceberg_manifest_feeding.proofs.ScanLaws.{found_of, read_values, schema_fine}

abbrev pub Ended : Type 0
Ended = Result (Unit {0}) ManifestError

-- ---- the end behind blocks

abbrev judged_at : List PartColumn → Behind → Ended
judged_at columns b = schema_judged columns (Some b.schema)

end_none : (columns : List PartColumn) (b : Behind) → b.rest ≡ [] → ended_by columns (Ok (in_blocks b)) ≡ judged_at columns b
end_none columns b none = rw none refl

end_some : (columns : List PartColumn) (b : Behind) → (b.rest ≡ [] → ⊥) → ended_by columns (Ok (in_blocks b)) ≡ Err errors.Malformed
end_some columns b some = go b.rest refl
  where
    go : (rest : List ℕ) → b.rest ≡ rest → ended_by columns (Ok (in_blocks b)) ≡ Err errors.Malformed
    go [] is = absurd (some is)
    go (c ∷ rest) is = rw is refl

-- ---- bytes that are refused at their end

-- These entries were read before the end, and this is what the end makes of them.
pub record EndsSo (columns : List PartColumn) (bytes : List ℕ) (entries : List EntryData) (end : Ended) : Type 0 where
  pub read : entries_in columns (fed nothing_read bytes) ≡ Ok entries
  pub ends : ended_by columns (fed nothing_read bytes).0 ≡ end

module _ (columns : List PartColumn) (bytes : List ℕ) where
  ends_at : (place : Place) (blocks : List (List ValueTree)) (es : List EntryData) (end : Ended) → fed nothing_read bytes ≡ (Ok place, blocks) → entries_in columns (Ok place, blocks) ≡ Ok es → ended_by columns (Ok place) ≡ end → EndsSo columns bytes es end
  ends_at place blocks es end read entries ends = record { read = ap (entries_in columns) read ∙ entries; ends = ap (λ (r : Fed). ended_by columns r.0) read ∙ ends }

  abbrev pub IsRefusedBehind : ManifestError → Type 0
  IsRefusedBehind e = (es : List EntryData) × EndsSo columns bytes es (Err e)

  cut_header : (e : ManifestError) → IsCutInHeader bytes e → IsRefusedBehind e
  cut_header e (f, faults, short, is) =
      let opening : opened bytes ≡ Err f = opened_is bytes ∙ rw (header_refused MAX_VALUES bytes f faults) refl in
      let read : fed nothing_read bytes ≡ (Ok (in_header bytes), []) = ap (after_header bytes) opening ∙ ap (λ (s : State). (s, [])) (stops_short (in_header bytes) (schema_at bytes) 0 bytes f (ap is_short short)) in
      ([], ends_at (in_header bytes) [] [] (Err e) read refl (ap Err (sym is)))

  -- at blocks whose values are these entries
  at_blocks : (b : Behind) (blocks front : List (List ValueTree)) (es : List EntryData) (end : Ended) → fed nothing_read bytes ≡ (Ok (in_blocks b), blocks ++ []) → joined blocks ≡ joined front → entries_found columns (Some b.schema) (joined front) ≡ Ok es → ended_by columns (Ok (in_blocks b)) ≡ end → EndsSo columns bytes es end
  at_blocks b blocks front es end read same found ends =
      let all = ap (λ (vs : List ValueTree). entries_found columns (Some b.schema) vs) (ap joined (append-nil blocks) ∙ same) ∙ found in
      ends_at (in_blocks b) (blocks ++ []) es end read (ap (λ (r : Entries). r >>= λ found. unless_refused found (Ok (in_blocks b))) all) ends

  cut_block : (e : ManifestError) → IsCutInBlock columns bytes e → IsRefusedBehind e
  cut_block e s =
      let b = s.behind in
      let r = stands_read bytes s.front b s.stands in
      let m = moved b r.offset b.rest b.budget in
      let stops = read_stops m s.fault s.next ∙ ap (λ (st : State). (st, [])) (stops_short (in_blocks m) (Some b.schema) r.offset b.rest s.fault (ap is_short s.short)) in
      let read = r.read ∙ ap (λ (q : Fed). (q.0, r.blocks ++ q.1)) stops in
      (s.readable.0, at_blocks m r.blocks s.front s.readable.0 (Err e) read r.values (found_of columns b.schema s.front s.readable.0 s.readable.1) (end_some columns m s.begun ∙ ap Err (sym s.is)))

  -- behind which there are no bytes
  ends_behind : (front : List (List ValueTree)) (b : Behind) (es : List EntryData) (end : Ended) → StandsBehind bytes front b → b.rest ≡ [] → entries_found columns (Some b.schema) (joined front) ≡ Ok es → judged_at columns b ≡ end → EndsSo columns bytes es end
  ends_behind front b es end stands none found judged =
      let r = stands_read bytes front b stands in
      let m = moved b r.offset b.rest b.budget in
      let read = r.read ∙ ap (λ (q : Fed). (q.0, r.blocks ++ q.1)) (read_none m none) in
      at_blocks m r.blocks front es end read r.values found (end_none columns m none ∙ judged)

  no_schema : (e : ManifestError) → IsSchemaFault columns bytes e → IsRefusedBehind e
  no_schema e s =
      ([], ends_behind s.front s.behind [] (Err e) s.stands s.ends (ap (entries_found columns (Some s.behind.schema)) s.none) (ap (λ (r : Entries). r >>= λ es. Ok tt) s.refused))

  pub refused_end : (e : ManifestError) → IsFaultAtEnd columns bytes e → IsRefusedBehind e
  refused_end e (inl h) = cut_header e h
  refused_end e (inr (inl h)) = cut_block e h
  refused_end e (inr (inr h)) = no_schema e h

  -- ---- a manifest

  pub read_whole : (es : List EntryData) → StandsFor MAX_VALUES (entries_of columns) bytes es → EndsSo columns bytes es (Ok tt)
  read_whole es s =
      let c = s.container.container in
      let few = s.container.few in
      let p = apart (layout_of s.schema) c.marker c.number s.values c.blocks c.are_blocks in
      let sum = ap (total value_count) p.values in
      let b : Behind = record { schema = s.schema; marker = c.marker; offset = length c.header + length c.blocks; rest = []; budget = MAX_VALUES - total value_count s.values } in
      let stands : StandsBehind bytes p.blocks b = record {
        meta = s.meta;
        header = c.header;
        blocks = c.blocks;
        parts = c.parts ∙ ap (λ (l : List ℕ). c.header ++ l) (sym (append-nil c.blocks));
        is_header = c.is_header;
        schema = c.schema;
        plain = c.plain;
        are_blocks = together (layout_of s.schema) c.marker p.blocks c.blocks p.are;
        few = omega (arith, few, sum);
        offset = refl;
      } in
      let found = ap (entries_found columns (Some s.schema)) p.values ∙ read_values columns s.schema s.values es s.read in
      let fine = ap (λ (q : Entries). q >>= λ found. Ok tt) (schema_fine columns s.schema s.values es s.read) in
      ends_behind p.blocks b es (Ok tt) stands refl found fine

-- ---- what the end makes of what has been read

module _ (columns : List PartColumn) (bytes : List ℕ) (now : SoFar) where
  judged_ok : (t : SchemaTree) (blocks : List (List ValueTree)) → schema_judged columns (Some t) ≡ Ok tt → AreEntriesOf columns t blocks now.entries → entries_of columns t (joined blocks) ≡ Ok now.entries
  judged_ok t blocks fine (inr is) = is
  judged_ok t blocks fine (inl none) =
      let p = bind_ok (entries_of columns t []) (λ es. Ok tt) tt fine in
      let empty = schema_fine columns t [] p.0 p.1 in
      ap (entries_of columns t) none.0 ∙ empty ∙ ap Ok (sym none.1)

  whole_at : (b : Behind) (blocks : List (List ValueTree)) (rest : List ℕ) → b.rest ≡ rest → StandsBehind bytes blocks b → AreEntriesOf columns b.schema blocks now.entries → ended_by columns (Ok (in_blocks b)) ≡ Ok tt → StandsFor MAX_VALUES (entries_of columns) bytes now.entries
  whole_at b blocks (c ∷ rest) is stands are ends = absurd (let no : ◌≡◌ {A = Ended} (Err errors.Malformed) (Ok tt) = sym (end_some columns b (λ none. (let both : c ∷ rest ≡ [] = sym is ∙ none in cc))) ∙ ends in cc)
  whole_at b blocks [] is stands are ends =
      let few = stands.few in
      record {
        meta = stands.meta;
        schema = b.schema;
        values = joined blocks;
        container = record {
          few = omega (arith, few);
          container = record {
            header = stands.header;
            marker = b.marker;
            blocks = stands.blocks;
            parts = stands.parts ∙ ap (λ (l : List ℕ). stands.header ++ (stands.blocks ++ l)) is ∙ ap (λ (l : List ℕ). stands.header ++ l) (append-nil stands.blocks);
            is_header = stands.is_header;
            schema = stands.schema;
            plain = stands.plain;
            number = length blocks;
            are_blocks = stands.are_blocks;
          };
        };
        read = judged_ok b.schema blocks (sym (end_none columns b is) ∙ ends) are;
      }

  found_at : (place : Place) (blocks : List (List ValueTree)) → Keeps bytes blocks place → AreEntriesAt columns place blocks now.entries → ended_by columns (Ok place) ≡ Ok tt → StandsFor MAX_VALUES (entries_of columns) bytes now.entries
  found_at (in_header kept) blocks keep are ends = absurd (cc)
  found_at (in_blocks b) blocks keep are ends = whole_at b blocks b.rest refl keep.0 are ends

  kept_at : (h : HasRead columns bytes now) → length bytes < 2 ^ 64 - 1 → Keeps bytes h.blocks h.place
  kept_at h small = subst (λ (q : Fed). IfOk q.0 (Keeps bytes q.1)) h.read (keeps bytes small)

  pub found_end : HasRead columns bytes now → length bytes < 2 ^ 64 - 1 → ended_by columns now.container ≡ Ok tt → StandsFor MAX_VALUES (entries_of columns) bytes now.entries
  found_end h small ends = found_at h.place h.blocks (kept_at h small) h.entries (ap (ended_by columns) (sym h.waits) ∙ ends)

  schema_at_fault : (b : Behind) (blocks : List (List ValueTree)) (e : ManifestError) → b.rest ≡ [] → StandsBehind bytes blocks b → AreEntriesOf columns b.schema blocks now.entries → entries_of columns b.schema [] ≡ Err e → IsFaultAtEnd columns bytes e
  schema_at_fault b blocks e is stands (inl none) refused = inr (inr (record { front = blocks; behind = b; stands = stands; ends = is; none = none.0; refused = refused }))
  schema_at_fault b blocks e is stands (inr read) refused = absurd (let no : ◌≡◌ {A = Entries} (Err e) (Ok []) = sym refused ∙ schema_fine columns b.schema (joined blocks) now.entries read in cc)

  fault_at : (b : Behind) (blocks : List (List ValueTree)) (rest : List ℕ) (e : ManifestError) → b.rest ≡ rest → KeepsBehind bytes blocks b → AreEntriesOf columns b.schema blocks now.entries → ended_by columns (Ok (in_blocks b)) ≡ Err e → IsFaultAtEnd columns bytes e
  fault_at b blocks [] e is keep are ends = elim (bind_err (entries_of columns b.schema []) (λ es. Ok tt) e (sym (end_none columns b is) ∙ ends)) [
    | inl refused ↦ schema_at_fault b blocks e is keep.0 are refused
    | inr es ↦ absurd (let no = es.2 in cc)
  ]
  fault_at b blocks (c ∷ rest) e is keep are ends =
      let begun : b.rest ≡ [] → ⊥ = λ none. (let both : c ∷ rest ≡ [] = sym is ∙ none in cc) in
      inr (inl (record {
        front = blocks;
        behind = b;
        stands = keep.0;
        readable = (now.entries, are);
        begun = begun;
        fault = keep.1.0;
        next = keep.1.1;
        short = keep.1.2;
        is = sym (err_is errors.Malformed e (sym (end_some columns b begun) ∙ ends));
      }))

  refused_at : (place : Place) (blocks : List (List ValueTree)) (e : ManifestError) → Keeps bytes blocks place → AreEntriesAt columns place blocks now.entries → ended_by columns (Ok place) ≡ Err e → IsFaultAtEnd columns bytes e
  refused_at (in_header kept) blocks e keep are ends = inl (keep.2.0, keep.2.1, keep.2.2, sym (err_is errors.Malformed e ends))
  refused_at (in_blocks b) blocks e keep are ends = fault_at b blocks b.rest e refl keep are ends

  pub fault_end : (e : ManifestError) → HasRead columns bytes now → length bytes < 2 ^ 64 - 1 → ended_by columns now.container ≡ Err e → IsFaultAtEnd columns bytes e
  fault_end e h small ends = refused_at h.place h.blocks e (kept_at h small) h.entries (ap (ended_by columns) (sym h.waits) ∙ ends)
