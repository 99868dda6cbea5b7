-- What a feeder holds after some bytes, by what reading makes of them.
use Rattle.std.proofs.Common.{◌≡◌, ℕ, ◌+◌, List, [], ◌++◌, length, Option, Some, None, Ok, Err, refl, sym, ap, ◌∙◌}
use Rattle.std.proofs.lemmas.Grind.{flat_map-append}
use Rattle.lake_basics.specs.Outcome.{◌>>=◌}
use Rattle.avro_schema.specs.Tree.{SchemaTree}
use Rattle.avro_value.specs.ValueTree.{ValueTree}
use Rattle.avro_value.proofs.NumberLaws.{bind_ok, ok_is}
use Rattle.avro_container.specs.Reading.{Step}
use Rattle.avro_feeding.specs.Feeding.{Behind, Fed, Place, State, after_header, and_fed, fed, in_blocks, in_header, joined, nothing_read, opened, schema_of_state}
use Rattle.avro_feeding.proofs.HeaderLemmas.{schema_on}
use Rattle.avro_feeding.proofs.PieceLemmas.{pieces_join}
use Rattle.iceberg_manifest.specs.Entry.{EntryData}
use Rattle.iceberg_manifest.specs.declared.error.ManifestError.{ManifestError}
use Rattle.iceberg_manifest.specs.declared.partition.PartColumn.{PartColumn}
use Rattle.iceberg_manifest_feeding.specs.Feeding.{AreEntriesAt, HasRead, SoFar}
use Rattle.iceberg_manifest_feeding.specs.Steps.{Entries, entries_found, entries_in, unless_refused}
use Rattle.iceberg_manifest_feeding.proofs.ScanLaws.{both, found_fails, found_more, found_of, none_before, of_found}

-- ---- blocks behind blocks

pub joined_more : (xs ys : List (List ValueTree)) → joined (xs ++ ys) ≡ joined xs ++ joined ys
joined_more xs ys = flat_map-append (λ (vs : List ValueTree). vs) xs ys

pub found_nothing : (columns : List PartColumn) (schema : Option SchemaTree) → entries_found columns schema [] ≡ Ok []
found_nothing columns None = refl
found_nothing columns (Some t) = refl

refused_last : (es : List EntryData) (r : Entries) (s : State) → (both (Ok es) r >>= λ all. unless_refused all s) ≡ both (Ok es) (r >>= λ more. unless_refused more s)
refused_last es (Err e) s = refl
refused_last es (Ok more) (Ok place) = refl
refused_last es (Ok more) (Err refused) = refl

module _ (columns : List PartColumn) (t : SchemaTree) (blocks : List (List ValueTree)) (q : Fed) (known : schema_of_state q.0 ≡ Some t) where
  found_of_all : entries_found columns (schema_of_state q.0) (joined (blocks ++ q.1)) ≡ entries_found columns (Some t) (joined blocks ++ joined q.1)
  found_of_all = ap (λ (o : Option SchemaTree). entries_found columns o (joined (blocks ++ q.1))) known ∙ ap (entries_found columns (Some t)) (joined_more blocks q.1)

  pub blocks_more : (es : List EntryData) → entries_found columns (Some t) (joined blocks) ≡ Ok es → entries_in columns (q.0, blocks ++ q.1) ≡ both (Ok es) (entries_in columns q)
  blocks_more es is =
      ap (λ (r : Entries). r >>= λ all. unless_refused all q.0)
      (found_of_all ∙ found_more columns t (joined blocks) (joined q.1) es is ∙ ap (λ (o : Option SchemaTree). both (Ok es) (entries_found columns o (joined q.1))) (sym known))
      ∙ refused_last es (entries_found columns (schema_of_state q.0) (joined q.1)) q.0

  pub blocks_fail : (e : ManifestError) → entries_found columns (Some t) (joined blocks) ≡ Err e → entries_in columns (q.0, blocks ++ q.1) ≡ Err e
  blocks_fail e is = ap (λ (r : Entries). r >>= λ all. unless_refused all q.0) (found_of_all ∙ found_fails columns t (joined blocks) (joined q.1) e is)

-- ---- what has been read

-- No block stands in front of a header that isn't whole.
pub header_none : (bytes kept : List ℕ) (blocks : List (List ValueTree)) → fed nothing_read bytes ≡ (Ok (in_header kept), blocks) → blocks ≡ []
header_none bytes kept blocks is = go (opened bytes) is
  where
    go : (r : Step Behind) → after_header bytes r ≡ (Ok (in_header kept), blocks) → blocks ≡ []
    go (Ok b) e = absurd (let no : ◌≡◌ {A = Option SchemaTree} None (Some b.schema) = ap (λ (q : Fed). schema_of_state q.0) (sym e) ∙ schema_on (length b.rest + 1) b in cc)
    go (Err f) e = sym (ap (λ (q : Fed). q.1) e)

pub reads : (columns : List PartColumn) (bytes : List ℕ) (now : SoFar) → HasRead columns bytes now → entries_in columns (fed nothing_read bytes) ≡ Ok now.entries
reads columns bytes now h = ap (entries_in columns) h.read ∙ at h.place h.entries
  where
    at : (place : Place) → AreEntriesAt columns place h.blocks now.entries → entries_in columns (Ok place, h.blocks) ≡ Ok now.entries
    at (in_header kept) none = ap Ok (sym none)
    at (in_blocks b) are = ap (λ (r : Entries). r >>= λ es. unless_refused es (Ok (in_blocks b))) (found_of columns b.schema h.blocks now.entries are)

pub state_is : (columns : List PartColumn) (bytes : List ℕ) (now : SoFar) → HasRead columns bytes now → (fed nothing_read bytes).0 ≡ now.container
state_is columns bytes now h = ap (λ (r : Fed). r.0) h.read ∙ sym h.waits

pub has : (columns : List PartColumn) (bytes : List ℕ) (now : SoFar) → entries_in columns (fed nothing_read bytes) ≡ Ok now.entries → now.container ≡ (fed nothing_read bytes).0 → HasRead columns bytes now
has columns bytes now is same = go (fed nothing_read bytes) refl is same
  where
    at : (place : Place) (blocks : List (List ValueTree)) → entries_in columns (Ok place, blocks) ≡ Ok now.entries → AreEntriesAt columns place blocks now.entries
    at (in_header kept) blocks e = sym (ok_is [] now.entries e)
    at (in_blocks b) blocks e =
        let p = bind_ok (entries_found columns (Some b.schema) (joined blocks)) (λ es. unless_refused es (Ok (in_blocks b))) now.entries e in
        of_found columns b.schema blocks now.entries (p.1 ∙ p.2)

    go : (r : Fed) → fed nothing_read bytes ≡ r → entries_in columns r ≡ Ok now.entries → now.container ≡ r.0 → HasRead columns bytes now
    go (Ok place, blocks) read e state = record { place = place; blocks = blocks; read = read; waits = state; entries = at place blocks e }
    go (Err refused, blocks) read e state =
        let p = bind_ok (entries_found columns refused.schema (joined blocks)) (λ es. unless_refused es (Err refused)) now.entries e in
        absurd (let no = p.2 in cc)

-- One piece more.
pub piece_more : (columns : List PartColumn) (bytes piece : List ℕ) (now : SoFar) → HasRead columns bytes now → entries_in columns (fed nothing_read (bytes ++ piece)) ≡ both (Ok now.entries) (entries_in columns (fed now.container piece))
piece_more columns bytes piece now h =
    ap (entries_in columns) (pieces_join nothing_read bytes piece ∙ ap (λ (r : Fed). and_fed r piece) h.read)
    ∙ at h.place h.read h.entries
    ∙ ap (λ (s : State). both (Ok now.entries) (entries_in columns (fed s piece))) (sym h.waits)
  where
    at : (place : Place) → ◌≡◌ {A = Fed} (fed nothing_read bytes) (Ok place, h.blocks) → AreEntriesAt columns place h.blocks now.entries → entries_in columns (and_fed (Ok place, h.blocks) piece) ≡ both (Ok now.entries) (entries_in columns (fed (Ok place) piece))
    at (in_header kept) read none =
        let q = fed (Ok (in_header kept)) piece in
        ap (λ (blocks : List (List ValueTree)). entries_in columns (q.0, blocks ++ q.1)) (header_none bytes kept h.blocks read)
        ∙ none_before (entries_in columns q)
        ∙ ap (λ (es : List EntryData). both (Ok es) (entries_in columns q)) (sym none)
    at (in_blocks b) read are =
        let q = fed (Ok (in_blocks b)) piece in
        blocks_more columns b.schema h.blocks q (schema_on (length (b.rest ++ piece) + 1) (record b { rest = b.rest ++ piece })) now.entries (found_of columns b.schema h.blocks now.entries are)

pub state_more : (columns : List PartColumn) (bytes piece : List ℕ) (now : SoFar) → HasRead columns bytes now → (fed nothing_read (bytes ++ piece)).0 ≡ (fed now.container piece).0
state_more columns bytes piece now h = ap (λ (r : Fed). r.0) (pieces_join nothing_read bytes piece) ∙ ap (λ (s : State). (fed s piece).0) (state_is columns bytes now h)
