-- What is written is a container.
use Rattle.std.proofs.Common.{◌≡◌, ℕ, ◌+◌, ◌*◌, ◌-◌, ◌^◌, ◌<◌, ◌||◌, ◌&&◌, not, Bool, true, false, cond, List, [], ◌∷◌, ◌++◌, length, map, Some, Result, Ok, Err, IfOk, Vec, Global, refl, sym, ap, subst, ◌∙◌, append_assoc, arith, inr, eqb, ne_eqb}
use Rattle.std.specs.Str.{bytes_eq}
use Rattle.std.specs.List.{AllByRecursion, list_any}
use Rattle.std.proofs.lemmas.Slice.Eq.{bytes_eq-Decides}
use Rattle.std.proofs.lemmas.List.{append-nil}
use Rattle.std.proofs.lemmas.List.Sorted.{list_any-IsPermutation, length_permutation}
use Rattle.std.proofs.lemmas.Bool.{not-false}
use Rattle.avro_schema.specs.Tree.{SchemaTree}
use Rattle.avro_value.specs.Layout.{Layout, layout_of}
use Rattle.avro_value.specs.ValueTree.{ValueTree, values_of, total}
use Rattle.avro_value.specs.Spelling.{Concatenated, LengthPrefixed, KeyAndValue, Spells}
use Rattle.avro_schema.specs.Reading.{schema_of}
use Rattle.avro_schema.specs.Spelled.{IsSpelled}
use Rattle.avro_schema.specs.Writing.{json_of}
use Rattle.serde_json.specs.Written.{compact_text}
use Rattle.avro_value.specs.Writing.{varint_of, length_prefixed, values_encoding}
use Rattle.avro_value.specs.Fitting.{AreSound, Fits}
use Rattle.avro_schema.proofs.Texts.{text_found}
use Rattle.avro_value.proofs.WriteLaws.{natural_written, bytes_written, text_written, blocks_written, joined, written}
use Rattle.avro_container.specs.Format.{Pairs, magic, Meta, first_named, schema_name, codec_name, null_codec, Block, Blocks, IsContainer}
use Rattle.avro_container.specs.Writing.{pairs_text, meta_text, block_text, objects_text, container_text, ArePairs, AreEncoded, is_named, IsFree, AreWritten, IsWritten}
use Rattle.lake_basics.proofs.Texts.{bytes_itself}

-- ---- names

-- a pair of that name that has something else
abbrev is_other : List ℕ → List ℕ → List ℕ × List ℕ → Bool
is_other name v p = bytes_eq p.0 name && not (bytes_eq p.1 v)

named_first : (name v : List ℕ) (ps : Pairs) → list_any (is_named name) ps ≡ true → list_any (is_other name v) ps ≡ false → first_named name ps ≡ Some v
named_first name v [] some none = absurd cc
named_first name v (p ∷ ps) some none = go (bytes_eq p.0 name) refl some none (named_first name v ps)
  where
    go : (b : Bool) → bytes_eq p.0 name ≡ b → (b || list_any (is_named name) ps) ≡ true → ((b && not (bytes_eq p.1 v)) || list_any (is_other name v) ps) ≡ false → (list_any (is_named name) ps ≡ true → list_any (is_other name v) ps ≡ false → first_named name ps ≡ Some v) → cond b (Some p.1) (first_named name ps) ≡ Some v
    go true is h k more = on (not (bytes_eq p.1 v)) refl k
      where
        on : (c : Bool) → not (bytes_eq p.1 v) ≡ c → (c || list_any (is_other name v) ps) ≡ false → Some p.1 ≡ Some v
        on true e q = absurd cc
        on false e q = ap Some ((bytes_eq-Decides p.1 v).0 (not-false (bytes_eq p.1 v) e))
    go false is h k more = more h k

no_other : (name v : List ℕ) (ps : Pairs) → list_any (is_named name) ps ≡ false → list_any (is_other name v) ps ≡ false
no_other name v [] none = refl
no_other name v (p ∷ ps) none = go (bytes_eq p.0 name) none (no_other name v ps)
  where
    go : (b : Bool) → (b || list_any (is_named name) ps) ≡ false → (list_any (is_named name) ps ≡ false → list_any (is_other name v) ps ≡ false) → ((b && not (bytes_eq p.1 v)) || list_any (is_other name v) ps) ≡ false
    go true h more = absurd cc
    go false h more = more h

has_codec : (meta : Pairs) (text : List ℕ) (pairs : Pairs) → AreWritten meta text pairs → list_any (is_named codec_name) meta ≡ false → first_named codec_name pairs ≡ Some null_codec
has_codec meta text pairs w free =
    let all = (codec_name, null_codec) ∷ (schema_name, text) ∷ meta in
    named_first codec_name null_codec pairs (sym (list_any-IsPermutation (is_named codec_name) all pairs w.same)) (sym (list_any-IsPermutation (is_other codec_name null_codec) all pairs w.same) ∙ no_other codec_name null_codec meta free)

has_schema : (meta : Pairs) (text : List ℕ) (pairs : Pairs) → AreWritten meta text pairs → list_any (is_named schema_name) meta ≡ false → first_named schema_name pairs ≡ Some text
has_schema meta text pairs w free =
    let all = (codec_name, null_codec) ∷ (schema_name, text) ∷ meta in
    let none : list_any (is_other schema_name text) all ≡ false = rw (bytes_itself text) (no_other schema_name text meta free) in
    named_first schema_name text pairs (sym (list_any-IsPermutation (is_named schema_name) all pairs w.same)) (sym (list_any-IsPermutation (is_other schema_name text) all pairs w.same) ∙ none)

-- ---- the parts

joined_pairs : (ps : Pairs) → ArePairs ps → Concatenated (KeyAndValue LengthPrefixed) ps (pairs_text ps)
joined_pairs [] all = refl
joined_pairs (p ∷ ps) all =
    let here = all.0 in
    (length_prefixed p.0 ++ length_prefixed p.1, pairs_text ps, refl, (length_prefixed p.0, length_prefixed p.1, refl, text_written p.0 here.0, bytes_written p.1 here.1), joined_pairs ps all.1)

ones : (ps : Pairs) → total (λ _. 1) ps ≡ length ps
ones [] = refl
ones (p ∷ ps) = let h = ones ps in omega (arith, h)

pub meta_written : (ps : Pairs) → ArePairs ps → length ps < 2 ^ 63 → Meta ps (meta_text ps)
meta_written ps all few = blocks_written (KeyAndValue LengthPrefixed) ps (length ps) (pairs_text ps) refl few (joined_pairs ps all)

pub blocks_of : (l : Layout) (marker : List ℕ) (vs : List ValueTree) → AllByRecursion (Fits l) vs → AreSound (values_of vs) → length vs < 2 ^ 63 → length (values_encoding (values_of vs)) < 2 ^ 63
    → (n : ℕ) × Blocks l marker n vs (block_text (length vs) (values_encoding (values_of vs)) marker)
blocks_of l marker [] fit sound many small = (0, (refl, refl))
blocks_of l marker (v ∷ vs) fit sound many small =
    let objects = values_encoding (values_of (v ∷ vs)) in
    let some : eqb (length (v ∷ vs)) 0 ≡ false = ne_eqb (length (v ∷ vs)) 0 (λ z. absurd (omega (arith, z))) in
    let is : block_text (length (v ∷ vs)) objects marker ≡ varint_of (2 * length (v ∷ vs)) ++ (varint_of (2 * length objects) ++ (objects ++ marker)) = rw some refl in
    let all : Concatenated (Spells l) (v ∷ vs) objects = joined (Spells l) (Fits l) (written l) (v ∷ vs) fit sound in
    let block : Block l marker (v ∷ vs) (block_text (length (v ∷ vs)) objects marker) = (varint_of (2 * length (v ∷ vs)), varint_of (2 * length objects), objects, is, natural_written (length (v ∷ vs)) many, natural_written (length objects) small, all) in
    (1, (v ∷ vs, [], sym (append-nil (v ∷ vs)), (block_text (length (v ∷ vs)) objects marker, [], sym (append-nil (block_text (length (v ∷ vs)) objects marker)), block, (refl, refl))))

pub container_written : (limit : ℕ) (meta : Pairs) (text : List ℕ) (pairs : Pairs) (t : SchemaTree) (marker : List ℕ) (vs : List ValueTree) → limit < 2 ^ 63 → AreWritten meta text pairs → IsFree limit meta → schema_of text ≡ Ok t → ArePairs pairs
    → AllByRecursion (Fits (layout_of t)) vs → AreSound (values_of vs) → length marker ≡ 16 → length vs < 2 ^ 63 → length (values_encoding (values_of vs)) < 2 ^ 63 → IsContainer limit (container_text pairs marker vs) pairs t vs
container_written limit meta text pairs t marker vs low w free reads are fit sound len many small =
    let size : length pairs ≡ length meta + 2 = length_permutation ((codec_name, null_codec) ∷ (schema_name, text) ∷ meta) pairs w.same ∙ omega arith in
    let few = free.few in
    let written_blocks = blocks_of (layout_of t) marker vs fit sound many small in
    record {
      header = magic ++ (meta_text pairs ++ marker);
      marker = marker;
      blocks = block_text (length vs) (values_encoding (values_of vs)) marker;
      parts = simp append_assoc;
      is_header = record { map = meta_text pairs; parts = refl; is_map = meta_written pairs are (omega (arith, size, few, low)); few = omega (arith, size, few, ones pairs); sixteen = len };
      schema = (text, has_schema meta text pairs w free.no_schema, text_found text t reads);
      plain = inr (has_codec meta text pairs w free.no_codec);
      number = written_blocks.0;
      are_blocks = written_blocks.1;
    }

-- what is written of so many objects is a container of each list of values that they encode
pub is_written : {E : Type 0} (limit : ℕ) (r : Result (Vec ℕ Global) E) (meta : Pairs) (text : List ℕ) (pairs : Pairs) (t : SchemaTree) (marker : List ℕ) (count : ℕ) (objects : List ℕ) (vs : List ValueTree)
    → limit < 2 ^ 63 → length marker ≡ 16 → IsFree limit meta → count < 2 ^ 63 → length objects < 2 ^ 63
    → text ≡ compact_text (json_of t) → (IsSpelled t → schema_of text ≡ Ok t) → AreWritten meta text pairs
    → IfOk r (λ b. b.items ≡ objects_text pairs marker count objects) → IfOk r (λ _. ArePairs pairs)
    → AreEncoded (layout_of t) vs count objects → IfOk r (λ b. IsWritten limit b.items meta t marker vs)
is_written limit (Ok b) meta text pairs t marker count objects vs low len free many small is reads w exact are e =
    let same : b.items ≡ container_text pairs marker vs = exact ∙ ap (λ (n : ℕ). objects_text pairs marker n objects) e.number ∙ ap (objects_text pairs marker (length vs)) e.exact in
    let few : length vs < 2 ^ 63 = subst (λ (n : ℕ). n < 2 ^ 63) e.number many in
    let short : length (values_encoding (values_of vs)) < 2 ^ 63 = subst (λ (bs : List ℕ). length bs < 2 ^ 63) e.exact small in
    let container : IsSpelled t → IsContainer limit b.items pairs t vs = λ s. subst (λ (bytes : List ℕ). IsContainer limit bytes pairs t vs) (sym same) (container_written limit meta text pairs t marker vs low w free (reads s) are e.fit e.sound len few short) in
    record {
      pairs = pairs;
      metadata = subst (λ (bytes : List ℕ). AreWritten meta bytes pairs) is w;
      exact = same;
      container = container;
      read_back = λ s few. record { container = container s; few = few };
    }
is_written limit (Err x) meta text pairs t marker count objects vs low len free many small is reads w exact are e = tt
