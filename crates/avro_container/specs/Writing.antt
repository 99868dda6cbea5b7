-- The bytes of a container that is written.
use Rattle.std.specs.Prelude.{◌≡◌, ℕ, ◌+◌, ◌*◌, ◌^◌, ◌<◌, ◌≤◌, Bool, false, List, [], ◌∷◌, ◌++◌, length, ◌==◌, if◌then◌else◌}
use Rattle.std.specs.List.{AllByRecursion, list_any}
use Rattle.std.specs.List.Sorted.{IsPermutation, IsSortedBy}
use Rattle.std.specs.Cmp.Lexicographic.{slice_cmp}
use Rattle.std.specs.Ordering.{is_lt, nat_cmp}
use Rattle.std.specs.Str.{bytes_eq}
use Rattle.avro_schema.specs.Tree.{SchemaTree}
use Rattle.avro_schema.specs.Spelled.{IsSpelled}
use Rattle.avro_schema.specs.Writing.{json_of}
use Rattle.serde_json.specs.Written.{compact_text}
use Rattle.avro_value.specs.ValueTree.{ValueTree, values_of, value_count, total}
use Rattle.avro_value.specs.Writing.{varint_of, length_prefixed, block_encoding, values_encoding}
use Rattle.avro_value.specs.Fitting.{IsText, AreSound, Fits}
use Rattle.avro_value.specs.Layout.{Layout}
use Rattle.avro_container.specs.Format.{Pairs, magic, schema_name, codec_name, null_codec, IsContainer, IsWithin}

abbrev pub pairs_text : Pairs → List ℕ
pairs_text [] = []
pairs_text (p ∷ ps) = (length_prefixed p.0 ++ length_prefixed p.1) ++ pairs_text ps

abbrev pub meta_text : Pairs → List ℕ
meta_text ps = block_encoding (length ps) (pairs_text ps)

-- one block, or none where there are no values
abbrev pub block_text : ℕ → List ℕ → List ℕ → List ℕ
block_text count objects marker = if count == 0 then [] else varint_of (2 * count) ++ (varint_of (2 * length objects) ++ (objects ++ marker))

-- a container of so many objects, which have these bytes
abbrev pub objects_text : Pairs → List ℕ → ℕ → List ℕ → List ℕ
objects_text meta marker count objects = magic ++ (meta_text meta ++ (marker ++ block_text count objects marker))

abbrev pub container_text : Pairs → List ℕ → List ValueTree → List ℕ
container_text meta marker vs = objects_text meta marker (length vs) (values_encoding (values_of vs))

-- The bytes are the encodings of these values one behind the other, and the values are so many. They
-- have the shape of the layout, with numbers, texts and lengths in their ranges.
pub record AreEncoded (l : Layout) (vs : List ValueTree) (count : ℕ) (objects : List ℕ) : Type 0 where
  pub fit : AllByRecursion (Fits l) vs
  pub sound : AreSound (values_of vs)
  pub number : count ≡ length vs
  pub exact : objects ≡ values_encoding (values_of vs)

-- names are text, and nothing is longer than memory
abbrev pub ArePairs : Pairs → Type 0
ArePairs ps = AllByRecursion (λ p. IsText p.0 × (length p.1 < 2 ^ 63)) ps

-- by the names, byte by byte
abbrev pub is_before : List ℕ × List ℕ → List ℕ × List ℕ → Bool
is_before p q = is_lt (slice_cmp nat_cmp p.0 q.0)

-- whether a pair has that name
abbrev pub is_named : List ℕ → List ℕ × List ℕ → Bool
is_named name p = bytes_eq p.0 name

-- There is budget for the schema and the codec, and neither is there.
pub record IsFree (limit : ℕ) (meta : Pairs) : Type 0 where
  pub no_schema : list_any (is_named schema_name) meta ≡ false
  pub no_codec : list_any (is_named codec_name) meta ≡ false
  pub few : length meta + 3 ≤ limit

-- what is written of metadata: with the codec and that schema text, in byte order of the names
pub record AreWritten (meta : Pairs) (text : List ℕ) (pairs : Pairs) : Type 0 where
  pub same : IsPermutation ((codec_name, null_codec) ∷ (schema_name, text) ∷ meta) pairs
  pub order : IsSortedBy is_before pairs

-- The bytes of a container of the schema and the values, with this metadata. They are one where a
-- text can spell the schema, and are read back where reading may make as many values.
pub record IsWritten (limit : ℕ) (bytes : List ℕ) (meta : Pairs) (t : SchemaTree) (marker : List ℕ) (vs : List ValueTree) : Type 0 where
  pub pairs : Pairs
  pub metadata : AreWritten meta (compact_text (json_of t)) pairs
  pub exact : bytes ≡ container_text pairs marker vs
  pub container : IsSpelled t → IsContainer limit bytes pairs t vs
  pub read_back : IsSpelled t → total value_count vs ≤ limit → IsWithin limit bytes pairs t vs
