-- What a container file is.
use Rattle.std.specs.Prelude.{◌≡◌, ℕ, zero, suc, ◌+◌, ◌≤◌, ◌⊎◌, pos, List, [], ◌∷◌, ◌++◌, length, Option, Some, None, codes, if◌then◌else◌}
use Rattle.std.specs.Str.{bytes_eq}
use Rattle.avro_value.specs.Varint.{Long}
use Rattle.avro_schema.specs.Tree.{SchemaTree}
use Rattle.avro_value.specs.Layout.{Layout, layout_of}
use Rattle.avro_value.specs.ValueTree.{ValueTree, value_count, total}
use Rattle.avro_value.specs.Spelling.{Spelling, Followed, Concatenated, LengthPrefixed, KeyAndValue, SomeBlocks, Spells}
use Rattle.avro_schema.specs.Grammar.{IsSchemaText}

-- names with their bytes, in the order of the file
abbrev pub Pairs : Type 0
Pairs = List (List ℕ × List ℕ)

-- `Obj` and 1
abbrev pub magic : List ℕ
magic = 79 ∷ 98 ∷ 106 ∷ 1 ∷ []

-- a map of bytes
abbrev pub Meta : Spelling Pairs
Meta pairs bytes = SomeBlocks (KeyAndValue LengthPrefixed) pairs bytes

-- how many values a map of bytes has, itself among them
abbrev pub meta_size : Pairs → ℕ
meta_size pairs = total (λ _. 1) pairs + 1

-- what the first pair of that name has
abbrev pub first_named : List ℕ → Pairs → Option (List ℕ)
first_named name [] = None
first_named name (p ∷ ps) = if bytes_eq p.0 name then Some p.1 else first_named name ps

abbrev pub schema_name : List ℕ
schema_name = codes "avro.schema"

abbrev pub codec_name : List ℕ
codec_name = codes "avro.codec"

-- the only codec
abbrev pub null_codec : List ℕ
null_codec = codes "null"

-- The metadata has a text of that schema.
abbrev pub HasSchema : Pairs → SchemaTree → Type 0
HasSchema meta t = (text : List ℕ) × (first_named schema_name meta ≡ Some text) × IsSchemaText text t

-- The blocks aren't compressed.
abbrev pub IsPlain : Pairs → Type 0
IsPlain meta = (first_named codec_name meta ≡ None) ⊎ (first_named codec_name meta ≡ Some null_codec)

-- magic, metadata and marker
pub record Header (limit : ℕ) (meta : Pairs) (marker : List ℕ) (bytes : List ℕ) : Type 0 where
  pub map : List ℕ
  pub parts : bytes ≡ magic ++ (map ++ marker)
  pub is_map : Meta meta map
  pub few : meta_size meta ≤ limit
  pub sixteen : length marker ≡ 16

-- how many objects there are, how many bytes they take, the objects, and the marker
abbrev pub Block : Layout → List ℕ → Spelling (List ValueTree)
Block l marker vs bytes = (count sizes objects : List ℕ) × (bytes ≡ count ++ (sizes ++ (objects ++ marker))) × Long (pos (length vs)) count × Long (pos (length objects)) sizes × Concatenated (Spells l) vs objects

-- so many blocks
abbrev pub Blocks : Layout → List ℕ → ℕ → Spelling (List ValueTree)
Blocks l marker zero vs bytes = (vs ≡ []) × (bytes ≡ [])
Blocks l marker (suc n) vs bytes = (block more : List ValueTree) × (vs ≡ block ++ more) × Followed (Block l marker) (Blocks l marker n) block more bytes

-- The bytes are a container with that metadata, that schema and these values. The metadata has no
-- more values than the limit.
pub record IsContainer (limit : ℕ) (bytes : List ℕ) (meta : Pairs) (t : SchemaTree) (vs : List ValueTree) : Type 0 where
  pub header : List ℕ
  pub marker : List ℕ
  pub blocks : List ℕ
  pub parts : bytes ≡ header ++ blocks
  pub is_header : Header limit meta marker header
  pub schema : HasSchema meta t
  pub plain : IsPlain meta
  pub number : ℕ
  pub are_blocks : Blocks (layout_of t) marker number vs blocks

-- A container whose objects together have no more values than the limit either.
pub record IsWithin (limit : ℕ) (bytes : List ℕ) (meta : Pairs) (t : SchemaTree) (vs : List ValueTree) : Type 0 where
  pub container : IsContainer limit bytes meta t vs
  pub few : total value_count vs ≤ limit
