-- How values are spelled.
use Rattle.std.specs.Prelude.{◌≡◌, ℕ, zero, suc, ◌+◌, ◌^◌, ◌<◌, ◌⊎◌, ℤ, pos, neg_ℤ, FitsSigned, Bool, List, [], ◌∷◌, ◌++◌, length, IsUtf8, if◌then◌else◌}
use Rattle.std.specs.Int.{w32}
use Rattle.avro_value.specs.Varint.{Long}
use Rattle.avro_value.specs.Layout.{Layout, Layouts, no_layouts, layouts, indices}
use Rattle.avro_value.specs.ValueTree.{ValueTree, values_of, entries_of}

-- what a relation between values and bytes says
abbrev pub Spelling : Type 0 → Type 1
Spelling A = A → List ℕ → Type 0

-- one behind the other
abbrev pub Followed : {A B : Type 0} → Spelling A → Spelling B → A → B → List ℕ → Type 0
Followed P Q x y bytes = (front : List ℕ) × (rest : List ℕ) × (bytes ≡ front ++ rest) × P x front × Q y rest

abbrev pub Concatenated : {A : Type 0} → Spelling A → Spelling (List A)
Concatenated P [] bytes = bytes ≡ []
Concatenated P (x ∷ xs) bytes = (front : List ℕ) × (rest : List ℕ) × (bytes ≡ front ++ rest) × P x front × Concatenated P xs rest

-- a length, and so many bytes
abbrev pub LengthPrefixed : Spelling (List ℕ)
LengthPrefixed run bytes = (head : List ℕ) × (bytes ≡ head ++ run) × Long (pos (length run)) head

abbrev pub PrefixedText : Spelling (List ℕ)
PrefixedText text bytes = IsUtf8 text × LengthPrefixed text bytes

-- how many items there are, and the items
abbrev pub CountedBlock : {A : Type 0} → Spelling A → Spelling (List A)
CountedBlock P xs bytes = Followed Long (Concatenated P) (pos (length xs)) xs bytes

-- the negative of how many items there are, how many bytes they take, and the items
abbrev pub SizedBlock : {A : Type 0} → Spelling A → Spelling (List A)
SizedBlock P xs bytes = (head size items : List ℕ) × (bytes ≡ head ++ (size ++ items)) × Long (neg_ℤ (pos (length xs))) head × Long (pos (length items)) size × Concatenated P xs items

abbrev pub Block : {A : Type 0} → Spelling A → Spelling (List A)
Block P xs bytes = (0 < length xs) × (length xs < 2 ^ 63) × (CountedBlock P xs bytes ⊎ SizedBlock P xs bytes)

-- so many blocks, and a 0 behind them
abbrev pub Blocks : {A : Type 0} → Spelling A → ℕ → Spelling (List A)
Blocks P zero xs bytes = (xs ≡ []) × Long (pos 0) bytes
Blocks P (suc n) xs bytes = (block more : List _) × (xs ≡ block ++ more) × Followed (Block P) (Blocks P n) block more bytes

abbrev pub SomeBlocks : {A : Type 0} → Spelling A → Spelling (List A)
SomeBlocks P xs bytes = (n : ℕ) × Blocks P n xs bytes

-- a key and its value
abbrev pub KeyAndValue : {A : Type 0} → Spelling A → Spelling (List ℕ × A)
KeyAndValue P e bytes = Followed PrefixedText P e.0 e.1 bytes

abbrev mutual
  pub Spells : Layout → ValueTree → List ℕ → Type 0
  Spells Layout.null v bytes = (v ≡ ValueTree.null) × (bytes ≡ [])
  Spells Layout.boolean v bytes = (b : Bool) × (v ≡ ValueTree.boolean b) × (bytes ≡ (if b then 1 else 0) ∷ [])
  Spells Layout.int v bytes = (n : ℤ) × (v ≡ ValueTree.int n) × FitsSigned w32 n × Long n bytes
  Spells Layout.long v bytes = (n : ℤ) × (v ≡ ValueTree.long n) × Long n bytes
  Spells Layout.float v bytes = (v ≡ ValueTree.float bytes) × (length bytes ≡ 4)
  Spells Layout.double v bytes = (v ≡ ValueTree.double bytes) × (length bytes ≡ 8)
  Spells Layout.bytes v bytes = (run : List ℕ) × (v ≡ ValueTree.bytes run) × LengthPrefixed run bytes
  Spells Layout.text v bytes = (text : List ℕ) × (v ≡ ValueTree.text text) × PrefixedText text bytes
  Spells (Layout.fixed_of n) v bytes = (v ≡ ValueTree.fixed bytes) × (length bytes ≡ n)
  Spells (Layout.enum_of n) v bytes = (i : ℕ) × (v ≡ ValueTree.enum_of i) × (i < indices n) × Long (pos i) bytes
  Spells (Layout.array_of l) v bytes = (vs : List ValueTree) × (v ≡ ValueTree.array_of (values_of vs)) × SomeBlocks (Spells l) vs bytes
  Spells (Layout.map_of l) v bytes = (es : List (List ℕ × ValueTree)) × (v ≡ ValueTree.map_of (entries_of es)) × SomeBlocks (KeyAndValue (Spells l)) es bytes
  Spells (Layout.union_of ls) v bytes = (i : ℕ) × (inner : ValueTree) × (v ≡ ValueTree.union_of i inner) × (i < 2 ^ 32) × Followed Long (SpellsBranch ls i) (pos i) inner bytes
  Spells (Layout.record_of ls) v bytes = (vs : List ValueTree) × (v ≡ ValueTree.record_of (values_of vs)) × SpellsParts ls vs bytes

  -- a value of the branch of that index, of which there is one
  pub SpellsBranch : Layouts → ℕ → ValueTree → List ℕ → Type 0
  SpellsBranch no_layouts i v bytes = ⊥
  SpellsBranch (layouts l ls) zero v bytes = Spells l v bytes
  SpellsBranch (layouts l ls) (suc i) v bytes = SpellsBranch ls i v bytes

  -- a value of each
  pub SpellsParts : Layouts → List ValueTree → List ℕ → Type 0
  SpellsParts no_layouts vs bytes = (vs ≡ []) × (bytes ≡ [])
  SpellsParts (layouts l ls) vs bytes = (v : ValueTree) × (others : List ValueTree) × (vs ≡ v ∷ others) × Followed (Spells l) (SpellsParts ls) v others bytes
