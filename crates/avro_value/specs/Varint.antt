-- Avro specification, "Binary Encoding": whole numbers as zig-zag varints, in groups of seven bits, the
-- lowest first, with the sign in the lowest bit.
use Rattle.std.specs.Prelude.{◌≡◌, ℕ, ◌+◌, ◌*◌, ◌/◌, ◌%◌, ◌^◌, ◌<◌, ◌≤◌, ℤ, pos, negsuc, List, [], ◌∷◌, length, ◌==◌, if◌then◌else◌}

-- Each byte but the last has its continuation bit.
abbrev pub ContinuesToLast : List ℕ → Type 0
ContinuesToLast [] = ⊥
ContinuesToLast (b ∷ []) = b < 128
ContinuesToLast (b ∷ c ∷ bs) = (128 ≤ b) × ContinuesToLast (c ∷ bs)

-- what the groups stand for
abbrev pub varint_value : List ℕ → ℕ
varint_value [] = 0
varint_value (b ∷ bs) = b % 128 + 128 * varint_value bs

-- The bytes are one to ten groups of a number of 64 bits. Groups of zeros may end it.
pub record Varint (z : ℕ) (bytes : List ℕ) : Type 0 where
  pub number : ContinuesToLast bytes
  pub short : length bytes ≤ 10
  pub value : varint_value bytes ≡ z
  pub fits : z < 2 ^ 64

-- An even number stands for its half, an odd one for a negative number.
abbrev pub zigzag_value : ℕ → ℤ
zigzag_value z = if z % 2 == 0 then pos (z / 2) else negsuc (z / 2)

-- The bytes spell the number n.
abbrev pub Long : ℤ → List ℕ → Type 0
Long n bytes = (z : ℕ) × (n ≡ zigzag_value z) × Varint z bytes
