-- Which text is that of a decimal type: `decimal(p,s)`, read with or without spaces around its numbers.
use Rattle.std.specs.Prelude.{◌≡◌, ◌<◌, ◌≤◌, ◌+◌, ◌*◌, ℕ, List, [], ◌∷◌, ◌++◌, codes}

abbrev pub AreSpaces : List ℕ → Type 0
AreSpaces [] = Unit {0}
AreSpaces (b ∷ bytes) = (b ≡ 32) × AreSpaces bytes

-- One or two digits spell the number.
abbrev pub AreDigits : ℕ → List ℕ → Type 0
AreDigits n [] = ⊥
AreDigits n (b ∷ []) = (n < 10) × (b ≡ 48 + n)
AreDigits n (b ∷ c ∷ []) = (d : ℕ) × (e : ℕ) × (d < 10) × (e < 10) × (b ≡ 48 + d) × (c ≡ 48 + e) × (n ≡ 10 * d + e)
AreDigits n (b ∷ c ∷ x ∷ more) = ⊥

-- The digits of the number, with or without spaces around them.
pub record IsNumber (n : ℕ) (text : List ℕ) : Type 0 where
  pub before : List ℕ
  pub digits : List ℕ
  pub behind : List ℕ
  pub spaces_before : AreSpaces before
  pub are : AreDigits n digits
  pub spaces_behind : AreSpaces behind
  pub whole : text ≡ before ++ (digits ++ behind)

-- The precision is from 1 to 38, and the scale up to the precision.
pub record IsDecimalText (p s : ℕ) (text : List ℕ) : Type 0 where
  pub precision : List ℕ
  pub scale : List ℕ
  pub is_precision : IsNumber p precision
  pub is_scale : IsNumber s scale
  pub whole : text ≡ codes "decimal(" ++ (precision ++ (codes "," ++ (scale ++ codes ")")))
  pub some : 0 < p
  pub most : p ≤ 38
  pub within : s ≤ p
