-- Tokens that are written one run after another.
use Rattle.std.proofs.Common.{◌≡◌, List, ◌++◌, ap, ◌∙◌, append_assoc}
use Rattle.json.specs.Token.{Token}

-- tokens that stand at the end of others
pub record Grew (a b ts : List Token) : Type 0 where
  pub is : b ≡ a ++ ts

pub first : (a b ts : List Token) → b ≡ a ++ ts → Grew a b ts
first a b ts is = record { is = is }

pub more : (a b c us ts : List Token) → Grew a b us → c ≡ b ++ ts → Grew a c (us ++ ts)
more a b c us ts before is = record { is = is ∙ ap (λ l. l ++ ts) before.is ∙ append_assoc a us ts }
