-- A list of bytes, cut at its first newline.
use Rattle.std.specs.Prelude.{◌≡◌, ℕ, List, ◌∷◌, ◌++◌, false, true}
use Rattle.std.specs.List.{list_any}
use Rattle.delta_log.specs.Judging.{is_newline}

-- The bytes are a line, a newline, and what stands behind it.
pub record IsCut (bytes line behind : List ℕ) : Type 0 where
  pub newline : ℕ
  pub is : is_newline newline ≡ true
  pub split : bytes ≡ line ++ newline ∷ behind
  pub one_line : list_any is_newline line ≡ false
