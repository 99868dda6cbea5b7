-- Lines of a text that are left to read.
use Rattle.std.proofs.Common.{ℕ, ◌+◌, ◌<◌, ◌≤◌, List, length, Option, Some, None, option_map, IfSome, Bor, arith}

-- at least as many as the lines that are left
abbrev pub left : Option (List ℕ) → ℕ
left None = 0
left (Some bytes) = length bytes + 1

pub left_shorter : (o : Option (Bor (List ℕ))) (n : ℕ) → IfSome o (λ s. length s.now < n) → left (option_map (λ s. s.now) o) ≤ n
left_shorter None n h = omega arith
left_shorter (Some s) n h = omega arith
