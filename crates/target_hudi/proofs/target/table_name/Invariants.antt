use Rattle.std.proofs.Common.{◌≡◌, ◌⊎◌, ◌∷◌, ◌++◌, ℕ, List, ◌+◌, ◌≤◌, length}
use denote.Text.{Utf8}
use denote.Shadow.{shadow}
use Rattle.target_hudi.proofs.target.table_name.Given as goal

abbrev pub invariant-loop : goal.invariant-loop
invariant-loop l = shadow (Utf8 l.name) × ((l.location ≡ l.name) ⊎ ((front : List ℕ) × (l.location ≡ front ++ 47 ∷ l.name))) × (length l.name + l.counter ≤ length l.location)
