-- Lengths of what is found in a folder.
use Rattle.std.specs.Prelude.{ℕ, ◌<◌, ◌≤◌}
use Rattle.lake_system.specs.declared.files.Found.{Found}
use Rattle.lake_system.specs.declared.files.Found.TheVariants.{Absent, TooLong, Here}

-- what is there has at most so many parts, and what is too long has more
abbrev pub IsWithin : {T : Type 0} → ℕ → (T → ℕ) → Found T → Type 0
IsWithin limit length_of Absent = Unit {0}
IsWithin limit length_of (TooLong n) = limit < n
IsWithin limit length_of (Here x) = length_of x ≤ limit
