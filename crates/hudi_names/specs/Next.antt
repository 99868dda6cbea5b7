-- The time of the instant that comes next.
use Rattle.std.specs.Prelude.{◌≡◌, ℕ, ◌+ℤ◌, ℤ, pos, List, Option, Some, None}
use Rattle.std.specs.Int.{int_max}
use Rattle.hudi_names.specs.Time.{IsTime}

-- the greater of the clock's time and the time one millisecond after the last instant
abbrev pub IsNext : Option (List ℕ) → ℕ → ℤ → Type 0
IsNext None now ms = ms ≡ pos now
IsNext (Some last) now ms = (before : ℤ) × IsTime last before × (ms ≡ int_max (pos now) (before +ℤ pos 1))
