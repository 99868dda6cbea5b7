-- How far the times of instants have come, as a number.
use Rattle.std.specs.Prelude.{ℕ, ◌+◌, List, Option, None, Some}
use Rattle.std.specs.Str.Parse.{digits_value}

-- one more than the number that the newest time's digits spell, and 0 before the first instant
abbrev pub time_rank : Option (List ℕ) → ℕ
time_rank None = 0
time_rank (Some time) = 1 + digits_value 10 time
