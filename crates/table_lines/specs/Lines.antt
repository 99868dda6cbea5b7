-- How a text is printed as a line.
use Rattle.std.specs.Prelude.{ℕ, nat_lt, List, [], ◌∷◌, ◌++◌, map, if◌then◌else◌}

-- a byte under 32 is printed as `?`
abbrev pub printed : ℕ → ℕ
printed b = if nat_lt b 32 then 63 else b

-- a text as a line, with its newline
abbrev pub line : List ℕ → List ℕ
line text = map printed text ++ 10 ∷ []
