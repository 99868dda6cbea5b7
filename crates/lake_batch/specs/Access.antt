-- Which words may write to the store.
use Rattle.std.specs.Prelude.{◌||◌, ℕ, List, Bool, false, Option, Some, None, bytes_eq, codes}

-- A command or batch with this verb may write. A `show` and a `check` change no file, and a drill is played over a store of its own.
abbrev pub verb_writes : List ℕ → Bool
verb_writes verb =
    bytes_eq verb (codes "sync") || (bytes_eq verb (codes "full") || (bytes_eq verb (codes "sweep") || (bytes_eq verb (codes "compact") || bytes_eq verb (codes "batch"))))

-- the same of words, by the word behind their place, if there is one
abbrev pub may_write : Option (List ℕ) → Bool
may_write None = false
may_write (Some verb) = verb_writes verb
