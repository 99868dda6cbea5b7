-- What a log compaction holds: of the lines of its commits the newest about each thing (Delta protocol, "Log Compaction Files" and "Action Reconciliation").
use Rattle.std.specs.Prelude.{◌≡◌, ◌↔◌, ℕ, List, [], ◌∷◌, ◌++◌, flat_map, All, Contains}
use Rattle.std.specs.List.Sorted.{IsStrictlySortedBy}
use Rattle.std.specs.Map.{keys_of, values_of}
use Rattle.delta_log.specs.Judging.{lines_of}
use Rattle.delta_compaction.specs.declared.key.LineKey.{LineKey}
use Rattle.delta_compaction.specs.Lines.{IsAbout, key_order}

-- the lines of the commits, one commit after another
abbrev pub all_lines : List (List ℕ) → List (List ℕ)
all_lines commits = flat_map lines_of commits

-- The line is about this, and no later one is.
pub record IsNewestLine (lines : List (List ℕ)) (key : LineKey) (line : List ℕ) : Type 0 where
  pub front : List (List ℕ)
  pub later : List (List ℕ)
  pub split : lines ≡ front ++ line ∷ later
  pub about : IsAbout line key
  pub newest : All (λ l. ¬ IsAbout l key) later

-- the newest line about each thing, and no other line, in the order of what they are about
pub record AreNewest (commits : List (List ℕ)) (entries : List (LineKey × List ℕ)) : Type 0 where
  pub sorted : IsStrictlySortedBy key_order (keys_of entries)
  pub newest : (key : LineKey) (line : List ℕ) → Contains entries (key, line) ↔ IsNewestLine (all_lines commits) key line

-- a line byte for byte, with its newline
abbrev pub ended : List ℕ → List ℕ
ended line = line ++ 10 ∷ []

abbrev pub text_of : List (LineKey × List ℕ) → List ℕ
text_of entries = flat_map ended (values_of entries)

-- The text is just the newest lines of the commits.
abbrev pub IsReconciled : List (List ℕ) → List ℕ → Type 0
IsReconciled commits text = (entries : List (LineKey × List ℕ)) × AreNewest commits entries × (text ≡ text_of entries)
