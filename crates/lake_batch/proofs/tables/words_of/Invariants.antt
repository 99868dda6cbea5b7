use Rattle.std.proofs.Common.{◌≡◌, ◌++◌, ◌∷◌, map, take}
use Rattle.std.specs.Prelude.{string_bytes}
use Rattle.lake_batch.proofs.tables.words_of.Given as goal

abbrev pub invariant-loop-word : goal.invariant-loop-word
invariant-loop-word l = map string_bytes l.words.items ≡ (l.place ++ 47 ∷ l.item.folder) ∷ take l.word-index l.word-items
