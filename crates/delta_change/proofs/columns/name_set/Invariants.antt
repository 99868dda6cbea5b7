use Rattle.std.proofs.Common.{◌≡◌, ℕ, List, drop, ◌||◌}
use Rattle.std.specs.List.{list_any}
use Rattle.std.specs.Str.{bytes_eq}
use Rattle.delta_change.proofs.ColumnNameLemmas.{At}
use Rattle.delta_change.proofs.columns.name_set.Given as goal

abbrev pub invariant-loop-name : goal.invariant-loop-name
invariant-loop-name l = (name : List ℕ) → (list_any (At name) l.set.keys || list_any (bytes_eq name) (drop l.name-index l.names)) ≡ list_any (bytes_eq name) l.names
