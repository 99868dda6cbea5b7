use Rattle.std.proofs.Common.{◌≡◌, ℕ, List, take}
use Rattle.delta_live.specs.RowSteps.{kind_in, kind_of}
use Rattle.delta_live.proofs.texts.kinds_by_name.Given as goal

abbrev pub invariant-loop-column : goal.invariant-loop-column
invariant-loop-column l = (name : List ℕ) → kind_in l.kinds name ≡ kind_of (take l.column-index l.columns) name
