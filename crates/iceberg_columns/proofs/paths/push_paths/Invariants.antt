use Rattle.std.proofs.Common.{◌≡◌, ◌++◌, take}
use Rattle.iceberg_columns.proofs.paths.push_paths.Given as goal

abbrev pub invariant-loop-pair : goal.invariant-loop-pair
invariant-loop-pair l = l.found.items ≡ l.fn.found.items ++ take l.pair-index l.pairs
