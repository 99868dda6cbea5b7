use Rattle.std.proofs.Common.{◌≡◌}
use Rattle.std.specs.Prelude.{flat_map}
use Rattle.delta_compaction.specs.Reconciled.{ended}
use Rattle.delta_compaction.proofs.KeyLemmas.{lines_in}
use Rattle.delta_compaction.proofs.newest.joined_text.Given as goal

abbrev pub invariant-loop-line : goal.invariant-loop-line
invariant-loop-line l = l.text.items ≡ flat_map ended (lines_in l.yielded)
