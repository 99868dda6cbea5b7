use Rattle.std.proofs.Common.{◌≡◌, drop}
use Rattle.lake_basics.specs.Outcome.{each, with_front}
use Rattle.delta_change.specs.ChangeSteps.{part_column}
use Rattle.delta_change.proofs.columns.part_columns.Given as goal

abbrev pub invariant-loop-place : goal.invariant-loop-place
invariant-loop-place l = with_front l.columns (each (part_column l.schema) (drop l.place l.names)) ≡ each (part_column l.schema) l.names
