use Rattle.std.proofs.Common.{◌≡◌, drop}
use Rattle.lake_basics.specs.Outcome.{each, with_front}
use Rattle.hudi_files.specs.Stats.{bare_row}
use Rattle.hudi_files.proofs.rows.bare_rows.Given as goal

abbrev pub invariant-loop-stat : goal.invariant-loop-stat
invariant-loop-stat l = with_front l.rows (each (bare_row l.suffix) (drop l.stat-index l.stats)) ≡ each (bare_row l.suffix) l.stats
