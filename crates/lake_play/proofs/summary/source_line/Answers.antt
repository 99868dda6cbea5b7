use Rattle.std.proofs.Common.{ℕ, subst}
use Rattle.std.specs.Prelude.{IfOk, string_bytes}
use Rattle.lake_play.specs.Drilled.{TellsOf}
use Rattle.lake_play.specs.Lines.{counted_line}
use Rattle.lake_play.proofs.summary.source_line.Goals as goal

pub returns : goal.returns
returns c = subst (λ (n : ℕ). IfOk c.counted_line.result (λ text. TellsOf (counted_line c.args.number n) c.args.rows.now (string_bytes text))) c.sync_points.ensures c.counted_line.ensures
