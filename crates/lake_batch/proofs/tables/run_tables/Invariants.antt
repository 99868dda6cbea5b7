use Rattle.std.proofs.Common.{ℕ}
use Rattle.lake_batch.specs.Tables.{HasRun}
use Rattle.lake_batch.proofs.tables.run_tables.Given as goal

abbrev pub invariant-loop-item : goal.invariant-loop-item
invariant-loop-item g l = record {
  ran : HasRun g.S.Store g.O.Sink g.R.Commands.formats (g.C.Clock.gives l.fn.clock) l.place l.tables l.item-index l.fn.store l.store l.fn.out l.out l.tally;
  still : (time : ℕ) → g.C.Clock.gives l.clock time → g.C.Clock.gives l.fn.clock time;
}
