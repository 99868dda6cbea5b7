use Rattle.std.proofs.Common.{List, subst}
use Rattle.lake_batch.specs.Tables.{RunsBatch}
use Rattle.lake_batch.specs.declared.batch.Item.{Item}
use Rattle.lake_batch.proofs.Runs.{batch_ended, batch_whole}
use Rattle.lake_batch.proofs.tables.run_batch.Goals as goal

pub returns-in-Ok : goal.returns-in-Ok
returns-in-Ok g c = subst (λ (items : List Item). RunsBatch g.S.Store g.O.Sink g.R.Commands.formats (g.C.Clock.gives c.args.clock.now) c.args.place.now items c.args.store c.run_tables-store.result.0 c.args.out.now c.tell.new.out c.tell.result) c.as_slice-tables.ensures
    (batch_whole g.S.Store g.O.Sink g.R.Commands.formats c.args.place.now (g.C.Clock.gives c.args.clock.now) g.met.S.Store.only_now c.as_slice-tables.result.now c.args.store c.run_tables-store.result.0 c.args.out.now c.run_tables-store.new.out c.tell.new.out c.in-Ok.tally c.tell.result (rw c.in-Ok.is at c.run_tables-store.ensures) c.tell.ensures)

pub returns-in-Err : goal.returns-in-Err
returns-in-Err g c = subst (λ (items : List Item). RunsBatch g.S.Store g.O.Sink g.R.Commands.formats (g.C.Clock.gives c.args.clock.now) c.args.place.now items c.args.store c.run_tables-store.result.0 c.args.out.now c.run_tables-store.new.out c.in-Err.end) c.as_slice-tables.ensures
    (batch_ended g.S.Store g.O.Sink g.R.Commands.formats c.args.place.now (g.C.Clock.gives c.args.clock.now) g.met.S.Store.only_now c.as_slice-tables.result.now c.args.store c.run_tables-store.result.0 c.args.out.now c.run_tables-store.new.out c.in-Err.end (rw c.in-Err.is at c.run_tables-store.ensures))
