use Rattle.lake_batch.proofs.command.run_fenced.Goals as goal

pub returns-clause-command : goal.returns-clause-command
returns-clause-command g c = rw (c.into_inner.ensures.store, ← c.new-fenced.ensures, ← c.new.ensures) c.run-status.ensures
