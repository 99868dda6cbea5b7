use Rattle.lake_batch.proofs.command.run_part.Given as goal

abbrev pub ghosts-run_fenced : goal.ghosts-run_fenced
ghosts-run_fenced g a = record {
  folder = a.under.folder;
  disk = g.S.Store.disk a.under.store;
  time = g.S.Store.time a.under.store;
  left_since = g.S.Store.left_since a.under.store;
}
