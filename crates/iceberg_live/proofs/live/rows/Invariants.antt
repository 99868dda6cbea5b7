use Rattle.std.proofs.Common.{◌≡◌}
use Rattle.std.specs.List.{filter}
use Rattle.lake_basics.specs.Outcome.{each, with_front}
use Rattle.iceberg_live.specs.Live.{live_row, rows_in}
use Rattle.iceberg_manifest.specs.Entry.{is_live}
use Rattle.iceberg_live.proofs.live.rows.Given as goal

abbrev pub invariant-loop-entry : goal.invariant-loop-entry
invariant-loop-entry l = with_front l.rows.items (each (live_row l.front l.info) (filter is_live l.entry-iterator.rest.items)) ≡ rows_in l.front l.info l.fn.entries.items
