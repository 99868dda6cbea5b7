use Rattle.std.proofs.Common.{◌<◌, ◌^◌}
use Rattle.file_links.specs.declared.slots.Held.{Held}
use Rattle.iceberg_version.proofs.RewritingLemmas.{of_row}
use Rattle.iceberg_version.proofs.rewriting.existing_entries.Goals as goal

pub existing_entry-requires : goal.existing_entry-requires
existing_entry-requires c = of_row (λ (h : Held). h.born < 2 ^ 63) c.args.rows.now c.loop-row.row-index c.row-item.result c.requires c.loop-row-test.true c.row-item.is
