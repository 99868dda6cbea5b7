use Rattle.std.proofs.Common.{◌∙◌}
use Rattle.schema_map.proofs.Prefixes.{no_prefix}
use Rattle.schema_map.proofs.paths.column_paths.Goals as goal

pub returns : goal.returns
returns c = c.in_ok-push_columns.ensures ∙ rw (c.new-paths.ensures.items, c.new-top.ensures, no_prefix, c.columns.ensures)
