use Rattle.std.proofs.Common.{ap, ◌∙◌}
use Rattle.json_outline.specs.View.{sorted_view}
use Rattle.json_outline.proofs.Nodes.{sorted_view-insert_entry}
use Rattle.json_outline.proofs.sorted.put_member.Goals as goal

pub returns : goal.returns
returns c = ap sorted_view c.in_ok-insert.ensures.entries ∙ sorted_view-insert_entry c.args.sorted.now.entries c.args.name c.args.value
