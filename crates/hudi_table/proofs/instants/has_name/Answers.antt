use Rattle.std.proofs.Common.{◌∙◌}
use Rattle.hudi_table.proofs.Searches.{searched}
use Rattle.hudi_table.proofs.instants.has_name.Goals as goal

pub returns : goal.returns
returns c = c.is_ok.ensures.value ∙ searched c.args.names.now c.requires c.args.name.now c.binary_search.result c.binary_search.ensures.bound c.binary_search.ensures.position
