use Rattle.std.proofs.Common.{◌∙◌}
use Rattle.hudi_table.proofs.Searches.{searched}
use Rattle.target_hudi.proofs.OwnNameLemmas.{name_decided}
use Rattle.target_hudi.proofs.own_names.has_name.Goals as goal

pub returns : goal.returns
returns c = name_decided c.args.names.now c.args.name.now c.is_ok.result (c.is_ok.ensures.value ∙ searched c.args.names.now c.requires c.args.name.now c.binary_search.result c.binary_search.ensures.bound c.binary_search.ensures.position)
