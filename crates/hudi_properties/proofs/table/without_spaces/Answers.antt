use Rattle.hudi_properties.proofs.TableLemmas.{after_spaces}
use Rattle.hudi_properties.proofs.table.without_spaces.Goals as goal

pub range_from-rest-requires : goal.range_from-rest-requires
range_from-rest-requires c = after_spaces c.args.text.now c.leading_spaces.result c.utf8.text c.leading_spaces.ensures
