use Rattle.std.proofs.Common.{◌∙◌, Ok, ap}
use Rattle.hudi_properties.specs.Pairs.{in_order}
use Rattle.target_hudi.proofs.PairLemmas.{is_new_table}
use Rattle.target_hudi.proofs.properties.new_properties.Goals as goal

pub returns-in-Ok-clause-read : goal.returns-in-Ok-clause-read
returns-in-Ok-clause-read c = is_new_table c.args.name.now c.args.partition.now c.in-Ok.bytes (c.in-Ok.ensures.reads_back ∙ ap (λ l. Ok (in_order l)) c.in_ok-pairs.ensures)
