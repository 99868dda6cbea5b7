use Rattle.hudi_properties.proofs.GrammarLemmas.{found_by, only_by, fault_by}
use Rattle.hudi_properties.proofs.pair.read_properties.Goals as goal

pub returns : goal.returns
returns c =
    let reading = c.pairs_of_text.ensures in
    record { found = found_by _ _ reading; only = only_by _ _ reading; fault = fault_by _ _ reading; exact = reading }
