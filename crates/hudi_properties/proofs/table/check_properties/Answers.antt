use Rattle.hudi_properties.proofs.FeatureLemmas.{checked_is, checked_once, refused_by}
use Rattle.hudi_properties.proofs.table.check_properties.Goals as goal

pub returns : goal.returns
returns c =
    let checked = c.checked_table.ensures in
    record { found = checked_is _ _ checked; only = checked_once _ _ checked; fault = refused_by _ _ checked; exact = checked }
