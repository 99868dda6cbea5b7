use Rattle.lake_rows.proofs.tables.led.Goals as goal

pub apply-requires : goal.apply-requires
apply-requires c = c.in_ok-change.ensures.fits
