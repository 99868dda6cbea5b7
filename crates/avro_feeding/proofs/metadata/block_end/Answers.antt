use Rattle.std.proofs.Common.{sym, ◌∙◌}
use Rattle.avro_feeding.proofs.ResumeLemmas.{behind_block}
use Rattle.avro_feeding.proofs.metadata.block_end.Goals as goal

pub returns : goal.returns
returns c = behind_block c.args.bytes.now c.args.place c.args.budget c.args.left c.requires.at c.requires.done (sym c.fits.ensures ∙ c.if-not-fits.false)
