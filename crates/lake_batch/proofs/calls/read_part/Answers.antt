use Rattle.std.proofs.Common.{◌∙◌}
use Rattle.lake_batch.specs.PartImages.{part_elapses}
use Rattle.lake_batch.proofs.PartAnswers.{given_part}
use Rattle.lake_batch.proofs.calls.read_part.Goals as goal

pub returns-clause-bytes : goal.returns-clause-bytes
returns-clause-bytes g c = λ told. given_part c.args.folder.now (g.S.Store.disk c.args.store.now).files c.as_str.result.now c.args.path.now (c.as_str.ensures.value ∙ c.in_ok-whole.ensures) c.read_part.result c.args.from c.args.len (c.read_part.ensures.bytes told)

pub returns-clause-elapses : goal.returns-clause-elapses
returns-clause-elapses g c = λ told. part_elapses c.args.folder.now g.S.Store.tells g.S.Store.disk g.S.Store.time g.S.Store.left_since c.args.store.now c.read_part.new.self (c.read_part.ensures.elapses told)
