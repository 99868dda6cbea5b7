use Rattle.std.proofs.Common.{◌∙◌}
use Rattle.lake_batch.specs.PartImages.{part_elapses}
use Rattle.lake_batch.proofs.PartAnswers.{given_bytes, length_in, length_of}
use Rattle.lake_batch.proofs.calls.read.Goals as goal

pub returns-clause-bytes : goal.returns-clause-bytes
returns-clause-bytes g c = λ told. given_bytes c.args.folder.now (g.S.Store.disk c.args.store.now).files c.as_str.result.now c.args.path.now (c.as_str.ensures.value ∙ c.in_ok-whole.ensures) c.read.result (c.read.ensures.bytes told)

pub returns-clause-too_long : goal.returns-clause-too_long
returns-clause-too_long g c = λ n is. ((c.read.ensures.too_long n is).0, λ told. length_in c.args.folder.now (g.S.Store.disk c.args.store.now).files c.as_str.result.now c.args.path.now (c.as_str.ensures.value ∙ c.in_ok-whole.ensures) n ((c.read.ensures.too_long n is).1 told))

pub returns-clause-too_large : goal.returns-clause-too_large
returns-clause-too_large g c = λ told n more has. c.read.ensures.too_large told n more (length_of c.args.folder.now (g.S.Store.disk c.args.store.now).files c.as_str.result.now c.args.path.now (c.as_str.ensures.value ∙ c.in_ok-whole.ensures) n has)

pub returns-clause-elapses : goal.returns-clause-elapses
returns-clause-elapses g c = λ told. part_elapses c.args.folder.now g.S.Store.tells g.S.Store.disk g.S.Store.time g.S.Store.left_since c.args.store.now c.read.new.self (c.read.ensures.elapses told)
