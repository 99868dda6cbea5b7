use Rattle.std.proofs.Common.{◌∙◌}
use Rattle.lake_batch.specs.PartImages.{part_elapses}
use Rattle.lake_batch.proofs.PartAnswers.{count_is, given_list, given_names, too_many}
use Rattle.lake_batch.proofs.calls.list.Goals as goal

pub returns-clause-names : goal.returns-clause-names
returns-clause-names g c = λ told. given_names c.args.folder.now (g.S.Store.disk c.args.store.now).files c.as_str.result.now c.args.inner.now (c.as_str.ensures.value ∙ c.in_ok-whole.ensures) c.list.result (c.list.ensures.names told)

pub returns-clause-listed : goal.returns-clause-listed
returns-clause-listed g c = λ told. given_list c.args.folder.now (g.S.Store.disk c.args.store.now).files c.as_str.result.now c.args.inner.now (c.as_str.ensures.value ∙ c.in_ok-whole.ensures) c.list.result (c.list.ensures.names told)

pub returns-clause-too_long : goal.returns-clause-too_long
returns-clause-too_long g c = λ n is. ((c.list.ensures.too_long n is).0, λ told. count_is c.args.folder.now (g.S.Store.disk c.args.store.now).files c.as_str.result.now c.args.inner.now (c.as_str.ensures.value ∙ c.in_ok-whole.ensures) n ((c.list.ensures.too_long n is).1 told))

pub returns-clause-too_many : goal.returns-clause-too_many
returns-clause-too_many g c = λ told more. too_many c.args.folder.now (g.S.Store.disk c.args.store.now).files c.as_str.result.now c.args.inner.now (c.as_str.ensures.value ∙ c.in_ok-whole.ensures) c.list.result 2000000 (c.list.ensures.too_many told) more

pub returns-clause-elapses : goal.returns-clause-elapses
returns-clause-elapses g c = λ told. part_elapses c.args.folder.now g.S.Store.tells g.S.Store.disk g.S.Store.time g.S.Store.left_since c.args.store.now c.list.new.self (c.list.ensures.elapses told)
