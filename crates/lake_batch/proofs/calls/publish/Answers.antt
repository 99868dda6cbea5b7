use Rattle.std.proofs.Common.{◌∙◌}
use Rattle.lake_basics.specs.declared.limits.TheConstants.{MAX_FILE_BYTES}
use Rattle.lake_batch.specs.PartImages.{part_elapses}
use Rattle.lake_batch.proofs.PartAnswers.{clean_in, free, has_moved, is_taken, may_have_moved, there}
use Rattle.lake_batch.proofs.PartLaws.{part-short}
use Rattle.lake_batch.proofs.PartCalls.{beside_publish}
use Rattle.lake_batch.proofs.calls.publish.Goals as goal

pub publish-requires-clause-there : goal.publish-requires-clause-there
publish-requires-clause-there g c = λ told. there c.args.folder.now (g.S.Store.disk c.args.store.now).files c.as_str-from.result.now c.args.from.now (c.as_str-from.ensures.value ∙ c.in_ok-whole_from.ensures) (c.requires.there told)

pub publish-requires-clause-durable : goal.publish-requires-clause-durable
publish-requires-clause-durable g c = λ told. clean_in c.args.folder.now (g.S.Store.disk c.args.store.now) c.as_str-from.result.now c.args.from.now (c.as_str-from.ensures.value ∙ c.in_ok-whole_from.ensures) (c.requires.durable told)

pub publish-requires-clause-free : goal.publish-requires-clause-free
publish-requires-clause-free g c = λ told. free c.args.folder.now (g.S.Store.disk c.args.store.now).files c.as_str-to.result.now c.args.to.now (c.as_str-to.ensures.value ∙ c.in_ok-whole_to.ensures) (c.requires.free told)

pub returns-clause-ok : goal.returns-clause-ok
returns-clause-ok g c = λ told. has_moved c.args.folder.now c.publish.result (g.S.Store.disk c.args.store.now) (g.S.Store.disk c.publish.new.self) c.as_str-from.result.now c.args.from.now c.as_str-to.result.now c.args.to.now (c.as_str-from.ensures.value ∙ c.in_ok-whole_from.ensures) (c.as_str-to.ensures.value ∙ c.in_ok-whole_to.ensures) (c.publish.ensures.ok told)

pub returns-clause-taken : goal.returns-clause-taken
returns-clause-taken g c = λ told. is_taken c.args.folder.now c.publish.result (g.S.Store.disk c.args.store.now) (g.S.Store.disk c.publish.new.self) c.as_str-from.result.now c.args.from.now c.as_str-to.result.now c.args.to.now (c.as_str-from.ensures.value ∙ c.in_ok-whole_from.ensures) (c.as_str-to.ensures.value ∙ c.in_ok-whole_to.ensures) (c.publish.ensures.taken told)

pub returns-clause-err : goal.returns-clause-err
returns-clause-err g c = λ told. may_have_moved c.args.folder.now c.publish.result (g.S.Store.disk c.args.store.now) (g.S.Store.disk c.publish.new.self) c.as_str-from.result.now c.args.from.now c.as_str-to.result.now c.args.to.now (c.as_str-from.ensures.value ∙ c.in_ok-whole_from.ensures) (c.as_str-to.ensures.value ∙ c.in_ok-whole_to.ensures) (c.publish.ensures.err told)

pub returns-clause-elapses : goal.returns-clause-elapses
returns-clause-elapses g c = λ told. part_elapses c.args.folder.now g.S.Store.tells g.S.Store.disk g.S.Store.time g.S.Store.left_since c.args.store.now c.publish.new.self (c.publish.ensures.elapses told)

pub returns-clause-beside : goal.returns-clause-beside
returns-clause-beside g c = beside_publish g.S.Store g.met.S.Store.only_now c.args.folder.now c.args.store.now c.publish.new.self c.publish.ensures.elapses c.publish.result c.as_str-from.result.now c.args.from.now c.as_str-to.result.now c.args.to.now (c.as_str-from.ensures.value ∙ c.in_ok-whole_from.ensures) (c.as_str-to.ensures.value ∙ c.in_ok-whole_to.ensures) c.publish.ensures.ok c.publish.ensures.taken c.publish.ensures.err

pub returns-clause-short : goal.returns-clause-short
returns-clause-short g c = λ told taken. part-short c.args.folder.now MAX_FILE_BYTES (g.S.Store.disk c.args.store.now).files (g.S.Store.disk c.publish.new.self).files (c.publish.ensures.short told taken)
