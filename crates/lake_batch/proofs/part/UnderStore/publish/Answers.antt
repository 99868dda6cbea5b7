use Rattle.std.proofs.Common.{List, ℕ, subst, sym}
use Rattle.lake_basics.specs.declared.limits.TheConstants.{MAX_FILE_BYTES}
use Rattle.lake_store.specs.Disk.{AddsShort}
use Rattle.lake_batch.specs.Part.{part_files}
use Rattle.lake_batch.proofs.PartAnswers.{elapses_under}
use Rattle.lake_batch.proofs.part.UnderStore.publish.Goals as goal

pub returns-clause-elapses : goal.returns-clause-elapses
returns-clause-elapses g c = λ told. elapses_under g.S.Store.disk g.S.Store.time g.S.Store.left_since c.args.self.now _ c.as_str.result.now (sym c.as_str.ensures.value) (sym c.as_str.ensures.value) (c.publish.ensures.elapses told)

pub returns-clause-short : goal.returns-clause-short
returns-clause-short g c = λ told taken. subst (λ (f : List ℕ). AddsShort MAX_FILE_BYTES (part_files f (g.S.Store.disk c.args.self.now.store).files) (part_files f (g.S.Store.disk c.publish.new.store).files)) c.as_str.ensures.value (c.publish.ensures.short told taken)
