use Rattle.std.proofs.Common.{ap, arith}
use Rattle.std.specs.Prelude.{Err}
use Rattle.delta_table.specs.declared.error.LogError.{LogError}
use Rattle.source_delta.proofs.Refusals.{id_refused, id_stated, no_id, tells_within, told_fault}
use Rattle.source_core.proofs.Runs.{fails_as}
use Rattle.source_delta.proofs.source.table_id.Goals as goal

pub without_id-requires : goal.without_id-requires
without_id-requires g c = tells_within 0 (omega arith) c.in-Err.error c.in-Err.ensures.told

pub returns-in-Ok-clause-id : goal.returns-in-Ok-clause-id
returns-in-Ok-clause-id g c told =
    let files = (g.S.Store.disk c.args.store.now).files in
    id_stated files c.in-Ok.log c.id_of.result (c.in-Ok.ensures.log told) c.id_of.ensures

pub returns-in-Err-clause-id : goal.returns-in-Err-clause-id
returns-in-Err-clause-id g c told =
    let files = (g.S.Store.disk c.args.store.now).files in
    no_id files c.in-Err.error c.without_id.result (c.in-Err.ensures.refused told) c.without_id.ensures.missing

pub returns-in-Err-clause-refused : goal.returns-in-Err-clause-refused
returns-in-Err-clause-refused g c told =
    let files = (g.S.Store.disk c.args.store.now).files in
    id_refused files c.in-Err.error c.without_id.result (c.in-Err.ensures.refused told) c.without_id.ensures.refused

pub returns-in-Err-clause-cause : goal.returns-in-Err-clause-cause
returns-in-Err-clause-cause g c =
    let store = g.S.Store in
    fails_as store.faults store.may_fail c.args.store.now c.read_log.new.store _ _ (λ is. ap (λ (e : LogError). Err e) (told_fault c.in-Err.error c.without_id.result c.without_id.ensures.fault is)) c.in-Err.ensures.cause
