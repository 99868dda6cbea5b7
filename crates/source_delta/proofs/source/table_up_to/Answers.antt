use Rattle.source_delta.proofs.Publishable.{publishable_of_log}
use Rattle.source_delta.proofs.Refusals.{log_refused, tells_within}
use Rattle.source_delta.proofs.source.table_up_to.Goals as goal

pub source_error-requires : goal.source_error-requires
source_error-requires g c = tells_within c.args.newest c.requires c.in-Err.error c.in-Err.ensures.told

pub returns-in-Ok-clause-table : goal.returns-in-Ok-clause-table
returns-in-Ok-clause-table g c told = λ is. record { newest = c.args.newest; is = is; log = (c.in-Ok.ensures.log told).table; live = c.in-Ok.ensures.live told }

pub returns-in-Ok-clause-sound : goal.returns-in-Ok-clause-sound
returns-in-Ok-clause-sound g c = publishable_of_log c.in-Ok.log.table c.in-Ok.ensures.sound

pub returns-in-Err-clause-refused : goal.returns-in-Err-clause-refused
returns-in-Err-clause-refused g c told =
    let files = (g.S.Store.disk c.args.store.now).files in
    log_refused files c.args.newest c.in-Err.error c.source_error.result (c.in-Err.ensures.refused told) c.source_error.ensures.told
