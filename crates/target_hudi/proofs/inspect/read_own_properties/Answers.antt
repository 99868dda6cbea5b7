use Rattle.target_hudi.proofs.SeenLemmas.{unread_found, unread_stops}
use Rattle.target_hudi.proofs.inspect.read_own_properties.Goals as goal

pub returns-in-Err-clause-found : goal.returns-in-Err-clause-found
returns-in-Err-clause-found g c = λ told.
    let files = (g.S.Store.disk c.args.store.now).files in
    unread_found files c.args.instants.now (c.requires told) c.in-Err.error c.no_properties.result (c.in-Err.ensures.refused told) c.no_properties.ensures.found

pub returns-in-Err-clause-stop : goal.returns-in-Err-clause-stop
returns-in-Err-clause-stop g c = λ source told.
    let files = (g.S.Store.disk c.args.store.now).files in
    unread_stops files c.args.instants.now (c.requires told) source c.in-Err.error c.no_properties.result (c.in-Err.ensures.refused told) c.no_properties.ensures.stop
