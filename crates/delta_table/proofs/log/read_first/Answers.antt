use Rattle.delta_table.proofs.LogLaws.{log_first}
use Rattle.delta_table.proofs.log.read_first.Goals as goal

pub returns-in-Ok-clause-log : goal.returns-in-Ok-clause-log
returns-in-Ok-clause-log g c told =
    let files = (g.S.Store.disk c.args.store.now).files in
    log_first files c.in_ok-commit.commit c.in-Ok.log (c.in_ok-commit.ensures.says told) c.in-Ok.ensures.taken c.in-Ok.ensures.meta c.in-Ok.ensures.meta_version c.in-Ok.ensures.protocol
