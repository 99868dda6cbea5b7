use Rattle.delta_table.proofs.LogLaws.{log_next}
use Rattle.delta_table.proofs.log.read_next.Goals as goal

pub returns-in-Ok-clause-log : goal.returns-in-Ok-clause-log
returns-in-Ok-clause-log g c told was =
    let files = (g.S.Store.disk c.args.store.now).files in
    log_next files c.args.version c.in_ok-commit.commit c.args.log c.in-Ok.log was (c.in_ok-commit.ensures.says told) c.in-Ok.ensures.taken c.in-Ok.ensures.meta c.in-Ok.ensures.meta_version c.in-Ok.ensures.protocol
