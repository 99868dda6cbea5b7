use Rattle.std.proofs.Common.{sym, subst}
use Rattle.delta_table.specs.Refusals.{IsVersionRefusal}
use Rattle.delta_table.proofs.PieceLaws.{end_refused, end_says, is_short}
use Rattle.delta_table.proofs.log.read_version.Goals as goal

pub returns-in-Ok-clause-says : goal.returns-in-Ok-clause-says
returns-in-Ok-clause-says g c told =
    let files = (g.S.Store.disk c.args.store.now).files in
    end_says files c.args.version c.in_ok-feeder.feeder c.in-Ok.commit (c.in_ok-feeder.ensures.read told) (λ bytes is small. (c.in-Ok.ensures.whole bytes is small).found)

pub returns-in-Ok-clause-short : goal.returns-in-Ok-clause-short
returns-in-Ok-clause-short g c told =
    let files = (g.S.Store.disk c.args.store.now).files in
    is_short files c.args.version c.in_ok-feeder.feeder (c.in_ok-feeder.ensures.read told)

pub returns-clause-refused : goal.returns-clause-refused
returns-clause-refused g c told =
    let files = (g.S.Store.disk c.args.store.now).files in
    subst (IsVersionRefusal files c.args.version) (sym c.error_at.ensures)
    (end_refused files c.args.version c.in_ok-feeder.feeder c.in-Err.error (c.in_ok-feeder.ensures.read told) (λ bytes is small. (c.in-Err.ensures.whole bytes is small).fault))
