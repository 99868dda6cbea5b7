use Rattle.source_delta.proofs.SinceLaws.{none_since}
use Rattle.source_delta.proofs.since.later_commits.Goals as goal

pub returns-then-newest-version-clause-commits : goal.returns-then-newest-version-clause-commits
returns-then-newest-version-clause-commits g c told = λ position reached.
    let files = (g.S.Store.disk c.args.store.now).files in
    none_since files position c.args.version c.args.newest c.args.base.now c.new.result reached c.if-newest-version.true c.new.ensures
