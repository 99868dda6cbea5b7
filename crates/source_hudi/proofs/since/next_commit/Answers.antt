use Rattle.source_core.proofs.Answers.{errs}
use Rattle.source_hudi.proofs.SinceRefusals.{shown_at}
use Rattle.source_hudi.proofs.since.next_commit.Goals as goal

pub returns-clause-next : goal.returns-clause-next
returns-clause-next g c told = c.counted_commit.ensures.next (g.S.Store.disk c.args.store.now).files (c.in_ok-said.ensures.says told)

pub returns-clause-refused : goal.returns-clause-refused
returns-clause-refused g c told =
    let files = (g.S.Store.disk c.args.store.now).files in
    let before = c.args.taken.now in
    errs c.counted_commit.result _ _ (shown_at c.args.table.now c.args.instant.now c.in_ok-said.said before.last before.actions files (c.in_ok-said.ensures.says told)) c.counted_commit.ensures.refused
