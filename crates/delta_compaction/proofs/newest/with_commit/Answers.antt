use Rattle.std.proofs.lemmas.Result.{err_from_is_err_and}
use Rattle.delta_compaction.proofs.NewestLemmas.{commit_refused, taken_by}
use Rattle.delta_compaction.proofs.newest.with_commit.Goals as goal

pub returns-in_err-read_commit-clause-refused : goal.returns-in_err-read_commit-clause-refused
returns-in_err-read_commit-clause-refused c =
    let lines = rw c.in_default.is at c.in_ok-longer.ensures in
    let exit = err_from_is_err_and c.from_residual-in_err-read_commit.result c.from_residual-in_err-read_commit.ensures.1 in
    rw (exit.1, exit.2) (commit_refused c.args.bytes.now lines.plain c.in_err-read_commit.field-0.0 c.in_err-read_commit.ensures.fault)

pub returns-clause-taken : goal.returns-clause-taken
returns-clause-taken c =
    let lines = rw c.in_default.is at c.in_ok-longer.ensures in
    (c.in_ok-read_commit.field-0, taken_by c.args.bytes.now _ _ c.in_ok-read_commit.field-0 lines c.in_ok-read_commit.ensures.found)
