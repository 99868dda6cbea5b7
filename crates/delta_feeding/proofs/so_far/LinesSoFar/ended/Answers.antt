use Rattle.std.proofs.lemmas.Result.{err_from_is_err_and}
use Rattle.delta_feeding.proofs.StateLemmas.{last_fails, last_goes}
use Rattle.delta_feeding.proofs.so_far.LinesSoFar.ended.Goals as goal

pub returns-in_err-all-clause-read : goal.returns-in_err-all-clause-read
returns-in_err-all-clause-read c =
    let p = err_from_is_err_and c.from_residual.result c.from_residual.ensures.1 in
    rw (p.1, p.2) (last_fails c.args.self _ c.self.inside.rest _ _ c.self.view_is c.as_slice.ensures.value c.in_err-all.ensures)

pub returns-clause-read : goal.returns-clause-read
returns-clause-read c = last_goes c.args.self _ _ c.self.inside.rest _ _ c.self.view_is c.as_slice.ensures.value c.in_ok-all.ensures c.into_commit.ensures.value
