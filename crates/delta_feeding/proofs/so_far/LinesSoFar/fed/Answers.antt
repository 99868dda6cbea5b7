use Rattle.std.proofs.Common.{◌≡◌, None, arith}
use Rattle.std.proofs.lemmas.Result.{err_from_is_err_and}
use Rattle.delta_feeding.proofs.CutLemmas.{shorter_behind}
use Rattle.delta_feeding.proofs.StateLemmas.{cut_goes, cut_fails, rest_answers}
use Rattle.delta_feeding.proofs.so_far.LinesSoFar.fed.Goals as goal

pub loop-end-smaller : goal.loop-end-smaller
loop-end-smaller c = shorter_behind _ _ _ c.in-Some.ensures

pub loop-end-preserved : goal.loop-end-preserved
loop-end-preserved c = cut_goes _ _ _ _ _ _ c.in-Some.ensures c.in_ok-lines.ensures c.loop-end.invariant

pub returns-in_err-lines : goal.returns-in_err-lines
returns-in_err-lines c =
    let p = err_from_is_err_and c.from_residual.result c.from_residual.ensures.1 in
    rw (p.1, p.2) (cut_fails _ _ _ _ _ _ c.in-Some.ensures c.in_err-lines.ensures c.loop-end.invariant)

pub with_rest-requires : goal.with_rest-requires
with_rest-requires c = let none : c.cut_line.result ≡ None = grind arith in rw none at c.cut_line.ensures

pub returns : goal.returns
returns c =
    let none : c.cut_line.result ≡ None = grind arith in
    rest_answers _ _ _ _ (rw none at c.cut_line.ensures) c.loop-end.invariant c.with_rest.ensures
