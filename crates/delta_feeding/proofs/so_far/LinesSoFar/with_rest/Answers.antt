use Rattle.std.proofs.lemmas.Result.{err_from_is_err_and}
use Rattle.delta_feeding.proofs.StateLemmas.{out_of_memory}
use Rattle.delta_feeding.proofs.so_far.LinesSoFar.with_rest.Goals as goal

pub returns-in_err-extend_from_slice : goal.returns-in_err-extend_from_slice
returns-in_err-extend_from_slice c = let p = err_from_is_err_and c.from_residual.result c.from_residual.ensures.1 in out_of_memory _ _ _ p.1 p.2
