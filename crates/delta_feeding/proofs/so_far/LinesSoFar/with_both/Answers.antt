use Rattle.std.proofs.Common.{◌≡◌, ◌++◌, ℕ, List, ap, ◌∙◌}
use Rattle.std.proofs.lemmas.Result.{err_from_is_err_and}
use Rattle.delta_feeding.proofs.StateLemmas.{out_of_memory, end_fails, end_goes}
use Rattle.delta_feeding.proofs.so_far.LinesSoFar.with_both.Goals as goal

pub returns-in_err-extend_from_slice : goal.returns-in_err-extend_from_slice
returns-in_err-extend_from_slice c = let p = err_from_is_err_and c.from_residual.result c.from_residual.ensures.1 in out_of_memory _ _ _ p.1 p.2

pub returns-in_err-closed : goal.returns-in_err-closed
returns-in_err-closed c =
    let p = err_from_is_err_and c.from_residual-in_err-closed.result c.from_residual-in_err-closed.ensures.1 in
    let is : c.as_slice.result.now ≡ c.self.inside.rest ++ c.args.end.now = c.as_slice.ensures.value ∙ c.in_ok-extend_from_slice.ensures.items ∙ ap (λ (r : List ℕ). r ++ c.args.end.now) c.into_vec-line.ensures in
    rw (p.1, p.2) (end_fails c.args.self _ c.self.inside.rest c.args.end.now _ _ c.self.view_is is c.in_err-closed.ensures)

pub returns : goal.returns
returns c =
    let is : c.as_slice.result.now ≡ c.self.inside.rest ++ c.args.end.now = c.as_slice.ensures.value ∙ c.in_ok-extend_from_slice.ensures.items ∙ ap (λ (r : List ℕ). r ++ c.args.end.now) c.into_vec-line.ensures in
    end_goes c.args.self _ _ c.self.inside.rest c.args.end.now _ _ c.self.view_is is c.in_ok-closed.ensures (c.from_vec.ensures ∙ c.clear.ensures.items)
