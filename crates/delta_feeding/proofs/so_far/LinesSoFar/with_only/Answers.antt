use Rattle.std.proofs.Common.{◌≡◌, ◌++◌, ℕ, List, [], ap, sym, ◌∙◌}
use Rattle.std.proofs.lemmas.Result.{err_from_is_err_and}
use Rattle.delta_feeding.specs.Feeding.{SoFar}
use Rattle.delta_feeding.proofs.StateLemmas.{end_fails, end_goes}
use Rattle.delta_feeding.proofs.so_far.LinesSoFar.with_only.Goals as goal

pub returns-in_err-closed : goal.returns-in_err-closed
returns-in_err-closed c =
    let p = err_from_is_err_and c.from_residual.result c.from_residual.ensures.1 in
    let none : c.self.inside.rest ≡ [] = ap (λ (s : SoFar). s.rest) c.self.view_is ∙ c.requires in
    rw (p.1, p.2) (end_fails c.args.self _ c.self.inside.rest c.args.line.now c.args.line.now _ c.self.view_is (sym (ap (λ (r : List ℕ). r ++ c.args.line.now) none)) c.in_err-closed.ensures)

pub returns : goal.returns
returns c =
    let none : c.self.inside.rest ≡ [] = ap (λ (s : SoFar). s.rest) c.self.view_is ∙ c.requires in
    end_goes c.args.self _ _ c.self.inside.rest c.args.line.now c.args.line.now c.self.inside.rest c.self.view_is (sym (ap (λ (r : List ℕ). r ++ c.args.line.now) none)) c.in_ok-closed.ensures none
