use Rattle.std.proofs.Common.{◌≡◌, ◌++◌, ◌∙◌, ℕ, List, length, map, sym, ap, subst, take}
use Rattle.std.proofs.Math.Seq.{take-append_seam}
use Rattle.std.proofs.lemmas.Result.{err_from_is_err_and, on_err_weaker}
use Rattle.std.specs.List.{concat}
use Rattle.std.specs.Prelude.{OnErr, Result}
use Rattle.lake_store.specs.declared.sink.SinkError.{SinkError}
use Rattle.table_lines.proofs.Fronts.{front_behind, front_within}
use Rattle.sync_driver.specs.Lines.{removed_line, swept_line, swept_lines}
use Rattle.sync_driver.proofs.sweeping.put_swept.Goals as goal

pub returns-in_err-put_removed_paths-clause-err : goal.returns-in_err-put_removed_paths-clause-err
returns-in_err-put_removed_paths-clause-err g c told =
    let out = g.O.Sink.output c.args.out.now in
    let paths = c.args.paths.now in
    let removed = concat (map (λ (path : List ℕ). removed_line c.args.target path) paths) in
    let exit = err_from_is_err_and c.from_residual.result c.from_residual.ensures.1 in
    let one = c.in_err-put_removed_paths.ensures.err told in
    let both = front_within out removed (swept_line c.args.target (length paths)) one.0 in
    subst (λ (r : Result (Unit {0}) SinkError). OnErr r ((m : ℕ) × (g.O.Sink.output c.put_removed_paths.new.out ≡ out ++ take m (swept_lines c.args.target paths)))) (sym exit.1)
    (both.0, one.1 ∙ both.1)

pub returns-in_err-line-clause-err : goal.returns-in_err-line-clause-err
returns-in_err-line-clause-err g c told =
    let out = g.O.Sink.output c.args.out.now in
    let paths = c.args.paths.now in
    let removed = concat (map (λ (path : List ℕ). removed_line c.args.target path) paths) in
    let exit = err_from_is_err_and c.from_residual-in_err-line.result c.from_residual-in_err-line.ensures.1 in
    subst (λ (r : Result (Unit {0}) SinkError). OnErr r ((m : ℕ) × (g.O.Sink.output c.put_removed_paths.new.out ≡ out ++ take m (swept_lines c.args.target paths)))) (sym exit.1)
    (length removed, c.in_ok-put_removed_paths.ensures.ok told ∙ ap (λ (l : List ℕ). out ++ l) (sym (take-append_seam removed (swept_line c.args.target (length paths)))))

pub returns-clause-err : goal.returns-clause-err
returns-clause-err g c told =
    let out = g.O.Sink.output c.args.out.now in
    let paths = c.args.paths.now in
    let removed = concat (map (λ (path : List ℕ). removed_line c.args.target path) paths) in
    let line = c.deref.result.now in
    let is : line ≡ swept_line c.args.target (length paths) = c.deref.ensures.value ∙ c.in_ok-line.ensures in
    on_err_weaker c.put.result
    (λ front. let both = front_behind out removed line front.0 in
    (both.0, front.1 ∙ ap (λ (l : List ℕ). l ++ take front.0 line) (c.in_ok-put_removed_paths.ensures.ok told) ∙ both.1 ∙ ap (λ (l : List ℕ). out ++ take both.0 (removed ++ l)) is))
    (c.put.ensures.err told)
