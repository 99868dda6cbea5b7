use Rattle.std.proofs.Common.{◌≡◌, ◌++◌, ◌∙◌, ℕ, List, sym, ap, append_assoc, subst, take, map, arith}
use Rattle.std.proofs.lemmas.Result.{err_from_is_err_and}
use Rattle.std.specs.List.{concat}
use Rattle.std.specs.Prelude.{OnErr, Result}
use Rattle.lake_store.specs.declared.sink.SinkError.{SinkError}
use Rattle.table_lines.proofs.Fronts.{one_more, front_of_all, fails_never}
use Rattle.sync_driver.specs.Lines.{removed_line}
use Rattle.sync_driver.proofs.sweeping.put_removed_paths.Goals as goal

pub returns-in_err-put_removed_path-clause-err : goal.returns-in_err-put_removed_path-clause-err
returns-in_err-put_removed_path-clause-err g c told =
    let f : List ℕ → List ℕ = λ (path : List ℕ). removed_line c.args.target path in
    let out = g.O.Sink.output c.args.out.now in
    let paths = c.args.paths.now in
    let i = c.loop-path.path-index in
    let exit = err_from_is_err_and c.from_residual.result c.from_residual.ensures.1 in
    let one = c.in_err-put_removed_path.ensures.err told in
    let all = front_of_all f paths i c.path-item.result (omega arith) c.path-item.is out one.0 in
    subst (λ (r : Result (Unit {0}) SinkError). OnErr r ((m : ℕ) × (g.O.Sink.output c.put_removed_path.new.out ≡ out ++ take m (concat (map f paths))))) (sym exit.1)
    (all.0, one.1 ∙ ap (λ (l : List ℕ). l ++ take one.0 (f c.path-item.result)) (c.loop-path.invariant.so_far told) ∙ all.1)

pub loop-path-preserved : goal.loop-path-preserved
loop-path-preserved g c =
    let f : List ℕ → List ℕ = λ (path : List ℕ). removed_line c.args.target path in
    let sink = g.O.Sink in
    let out = sink.output c.args.out.now in
    let paths = c.args.paths.now in
    let i = c.loop-path.path-index in
    record {
      so_far = λ told.
          c.in_ok-put_removed_path.ensures.ok told
          ∙ ap (λ (l : List ℕ). l ++ f c.path-item.result) (c.loop-path.invariant.so_far told)
          ∙ append_assoc out (concat (map f (take i paths))) (f c.path-item.result)
          ∙ ap (λ (l : List ℕ). out ++ l) (sym (one_more f paths i c.path-item.result (omega arith) c.path-item.is));
      cause = fails_never sink.faults sink.may_fail c.args.out.now c.loop-path.out c.put_removed_path.new.out _ c.loop-path.invariant.cause c.in_ok-put_removed_path.ensures.cause;
    }
