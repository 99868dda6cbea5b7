use Rattle.std.proofs.Common.{◌≡◌, ◌++◌, ◌∙◌, ℕ, List, sym, ap, append_assoc, subst, take, map, arith}
use Rattle.std.proofs.lemmas.Result.{err_from_is_err_and}
use Rattle.std.specs.Borrow.{Bor}
use Rattle.std.specs.List.{concat}
use Rattle.std.specs.Prelude.{OnErr, Result}
use Rattle.lake_store.specs.declared.sink.SinkError.{SinkError}
use Rattle.table_history.specs.declared.row.FileRow.{FileRow}
use Rattle.table_lines.specs.TableLines.{row_line}
use Rattle.table_lines.proofs.Fronts.{one_more, front_of_all, fails_never}
use Rattle.table_lines.proofs.put.put_rows.Goals as goal

pub returns-in_err-put_row-clause-err : goal.returns-in_err-put_row-clause-err
returns-in_err-put_row-clause-err g c told =
    let f : Bor FileRow → List ℕ = λ (row : Bor FileRow). row_line row.now in
    let out = g.O.Sink.output c.args.out.now in
    let rows = c.args.rows.now in
    let i = c.loop-row.row-index in
    let exit = err_from_is_err_and c.from_residual.result c.from_residual.ensures.1 in
    let one = c.in_err-put_row.ensures.err told in
    let all = front_of_all f rows i c.row-item.result (omega arith) c.row-item.is out one.0 in
    subst (λ (r : Result (Unit {0}) SinkError). OnErr r ((m : ℕ) × (g.O.Sink.output c.put_row.new.out ≡ out ++ take m (concat (map f rows))))) (sym exit.1)
    (all.0, one.1 ∙ ap (λ (l : List ℕ). l ++ take one.0 (f c.row-item.result)) (c.loop-row.invariant.so_far told) ∙ all.1)

pub loop-row-preserved : goal.loop-row-preserved
loop-row-preserved g c =
    let f : Bor FileRow → List ℕ = λ (row : Bor FileRow). row_line row.now in
    let sink = g.O.Sink in
    let out = sink.output c.args.out.now in
    let rows = c.args.rows.now in
    let i = c.loop-row.row-index in
    record {
      so_far = λ told.
          c.in_ok-put_row.ensures.ok told
          ∙ ap (λ (l : List ℕ). l ++ f c.row-item.result) (c.loop-row.invariant.so_far told)
          ∙ append_assoc out (concat (map f (take i rows))) (f c.row-item.result)
          ∙ ap (λ (l : List ℕ). out ++ l) (sym (one_more f rows i c.row-item.result (omega arith) c.row-item.is));
      cause = fails_never sink.faults sink.may_fail c.args.out.now c.loop-row.out c.put_row.new.out _ c.loop-row.invariant.cause c.in_ok-put_row.ensures.cause;
    }
