use Rattle.std.proofs.Common.{◌≡◌, ◌++◌, ◌∙◌, ℕ, List, sym, ap, subst, take, map}
use Rattle.std.proofs.lemmas.Result.{err_from_is_err_and, on_err_weaker, on_ok_weaker}
use Rattle.std.proofs.lemmas.Simd.{map-map}
use Rattle.std.specs.Borrow.{Bor}
use Rattle.std.specs.List.{concat}
use Rattle.std.specs.Prelude.{OnErr, Result}
use Rattle.lake_store.specs.declared.sink.SinkError.{SinkError}
use Rattle.table_history.specs.declared.row.FileRow.{FileRow}
use Rattle.table_lines.specs.TableLines.{row_line, lines_over, summary_line}
use Rattle.table_lines.proofs.Fronts.{front_within, line_and_rest, line_and_front}
use Rattle.table_lines.proofs.put.put_lines.Goals as goal

rest_is : (rows : List (Bor FileRow)) → concat (map (λ (row : Bor FileRow). row_line row.now) rows) ≡ concat (map row_line (map (λ (row : Bor FileRow). row.now) rows))
rest_is rows = ap concat (sym (map-map row_line (λ (row : Bor FileRow). row.now) rows))

pub returns-in_err-put-clause-err : goal.returns-in_err-put-clause-err
returns-in_err-put-clause-err g c told =
    let out = g.O.Sink.output c.args.out.now in
    let rest = concat (map row_line (map (λ (row : Bor FileRow). row.now) c.args.rows.now)) in
    let lines = lines_over c.args.kind c.args.position.now c.args.table.now (map (λ (row : Bor FileRow). row.now) c.args.rows.now) in
    let exit = err_from_is_err_and c.from_residual-in_err-put.result c.from_residual-in_err-put.ensures.1 in
    let one = c.in_err-put.ensures.err told in
    let both = front_within out c.deref.result.now rest one.0 in
    let line = c.deref.ensures.value ∙ c.in_ok-line.ensures in
    subst (λ (r : Result (Unit {0}) SinkError). OnErr r ((m : ℕ) × (g.O.Sink.output c.put.new.self ≡ out ++ take m lines))) (sym exit.1)
    (both.0, one.1 ∙ both.1 ∙ ap (λ (l : List ℕ). out ++ take both.0 (l ++ rest)) line)

pub returns-clause-ok : goal.returns-clause-ok
returns-clause-ok g c told =
    let rows = c.args.rows.now in
    on_ok_weaker c.put_rows.result
    (line_and_rest (g.O.Sink.output c.put_rows.new.out) (g.O.Sink.output c.put.new.self) (g.O.Sink.output c.args.out.now) c.deref.result.now
    (summary_line c.args.kind c.args.position.now c.args.table.now (map (λ (row : Bor FileRow). row.now) rows))
    (concat (map (λ (row : Bor FileRow). row_line row.now) rows)) (concat (map row_line (map (λ (row : Bor FileRow). row.now) rows)))
    (c.in_ok-put.ensures.ok told) (c.deref.ensures.value ∙ c.in_ok-line.ensures) (rest_is rows))
    (c.put_rows.ensures.ok told)

pub returns-clause-err : goal.returns-clause-err
returns-clause-err g c told =
    let rows = c.args.rows.now in
    on_err_weaker c.put_rows.result
    (line_and_front (g.O.Sink.output c.put_rows.new.out) (g.O.Sink.output c.put.new.self) (g.O.Sink.output c.args.out.now) c.deref.result.now
    (summary_line c.args.kind c.args.position.now c.args.table.now (map (λ (row : Bor FileRow). row.now) rows))
    (concat (map (λ (row : Bor FileRow). row_line row.now) rows)) (concat (map row_line (map (λ (row : Bor FileRow). row.now) rows)))
    (c.in_ok-put.ensures.ok told) (c.deref.ensures.value ∙ c.in_ok-line.ensures) (rest_is rows))
    (c.put_rows.ensures.err told)
