use Rattle.std.proofs.Common.{◌≡◌, ◌++◌, ◌∙◌, ℕ, refl, sym, subst, take}
use Rattle.std.specs.Prelude.{OnErr, Result}
use Rattle.std.proofs.lemmas.Result.{err_from_is_err_and, on_err_weaker}
use Rattle.lake_store.specs.declared.sink.SinkError.{SinkError}
use Rattle.table_lines.proofs.Fronts.{front_within, line_and_front}
use Rattle.lake_play.proofs.putting.put_three.Goals as goal

pub returns-in_err-put-clause-err : goal.returns-in_err-put-clause-err
returns-in_err-put-clause-err g c told =
    let out = g.O.Sink.output c.args.out.now in
    let rest = c.args.second.now ++ c.args.third.now in
    let exit = err_from_is_err_and c.from_residual.result c.from_residual.ensures.1 in
    let one = c.in_err-put.ensures.err told in
    let both = front_within out c.args.first.now rest one.0 in
    subst (λ (r : Result (Unit {0}) SinkError). OnErr r ((m : ℕ) × (g.O.Sink.output c.put.new.self ≡ out ++ take m (c.args.first.now ++ rest)))) (sym exit.1) (both.0, one.1 ∙ both.1)

pub returns-clause-err : goal.returns-clause-err
returns-clause-err g c told =
    let output = g.O.Sink.output in
    let first = c.args.first.now in
    let rest = c.args.second.now ++ c.args.third.now in
    on_err_weaker c.put_two.result
    (line_and_front (output c.put_two.new.out) (output c.put.new.self) (output c.args.out.now) first first rest rest (c.in_ok-put.ensures.ok told) refl refl)
    (c.put_two.ensures.err told)
