use Rattle.std.proofs.Common.{subst}
use Rattle.lake_basics.specs.Outcome.{FailsUnlessMemory}
use Rattle.delta_log.specs.Judging.{IsErrorAt, is_memory}
use Rattle.delta_feeding.specs.Feeding.{LinesRead, with_next_line}
use Rattle.delta_feeding.proofs.AnswerLemmas.{line_fails}
use Rattle.delta_feeding.proofs.lines.WholeLines.with_next_line.Goals as goal

pub returns-in-Err : goal.returns-in-Err
returns-in-Err c =
    let e = c.error_with_line.result in
    subst (λ (s : LinesRead). FailsUnlessMemory (is_memory e) e (with_next_line s c.args.line.now)) c.self.view_is
    (line_fails _ c.args.line.now c.in-Err.error e (subst (λ n. IsErrorAt n c.in-Err.error e) c.saturating_add-number.ensures c.error_with_line.ensures) c.in-Err.ensures.read)
