use Rattle.std.proofs.Common.{arith}
use Rattle.lake_basics.proofs.Lines.{left_shorter}
use Rattle.hudi_properties.proofs.LineLemmas.{lines_step, lines_end}
use Rattle.hudi_properties.proofs.line.logical_lines.Goals as goal

pub lines-preserved : goal.lines-preserved
lines-preserved c =
    let so_far = rw c.in-Some.is at c.lines.invariant.so_far in
    let numbers = rw c.in-Some.is at c.lines.invariant.numbers in
    let shorter = left_shorter c.next_line.result.1 _ c.next_line.ensures.shorter in
    record {
      so_far = lines_step _ _ _ _ _ _ _ _ _ c.next_line.ensures.split c.in_ok-step.ensures c.in_ok-push_if_any.ensures so_far;
      numbers = omega (arith, numbers, shorter);
    }

pub returns : goal.returns
returns c = lines_end _ _ _ _ _ c.in_ok-push_if_any-2.ensures (rw c.in_default.is at c.lines.invariant.so_far)
