use Rattle.std.proofs.Common.{arith}
use Rattle.lake_basics.proofs.Lines.{left_shorter}
use Rattle.delta_log.proofs.LineLemmas.{lines_step, lines_refused, lines_end}
use Rattle.delta_log.proofs.reading.read_lines.Goals as goal

pub returns-in-Err-clause-read : goal.returns-in-Err-clause-read
returns-in-Err-clause-read c =
    let so_far = rw c.in-Some.is at c.lines.invariant.so_far in
    lines_refused _ _ _ _ _ _ _ _ c.error_with_line.ensures c.in-Err.ensures.read c.next_line.ensures.split so_far

pub lines-preserved : goal.lines-preserved
lines-preserved c =
    let so_far = rw c.in-Some.is at c.lines.invariant.so_far in
    let numbers = rw c.in-Some.is at c.lines.invariant.numbers in
    let shorter = left_shorter c.next_line.result.1 _ c.next_line.ensures.shorter in
    record {
      so_far = lines_step _ _ _ _ _ _ _ c.next_line.ensures.split c.in-Ok.ensures.read so_far;
      sound = c.in-Ok.ensures.sound;
      numbers = omega (arith, numbers, shorter);
    }

pub returns-clause-read : goal.returns-clause-read
returns-clause-read c = rw c.into_commit.ensures (lines_end _ _ _ (rw c.in_default.is at c.lines.invariant.so_far))
